-- What was written reads back, and what was read was written so. Assumes nothing.
use Rattle.std.proofs.Common.{◌≡◌, refl, ap, sym, true, false, List, [], ◌∷◌, ◌++◌, ℕ, zero, suc, ◌+◌, ◌-◌, ◌*◌, ◌/◌, ◌%◌, ◌≤◌, ◌<◌, arith, lt-ltb, le-ltb, le-leb, ltb-true, ltb-false, leb-true, ne_eqb, ltb, leb, eqb, length, drop}
use borrow.Author.Tests.{eqb-false}
use Rattle.lists.specs.Overwriting.{written_over}
use Rattle.lists.proofs.Tests.{cases}
use Rattle.groups.specs.Groups.{Reading, Number, Ended, Malformed, max_number, max_later, last_group, combined, later_groups, number_of, groups_of, number_bytes}
use Rattle.groups.specs.Inverse.{Bytes, FiveBytes, NumberReadsBack, OneForm}
use Rattle.groups.proofs.Writings.{room_of_words, number_few}

-- ---- bytes

more_bytes : (x : ℕ) (bytes : List ℕ) → x < 256 → Bytes bytes → Bytes (x ∷ bytes)
more_bytes x bytes h all zero = h
more_bytes x bytes h all (suc i) = all i

one_byte : (x : ℕ) → x < 256 → Bytes (x ∷ [])
one_byte x h = more_bytes x [] h (λ i. omega arith)

pub bytes_append : (front rest : List ℕ) → Bytes front → Bytes rest → Bytes (front ++ rest)
bytes_append [] rest all more = more
bytes_append (x ∷ front) rest all more = more_bytes x (front ++ rest) (all 0) (bytes_append front rest (λ i. all (suc i)) more)

-- ---- written, then read

last_read : (x : ℕ) → 0 < x → last_group x ≡ Number x 1
unfolding last_group
last_read x some = rw (ne_eqb x 0 (λ e. omega arith))

combined_read : (x taken : ℕ) → x ≤ max_number → combined (x % 128 + 128) (Number (x / 128) taken) ≡ Number x (suc taken)
unfolding combined
combined_read x taken fits =
    let whole : x % 128 + 128 - 128 + 128 * (x / 128) ≡ x = omega arith in
    rw (whole, le-leb x max_number fits)

later_read : (left x : ℕ) (rest : List ℕ) → 0 < x → x ≤ max_number → x < room_of_words left
    → later_groups (suc left) (groups_of left x ++ rest) ≡ Number x (length (groups_of left x))
unfolding later_groups groups_of room_of_words
later_read zero x rest some fits room = rw (lt-ltb x 128 room, last_read x some)
later_read (suc left) x rest some fits room = cases (ltb x 128)
    (λ small. rw small (rw (small, last_read x some)))
    (λ large. more (ltb-false x 128 large) large (later_read left (x / 128) rest))
  where
    more : 128 ≤ x → ltb x 128 ≡ false
        → (0 < x / 128 → x / 128 ≤ max_number → x / 128 < room_of_words left
        → later_groups (suc left) (groups_of left (x / 128) ++ rest) ≡ Number (x / 128) (length (groups_of left (x / 128))))
        → later_groups (suc (suc left)) (groups_of (suc left) x ++ rest) ≡ Number x (length (groups_of (suc left) x))
    more h large high =
        rw large (rw (le-ltb (x % 128 + 128) 128 (omega arith), high (omega arith) (omega arith) (omega arith), combined_read x (length (groups_of left (x / 128))) fits))

pub number_reads_back : NumberReadsBack
unfolding number_of number_bytes groups_of room_of_words
number_reads_back x rest fits = cases (ltb x 128)
    (λ small. rw small (rw small))
    (λ large. more (ltb-false x 128 large) large)
  where
    more : 128 ≤ x → ltb x 128 ≡ false → number_of (number_bytes x ++ rest) ≡ Number x (length (number_bytes x))
    more h large =
        rw large (rw (le-ltb (x % 128 + 128) 128 (omega arith), later_read 3 (x / 128) rest (omega arith) (omega arith) (omega arith), combined_read x (length (groups_of 3 (x / 128))) fits))

-- ---- written in bytes

groups_bytes : (left x : ℕ) → x < room_of_words left → Bytes (groups_of left x)
unfolding groups_of room_of_words
groups_bytes zero x room = one_byte x (omega arith)
groups_bytes (suc left) x room = cases (ltb x 128)
    (λ small. rw small (one_byte x (omega (arith, ltb-true x 128 small))))
    (λ large. rw large (more_bytes (x % 128 + 128) (groups_of left (x / 128)) (omega arith) (groups_bytes left (x / 128) (omega arith))))

pub five_bytes : FiveBytes
unfolding number_bytes room_of_words
five_bytes x fits = (groups_bytes max_later x (omega arith), number_few x)

-- ---- read, then written

ended_number : {X : Type 0} {x taken : ℕ} → Ended ≡ Number x taken → X
ended_number e = let z : ◌≡◌ {A = ℕ} 0 1 = cc in absurd (omega arith)

malformed_number : {X : Type 0} {x taken : ℕ} → Malformed ≡ Number x taken → X
malformed_number e = let z : ◌≡◌ {A = ℕ} 0 1 = cc in absurd (omega arith)

-- the last group is the number
record Last (y x taken : ℕ) : Type 0 where
  value : x ≡ y
  one : taken ≡ 1
  some : 0 < y

last_open : (y x taken : ℕ) → last_group y ≡ Number x taken → Last y x taken
unfolding last_group
last_open y x taken e = cases (eqb y 0)
    (λ none. malformed_number (rw none at e))
    (λ some. told (eqb-false y 0 some) (rw some at e))
  where
    told : (y ≡ 0 → ⊥) → Number y 1 ≡ Number x taken → Last y x taken
    told some same =
        let value : y ≡ x = cc in
        let one : ◌≡◌ {A = ℕ} 1 taken = cc in
        record { value = sym value; one = sym one; some = omega arith }

-- a byte and the number above it
record Low (y : ℕ) (r : Reading) (x taken : ℕ) : Type 0 where
  high : ℕ
  above : ℕ
  number : r ≡ Number high above
  value : x ≡ y - 128 + 128 * high
  count : taken ≡ suc above
  fits : x ≤ max_number

combined_open : (y : ℕ) (r : Reading) (x taken : ℕ) → combined y r ≡ Number x taken → Low y r x taken
unfolding combined
combined_open y (Number h above) x taken e = cases (leb (y - 128 + 128 * h) max_number)
    (λ small. told (leb-true (y - 128 + 128 * h) max_number small) (rw small at e))
    (λ large. malformed_number (rw large at e))
  where
    told : y - 128 + 128 * h ≤ max_number → Number (y - 128 + 128 * h) (suc above) ≡ Number x taken → Low y (Number h above) x taken
    told small same =
        let value : y - 128 + 128 * h ≡ x = cc in
        let count : suc above ≡ taken = cc in
        record { high = h; above = above; number = refl; value = sym value; count = sym count; fits = omega arith }
combined_open y Ended x taken e = ended_number e
combined_open y Malformed x taken e = malformed_number e

-- the bytes begin with the groups of x, a group and at most `left` more
record Stands (left : ℕ) (bytes : List ℕ) (x taken : ℕ) : Type 0 where
  fits : x ≤ max_number
  count : taken ≡ length (groups_of left x)
  same : bytes ≡ groups_of left x ++ drop taken bytes

one_stands : (left y : ℕ) (bytes : List ℕ) → y < 128 → Stands left (y ∷ bytes) y 1
unfolding groups_of
one_stands zero y bytes small = record { fits = omega arith; count = refl; same = refl }
one_stands (suc left) y bytes small = record { fits = omega arith; count = rw (lt-ltb y 128 small); same = rw (lt-ltb y 128 small) }

more_stands : (left y : ℕ) (bytes : List ℕ) (x taken : ℕ) (r : Reading) → 128 ≤ y → y < 256 → (l : Low y r x taken) → 0 < l.high → Stands left bytes l.high l.above
    → Stands (suc left) (y ∷ bytes) x taken
unfolding groups_of
more_stands left y bytes x taken r large byte l some s =
    let high : x / 128 ≡ l.high = omega (arith, l.value) in
    let low : x % 128 + 128 ≡ y = omega (arith, l.value) in
    let more : ltb x 128 ≡ false = le-ltb x 128 (omega (arith, l.value)) in
    record {
      fits = l.fits;
      count = rw (more, high, l.count) (ap suc s.count);
      same = rw (more, high, low, l.count) (ap (λ (t : List ℕ). y ∷ t) s.same);
    }

-- what stands after a byte with its top bit set is not 0
later_stands : (left : ℕ) (bytes : List ℕ) (x taken : ℕ) → Bytes bytes → later_groups (suc left) bytes ≡ Number x taken → (0 < x) × Stands left bytes x taken
unfolding later_groups
later_stands left [] x taken all e = ended_number e
later_stands zero (y ∷ bytes) x taken all e = cases (ltb y 128)
    (λ small. last small (last_open y x taken (rw small at e)))
    (λ large. absurd (none (combined_open y Malformed x taken (rw large at e))))
  where
    last : ltb y 128 ≡ true → Last y x taken → (0 < x) × Stands zero (y ∷ bytes) x taken
    last small l = rw (l.value, l.one) (l.some, one_stands zero y bytes (ltb-true y 128 small))

    none : Low y Malformed x taken → ⊥
    none l = malformed_number l.number
later_stands (suc left) (y ∷ bytes) x taken all e = cases (ltb y 128)
    (λ small. last small (last_open y x taken (rw small at e)))
    (λ large. more (ltb-false y 128 large) (combined_open y (later_groups (suc left) bytes) x taken (rw large at e)) (later_stands left bytes))
  where
    last : ltb y 128 ≡ true → Last y x taken → (0 < x) × Stands (suc left) (y ∷ bytes) x taken
    last small l = rw (l.value, l.one) (l.some, one_stands (suc left) y bytes (ltb-true y 128 small))

    more : 128 ≤ y → Low y (later_groups (suc left) bytes) x taken
        → ((h above : ℕ) → Bytes bytes → later_groups (suc left) bytes ≡ Number h above → (0 < h) × Stands left bytes h above)
        → (0 < x) × Stands (suc left) (y ∷ bytes) x taken
    more large l rest =
        let high = rest l.high l.above (λ i. all (suc i)) l.number in
        (omega (arith, l.value, high.0), more_stands left y bytes x taken (later_groups (suc left) bytes) large (all 0) l high.0 high.1)

number_stands : (bytes : List ℕ) (x taken : ℕ) → Bytes bytes → number_of bytes ≡ Number x taken → Stands max_later bytes x taken
unfolding number_of
number_stands [] x taken all e = ended_number e
number_stands (y ∷ bytes) x taken all e = cases (ltb y 128)
    (λ small. one small (rw small at e))
    (λ large. more (ltb-false y 128 large) (combined_open y (later_groups max_later bytes) x taken (rw large at e)))
  where
    one : ltb y 128 ≡ true → Number y 1 ≡ Number x taken → Stands max_later (y ∷ bytes) x taken
    one small same =
        let value : y ≡ x = cc in
        let count : ◌≡◌ {A = ℕ} 1 taken = cc in
        rw (← value, ← count) (one_stands max_later y bytes (ltb-true y 128 small))

    more : 128 ≤ y → Low y (later_groups max_later bytes) x taken → Stands max_later (y ∷ bytes) x taken
    more large l =
        let high = later_stands 3 bytes l.high l.above (λ i. all (suc i)) l.number in
        more_stands 3 y bytes x taken (later_groups max_later bytes) large (all 0) l high.0 high.1

pub one_form : OneForm
unfolding number_bytes written_over
one_form bytes x taken all e =
    let s = number_stands bytes x taken all e in
    record { fits = s.fits; taken_all = s.count; same = rw (← s.count) (sym s.same) }
