-- A number written group by group: what has been written, and what is left of the number. Assumes nothing.
use Rattle.std.proofs.Common.{◌≡◌, refl, ap, sym, ◌∙◌, Bool, true, false, List, [], ◌∷◌, ◌++◌, ℕ, zero, suc, ◌+◌, ◌-◌, ◌*◌, ◌/◌, ◌%◌, ◌≤◌, ◌<◌, add-one, arith, lt-ltb, le-ltb, le-leb, ltb-true, ltb-false, ltb, length, get_or, take, drop, set, take_all, drop-cons, length-drop}
use borrow.Author.Tests.{lt-leb}
use Rattle.lists.specs.Choices.{pick}
use Rattle.lists.specs.Overwriting.{written_over}
use Rattle.lists.proofs.Overwriting.{overwrite_more}
use Rattle.lists.proofs.Tests.{cases}
use Rattle.groups.specs.Groups.{max_number, max_later, groups_of, number_bytes, Filled, number_written}

-- one more than the largest number that a group and `left` more can hold
unfoldable pub room_of_words : ℕ → ℕ
room_of_words zero = 128
room_of_words (suc left) = 128 * room_of_words left

-- at least one group, and at most as many more as may come
groups_few : (left x : ℕ) → (1 ≤ length (groups_of left x)) × (length (groups_of left x) ≤ suc left)
unfolding groups_of
groups_few zero x = (omega arith, omega arith)
groups_few (suc left) x = by_size (groups_few left (x / 128)) (ltb x 128) where
  by_size : (1 ≤ length (groups_of left (x / 128))) × (length (groups_of left (x / 128)) ≤ suc left) → (small : Bool)
      → (1 ≤ length (pick small (x ∷ []) ((x % 128 + 128) ∷ groups_of left (x / 128)))) × (length (pick small (x ∷ []) ((x % 128 + 128) ∷ groups_of left (x / 128))) ≤ suc (suc left))
  by_size h true = (omega arith, omega arith)
  by_size h false = (omega arith, omega arith)

-- a number takes a byte at least, and at most five
pub number_some : (x : ℕ) → 1 ≤ length (number_bytes x)
unfolding number_bytes
number_some x = (groups_few max_later x).0

pub number_few : (x : ℕ) → length (number_bytes x) ≤ suc max_later
unfolding number_bytes
number_few x = (groups_few max_later x).1

-- behind k groups of the number x, its rest stands in the groups that may still come
pub record Ahead (x k rest : ℕ) : Type 0 where
  pub groups : drop k (number_bytes x) ≡ groups_of (max_later - k) rest
  pub room : rest < room_of_words (max_later - k)

pub ahead_whole : (x : ℕ) → x ≤ max_number → Ahead x 0 x
unfolding number_bytes room_of_words
ahead_whole x h = record { groups = refl; room = omega arith }

-- the first of some groups, and those behind it
first_of : (xs : List ℕ) (k x : ℕ) (rest : List ℕ) → k < length xs → drop k xs ≡ x ∷ rest → (get_or xs k 0 ≡ x) × (drop (k + 1) xs ≡ rest)
first_of xs k x rest h e = let d = drop-cons xs k 0 h in rw add-one (cc, cc)

-- a group that is not the last one, and one that is
record Lower (left x : ℕ) (xs : List ℕ) : Type 0 where
  large : 128 ≤ x
  groups : xs ≡ (x % 128 + 128) ∷ groups_of (left - 1) (x / 128)
  room : x / 128 < room_of_words (left - 1)

lower : (left x : ℕ) → x < room_of_words left → 1 < length (groups_of left x) → Lower left x (groups_of left x)
unfolding groups_of room_of_words
lower zero x room h = absurd (omega arith)
lower (suc left) x room h = cases (ltb x 128)
    (λ small. absurd (one small (rw small at h)))
    (λ large. record { large = ltb-false x 128 large; groups = rw (large, fewer); room = rw fewer (omega arith) })
  where
    fewer : suc left - 1 ≡ left
    fewer = omega arith

    one : ltb x 128 ≡ true → 1 < 1 → ⊥
    one small l = omega arith

highest : (left x : ℕ) → x < room_of_words left → length (groups_of left x) ≡ 1 → (x < 128) × (groups_of left x ≡ x ∷ [])
unfolding groups_of room_of_words
highest zero x room h = (room, refl)
highest (suc left) x room h = cases (ltb x 128)
    (λ small. rw small (ltb-true x 128 small, refl))
    (λ large. absurd (omega (arith, rw large at h, (groups_few left (x / 128)).0)))

module _ {x k rest : ℕ} (a : Ahead x k rest) where
  pub ahead_next : k + 1 < length (number_bytes x) → (get_or (number_bytes x) k 0 ≡ rest % 128 + 128) × Ahead x (k + 1) (rest / 128)
  ahead_next h =
      let l = lower (max_later - k) rest a.room (omega (arith, ap length a.groups, length-drop k (number_bytes x))) in
      let f = first_of (number_bytes x) k (rest % 128 + 128) (groups_of (max_later - k - 1) (rest / 128)) (omega arith) (a.groups ∙ l.groups) in
      let fewer : max_later - k - 1 ≡ max_later - (k + 1) = omega arith in
      (f.0, record { groups = rw (← fewer) f.1; room = rw (← fewer) l.room })

  pub ahead_last : k + 1 ≡ length (number_bytes x) → (rest < 128) × (get_or (number_bytes x) k 0 ≡ rest)
  ahead_last h =
      let l = highest (max_later - k) rest a.room (omega (arith, ap length a.groups, length-drop k (number_bytes x))) in
      (l.0, (first_of (number_bytes x) k rest [] (omega arith) (a.groups ∙ l.1)).0)

-- ---- in a buffer that has room

-- the first k groups stand in front of what the buffer held, and this is the rest of the number
pub record Put (x : ℕ) (old : List ℕ) (k rest : ℕ) (buffer : List ℕ) : Type 0 where
  pub ahead : Ahead x k rest
  pub same : buffer ≡ take k (number_bytes x) ++ drop k old

pub put_none : (x : ℕ) (old : List ℕ) → x ≤ max_number → Put x old 0 x old
put_none x old h = record { ahead = ahead_whole x h; same = refl }

module _ {x k rest : ℕ} {old buffer : List ℕ} (room : length (number_bytes x) ≤ length old) (p : Put x old k rest buffer) where
  put_byte : (y : ℕ) → k < length (number_bytes x) → get_or (number_bytes x) k 0 ≡ y → set buffer k y ≡ take (k + 1) (number_bytes x) ++ drop (k + 1) old
  put_byte y h e = overwrite_more 0 (number_bytes x) old buffer k y h (omega arith) p.same (sym e)

  pub put_next : k + 1 < length (number_bytes x) → Put x old (k + 1) (rest / 128) (set buffer k (rest % 128 + 128))
  put_next h =
      let n = ahead_next p.ahead h in
      record { ahead = n.1; same = put_byte (rest % 128 + 128) (omega arith) n.0 }

  module _ (len : ℕ) (e : len ≡ length (number_bytes x)) (f : k ≡ len - 1) where
    last : k + 1 ≡ length (number_bytes x)
    last = omega (arith, number_some x)

    -- the last group is a byte, and with it the writing is whole
    pub put_last : rest < 128
    put_last = (ahead_last p.ahead last).0

    pub put_whole : ◌≡◌ {A = Filled} (record { wrote = len; buffer = set buffer k rest }) (number_written x old)
    unfolding number_written written_over
    put_whole =
        rw (le-leb (length (number_bytes x)) (length old) room, e, put_byte rest (omega (arith, last)) (ahead_last p.ahead last).1, last, take_all (length (number_bytes x)) (number_bytes x) (omega arith))

-- a buffer that has none
pub put_short : (x : ℕ) (old : List ℕ) → length old < length (number_bytes x) → ◌≡◌ {A = Filled} (record { wrote = 0; buffer = old }) (number_written x old)
unfolding number_written
put_short x old h = rw (lt-leb (length (number_bytes x)) (length old) h)

-- what the check is told of a writing
pub ruleset writing_steps = (number_some, put_short, put_whole)
