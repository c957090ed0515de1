-- How many items of one width stand behind a head; what a function gives at each place; and items that stand in words one behind the other:
-- written and read back, and read and written back. The places of a state, of an old one, and the rows of a table given as numbers are
-- cases. Assumes nothing.
use Rattle.std.proofs.Common.{◌≡◌, refl, ap, sym, ◌∙◌, List, [], ◌∷◌, ◌++◌, map, append_assoc, true, ◌&&◌, ℕ, zero, suc, ◌+◌, ◌-◌, ◌*◌, ◌/◌, ◌≤◌, ◌<◌, arith, eqb-true, eq-eqb, eqb, length, get_or, drop, drop-cons, set, length-append}
use native.Mathlib.Nat.{mul-div_cancel_left}
use Rattle.lists.specs.Choices.{in_range}
use Rattle.lists.specs.Sums.{joined}
use Rattle.lists.specs.Pairs.{paired}
use Rattle.lists.specs.Places.{places_from}
use Rattle.lists.proofs.Tests.{and_true, true_and, in_range_true, in_range_lem}

-- ---- how many there are

pub rooms_behind : (head width room n : ℕ) → 0 < width → n ≡ head + width * room → (n - head) / width ≡ room
rooms_behind head width room n some e =
    let left : n - head ≡ width * room = omega arith in
    ap (λ x. x / width) left ∙ mul-div_cancel_left room some

-- what the test of a size says, and the other way round
pub size_open : (n count room most : ℕ) → (eqb n count && in_range 1 most room) ≡ true → (n ≡ count) × (1 ≤ room) × (room ≤ most)
size_open n count room most e =
    let a = and_true (eqb n count) _ e in
    let b = in_range_true 1 most room a.1 in
    (eqb-true n count a.0, b.0, b.1)

pub size_shut : (n count room most : ℕ) → n ≡ count → 1 ≤ room → room ≤ most → (eqb n count && in_range 1 most room) ≡ true
size_shut n count room most same some few = true_and (eqb n count) _ (eq-eqb n count same) (in_range_lem some few)

-- ---- what a function gives at each place

module _ {X : Type 0} (f : ℕ → X) where
  pub length_places : (p n : ℕ) → length (places_from f p n) ≡ n
  unfolding places_from
  length_places p zero = refl
  length_places p (suc n) = ap suc (length_places (suc p) n)

  at_places : (z : X) (p n i : ℕ) → i < n → get_or (places_from f p n) i z ≡ f (p + i)
  unfolding places_from
  at_places z p zero i h = absurd (omega arith)
  at_places z p (suc n) zero h = let same : p + 0 ≡ p = omega arith in rw same
  at_places z p (suc n) (suc i) h = let same : p + suc i ≡ suc p + i = omega arith in rw same (at_places z (suc p) n i (omega arith))

  pub at_place : (z : X) (n p : ℕ) → p < n → get_or (places_from f 0 n) p z ≡ f p
  at_place z n p h = let same : 0 + p ≡ p = omega arith in at_places z 0 n p h ∙ ap f same

  pub map_places : {Y : Type 0} (g : X → Y) (p n : ℕ) → map g (places_from f p n) ≡ places_from (λ q. g (f q)) p n
  unfolding places_from
  map_places g p zero = refl
  map_places g p (suc n) = ap (λ l. g (f p) ∷ l) (map_places g (suc p) n)

  pub drop_places : (p n m : ℕ) → drop n (places_from f p (n + m)) ≡ places_from f (p + n) m
  unfolding places_from
  drop_places p zero m = let same : p + 0 ≡ p = omega arith in let none : 0 + m ≡ m = omega arith in rw (same, none)
  drop_places p (suc n) m =
      let same : suc n + m ≡ suc (n + m) = omega arith in
      let next : p + suc n ≡ suc p + n = omega arith in
      rw (same, next) (drop_places (suc p) n m)

-- two functions that agree at every place give the same
pub same_places : {X : Type 0} (f g : ℕ → X) (p n : ℕ) → ((q : ℕ) → p ≤ q → q < p + n → f q ≡ g q) → places_from f p n ≡ places_from g p n
unfolding places_from
same_places f g p zero e = refl
same_places f g p (suc n) e = rw (e p (omega arith) (omega arith), same_places f g (suc p) n (λ q l h. e q (omega arith) (omega arith)))

-- one that differs at place i alone gives the same but for element i
set_places_from : {X : Type 0} (f g : ℕ → X) (x : X) (p n i : ℕ) → ((q : ℕ) → (q ≡ p + i → ⊥) → g q ≡ f q) → g (p + i) ≡ x → i < n
    → places_from g p n ≡ set (places_from f p n) i x
unfolding places_from
set_places_from f g x p zero i others here h = absurd (omega arith)
set_places_from f g x p (suc n) zero others here h =
    let same : p + 0 ≡ p = omega arith in
    rw (rw same at here, same_places g f (suc p) n (λ q l m. others q (λ e. omega arith)))
set_places_from f g x p (suc n) (suc i) others here h =
    let same : p + suc i ≡ suc p + i = omega arith in
    rw (others p (λ e. omega arith), set_places_from f g x (suc p) n i (λ q d. others q (λ e. d (omega arith))) (rw same at here) (omega arith))

pub set_places : {X : Type 0} (f g : ℕ → X) (x : X) (n i : ℕ) → ((q : ℕ) → (q ≡ i → ⊥) → g q ≡ f q) → g i ≡ x → i < n
    → places_from g 0 n ≡ set (places_from f 0 n) i x
set_places f g x n i others here h =
    let same : 0 + i ≡ i = omega arith in
    set_places_from f g x 0 n i (λ q d. others q (λ e. d (omega arith))) (rw same here) h

-- two side by side
pub paired_places : {X Y Z : Type 0} (c : X → Y → Z) (f : ℕ → X) (g : ℕ → Y) (p n : ℕ)
    → paired c (places_from f p n) (places_from g p n) ≡ places_from (λ q. c (f q) (g q)) p n
unfolding places_from paired
paired_places c f g p zero = refl
paired_places c f g p (suc n) = ap (λ l. c (f p) (g p) ∷ l) (paired_places c f g (suc p) n)

-- ---- items in words

-- the words from i on are word i, and those behind it
pub drop_next : (words : List ℕ) (i j : ℕ) → j ≡ suc i → i < length words → drop i words ≡ get_or words i 0 ∷ drop j words
drop_next words i j e h = drop-cons words i 0 h ∙ ap (λ x. get_or words i 0 ∷ drop x words) (sym e)

pub record Items (X : Type 0) : Type 0 where
  pub width : ℕ
  pub write : X → List ℕ
  pub read : List ℕ → ℕ → X
  -- where the item of place p begins
  pub at : ℕ → ℕ
  pub next : (p : ℕ) → at (suc p) ≡ at p + width
  pub wide : (x : X) → length (write x) ≡ width
  pub read_write : (x : X) (front rest : List ℕ) → read (front ++ (write x ++ rest)) (length front) ≡ x
  pub write_read : (words : List ℕ) (k : ℕ) → k + width ≤ length words → write (read words k) ++ drop (k + width) words ≡ drop k words

module _ {X : Type 0} (items : Items X) where
  -- items that were written are read
  pub written_read : (words : List ℕ) (xs : List X) (p : ℕ) (front tail : List ℕ) → length front ≡ items.at p → words ≡ front ++ (joined items.write xs ++ tail)
      → places_from (λ q. items.read words (items.at q)) p (length xs) ≡ xs
  unfolding places_from joined
  written_read words [] p front tail long e = refl
  written_read words (x ∷ xs) p front tail long e =
      let rest = joined items.write xs ++ tail in
      let split : words ≡ front ++ (items.write x ++ rest) = e ∙ ap (λ l. front ++ l) (append_assoc (items.write x) (joined items.write xs) tail) in
      let here : items.read words (items.at p) ≡ x = rw (split, ← long) (items.read_write x front rest) in
      let behind : length (front ++ items.write x) ≡ items.at (suc p) = length-append front (items.write x) ∙ rw (long, items.wide x) (sym (items.next p)) in
      let more = written_read words xs (suc p) (front ++ items.write x) tail behind (split ∙ sym (append_assoc front (items.write x) rest)) in
      rw (here, more)

  rises : (p n : ℕ) → items.at p ≤ items.at (p + n)
  rises p zero = let same : p + 0 ≡ p = omega arith in rw same (omega arith)
  rises p (suc n) = let same : p + suc n ≡ suc (p + n) = omega arith in rw (same, items.next (p + n)) (omega (arith, rises p n))

  -- items that were read are written
  read_written_from : (words : List ℕ) (p n : ℕ) → items.at (p + n) ≤ length words
      → joined items.write (places_from (λ q. items.read words (items.at q)) p n) ++ drop (items.at (p + n)) words ≡ drop (items.at p) words
  unfolding places_from joined
  read_written_from words p zero h = let same : p + 0 ≡ p = omega arith in rw same
  read_written_from words p (suc n) h =
      let same : p + suc n ≡ suc p + n = omega arith in
      let few : items.at (suc p + n) ≤ length words = rw same at h in
      let x = items.read words (items.at p) in
      let xs = places_from (λ q. items.read words (items.at q)) (suc p) n in
      rw same
      (append_assoc (items.write x) (joined items.write xs) (drop (items.at (suc p + n)) words)
      ∙ ap (λ l. items.write x ++ l) (read_written_from words (suc p) n few)
      ∙ rw (items.next p) (items.write_read words (items.at p) (omega (arith, few, rises (suc p) n, items.next p))))

  pub read_written : (words : List ℕ) (n : ℕ) → items.at n ≤ length words
      → joined items.write (places_from (λ q. items.read words (items.at q)) 0 n) ++ drop (items.at n) words ≡ drop (items.at 0) words
  read_written words n h = let same : 0 + n ≡ n = omega arith in rw same at (read_written_from words 0 n (rw same h))
