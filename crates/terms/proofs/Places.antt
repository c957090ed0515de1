-- A walk over the first n rows of an array, from row i on: what its next step is. Checks 3 to 5 and 17, check 7 and test 23 go by these laws.
-- Assumes nothing.
use Rattle.std.proofs.Common.{◌≡◌, List, [], ◌∷◌, ℕ, ◌+◌, ◌≤◌, ◌<◌, add-one, arith, length, take, drop, get_or, length-take, drop_of_length-le, drop-cons, get_or-take}
use Rattle.terms.specs.declared.refusals.Refusal.{Refusal}
use Rattle.terms.specs.declared.place.Requestor.{Requestor}
use Rattle.terms.specs.Refusals.{Verdict, faultless, fault, then}
use Rattle.terms.specs.Table.{no_requestor, each_place}

-- the rest of the first n, from i on
rest : {A : Type 0} (z : A) (xs : List A) (n i : ℕ) → n ≤ length xs → i < n → drop i (take n xs) ≡ get_or xs i z ∷ drop (i + 1) (take n xs)
rest {A} z xs n i k h =
    let inside : i < length (take n xs) = simp length-take (omega arith) in
    rw (add-one, drop-cons (take n xs) i z inside, get_or-take n xs i z h)

rest_none : {A : Type 0} (xs : List A) (n i : ℕ) → n ≤ i → drop i (take n xs) ≡ []
rest_none xs n i h = let out : length (take n xs) ≤ i = simp length-take (omega arith) in drop_of_length-le (take n xs) out

module _ (check : ℕ → Requestor → Verdict) (rs : List Requestor) (n p : ℕ) where
  pub each_pass : n ≤ length rs → p < n → check p (get_or rs p no_requestor) ≡ faultless
      → each_place check p (drop p (take n rs)) ≡ each_place check (p + 1) (drop (p + 1) (take n rs))
  unfolding each_place then
  each_pass k h e = rw (rest no_requestor rs n p k h, e, ← add-one p)

  pub each_stop : n ≤ length rs → p < n → (r : Refusal) → check p (get_or rs p no_requestor) ≡ fault r
      → each_place check p (drop p (take n rs)) ≡ fault r
  unfolding each_place then
  each_stop k h r e = rw (rest no_requestor rs n p k h, e)

  pub each_end : n ≤ p → each_place check p (drop p (take n rs)) ≡ faultless
  unfolding each_place
  each_end h = rw (rest_none rs n p h)
