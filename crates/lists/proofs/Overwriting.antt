-- A list ys of which the first i elements have been overwritten by those of xs, and an old list that has others written over
-- its front. Assumes nothing.
use Rattle.std.proofs.Common.{◌≡◌, refl, ap, sym, ◌∙◌, List, [], ◌∷◌, ◌++◌, append-nil, append_assoc, ℕ, zero, suc, ◌+◌, ◌-◌, ◌≤◌, ◌<◌, not-suc-le-zero, add-one, arith, length, get_or, take, drop, set, drop_of_length-le, length-append, length-drop, take_all, take_at, drop-drop}
use borrow.Author.Rules.{part_to_end}
use borrow.Rule.Slice.PartMut.{put_mid}
use lib.Seq.{drop-append-add, drop-append_seam, drop-length, sets, sets-eq}
use Rattle.lists.specs.Overwriting.{written_over}

module _ {A : Type 0} (z : A) where
  overwrite_next : (xs ys : List A) (i : ℕ) → i < length xs → i < length ys → set (take i xs ++ drop i ys) i (get_or xs i z) ≡ take (suc i) xs ++ drop (suc i) ys
  overwrite_next [] ys i h k = absurd (not-suc-le-zero h)
  overwrite_next (x ∷ xs) [] i h k = absurd (not-suc-le-zero k)
  overwrite_next (x ∷ xs) (y ∷ ys) zero h k = refl
  overwrite_next (x ∷ xs) (y ∷ ys) (suc i) h k = ap (λ l. x ∷ l) (overwrite_next xs ys i (omega arith) (omega arith))

  -- one element more
  pub overwrite_more : (xs ys zs : List A) (i : ℕ) (x : A) → i < length xs → i < length ys → zs ≡ take i xs ++ drop i ys → x ≡ get_or xs i z
      → set zs i x ≡ take (i + 1) xs ++ drop (i + 1) ys
  overwrite_more xs ys zs i x h k e v = rw (e, v, add-one i) (overwrite_next xs ys i h k)

  -- all of them
  pub overwrite_all : (xs ys : List A) (i : ℕ) → length xs ≤ i → length ys ≤ i → take i xs ++ drop i ys ≡ xs
  overwrite_all xs ys i h k = rw (take_all i xs h, drop_of_length-le ys k) (append-nil xs)

-- Some more elements, stored one after the other behind those that stand in front of an old list.
pub stored_behind : {A : Type 0} (front old more : List A) (k : ℕ) → length front ≡ k → k + length more ≤ length old
    → sets (written_over front old) k more ≡ written_over (front ++ more) old
unfolding written_over
stored_behind front old more k e h =
    let whole : k + length more ≤ length (front ++ drop (length front) old) = simp (length-append, length-drop) (omega arith) in
    sets-eq more (front ++ drop (length front) old) k whole
    ∙ rw (take_at front (drop (length front) old) k e, ← e, drop-append-add front (drop (length front) old) (length more), drop-drop (length more) (length front) old, length-append front more)

-- as long as the old list, where the others fit
pub length_over : {A : Type 0} (front old : List A) → length front ≤ length old → length (written_over front old) ≡ length old
unfolding written_over
length_over front old h = simp (length-append, length-drop) (omega arith)

-- Others written in the part of a buffer from k on, behind k that stand in front of what the buffer held.
module _ {A : Type 0} (front old : List A) (k : ℕ) (e : length front ≡ k) where
  -- that part is what the buffer held there
  pub part_behind : take (length (written_over front old) - k) (drop k (written_over front old)) ≡ drop k old
  unfolding written_over
  part_behind = part_to_end (written_over front old) k ∙ rw (← e, drop-append_seam front (drop (length front) old))

  pub written_behind : (more part : List A) → part ≡ written_over more (take (length (written_over front old) - k) (drop k (written_over front old)))
      → put_mid k (length (written_over front old) - k) (written_over front old) part ≡ written_over (front ++ more) old
  unfolding written_over
  written_behind more part f =
      let all = written_over front old in
      let none : drop (length all - k) (drop k all) ≡ [] = ap (λ n. drop n (drop k all)) (sym (length-drop k all)) ∙ drop-length (drop k all) in
      let whole : part ≡ more ++ drop (length (front ++ more)) old =
      f ∙ ap (written_over more) part_behind
      ∙ ap (λ l. more ++ l) (drop-drop (length more) k old ∙ ap (λ n. drop n old) (ap (λ n. n + length more) (sym e) ∙ sym (length-append front more))) in
      rw (none, append-nil part, take_at front (drop (length front) old) k e, whole) (sym (append_assoc front more (drop (length (front ++ more)) old)))
