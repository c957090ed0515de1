-- Clear rows and accounts behind a state's own are zeros behind its words. Assumes nothing.
use Rattle.std.proofs.Common.{◌≡◌, refl, ap, sym, ◌∙◌, List, [], ◌∷◌, ◌++◌, ℕ, zero, suc, ◌*◌, arith, length, replicate}
use Rattle.lists.specs.Sums.{joined}
use Rattle.lists.specs.Pairs.{paired}
use Rattle.lists.proofs.Sums.{joined_append}
use Rattle.terms.specs.Table.{no_requestor}
use Rattle.terms.specs.State.{State, no_account, Shaped}
use Rattle.terms.specs.Longer.{longer}
use Rattle.layout.specs.Words.{place, place_words, state_words}
use Rattle.on_words.specs.Room.{more}

paired_append : {A B C : Type 0} (f : A → B → C) (xs us : List A) (ys vs : List B) → length xs ≡ length ys
    → paired f (xs ++ us) (ys ++ vs) ≡ paired f xs ys ++ paired f us vs
unfolding paired
paired_append f [] us [] vs h = refl
paired_append f [] us (y ∷ ys) vs h = absurd (omega arith)
paired_append f (x ∷ xs) us [] vs h = absurd (omega arith)
paired_append f (x ∷ xs) us (y ∷ ys) vs h = ap (λ l. f x y ∷ l) (paired_append f xs us ys vs (omega arith))

clear_words : (n : ℕ) → joined place_words (paired place (replicate n no_requestor) (replicate n no_account)) ≡ replicate (6 * n) 0
unfolding joined paired
clear_words zero = refl
clear_words (suc n) = let again : 6 * suc n ≡ suc (suc (suc (suc (suc (suc (6 * n)))))) = omega arith in rw (again, clear_words n)

pub longer_words : (room extra : ℕ) (s : State) → Shaped room s → state_words (longer extra s) ≡ more extra (state_words s)
unfolding state_words
longer_words room extra s v =
    let clear = replicate extra no_requestor in
    let even = replicate extra no_account in
    let same : length s.table.requestors ≡ length s.accounts = v.rows ∙ sym v.accounts in
    rw (
      paired_append place s.table.requestors clear s.accounts even same,
      joined_append place_words (paired place s.table.requestors s.accounts) (paired place clear even),
      clear_words extra,
    )
