-- A state with clear rows and accounts behind its own: the table's checks, test 23 and the figures are those of the state. Assumes nothing.
use Rattle.std.proofs.Common.{◌≡◌, refl, ap, sym, ◌∙◌, Bool, true, false, ◌&&◌, List, [], ◌∷◌, ◌++◌, ℕ, zero, suc, ◌+◌, ◌≤◌, ◌<◌, arith, leb-true, leb-false, le-leb, leb, length, get_or, take, drop, replicate, length-append, length-take, get_or-take}
use lib.ListN.{length-replicate}
use lib.Seq.{take-append-le, drop-append-le}
use Rattle.lists.specs.Sums.{every, up_to}
use Rattle.lists.proofs.Tests.{cases}
use Rattle.terms.specs.declared.place.Requestor.{Requestor}
use Rattle.terms.specs.Table.{Table, no_requestor, requestor_clear, requestor_at, requestors_of, held_to, fields_verdict, offered_row_verdict, tail_verdict, rate_sum_verdict, verdict_by}
use Rattle.terms.specs.State.{State, no_account, account_clear, account_at, credits_hold, accounts_hold, sound, Shaped, place_verdict}
use Rattle.terms.specs.Refusals.{Verdict, gate, then}
use Rattle.terms.specs.Figures.{admission_verdict}
use Rattle.terms.specs.Queries.{figures_verdict, figures}
use Rattle.terms.specs.Longer.{longer_table, longer}
use Rattle.terms.proofs.Checks.{fair, Fair}
use Rattle.terms.proofs.Sound.{sound_table}

-- ---- lists with clear elements behind

module _ {A : Type 0} (z : A) where
  pub get_d_clear : (xs : List A) (n p : ℕ) → get_or (xs ++ replicate n z) p z ≡ get_or xs p z
  get_d_clear [] zero p = refl
  get_d_clear [] (suc n) zero = refl
  get_d_clear [] (suc n) (suc p) = get_d_clear [] n p
  get_d_clear (x ∷ xs) n zero = refl
  get_d_clear (x ∷ xs) n (suc p) = get_d_clear xs n p

  every_clear : (test : A → Bool) → test z ≡ true → (xs : List A) (n : ℕ) → every test (xs ++ replicate n z) ≡ every test xs
  unfolding every
  every_clear test e [] zero = refl
  every_clear test e [] (suc n) = rw e (every_clear test e [] n)
  every_clear test e (x ∷ xs) n = ap (λ b. test x && b) (every_clear test e xs n)

up_to_same : (n : ℕ) (f g : ℕ → Bool) → ((k : ℕ) → k ≤ n → f k ≡ g k) → up_to n f ≡ up_to n g
unfolding up_to
up_to_same zero f g e = refl
up_to_same (suc n) f g e = rw (up_to_same n f g (λ k h. e k (omega arith)), e (suc n) (omega arith))

-- ---- as many rows and accounts more

pub longer_shaped : (room extra : ℕ) (s : State) → Shaped room s → Shaped (room + extra) (longer extra s)
longer_shaped room extra s v = record {
  rows = length-append s.table.requestors (replicate extra no_requestor) ∙ rw (v.rows, length-replicate extra no_requestor);
  accounts = length-append s.accounts (replicate extra no_account) ∙ rw (v.accounts, length-replicate extra no_account);
}

-- ---- the table's checks, and test 23

module _ (room extra : ℕ) (t : Table) (rows : length t.requestors ≡ room) (few : t.count ≤ room) where
  pub same_rows : requestors_of (longer_table extra t) ≡ requestors_of t
  same_rows = take-append-le t.count t.requestors (replicate extra no_requestor) (omega arith)

  same_checks : (row : (d p : ℕ) → Requestor → Verdict) → verdict_by row (room + extra) (longer_table extra t) ≡ verdict_by row room t
  unfolding verdict_by tail_verdict rate_sum_verdict held_to
  same_checks row = rw (
    same_rows,
    drop-append-le t.count t.requestors (replicate extra no_requestor) (omega arith),
    every_clear no_requestor requestor_clear refl (drop t.count t.requestors) extra,
    le-leb t.count (room + extra) (omega arith),
    le-leb t.count room few,
  )

  pub same_admission : admission_verdict (room + extra) (longer_table extra t) ≡ admission_verdict room t
  unfolding admission_verdict
  same_admission = rw (same_checks offered_row_verdict, same_rows)

-- a table whose N is above its room has with more room a row of zeros among its places
row_of_zeros : (room extra : ℕ) (t : Table) → length t.requestors ≡ room → room < t.count → Fair (room + extra) (longer_table extra t) → ⊥
row_of_zeros room extra t rows over f =
    let all = t.requestors ++ replicate extra no_requestor in
    let long : length all ≡ room + extra = length-append t.requestors (replicate extra no_requestor) ∙ rw (rows, length-replicate extra no_requestor) in
    let there : room < length (take t.count all) = omega (arith, length-take t.count all, f.count_most) in
    let at : requestor_at room (take t.count all) ≡ no_requestor =
    get_or-take t.count all room no_requestor over ∙ get_d_clear no_requestor t.requestors extra room ∙ past t.requestors room (omega arith) in
    omega (arith, (f.row room there).rate_least, ap (λ r. r.rate) at)
  where
    past : (rs : List Requestor) (p : ℕ) → length rs ≤ p → requestor_at p rs ≡ no_requestor
    past [] p h = refl
    past (r ∷ rs) zero h = absurd (omega arith)
    past (r ∷ rs) (suc p) h = past rs p (omega arith)

module _ (room extra : ℕ) (s : State) (v : Shaped room s) where
  abbrev n : ℕ
  n = s.table.count

  same_within : n ≤ room → sound (room + extra) (longer extra s) ≡ sound room s
  unfolding sound accounts_hold
  same_within few =
      let rows = s.table.requestors in
      let accounts = s.accounts in
      let clear = replicate extra no_requestor in
      let even = replicate extra no_account in
      let sums : up_to n (credits_hold (rows ++ clear) (accounts ++ even)) ≡ up_to n (credits_hold rows accounts) =
      up_to_same n _ _ (λ k h. rw (take-append-le k rows clear (omega (arith, v.rows)), take-append-le k accounts even (omega (arith, v.accounts)))) in
      rw (
        same_checks room extra s.table v.rows few fields_verdict,
        take-append-le n accounts even (omega (arith, v.accounts)),
        sums,
        drop-append-le n accounts even (omega (arith, v.accounts)),
        every_clear no_account account_clear refl (drop n accounts) extra,
      )

  pub few_places : sound room s ≡ true → n ≤ room
  few_places ok = (fair room s.table (sound_table room s ok)).count_most

  pub same_sound : sound (room + extra) (longer extra s) ≡ sound room s
  same_sound = cases (leb n room)
      (λ q. same_within (leb-true n room q))
      (λ q. let over = leb-false n room q in neither _ _
      (λ ok. row_of_zeros room extra s.table v.rows over (fair (room + extra) (longer_table extra s.table) (sound_table (room + extra) (longer extra s) ok)))
      (λ ok. omega (arith, over, few_places ok)))
    where
      neither : (a b : Bool) → (a ≡ true → ⊥) → (b ≡ true → ⊥) → a ≡ b
      neither false false f g = refl
      neither true b f g = absurd (f refl)
      neither false true f g = absurd (g refl)

  pub same_place : (p : ℕ) → place_verdict (room + extra) (longer extra s) p ≡ place_verdict room s p
  unfolding place_verdict
  same_place p = rw same_sound

  pub same_account : (p : ℕ) → account_at p (s.accounts ++ replicate extra no_account) ≡ account_at p s.accounts
  same_account p = get_d_clear no_account s.accounts extra p

  pub same_figures : (p j : ℕ) → figures (room + extra) (longer extra s) p j ≡ figures room s p j
  unfolding figures figures_verdict place_verdict gate then
  same_figures p j = cases (sound room s)
      (λ q. rw (same_sound, q, same_rows room extra s.table v.rows (few_places q)))
      (λ q. rw (same_sound, q))

  -- test 23 where N is held to the room without the zeros
  pub sound_within : (leb n room && sound (room + extra) (longer extra s)) ≡ sound room s
  sound_within = cases (leb n room)
      (λ q. rw q (same_within (leb-true n room q)))
      (λ q. rw q (sym (never (sound room s) (λ ok. omega (arith, leb-false n room q, few_places ok)))))
    where
      never : (b : Bool) → (b ≡ true → ⊥) → b ≡ false
      never false h = refl
      never true h = absurd (h refl)
