-- Laws on lists of calls over any state: what every call keeps, one call more at the end, two steps that agree, and counts
-- along the calls.
-- Assumes nothing.
use Rattle.std.proofs.Common.{◌≡◌, refl, ap, List, [], ◌∷◌, ◌++◌, ℕ, suc, ◌+◌, arith, zero-add, length}
use Rattle.lists.specs.Sums.{total}
use Rattle.lists.specs.Runs.{Result, end, answers, Each}

shift : (a b t : ℕ) → a + b + t ≡ b + (a + t)
shift a b t = omega arith

module _ {S C A : Type 0} (step : S → C → Result S A) where
  -- what each call keeps stands at the end
  pub keeps : (P : S → Type 0) → ((s : S) (c : C) → P s → P (step s c).state) → (s : S) (calls : List C) → P s → P (end step s calls)
  unfolding end
  keeps P kept s [] p = p
  keeps P kept s (c ∷ calls) p = keeps P kept (step s c).state calls (kept s c p)

  -- one call more at the end: it gets the state that the others handed back
  pub end_more : (s : S) (calls : List C) (c : C) → end step s (calls ++ (c ∷ [])) ≡ (step (end step s calls) c).state
  unfolding end
  end_more s [] c = refl
  end_more s (b ∷ calls) c = end_more (step s b).state calls c

  -- more calls at the end: they get the state that the others handed back
  pub end_append : (s : S) (calls more : List C) → end step s (calls ++ more) ≡ end step (end step s calls) more
  unfolding end
  end_append s [] more = refl
  end_append s (c ∷ calls) more = end_append (step s c).state calls more

  pub answers_append : (s : S) (calls more : List C) → answers step s (calls ++ more) ≡ answers step s calls ++ answers step (end step s calls) more
  unfolding end answers
  answers_append s [] more = refl
  answers_append s (c ∷ calls) more = ap (λ answered. (step s c).answer ∷ answered) (answers_append (step s c).state calls more)

  -- and the answer to one call more is the last
  pub answers_more : (s : S) (calls : List C) (c : C) → answers step s (calls ++ (c ∷ [])) ≡ answers step s calls ++ ((step (end step s calls) c).answer ∷ [])
  unfolding answers
  answers_more s calls c = answers_append s calls (c ∷ [])

  -- an answer to each call
  pub length_answers : (s : S) (calls : List C) → length (answers step s calls) ≡ length calls
  unfolding answers
  length_answers s [] = refl
  length_answers s (c ∷ calls) = ap suc (length_answers (step s c).state calls)

  -- a condition that always holds, holds along the calls
  pub each : (s : S) (calls : List C) → Each step (λ s a. Unit {0}) s calls
  each s [] = tt
  each s (c ∷ calls) = (tt, each (step s c).state calls)

  -- Two counts of the answers and the state, kept in step. Q is what the calls meet on their way.
  pub along : (Q : S → A → Type 0) (f g : A → ℕ) (P : ℕ → ℕ → S → Type 0)
      → ((t u : ℕ) (s : S) (c : C) → Q s (step s c).answer → P t u s → P (f (step s c).answer + t) (g (step s c).answer + u) (step s c).state)
      → (t u : ℕ) (s : S) (calls : List C) → Each step Q s calls → P t u s
      → P (total f (answers step s calls) + t) (total g (answers step s calls) + u) (end step s calls)
  unfolding end answers total
  along Q f g P kept t u s [] q p = rw (zero-add t, zero-add u) p
  along Q f g P kept t u s (c ∷ calls) q p =
      rw (
        shift (f (step s c).answer) (total f (answers step (step s c).state calls)) t,
        shift (g (step s c).answer) (total g (answers step (step s c).state calls)) u,
      )
      (along Q f g P kept (f (step s c).answer + t) (g (step s c).answer + u) (step s c).state calls q.1 (kept t u s c q.0 p))

-- two steps that agree where P holds, which the second keeps
module _ {S C A : Type 0} (one other : S → C → Result S A) (P : S → Type 0)
    (agree : (s : S) (c : C) → P s → one s c ≡ other s c) (kept : (s : S) (c : C) → P s → P (other s c).state) where
  pub same_end : (s : S) (calls : List C) → P s → end one s calls ≡ end other s calls
  unfolding end
  same_end s [] p = refl
  same_end s (c ∷ calls) p = rw (agree s c p) (same_end (other s c).state calls (kept s c p))

  pub same_answers : (s : S) (calls : List C) → P s → answers one s calls ≡ answers other s calls
  unfolding answers
  same_answers s [] p = refl
  same_answers s (c ∷ calls) p = rw (agree s c p) (ap (λ answered. (other s c).answer ∷ answered) (same_answers (other s c).state calls (kept s c p)))
