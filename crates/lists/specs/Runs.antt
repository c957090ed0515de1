-- A list of calls on any state, one after the other: the state at the end, and what each call answered.
use Rattle.std.specs.Prelude.{List, [], ◌∷◌}

-- what a call hands back: the state, and its answer
pub record Result (S A : Type 0) : Type 0 where
  pub state : S
  pub answer : A

module _ {S C A : Type 0} (step : S → C → Result S A) where
  -- the state after the calls; each is handed what its forerunner left
  unfoldable pub end : S → List C → S
  end s [] = s
  end s (c ∷ cs) = end (step s c).state cs

  -- the answers, in the order of the calls
  unfoldable pub answers : S → List C → List A
  answers s [] = []
  answers s (c ∷ cs) = (step s c).answer ∷ answers (step s c).state cs

  -- Q holds of the state directly before each call and of the call's answer
  abbrev pub Each : (S → A → Type 0) → S → List C → Type 0
  Each Q s [] = Unit {0}
  Each Q s (c ∷ cs) = Q s (step s c).answer × Each Q (step s c).state cs
