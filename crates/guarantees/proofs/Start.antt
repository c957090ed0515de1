-- The state of an accepted start is sound, so all calls from it are the rule's, on the start's table. Assumes nothing.
use Rattle.std.proofs.Common.{◌≡◌, refl, ap, ◌∙◌, List, ℕ, arith}
use Rattle.lists.specs.Runs.{Result, end, answers}
use Rattle.lists.proofs.Runs.{keeps}
use Rattle.terms.specs.declared.refusals.Refusal.{Refusal}
use Rattle.terms.specs.Table.{Table}
use Rattle.terms.specs.State.{State}
use Rattle.terms.specs.Refusals.{Verdict, faultless, fault, resolve}
use Rattle.terms.specs.Answers.{Answer, accepted, refused}
use Rattle.terms.specs.Start.{opening, no_state, start_verdict, start}
use Rattle.terms.proofs.Sound.{Sound, start_sound}
use Rattle.rule.specs.Calls.{Call, ruled, called}
use Rattle.guarantees.specs.Counts.{Accepted, start_state}
use Rattle.guarantees.proofs.Step.{table_stands}
use Rattle.guarantees.proofs.Sound.{sound_end, end_ruled, answers_ruled}

-- what start hands back by its verdict
abbrev started : Verdict → State → State → Result State Answer
started v opens refuses = resolve v (record { state = opens; answer = accepted }) (λ r. record { state = refuses; answer = refused r })

started_open : (v : Verdict) (opens refuses : State) → (started v opens refuses).answer ≡ accepted
    → (v ≡ faultless) × ((started v opens refuses).state ≡ opens)
started_open faultless opens refuses e = (refl, refl)
started_open (fault r) opens refuses e = let z : ◌≡◌ {A = ℕ} 0 1 = cc in absurd (omega arith)

-- a start is accepted or refused
pub start_ends : {X : Type 0} (limit : ℕ) (t : Table) (first : ℕ) → ((start limit t first).answer ≡ accepted → X) → ((why : Refusal) → (start limit t first).answer ≡ refused why → X) → X
unfolding start
start_ends {X} limit t first on off = by (start_verdict limit t first) refl where
  by : (v : Verdict) → start_verdict limit t first ≡ v → X
  by faultless f = on (rw f)
  by (fault why) f = off why (rw f)

-- an accepted start
module _ (limit : ℕ) (t : Table) (first : ℕ) (a : Accepted limit t first) where
  pub start_passes : start_verdict limit t first ≡ faultless
  unfolding start
  start_passes = (started_open (start_verdict limit t first) (opening t first) (no_state limit) a.answer).0

  pub start_state_is : start_state limit t first ≡ opening t first
  unfolding start
  start_state_is = (started_open (start_verdict limit t first) (opening t first) (no_state limit) a.answer).1

  pub opening_sound : Sound limit (opening t first)
  opening_sound = start_sound limit t first start_passes a.rows

  pub start_state_sound : Sound limit (start_state limit t first)
  start_state_sound = rw start_state_is opening_sound

  -- after any calls from it
  pub entered_sound : (calls : List Call) → Sound limit (end ruled (opening t first) calls)
  entered_sound calls = sound_end limit (opening t first) calls opening_sound

  pub entered_table : (calls : List Call) → (end ruled (opening t first) calls).table ≡ t
  unfolding opening
  entered_table calls = keeps ruled (λ s. s.table ≡ t) (λ s c e. table_stands s c ∙ e) (opening t first) calls refl

  pub entered_ruled : (calls : List Call) → end (called limit) (start_state limit t first) calls ≡ end ruled (opening t first) calls
  entered_ruled calls = ap (λ s. end (called limit) s calls) start_state_is ∙ end_ruled limit (opening t first) calls opening_sound

  pub answered_ruled : (calls : List Call) → answers (called limit) (start_state limit t first) calls ≡ answers ruled (opening t first) calls
  answered_ruled calls = ap (λ s. answers (called limit) s calls) start_state_is ∙ answers_ruled limit (opening t first) calls opening_sound

  pub called_sound : (calls : List Call) → Sound limit (end (called limit) (start_state limit t first) calls)
  called_sound calls = rw (entered_ruled calls) (entered_sound calls)

  pub called_table : (calls : List Call) → (end (called limit) (start_state limit t first) calls).table ≡ t
  called_table calls = rw (entered_ruled calls) (entered_table calls)
