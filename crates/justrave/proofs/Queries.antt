-- A query about lent words: what it tells goes into the answer, and its refusal names a place below the largest N. Assumes nothing.
use Rattle.std.proofs.Common.{◌≡◌, refl, ap, sym, ◌∙◌, true, ◌&&◌, List, [], ◌∷◌, ℕ, arith, eqb, ℤ, length, set, Result, Ok, Err}
use Rattle.terms.specs.declared.refusals.Cause.{Cause}
use Rattle.terms.specs.declared.place.Account.{Account}
use Rattle.terms.specs.declared.units.Slots.{Slots}
use Rattle.terms.specs.declared.answers.PlaceFigures.{PlaceFigures}
use Rattle.terms.specs.declared.answers.Standing.{Standing}
use Rattle.terms.specs.State.{State, sound}
use Rattle.terms.specs.Refusals.{refusal_of}
use Rattle.terms.specs.Queries as queries
use Rattle.terms.specs.Chain as chains
use Rattle.lead_parts.specs.Lead as leads
use Rattle.table_bytes.specs.Writing as writing
use Rattle.layout.specs.Words.{room_of_words, right_length, state_of}
use Rattle.queries.specs.Look as look
use Rattle.ordered_bytes.specs.OrderBytes.{order_bytes}
use Rattle.outcomes.specs.Places.{Below}
use Rattle.outcomes.proofs.Places.{figures_name_below, chains_name_below, leads_name_below, write_names_below, orders_name_below, looks_name_below, standings_name_below}
use Rattle.justrave.specs.Exported.{Figured, figured, Led, led, Wrote, wrote}
use Rattle.justrave.proofs.Lengths.{on_open, below_most}

-- an answer of one number
pub one_put : {A : Type 0} (old : List A) (x : A) → length old ≡ 1 → set old 0 x ≡ x ∷ []
one_put [] x h = absurd (omega arith)
one_put (a ∷ []) x h = refl
one_put (a ∷ b ∷ old) x h = absurd (omega arith)

module _ (most : ℕ) (words : List ℕ) (ok : right_length most words ≡ true) where
  abbrev room : ℕ
  room = room_of_words words

  abbrev s : State
  s = state_of words

  pub figures_below : (p j : ℕ) (d : Result PlaceFigures Cause) → queries.figures_answer_of d ≡ queries.figures room s p j → (c : Cause) → d ≡ Err c → Below most (refusal_of c).place
  figures_below p j d e c f = below_most most words ok (refusal_of c) (figures_name_below room s p j (refusal_of c) (sym e ∙ ap queries.figures_answer_of f)).place

  pub chain_below : (p : ℕ) (names : List ℕ) (d : Result Slots Cause) → chains.chain_answer_of d ≡ chains.chain room s p names → (c : Cause) → d ≡ Err c → Below most (refusal_of c).place
  chain_below p names d e c f = below_most most words ok (refusal_of c) (chains_name_below room s p names (refusal_of c) (sym e ∙ ap chains.chain_answer_of f)).place

  pub lead_below : (p : ℕ) (log : List ℕ) (d : Result ℤ Cause) → leads.lead_answer_of d ≡ leads.lead_query room s p log → (c : Cause) → d ≡ Err c → Below most (refusal_of c).place
  lead_below p log d e c f = below_most most words ok (refusal_of c) (leads_name_below room s p log (refusal_of c) (sym e ∙ ap leads.lead_answer_of f)).place

  pub account_below : (p : ℕ) (d : Result Account Cause) → look.account_answer_of d ≡ look.account_query room s p → (c : Cause) → d ≡ Err c → Below most (refusal_of c).place
  account_below p d e c f = below_most most words ok (refusal_of c) (looks_name_below room s p (refusal_of c) (sym e ∙ ap look.account_answer_of f)).place

  pub standing_below : (d : Result Standing Cause) → look.standing_answer_of d ≡ look.standing room s → (c : Cause) → d ≡ Err c → Below most (refusal_of c).place
  standing_below d e c f = below_most most words ok (refusal_of c) (standings_name_below room s (refusal_of c) (sym e ∙ ap look.standing_answer_of f)).place

  pub write_below : (old : List ℕ) (c : Cause) → (writing.write_table room s.table old).answer ≡ writing.refused (refusal_of c) → Below most (refusal_of c).place
  write_below old c e = below_most most words ok (refusal_of c) (write_names_below room s.table old (refusal_of c) e).place

pub order_below : (most : ℕ) (bytes old : List ℕ) (c : Cause) → (order_bytes most bytes old).answer ≡ writing.refused (refusal_of c) → Below most (refusal_of c).place
order_below most bytes old c e = (orders_name_below most bytes old (refusal_of c) e).place

-- ---- what is told goes into the answer

module _ (most : ℕ) (words : List ℕ) (p : ℕ) where
  pub figures_told : (j : ℕ) (old : List ℕ) → (right_length most words && eqb (length old) 2) ≡ true → (f : PlaceFigures)
      → queries.figures_answer_of (Ok f) ≡ queries.figures (room_of_words words) (state_of words) p j
      → (after : List ℕ) → after ≡ f.wait.0 ∷ f.finish.0 ∷ [] → ◌≡◌ {A = Figured} (record { answer = after; outcome = 0 }) (figured most words p j old)
  unfolding figured
  figures_told j old both f e after put = rw (on_open most words (eqb (length old) 2) _ _ both, ← e, put)

  pub lead_told : (log : List ℕ) (old : List ℤ) → (right_length most words && eqb (length old) 1) ≡ true → (x : ℤ)
      → leads.lead_answer_of (Ok x) ≡ leads.lead_query (room_of_words words) (state_of words) p log
      → (after : List ℤ) → after ≡ x ∷ [] → ◌≡◌ {A = Led} (record { answer = after; outcome = 0 }) (led most words p log old)
  unfolding led
  lead_told log old both x e after put = rw (on_open most words (eqb (length old) 1) _ _ both, ← e, put)

pub write_told : (most : ℕ) (words buffer old : List ℕ) → (right_length most words && eqb (length old) 1) ≡ true → sound (room_of_words words) (state_of words) ≡ true
    → (bytes : ℕ) (new : List ℕ)
    → ◌≡◌ {A = writing.TableWritten} (record { answer = writing.write_answer_of (Ok bytes); buffer = new }) (writing.write_table (room_of_words words) (state_of words).table buffer)
    → (after : List ℕ) → after ≡ bytes ∷ [] → ◌≡◌ {A = Wrote} (record { buffer = new; answer = after; outcome = 0 }) (wrote most words buffer old)
unfolding wrote
write_told most words buffer old both ok bytes new e after put = rw (on_open most words (eqb (length old) 1) _ _ both, ok, ← e, put)
