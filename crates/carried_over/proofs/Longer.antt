-- A state with clear rows and accounts behind its own: every query about it is answered as about the state. Assumes nothing.
use Rattle.std.proofs.Common.{◌≡◌, ◌∙◌, List, ◌++◌, ℕ, ◌+◌, ◌≤◌, arith, length}
use lib.ListN.{get_or-append}
use Rattle.lists.proofs.Tests.{cases}
use Rattle.terms.specs.Table.{no_requestor}
use Rattle.terms.specs.State.{State, sound, Shaped, place_verdict}
use Rattle.terms.specs.Refusals.{gate, then}
use Rattle.terms.specs.Chain.{nobody, chain_figure, following_verdict, chain_verdict, chain}
use Rattle.terms.specs.Longer.{longer}
use Rattle.terms.proofs.Longer.{get_d_clear, same_rows, same_admission, few_places, same_sound, same_place, same_account}
use Rattle.chains.proofs.Claims.{names_past_unread}
use Rattle.lead_parts.specs.Lead.{lead_verdict, lead_query}
use Rattle.table_bytes.specs.Writing.{table_numbers, table_bytes, write_verdict, write_table}
use Rattle.queries.specs.Look as look

module _ (room extra : ℕ) (s : State) (v : Shaped room s) where
  abbrev big : State
  big = longer extra s

  pub same_chain : (p : ℕ) (names : List ℕ) → chain (room + extra) big p names ≡ chain room s p names
  unfolding chain chain_verdict following_verdict chain_figure place_verdict gate then
  same_chain p names = cases (sound room s)
      (λ q. rw (same_sound room extra s v, q, same_rows room extra s.table v.rows (few_places room extra s v q)))
      (λ q. rw (same_sound room extra s v, q))

  -- with a name more for each place more, whatever it is
  pub same_chain_named : (p : ℕ) (names past : List ℕ) → length names ≡ room → chain (room + extra) big p (names ++ past) ≡ chain room s p names
  unfolding chain chain_verdict place_verdict gate then
  same_chain_named p names past as_many = same_chain p (names ++ past) ∙ cases (sound room s)
      (λ q.
      let few = few_places room extra s v q in
      names_past_unread room s v p (names ++ past) names (λ i h. get_or-append names past nobody i (omega arith)))
      (λ q. rw q)

  pub same_look : (p : ℕ) → look.account_query (room + extra) big p ≡ look.account_query room s p
  unfolding look.account_query
  same_look p = rw (same_place room extra s v p, same_account room extra s v p)

  pub same_standing : look.standing (room + extra) big ≡ look.standing room s
  unfolding look.standing
  same_standing = rw (same_sound room extra s v)

  pub same_lead : (p : ℕ) (log : List ℕ) → lead_query (room + extra) big p log ≡ lead_query room s p log
  unfolding lead_query lead_verdict
  same_lead p log = rw (same_place room extra s v p, get_d_clear no_requestor s.table.requestors extra p)

  pub same_write : (buffer : List ℕ) → s.table.count ≤ room → write_table (room + extra) big.table buffer ≡ write_table room s.table buffer
  unfolding write_table write_verdict table_bytes table_numbers
  same_write buffer few = rw (same_admission room extra s.table v.rows few, same_rows room extra s.table v.rows few)
