-- `queries::lead::lead_words` meets its contract. The difference fits, since its place passed 23 and 11 and its log 13, and it is the lead.
-- Assumes nothing.
use Rattle.std.proofs.Common.{sym, to_z-of_z}
use Rattle.queries.proofs.Queries.{query_lead}
use Rattle.queries.proofs.lead.lead_words.Goals as goal

pub returns : goal.returns
returns c =
    rw (to_z-of_z (record { sfits = c.difference.type_inv }), ← c.in_ok-checked.ensures.same, ← c.slice-words.ensures.same)
    (query_lead _ _ c.args.place c.slice-words.ensures.checked (rw (c.slice-words.ensures.same, c.in_ok-checked.ensures.same) (sym c.in_ok-checked.ensures.found))
    c.args.log.now _ _ _ _ c.denominator-d.ensures c.count_grants-grants.ensures c.rate-n.ensures c.difference.ensures c.in_ok-check_input.ensures)
