-- `ordering::order::order` meets its contract. The table is laid into words, put in order there, and handed back from them. Assumes nothing.
use Rattle.std.proofs.Common.{◌≡◌, ap, ap₂, ◌∙◌, length, rules}
use Rattle.terms.specs.Limits.{max_places}
use Rattle.terms.specs.Table.{Table}
use Rattle.terms.specs.Answers.{answer_of}
use Rattle.terms.specs.Start.{no_state}
use Rattle.layout.specs.Words.{word_count, with_table}
use Rattle.arbiter.specs.ByValue.{given}
use Rattle.arbiter.proofs.ByValue.{room_full, right_full}
use Rattle.ordering.specs.Order.{order}
use Rattle.ordering.specs.InPlace.{in_state, table_only}
use Rattle.ordering.proofs.Claims.{in_state_lem}
use Rattle.ordering.proofs.order.order.Goals as goal

pub returns : goal.returns
returns c =
    let words = c.lay_table-words.result in
    let long : length words ≡ word_count max_places = search rules in
    let t = given c.args.t in
    let put = c.order_laid-answer.ensures.ordered (right_full words long) ∙ ap₂ (λ k s. in_state k s (order k s.table)) (room_full words long) c.lay_table-words.ensures in
    ap (λ (x : Table). record { table = x; answer = answer_of c.order_laid-answer.result }) c.table_of.ensures
    ∙ ap table_only put
    ∙ in_state_lem max_places (with_table (no_state max_places) t) t
