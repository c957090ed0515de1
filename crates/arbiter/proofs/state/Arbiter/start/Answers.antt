-- `arbiter::state::Arbiter::start` meets its contract. The table is laid into words, and the start is made of them. Assumes nothing.
use Rattle.std.proofs.Common.{◌≡◌, ap, ap₂, ◌∙◌, length, rules}
use Rattle.terms.specs.Limits.{max_places}
use Rattle.terms.specs.Start.{start}
use Rattle.layout.specs.Words.{word_count}
use Rattle.arbiter.proofs.ByValue.{room_full, right_full}
use Rattle.arbiter.proofs.state.Arbiter.start.Goals as goal

pub returns : goal.returns
returns c =
    let words = c.lay_table-words.result in
    let long : length words ≡ word_count max_places = search rules in
    c.start_laid-answer.ensures.begun (right_full words long) ∙ ap₂ (λ k t. start k t c.args.first.0) (room_full words long) (ap (λ s. s.table) c.lay_table-words.ensures)
