-- `calls::carry::carry` meets its contract: an old state by value has the old limit's room, and the words are as long as an arbiter's.
-- Assumes nothing.
use Rattle.std.proofs.Common.{◌≡◌, refl, ap₂, ◌∙◌, List, ℕ, arith, length, replicate, rules}
use Rattle.terms.specs.Limits.{max_places, old_places}
use Rattle.carrying.specs.Carry.{carry}
use Rattle.layout.specs.Words.{word_count}
use Rattle.arbiter.proofs.ByValue.{room_full, right_full}
use Rattle.carrying.specs.OldWords.{old_word_count, old_state_of}
use Rattle.carrying.proofs.Fits.{old_room_is, fitting}
use Rattle.calls.proofs.carry.carry.Goals as goal

pub carry_words-answer-requires : goal.carry_words-answer-requires
carry_words-answer-requires c =
    let old = c.args.old.words in
    let zeros : List ℕ = replicate (word_count max_places) 0 in
    let long : length old ≡ old_word_count old_places = search rules in
    fitting old_places max_places old_places old zeros long (omega arith) (omega arith) (right_full zeros refl) (omega (arith, room_full zeros refl))

pub returns : goal.returns
returns c =
    let old = c.args.old.words in
    let zeros : List ℕ = replicate (word_count max_places) 0 in
    let long : length old ≡ old_word_count old_places = search rules in
    c.carry_words-answer.ensures ∙ ap₂ (λ k m. carry k m (old_state_of old)) (old_room_is old_places old long) (room_full zeros refl)
