use Rattle.std.proofs.Common.{ap, rules}
use Rattle.terms.specs.Answers.{answer_of}
use Rattle.arbiter.proofs.ByValue.{room_full}
use Rattle.listing.proofs.Posting.{posting_next}
use Rattle.listing.proofs.post_and_slot.post_counts.Goals as goal

pub loop-p-preserved : goal.loop-p-preserved
loop-p-preserved c =
    posting_next _ _ (room_full c.loop-p.s.words (search rules)) _ _ _ _ c.loop-p.invariant c.loop-p-test.true _ c.post_words.ensures (ap answer_of c.in-Ok.is)
