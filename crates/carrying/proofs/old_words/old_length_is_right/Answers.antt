use Rattle.std.proofs.Common.{arith}
use Rattle.carrying.specs.OldWords.{old_room_of, old_right_length}
use Rattle.carrying.proofs.old_words.old_length_is_right.Goals as goal

pub returns-then-room-ge1 : goal.returns-then-room-ge1
unfolding old_right_length old_room_of
returns-then-room-ge1 c = grind arith
