-- `layout::words::length_is_right` meets its contract, where all its tests are looked at. Assumes nothing.
use Rattle.std.proofs.Common.{arith, le-leb, eq-eqb, length}
use Rattle.layout.specs.Words.{word_count, room_of_words, right_length}
use Rattle.layout.proofs.words.length_is_right.Goals as goal

pub returns-then-room-ge1 : goal.returns-then-room-ge1
unfolding right_length
returns-then-room-ge1 c =
    let w = c.args.words.now in
    rw (eq-eqb (length w) (word_count (room_of_words w)) (omega arith), le-leb 1 (room_of_words w) (omega arith), c.room_of-room.ensures)
