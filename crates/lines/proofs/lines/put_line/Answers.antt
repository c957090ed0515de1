-- `lines::lines::put_line` meets its contract. A word, an item and a line feed. Assumes nothing.
use Rattle.std.proofs.Common.{arith, length-append}
use Rattle.lists.proofs.Putting.{put_first, put_next, put_byte, put_whole}
use Rattle.lines.specs.Text.{decimal, spaced}
use Rattle.lines.proofs.Writing.{two_length, line_of_two}
use Rattle.lines.proofs.lines.put_line.Goals as goal

pub returns-clause-text : goal.returns-clause-text
returns-clause-text c =
    let word = c.args.word.now in
    let number = decimal c.args.n in
    let fits = two_length word number in
    let first = put_first (omega (arith, fits)) (c.put-at.ensures.wrote, c.put-at.ensures.text) in
    let item = put_next first (spaced number) (omega (arith, fits)) (c.put_item-at.ensures.wrote, c.put_item-at.ensures.text) in
    let whole = put_byte item 10 (omega (arith, fits, item.count, length-append word (spaced number))) in
    (put_whole whole (line_of_two word number)).1
