-- The steps' texts in a row are the listing: each step but the last takes a byte of the input at least, so that no more steps than bytes
-- follow the first. Assumes nothing.
use Rattle.std.proofs.Common.{◌≡◌, refl, ap, sym, ◌∙◌, Bool, true, false, List, [], ◌++◌, ℕ, zero, suc, ◌+◌, ◌≤◌, arith, leb, length, take, drop, length-drop}
use borrow.Author.Tests.{lt-leb}
use Rattle.lists.specs.Choices.{pick}
use Rattle.groups.specs.Groups.{Reading, Number, Ended, Malformed, number_of}
use Rattle.groups.proofs.Readings.{number_takes, number_some}
use Rattle.terms.specs.State.{State, sound}
use Rattle.terms.specs.Refusals.{refusal, gate}
use Rattle.terms.specs.Answers.{Answer}
use Rattle.terms.specs.Limits.{max_input}
use Rattle.terms.specs.Start.{no_state}
use Rattle.terms.specs.Input.{input_verdict}
use Rattle.terms.proofs.Checks.{fair}
use Rattle.terms.proofs.Sound.{sound_table}
use Rattle.terms.specs.TableResult.{TableResult}
use Rattle.table_bytes.specs.Reading.{Read, read, stop, next, read_as, number_read, items_read, read_table}
use Rattle.table_bytes.proofs.Accepted.{stop_read, next_open, read_same}
use Rattle.reads.specs.Reads.{counts_read, start_read, state_read, begun}
use Rattle.listing.specs.Listing.{Step, more, last, slot_output, slot_step, step, headed, first_step, texts, listing}
use Rattle.lines.specs.Lines.{header, refused_line}
use Rattle.in_a_row.specs.InARow.{InARow, PrintsListing, ComesToAnEnd, TooLong}
use Rattle.reads.proofs.Counting.{count}

-- ---- how many bytes are left

-- a number takes a byte at least
number_shorter : (bytes : List ℕ) (x : ℕ) (rest : List ℕ) → number_read bytes ≡ read x rest → suc (length rest) ≤ length bytes
number_shorter bytes x rest e = told (number_of bytes) refl e where
  told : (n : Reading) → number_of bytes ≡ n → read_as bytes n ≡ read x rest → suc (length rest) ≤ length bytes
  told (Number y taken) f g =
      let same = (read_same y x (drop taken bytes) rest g).1 in
      let least = number_some bytes y taken f in
      let most : taken ≤ length bytes = rw f at (number_takes bytes) in
      omega (arith, least, most, sym (length-drop taken bytes) ∙ ap length same)
  told Ended f g = stop_read g
  told Malformed f g = stop_read g

-- and each count one
items_shorter : (n p : ℕ) (bytes : List ℕ) (counts rest : List ℕ) → items_read count n p bytes ≡ read counts rest → n + length rest ≤ length bytes
unfolding items_read
items_shorter zero p bytes counts rest e = let same = (read_same [] counts bytes rest e).1 in omega (arith, ap length same)
items_shorter (suc n) p bytes counts rest e =
    let one = next_open (number_read bytes) _ counts rest e in
    let others = next_open (items_read count n (suc p) one.left) _ counts rest one.second in
    let same = (read_same _ counts others.left rest others.second).1 in
    omega (arith, number_shorter bytes one.value one.left one.first, items_shorter n (suc p) one.left others.value others.left others.first, ap length same)

-- ---- how many steps follow

-- at most so many
abbrev pub follows : Step → ℕ
follows (more text s rest) = suc (length rest)
follows (last text s) = 0

output_leaves : (s : State) (answer : Answer) (after : State) (rest : List ℕ) → follows (slot_output s answer after rest) ≤ suc (length rest)
unfolding slot_output
output_leaves s answer after rest = grind arith

slot_leaves : (limit : ℕ) (s : State) (bytes : List ℕ) → 1 ≤ s.table.count → follows (slot_step limit s (counts_read s.table.count bytes)) ≤ length bytes
unfolding slot_step
slot_leaves limit s bytes some = grind (arith, output_leaves, items_shorter)

-- a sound table has a place
count_some : (limit : ℕ) (s : State) → sound limit s ≡ true → 1 ≤ s.table.count
count_some limit s e = (fair limit s.table (sound_table limit s e)).count_least

pub step_leaves : (limit : ℕ) (s : State) (rest : List ℕ) → follows (step limit s rest) ≤ length rest
unfolding step
step_leaves limit s rest = grind (arith, slot_leaves, count_some)

-- ---- the first step

start_leaves : (limit : ℕ) (r : TableResult) (rest : List ℕ) → follows (headed limit (start_read limit r rest)) ≤ suc (length rest)
unfolding start_read headed
start_leaves limit r rest = grind arith

table_leaves : (limit : ℕ) (input : List ℕ) → follows (headed limit (state_read limit input)) ≤ length input
unfolding state_read headed next
table_leaves limit input = told (number_read input) refl where
  told : (r : Read ℕ) → number_read input ≡ r
      → follows (headed limit (next r λ size rest. pick (leb size (length rest)) (start_read limit (read_table limit (take size rest)) (drop size rest)) (stop (refusal 8)))) ≤ length input
  told (read size rest) e = by_size (leb size (length rest)) where
    by_size : (fits : Bool) → follows (headed limit (pick fits (start_read limit (read_table limit (take size rest)) (drop size rest)) (stop (refusal 8)))) ≤ length input
    by_size true = omega (arith, start_leaves limit (read_table limit (take size rest)) (drop size rest), number_shorter input size rest e, length-drop size rest)
    by_size false = omega arith
  told (stop why) e = omega arith

-- so what the first step leaves is shorter than the input
pub first_leaves : (limit : ℕ) (input : List ℕ) → follows (first_step limit input) ≤ length input
unfolding first_step begun headed
first_leaves limit input = grind (arith, table_leaves)

-- ---- in a row

few_follow : (limit follow : ℕ) (t : Step) (printed : List ℕ) → InARow limit follow t printed → follow ≤ follows t
few_follow limit zero t printed row = omega arith
few_follow limit (suc follow) (last text s) printed row = absurd row
few_follow limit (suc follow) (more text s rest) printed row = omega (arith, few_follow limit follow (step limit s rest) row.0 row.1.0, step_leaves limit s rest)

one_row : (limit follow most : ℕ) (t : Step) (printed : List ℕ) → InARow limit follow t printed → follow ≤ most → printed ≡ texts limit most t
unfolding texts
one_row limit zero zero (last text s) printed row h = row
one_row limit zero (suc most) (last text s) printed row h = row
one_row limit zero most (more text s rest) printed row h = absurd row
one_row limit (suc follow) most (last text s) printed row h = absurd row
one_row limit (suc follow) zero (more text s rest) printed row h = absurd (omega arith)
one_row limit (suc follow) (suc most) (more text s rest) printed row h =
    row.1.1 ∙ ap (λ l. text ++ l) (one_row limit follow most (step limit s rest) row.0 row.1.0 (omega arith))

pub prints_listing : PrintsListing
unfolding listing
prints_listing limit input follow printed row =
    one_row limit follow (length input) (first_step limit input) printed row
    (omega (arith, few_follow limit follow (first_step limit input) printed row, first_leaves limit input))

ending : (limit most : ℕ) (t : Step) → follows t ≤ most → (follow : ℕ) × ((follow ≤ most) × InARow limit follow t (texts limit most t))
unfolding texts
ending limit zero (last text s) h = (0, (omega arith, refl))
ending limit zero (more text s rest) h = absurd (omega arith)
ending limit (suc most) (last text s) h = (0, (omega arith, refl))
ending limit (suc most) (more text s rest) h =
    let others = ending limit most (step limit s rest) (omega (arith, step_leaves limit s rest)) in
    (suc others.0, (omega (arith, others.1.0), (texts limit most (step limit s rest), (others.1.1, refl))))

pub comes_to_an_end : ComesToAnEnd
unfolding listing
comes_to_an_end limit input = ending limit (length input) (first_step limit input) (first_leaves limit input)

pub too_long : TooLong
unfolding listing first_step headed begun input_verdict gate
too_long limit input h = rw (lt-leb (length input) max_input h) (last_text (length input)) where
  last_text : (follow : ℕ) → texts limit follow (last (header ++ refused_line (refusal 13)) (no_state limit)) ≡ header ++ refused_line (refusal 13)
  last_text follow = sym (one_row limit 0 follow (last (header ++ refused_line (refusal 13)) (no_state limit)) (header ++ refused_line (refusal 13)) refl (omega arith))
