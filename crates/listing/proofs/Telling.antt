-- A step's text in the lent buffer: it fits where the longest line does, it stands at the buffer's start, and it is the step's. Assumes
-- nothing.
use Rattle.std.proofs.Common.{◌≡◌, refl, ap, sym, ◌∙◌, true, false, List, [], ◌∷◌, ℕ, Option, Some, None, suc, ◌+◌, ◌*◌, ◌≤◌, arith, le-leb, eq-eqb, length, take, drop, length-take, take_at}
use Rattle.lists.specs.Sums.{joined}
use Rattle.lists.specs.Overwriting.{written_over}
use Rattle.lists.specs.Runs.{Result}
use Rattle.lists.proofs.Sums.{total_most, length_joined}
use Rattle.terms.specs.declared.refusals.Refusal.{Refusal}
use Rattle.terms.specs.Table.{Table}
use Rattle.terms.specs.State.{State, sound, no_account, account_at}
use Rattle.terms.specs.Limits.{max_places}
use Rattle.terms.specs.Refusals.{refusal, gate}
use Rattle.terms.specs.Answers.{Answer, accepted, granted, idle, refused, unless}
use Rattle.terms.proofs.Checks.{fair}
use Rattle.terms.proofs.Sound.{sound_table}
use Rattle.rule.specs.Calls.{Call, post, slot, done, called, rule_verdict}
use Rattle.rule.proofs.Verdicts.{outcome_table}
use Rattle.layout.specs.Words.{word_count, state_of}
use Rattle.admission.specs.Checked.{Counted}
use Rattle.arbiter.proofs.ByValue.{room_full, right_full}
use Rattle.lines.specs.Text.{decimal, spaced, line}
use Rattle.lines.specs.Lines.{header, end_line, refused_line, place_item, credit_items, slot_line}
use Rattle.listing.specs.Listing.{Step, last, posted, post_and_slot, step}
use Rattle.listing.specs.Room.{item_room, line_room, written, in_buffer}
use Rattle.lines.proofs.Digits.{decimal_few}
use Rattle.lines.proofs.Writing.{spaced_credit, credits_all, item_length, two_length, slot_length}

-- ---- every text fits

-- an item with its space
item_few : (n : ℕ) → length (spaced (decimal n)) ≤ item_room
item_few n = omega (arith, item_length (decimal n), decimal_few n)

pub refused_few : (r : Refusal) → length (refused_line r) ≤ 8 + item_room
unfolding refused_line
refused_few r = omega (arith, two_length (114 ∷ 101 ∷ 102 ∷ 117 ∷ 115 ∷ 101 ∷ 100 ∷ []) (decimal r.number), item_few r.number)

pub end_few : (slots : ℕ) → length (end_line slots) ≤ 4 + item_room
unfolding end_line
end_few slots = omega (arith, two_length (101 ∷ 110 ∷ 100 ∷ []) (decimal slots), item_few slots)

pub header_length : length header ≡ 19
unfolding header line joined spaced
header_length = refl

place_few : (g : Option ℕ) → length (spaced (place_item g)) ≤ item_room
place_few None = omega (arith, item_length (45 ∷ []))
place_few (Some p) = item_few p

credits_few : (s : State) → s.table.count ≤ max_places → length (joined spaced (credit_items s)) ≤ max_places * item_room
credits_few s h =
    let n = s.table.count in
    let accounts = take n s.accounts in
    let few = total_most (λ a. length (spaced_credit a)) no_account item_room accounts (λ i l. item_few (account_at i accounts).credit) in
    let count : length accounts ≤ n = simp length-take (omega arith) in
    omega (arith, ap length (credits_all s), length_joined spaced_credit accounts, few, count)

pub slot_few : (stamp : ℕ) (g : Option ℕ) (after : State) → after.table.count ≤ max_places → length (slot_line stamp g after) ≤ line_room max_places
slot_few stamp g after h = omega (arith, slot_length stamp g after, decimal_few stamp, place_few g, credits_few after h)

-- ---- a text at the start of the buffer is the step's

-- what stands in front is the text
pub text_taken : (text old : List ℕ) (k : ℕ) → k ≡ length text → take k (written_over text old) ≡ text
unfolding written_over
text_taken text old k e = take_at text (drop (length text) old) k (sym e)

-- ---- a slot

-- a call keeps the table
called_table : (limit : ℕ) (s : State) (c : Call) → (called limit s c).state.table ≡ s.table
unfolding called
called_table limit s c = outcome_table (gate (refusal 23) (sound limit s) (rule_verdict s c)) s c

unless_table : (t : Table) (one others : Result State Answer) (a : Answer) → one.state.table ≡ t → others.state.table ≡ t
    → (unless a (λ why. one) others).state.table ≡ t
unless_table t one others accepted e f = f
unless_table t one others (granted stamp place) e f = f
unless_table t one others (idle stamp) e f = f
unless_table t one others (refused why) e f = e

posted_table : (limit : ℕ) (s : State) (p : ℕ) (counts : List ℕ) → (posted limit s p counts).state.table ≡ s.table
unfolding posted
posted_table limit s p [] = refl
posted_table limit s p (count ∷ counts) =
    let one = called limit s (post p count) in
    let same = called_table limit s (post p count) in
    unless_table s.table one (posted limit one.state (suc p) counts) one.answer same (posted_table limit one.state (suc p) counts ∙ same)

post_and_slot_table : (limit : ℕ) (s : State) (counts : List ℕ) → (post_and_slot limit s counts).state.table ≡ s.table
unfolding post_and_slot
post_and_slot_table limit s counts =
    let all = posted limit s 0 counts in
    let same = posted_table limit s 0 counts in
    unless_table s.table all (called limit all.state slot) all.answer same (called_table limit all.state slot ∙ same)

-- an arbiter's words have room for its places
pub counted : (words : List ℕ) → length words ≡ word_count max_places → (state_of words).table.count ≤ max_places → Counted max_places words
counted words full few = record { right = right_full words full; count_most = rw (room_full words full) few }

-- N of a sound state
pub sound_few : (s : State) → sound max_places s ≡ true → s.table.count ≤ max_places
sound_few s e = (fair max_places s.table (sound_table max_places s e)).count_most

-- N of the state after its slot
pub post_and_slot_few : (s : State) (counts : List ℕ) (done : Result State Answer) → sound max_places s ≡ true → done ≡ post_and_slot max_places s counts → done.state.table.count ≤ max_places
post_and_slot_few s counts done e d =
    let same : done.state.table.count ≡ s.table.count = ap (λ (r : Result State Answer). r.state.table.count) d ∙ ap (λ t. t.count) (post_and_slot_table max_places s counts) in
    omega (arith, same, sound_few s e)

-- ---- a step

-- with room its text is written
pub with_room : (given : State) {t named : Step} (old : List ℕ) → line_room max_places ≤ length old → t ≡ named → written t old ≡ in_buffer max_places named given old
with_room given {t} {named} old h e = rw (le-leb (line_room max_places) (length old) h, e)

module _ (limit : ℕ) (s : State) (rest : List ℕ) where
  pub step_unsound : sound limit s ≡ false → last (refused_line (refusal 23)) s ≡ step limit s rest
  unfolding step
  step_unsound e = rw e

  pub step_end : sound limit s ≡ true → length rest ≡ 0 → last (end_line s.slot.0) s ≡ step limit s rest
  unfolding step
  step_end e none = rw (e, eq-eqb (length rest) 0 none)
