-- What the carrying over of an old unit's words comes to, with the old limit and the new one (clauses 11.4 and 11.5). A state's words still
-- have each field where an old one's had it (clause 15.6), so that room for more places is the only difference (Room).
use Rattle.std.specs.Prelude.{◌≡◌, true, false, List, ℕ, ◌-◌}
use Rattle.lists.specs.Runs.{end, answers}
use Rattle.terms.specs.State.{sound}
use Rattle.carrying.specs.Carry.{as_state}
use Rattle.rule.specs.Calls.{Call}
use Rattle.layout.specs.Words.{room_of_words}
use Rattle.carrying.specs.OldWords.{old_room_of, old_state_of}
use Rattle.carrying.specs.Fits.{fits_into}
use Rattle.justrave.specs.Exported.{carried_over}
use Rattle.on_words.specs.Claims.{Buffers, call_on_buffers, Exactly255, Clears}
use Rattle.on_words.specs.Room.{more, Alike}

-- clause 15.3
abbrev pub CarryLengths : Type 0
CarryLengths = (old_most most : ℕ) (old words : List ℕ) → Exactly255 (fits_into old_most most old words) (carried_over old_most most old words).outcome

-- clauses 11.4 and 13.14: where the lengths fit, an old state that breaks a rule is 23
abbrev pub CarryBroken : Type 0
CarryBroken =
    (old_most most : ℕ) (old words : List ℕ) → fits_into old_most most old words ≡ true → sound (old_room_of old) (as_state (old_state_of old)) ≡ false
    → (carried_over old_most most old words).outcome ≡ 23

-- refused, the words are cleared (clause 1.6); 255 leaves them as they were (clause 15.3)
abbrev pub CarryRefused : Type 0
CarryRefused = (old_most most : ℕ) (old words : List ℕ) → Clears words (carried_over old_most most old words)

-- clause 11.5: where they fit and it breaks none, it is accepted; the words are then the old ones with zeros behind, and each call of the
-- new unit on them comes to what the same call on the old ones comes to. The definitions are today's on both sides: a unit that knew no 17
-- wrote a table which the writer now refuses
abbrev pub CarryAccepted : Type 0
CarryAccepted =
    (old_most most : ℕ) (old words : List ℕ) → fits_into old_most most old words ≡ true → sound (old_room_of old) (as_state (old_state_of old)) ≡ true
    → let r = carried_over old_most most old words in
    let extra = room_of_words words - old_room_of old in
    (r.outcome ≡ 0) × (r.words ≡ more extra old) × Alike old_most most extra old

-- so does any list of posts and slots (clause 11.5)
abbrev pub CarriedInARow : Type 0
CarriedInARow =
    (old_most most : ℕ) (old words answer : List ℕ) (calls : List Call) → (carried_over old_most most old words).outcome ≡ 0
    → let kept : Buffers = record { words = old; answer = answer } in
    let over : Buffers = record { words = (carried_over old_most most old words).words; answer = answer } in
    let last = end (call_on_buffers old_most) kept calls in
    (end (call_on_buffers most) over calls ≡ record { words = more (room_of_words words - old_room_of old) last.words; answer = last.answer })
    × (answers (call_on_buffers most) over calls ≡ answers (call_on_buffers old_most) kept calls)
