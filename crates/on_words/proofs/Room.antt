-- Zeros behind words are clear rows and accounts behind the state that the words are, so that room makes no difference. Assumes nothing.
use Rattle.std.proofs.Common.{◌≡◌, refl, ap, sym, ◌∙◌, Bool, true, ◌&&◌, List, [], ◌∷◌, ◌++◌, ℕ, ◌+◌, ◌≤◌, arith, eqb-true, eq-eqb, ne_eqb, eqb, length, length-append}
use borrow.Author.Tests.{eqb-false}
use Rattle.lists.specs.Runs.{Result, end, answers}
use Rattle.lists.proofs.Tests.{cases, and_true}
use Rattle.terms.specs.State.{State, sound, Shaped}
use Rattle.terms.specs.Refusals.{refusal}
use Rattle.terms.specs.Answers.{Answer, refused}
use Rattle.rule.specs.Calls.{Call, post, slot, called}
use Rattle.rule.specs.Log.{run}
use Rattle.terms.specs.Longer.{longer}
use Rattle.terms.proofs.Longer.{longer_shaped, few_places, same_sound, same_figures}
use Rattle.rule.proofs.Longer.{call_shaped, run_shaped, same_call, same_run}
use Rattle.carried_over.proofs.Longer.{same_chain_named, same_look, same_standing, same_lead, same_write}
use Rattle.layout.specs.Words.{state_words, room_of_words, right_length, state_of}
use Rattle.layout.specs.Numbers.{right_numbers, numbers_table}
use Rattle.layout.proofs.RoundTrip.{right, words_shaped, state_written_back, words_read_back, length_state}
use Rattle.layout.proofs.Stores.{same_room, right_stands}
use Rattle.outcomes.specs.Outcomes.{refusal_code}
use Rattle.justrave.specs.Exported.{on_state, posted, slotted, ran, leaves, started, started_of, Figured, figured, chain_output, chained, account_exported, standing_exported, Led, led, Wrote, wrote}
use Rattle.on_words.specs.Claims.{Buffers, call_on_buffers}
use Rattle.on_words.specs.Room.{more, Unless2, stated_more, slotted_more, ran_more, Alike, AnyRoom, AnyRoomInARow}
use Rattle.on_words.proofs.Claims.{numbers_rows, start_shaped, start_of_numbers_shaped}
use Rattle.on_words.proofs.Longer.{longer_words}
use Rattle.on_words.proofs.LongerStart.{made_longer, same_start, same_begun, same_numbers, same_count}

-- ---- the calls on words

module _ (old-most most extra : ℕ) (words : List ℕ) (long : right_length old-most words ≡ true) (enough-room : room_of_words words + extra ≤ most) where
  abbrev room : ℕ
  room = room_of_words words

  abbrev held : State
  held = state_of words

  shape : Shaped room held
  shape = words_shaped room words

  more_words : more extra words ≡ state_words (longer extra held)
  more_words = ap (more extra) (sym (state_written_back old-most words long)) ∙ sym (longer_words room extra held shape)

  read_more : (right_length most (more extra words) ≡ true) × (room_of_words (more extra words) ≡ room + extra) × (state_of (more extra words) ≡ longer extra held)
  read_more =
      let back = words_read_back most (room + extra) (longer extra held) (longer_shaped room extra held shape) (omega (arith, (right old-most words long).some)) enough-room in
      rw more_words (back.0, back.1, rw back.1 back.2)

  -- what f makes of both ends of a call on the words is what the call on the longer ones comes to
  on_more_beside : {X : Type 0} (f : X → X) (beside wide : Bool) (down shut : X) (call roomy : ℕ → State → X) → wide ≡ beside → shut ≡ f down
      → (beside ≡ true → roomy (room + extra) (longer extra held) ≡ f (call room held)) → on_state most (more extra words) wide shut roomy ≡ f (on_state old-most words beside down call)
  unfolding on_state
  on_more_beside f beside wide down shut call roomy same a b =
      rw (read_more.0, read_more.2, read_more.1, long, same) (cases beside (λ q. rw q (b q)) (λ q. rw q a))

  -- where both are lent the same beside the words
  on_more : {X : Type 0} (f : X → X) (beside : Bool) (down shut : X) (call : ℕ → State → X) → shut ≡ f down
      → call (room + extra) (longer extra held) ≡ f (call room held) → on_state most (more extra words) beside shut call ≡ f (on_state old-most words beside down call)
  on_more f beside down shut call a b = on_more_beside f beside beside down shut call call refl a (λ q. b)

  -- as many names, and as many more as there are places more
  same_many : (names past : List ℕ) → length past ≡ extra → eqb (length (names ++ past)) (room_of_words (more extra words)) ≡ eqb (length names) room
  same_many names past more-names = cases (eqb (length names) room)
      (λ q.
      let as_many = eqb-true (length names) room q in
      let wide : length (names ++ past) ≡ room_of_words (more extra words) = omega (arith, length-append names past, read_more.1) in
      eq-eqb (length (names ++ past)) (room_of_words (more extra words)) wide ∙ sym q)
      (λ q.
      let other = eqb-false (length names) room q in
      let apart : length (names ++ past) ≡ room_of_words (more extra words) → ⊥ = λ e. other (omega (arith, length-append names past, read_more.1)) in
      ne_eqb (length (names ++ past)) (room_of_words (more extra words)) apart ∙ sym q)

  -- what a start leaves
  on_leaves : (lengths wide : Bool) (made big : Result State Answer) → wide ≡ lengths → Shaped room made.state
      → (lengths ≡ true → (made.answer ≡ refused (refusal 2) → ⊥) → big ≡ made_longer room extra made) → Unless2 extra (leaves lengths words made) (leaves wide (more extra words) big)
  unfolding leaves refusal_code
  on_leaves lengths wide made big e v same = rw e (cases lengths
      (λ q. rw q (λ h. rw (same q (λ f. h (rw f)), longer_words room extra made.state v)))
      (λ q. rw q (λ h. refl)))

  all_alike : Alike old-most most extra words
  unfolding started started_of posted slotted ran figured chained account_exported standing_exported led wrote
  all_alike = record {
    post = λ p count. on_more (stated_more extra) true _ _ _ refl
        (rw (same_call room extra held shape (post p count), longer_words room extra (called room held (post p count)).state (call_shaped room held (post p count) shape)));
    slot = λ old. on_more (slotted_more extra) (eqb (length old) 2) _ _ _ refl
        (rw (same_call room extra held shape slot, longer_words room extra (called room held slot).state (call_shaped room held slot shape)));
    run = λ log. on_more (ran_more extra) true _ _ _ refl
        (rw (same_run room extra held shape log, longer_words room extra (run room held log).state (run_shaped room held log shape)));
    start = λ bytes first. rw (read_more.1, read_more.0) (on_leaves (right_length old-most words) true _ _ (sym long) (start_shaped room bytes first) (λ q. same_begun room extra bytes first));
    numbers = λ numbers first. rw (read_more.1, read_more.0, same_count room extra numbers) (on_leaves (right_length old-most words && right_numbers room numbers) (right_numbers room numbers) _ _ (rw long) (start_of_numbers_shaped room numbers first)
        (λ q h. rw (same_numbers room extra numbers (and_true (right_length old-most words) _ q).1) (same_start room extra (numbers_table room numbers) (numbers_rows room numbers) first h)));
    figures = λ p j old. on_more (λ (x : Figured). x) (eqb (length old) 2) _ _ _ refl (rw (same_figures room extra held shape p j));
    chain = λ p names past old more-names. on_more_beside (λ (x : Figured). x) (eqb (length old) 1 && eqb (length names) room) _ _ _ _ _ (ap (λ b. eqb (length old) 1 && b) (same_many names past more-names)) refl
        (λ q. ap (chain_output old) (same_chain_named room extra held shape p names past (eqb-true (length names) room (and_true (eqb (length old) 1) _ q).1)));
    account = λ p old. on_more (λ (x : Figured). x) (eqb (length old) 2) _ _ _ refl (rw (same_look room extra held shape p));
    standing = λ old. on_more (λ (x : Figured). x) (eqb (length old) 2) _ _ _ refl (rw (same_standing room extra held shape));
    lead = λ p log old. on_more (λ (x : Led). x) (eqb (length old) 1) _ _ _ refl (rw (same_lead room extra held shape p log));
    write = λ buffer old. on_more (λ (x : Wrote). x) (eqb (length old) 1) _ _ _ refl (cases (sound room held)
        (λ q. rw (same_sound room extra held shape, q, same_write room extra held shape buffer (few_places room extra held shape q)))
        (λ q. rw (same_sound room extra held shape, q)));
  }

pub any_room : AnyRoom
any_room old-most most extra words long few = all_alike old-most most extra words long few

-- ---- in a row

-- a call leaves as many words
module _ (most : ℕ) (buffers : Buffers) (long : right_length most buffers.words ≡ true) where
  abbrev there : ℕ
  there = room_of_words buffers.words

  after_call : (c : Call) → length (state_words (called there (state_of buffers.words) c).state) ≡ length buffers.words
  after_call c = length_state there _ (call_shaped there _ c (words_shaped there buffers.words)) ∙ sym (right most buffers.words long).long

  same_length : (c : Call) → length (call_on_buffers most buffers c).state.words ≡ length buffers.words
  unfolding posted slotted on_state
  same_length (post p count) = cases (right_length most buffers.words && true) (λ q. rw q (after_call (post p count))) (λ q. rw q)
  same_length slot = cases (right_length most buffers.words && eqb (length buffers.answer) 2) (λ q. rw q (after_call slot)) (λ q. rw q)

abbrev roomy : (extra : ℕ) → Buffers → Buffers
roomy extra buffers = record { words = more extra buffers.words; answer = buffers.answer }

one_call : (old-most most extra : ℕ) (buffers : Buffers) (c : Call) → Alike old-most most extra buffers.words
    → call_on_buffers most (roomy extra buffers) c ≡ (let r = call_on_buffers old-most buffers c in record { state = roomy extra r.state; answer = r.answer })
one_call old-most most extra buffers (post p count) same = rw (same.post p count)
one_call old-most most extra buffers slot same = rw (same.slot buffers.answer)

pub any_room_in_a_row : AnyRoomInARow
unfolding end answers
any_room_in_a_row old-most most extra buffers [] long few = (refl, refl)
any_room_in_a_row old-most most extra buffers (c ∷ calls) long few =
    let next = (call_on_buffers old-most buffers c).state in
    let stays = same_length old-most buffers long c in
    let here : room_of_words next.words ≡ room_of_words buffers.words = same_room buffers.words next.words stays in
    let rest = any_room_in_a_row old-most most extra next calls (right_stands old-most buffers.words next.words stays long) (omega (arith, here, few)) in
    let one = one_call old-most most extra buffers c (any_room old-most most extra buffers.words long few) in
    (rw one rest.0, rw one (ap (λ l. (call_on_buffers old-most buffers c).answer ∷ l) rest.1))
