-- What `replay` writes is what the service bounds speak of. Assumes nothing.
use Rattle.std.proofs.Common.{◌≡◌, refl, ap, sym, ◌∙◌, List, [], ◌∷◌, ◌++◌, append_assoc, ℕ, ◌+◌, ◌*◌, ◌≤◌, arith, length, take, drop, length-drop, take-append-drop, take_at, drop_at, length-take-le}
use Rattle.lists.specs.Sums.{total, joined}
use Rattle.lists.specs.Overwriting.{written_over}
use Rattle.lists.specs.Runs.{Result, end, answers}
use Rattle.lists.proofs.Runs.{length_answers, answers_append}
use Rattle.lists.proofs.Sums.{joined_append}
use Rattle.terms.specs.declared.refusals.Refusal.{Refusal}
use Rattle.terms.specs.Table.{Table}
use Rattle.terms.specs.State.{State}
use Rattle.terms.specs.Answers.{Answer, accepted, granted, idle, refused, answer_of}
use Rattle.terms.specs.Start.{start}
use Rattle.terms.specs.declared.answers.Outcome.{Outcome}
use Rattle.arbiter.specs.declared.state.Arbiter.{Arbiter}
use Rattle.arbiter.specs.ByValue.{held}
use Rattle.rule.specs.Calls.{Call, called}
use Rattle.rule.specs.Grants.{to_place, to_first}
use Rattle.guarantees.specs.Counts.{in_slot, slots_in, grants_to, grants_to_first, Accepted, start_state, state_after, answers_from}
use Rattle.guarantees.proofs.Start.{start_ends}
use Rattle.guarantees.proofs.ServiceBounds.{service_bounds}
use Rattle.replay.specs.Replay.{made_calls, answer_words, words_of, Replayed, calls_from, continued, replay, replayed_of}
use Rattle.replay.proofs.Replays.{length_words}
use Rattle.replayed.specs.Written.{threes, slots_written, grants_written, grants_written_to_first, answers_written, ReplayKeepsServiceBounds, WrittenCounts}

-- ---- the numbers of answers, counted

-- a count of the numbers is a count of the answers
module _ (f : ℕ → ℕ → ℕ → ℕ) where
  one_answer : (a : Answer) (rest : List ℕ) → threes f (answer_words a ++ rest) ≡ threes f (answer_words a) + threes f rest
  unfolding threes answer_words
  one_answer accepted rest = omega arith
  one_answer (granted stamp p) rest = omega arith
  one_answer (idle stamp) rest = omega arith
  one_answer (refused r) rest = omega arith

  counted : (g : Answer → ℕ) → ((a : Answer) → threes f (answer_words a) ≡ g a) → (answered : List Answer) → threes f (words_of answered) ≡ total g answered
  unfolding threes joined total
  counted g same [] = refl
  counted g same (a ∷ answered) = one_answer a (words_of answered) ∙ rw (same a, counted g same answered)

slots_written_lem : (answered : List Answer) → slots_written (words_of answered) ≡ slots_in answered
unfolding threes answer_words
slots_written_lem answered = counted _ _ one answered where
  one : (a : Answer) → slots_written (answer_words a) ≡ in_slot 0 (λ g. 1) a
  one accepted = refl
  one (granted stamp p) = refl
  one (idle stamp) = refl
  one (refused r) = refl

grants_written_lem : (p : ℕ) (answered : List Answer) → grants_written p (words_of answered) ≡ grants_to p answered
unfolding threes answer_words to_place
grants_written_lem p answered = counted _ _ one answered where
  one : (a : Answer) → grants_written p (answer_words a) ≡ in_slot 0 (to_place p) a
  one accepted = refl
  one (granted stamp i) = omega arith
  one (idle stamp) = refl
  one (refused r) = refl

first_written : (k : ℕ) (answered : List Answer) → grants_written_to_first k (words_of answered) ≡ grants_to_first k answered
unfolding threes answer_words to_first
first_written k answered = counted _ _ one answered where
  one : (a : Answer) → grants_written_to_first k (answer_words a) ≡ in_slot 0 (to_first k) a
  one accepted = refl
  one (granted stamp i) = omega arith
  one (idle stamp) = refl
  one (refused r) = refl

-- ---- the answers of a stretch, and their numbers

-- the numbers in the middle of three lists of answers
middle_written : (ahead answered behind : List Answer) (rest : List ℕ) (i m : ℕ) → length ahead ≡ i → length answered ≡ m
    → answers_written i m (words_of (ahead ++ (answered ++ behind)) ++ rest) ≡ words_of answered
middle_written ahead answered behind rest i m e f =
    let split : words_of (ahead ++ (answered ++ behind)) ++ rest ≡ words_of ahead ++ (words_of answered ++ (words_of behind ++ rest)) =
    rw (
      joined_append answer_words ahead (answered ++ behind),
      joined_append answer_words answered behind,
      append_assoc (words_of ahead) (words_of answered ++ words_of behind) rest,
      append_assoc (words_of answered) (words_of behind) rest,
    ) in
    ap (answers_written i m) split
    ∙ ap (take (3 * m)) (drop_at (words_of ahead) (words_of answered ++ (words_of behind ++ rest)) (3 * i) (length_words ahead ∙ ap (λ k. 3 * k) e))
    ∙ take_at (words_of answered) (words_of behind ++ rest) (3 * m) (length_words answered ∙ ap (λ k. 3 * k) f)

module _ (limit : ℕ) (s : State) (made : List Call) (old : List ℕ) (i m : ℕ) (h : i + m ≤ length made) where
  abbrev before : List Call
  before = take i made

  abbrev inside : List Call
  inside = take m (drop i made)

  abbrev behind : List Call
  behind = drop m (drop i made)

  abbrev then_state : State
  then_state = end (called limit) s before

  calls_parted : made ≡ before ++ (inside ++ behind)
  calls_parted = sym (ap (λ l. before ++ l) (take-append-drop m (drop i made)) ∙ take-append-drop i made)

  answered_parted : answers (called limit) s made
      ≡ answers (called limit) s before ++ (answers (called limit) then_state inside ++ answers (called limit) (end (called limit) then_state inside) behind)
  answered_parted =
      ap (answers (called limit) s) calls_parted
      ∙ answers_append (called limit) s before (inside ++ behind)
      ∙ ap (λ l. answers (called limit) s before ++ l) (answers_append (called limit) then_state inside behind)

  -- the numbers of the stretch in the lent answers
  stretch_written : answers_written i m (written_over (words_of (answers (called limit) s made)) old) ≡ words_of (answers (called limit) then_state inside)
  unfolding written_over
  stretch_written =
      let ahead-long : length (answers (called limit) s before) ≡ i = length_answers (called limit) s before ∙ length-take-le i made (omega arith) in
      let inside-long : length (answers (called limit) then_state inside) ≡ m =
      length_answers (called limit) then_state inside ∙ length-take-le m (drop i made) (omega (arith, length-drop i made)) in
      ap (λ l. answers_written i m (words_of l ++ drop (length (words_of (answers (called limit) s made))) old)) answered_parted
      ∙ middle_written (answers (called limit) s before) (answers (called limit) then_state inside) _ _ i m ahead-long inside-long

-- ---- from an accepted start

-- what `replay` wrote if it started
record Began (limit : ℕ) (t : Table) (first : ℕ) (calls old words : List ℕ) (state : State) : Type 0 where
  ended : state ≡ state_after limit t first (made_calls calls old)
  start_accepted : Accepted limit t first
  written : words ≡ written_over (words_of (answers (called limit) (start_state limit t first) (made_calls calls old))) old

continued_accepted : (limit : ℕ) (begun : Result State Answer) (calls old : List ℕ) → begun.answer ≡ accepted
    → (continued limit begun calls old).words ≡ written_over (words_of (answers (called limit) begun.state (made_calls calls old))) old
unfolding continued calls_from
continued_accepted limit begun calls old a = rw a

continued_ends : (limit : ℕ) (begun : Result State Answer) (calls old : List ℕ) → begun.answer ≡ accepted
    → (continued limit begun calls old).state ≡ end (called limit) begun.state (made_calls calls old)
unfolding continued calls_from
continued_ends limit begun calls old a = rw a

continued_refused : (limit : ℕ) (begun : Result State Answer) (calls old : List ℕ) (why : Refusal) → begun.answer ≡ refused why
    → (continued limit begun calls old).answer ≡ refused why
unfolding continued
continued_refused limit begun calls old why a = rw a

began : (limit : ℕ) (t : Table) (first : ℕ) (calls old : List ℕ) (r : Outcome Arbiter Unit) (words : List ℕ) → length t.requestors ≡ limit
    → replayed_of r words ≡ replay limit t first calls old → answer_of r.answer ≡ accepted → Began limit t first calls old words (held r.after)
unfolding replay
began limit t first calls old r words rows e a = start_ends limit t first
    (λ ok. record {
      start_accepted = record { rows = rows; answer = ok };
      ended = ap (λ (x : Replayed). x.state) e ∙ continued_ends limit (start limit t first) calls old ok;
      written = ap (λ (x : Replayed). x.words) e ∙ continued_accepted limit (start limit t first) calls old ok;
    })
    (λ why not.
    let told : refused why ≡ accepted = sym (ap (λ (x : Replayed). x.answer) e ∙ continued_refused limit (start limit t first) calls old why not) ∙ a in
    absurd cc)

pub written_counts : WrittenCounts
written_counts answered = (slots_written_lem answered, (λ p. grants_written_lem p answered), (λ k. first_written k answered))

pub replay_keeps_service_bounds : ReplayKeepsServiceBounds
replay_keeps_service_bounds limit t first calls old r words rows e a =
    let b = began limit t first calls old r words rows e a in
    record {
      ends = b.ended ∙ (service_bounds limit t first b.start_accepted (made_calls calls old) []).entered_by_rule;
      stretch = λ i m h.
          let made = made_calls calls old in
          let d = service_bounds limit t first b.start_accepted (take i made) (take m (drop i made)) in
          let answered = answers_from limit (state_after limit t first (take i made)) (take m (drop i made)) in
          let as_written : answers_written i m words ≡ words_of answered = ap (answers_written i m) b.written ∙ stretch_written limit (start_state limit t first) made old i m h in
          record {
            by_rule = as_written ∙ ap words_of d.inside_by_rule;
            ceiling = λ k least most. rw (as_written, slots_written_lem answered, first_written k answered) (d.ceiling k least most);
            floor = λ p place waits enough. rw (as_written, slots_written_lem answered, grants_written_lem p answered) (d.floor p place waits enough);
          };
    }
