-- A list of calls made one after the other from numbers: which call comes next, and where its answer goes. Assumes nothing.
use Rattle.std.proofs.Common.{◌≡◌, refl, ap, sym, ◌∙◌, List, [], ◌∷◌, ◌++◌, append_assoc, ℕ, zero, suc, ◌+◌, ◌*◌, ◌/◌, ◌≤◌, ◌<◌, min, add-one, arith, leb-true, leb-false, leb, length, get_or, take, drop, length-append, take-suc, take_all, take_at, drop_at, drop-drop, length-take-le}
use borrow.Rule.Slice.PartMut.{put_mid}
use Rattle.lists.proofs.Tests.{cases}
use Rattle.lists.specs.Sums.{joined}
use Rattle.lists.specs.Overwriting.{written_over}
use Rattle.lists.specs.Runs.{end, answers}
use Rattle.lists.proofs.Sums.{joined_more}
use Rattle.lists.proofs.Runs.{end_more, answers_more, length_answers}
use Rattle.terms.specs.Answers.{Answer, accepted, granted, idle, refused}
use Rattle.terms.specs.State.{State}
use Rattle.rule.specs.Calls.{Call, slot, called}
use Rattle.replay.specs.Replay.{call_of, calls_of, made_calls, answer_words, words_of, after_calls, calls_from}

-- ---- the calls in a list of numbers

-- three numbers to a call
length_calls : (calls : List ℕ) → length (calls_of calls) ≡ length calls / 3
unfolding calls_of
length_calls [] = omega arith
length_calls (what ∷ []) = omega arith
length_calls (what ∷ place ∷ []) = omega arith
length_calls (what ∷ place ∷ count ∷ calls) = omega (arith, length_calls calls)

-- call i stands at 3 * i and the two places after it
call_at : (calls : List ℕ) (i at : ℕ) → at ≡ 3 * i → at + 2 < length calls
    → get_or (calls_of calls) i slot ≡ call_of (get_or calls at 0) (get_or calls (at + 1) 0) (get_or calls (at + 2) 0)
unfolding calls_of
call_at [] i at e h = absurd (omega arith)
call_at (what ∷ []) i at e h = absurd (omega arith)
call_at (what ∷ place ∷ []) i at e h = absurd (omega arith)
call_at (what ∷ place ∷ count ∷ calls) zero at e h = let none : at ≡ 0 = omega arith in rw none
call_at (what ∷ place ∷ count ∷ calls) (suc i) at e h =
    let here : at ≡ suc (suc (suc (3 * i))) = omega arith in
    let next : at + 1 ≡ suc (suc (suc (3 * i + 1))) = omega arith in
    let last : at + 2 ≡ suc (suc (suc (3 * i + 2))) = omega arith in
    rw (next, last, here) (call_at calls i (3 * i) refl (omega arith))

-- the first i + 1 calls are the first i and the one at 3 * i
one_more_call : (calls : List ℕ) (i : ℕ) → i < length calls / 3
    → take (i + 1) (calls_of calls) ≡ take i (calls_of calls) ++ (call_of (get_or calls (3 * i) 0) (get_or calls (3 * i + 1) 0) (get_or calls (3 * i + 2) 0) ∷ [])
one_more_call calls i h =
    let inside : i < length (calls_of calls) = omega (arith, length_calls calls) in
    rw (add-one i, ← call_at calls i (3 * i) refl (omega arith)) (take-suc (calls_of calls) i slot inside)

-- as many calls as there are, or as there is room for, are the calls made
all_made : (calls old : List ℕ) (n : ℕ) → n ≡ min (length calls / 3) (length old / 3) → take n (calls_of calls) ≡ made_calls calls old
unfolding made_calls
all_made calls old n e = cases (leb (length calls / 3) (length old / 3))
    (λ q. let h = leb-true (length calls / 3) (length old / 3) q in
    take_all n (calls_of calls) (omega (arith, length_calls calls)) ∙ sym (take_all (length old / 3) (calls_of calls) (omega (arith, length_calls calls))))
    (λ q. let h = leb-false (length calls / 3) (length old / 3) q in
    let room : n ≡ length old / 3 = omega arith in ap (λ (k : ℕ). take k (calls_of calls)) room)

-- ---- the numbers of the answers

-- three numbers to an answer
length_answer : (a : Answer) → length (answer_words a) ≡ 3
unfolding answer_words
length_answer accepted = refl
length_answer (granted stamp p) = refl
length_answer (idle stamp) = refl
length_answer (refused r) = refl

pub length_words : (answered : List Answer) → length (words_of answered) ≡ 3 * length answered
unfolding joined
length_words [] = refl
length_words (a ∷ answered) = omega (arith, length-append (answer_words a) (words_of answered), length_answer a, length_words answered)

-- n numbers put behind those that are written
put_behind : (words old numbers : List ℕ) (k n : ℕ) → length words ≡ k → length numbers ≡ n
    → put_mid k n (written_over words old) numbers ≡ written_over (words ++ numbers) old
unfolding written_over
put_behind words old numbers k n e f =
    rw (
      take_at words (drop (length words) old) k e,
      drop_at words (drop (length words) old) k e,
      drop-drop n (length words) old,
      length-append words numbers,
      f,
    ) (sym (append_assoc words numbers (drop (length words + n) old)))

-- ---- the loop over the calls

-- Where the loop stands when i calls are made from the state s: the state after them, and their answers in the lent list.
pub record Standing (limit : ℕ) (calls old : List ℕ) (s : State) (words : List ℕ) (state : State) (i : ℕ) : Type 0 where
  pub after : state ≡ end (called limit) s (take i (calls_of calls))
  pub written : words ≡ written_over (words_of (answers (called limit) s (take i (calls_of calls)))) old

module _ (limit : ℕ) (calls old : List ℕ) (s : State) where
  -- no call is made yet
  pub standing_first : Standing limit calls old s old s 0
  unfolding end answers joined written_over
  standing_first = record { after = refl; written = refl }

  -- the numbers of the answers of the first i calls
  length_so_far : (i : ℕ) → i ≤ length calls / 3 → length (words_of (answers (called limit) s (take i (calls_of calls)))) ≡ 3 * i
  length_so_far i h =
      let inside : i ≤ length (calls_of calls) = omega (arith, length_calls calls) in
      let before = take i (calls_of calls) in
      omega (arith, length_words (answers (called limit) s before), length_answers (called limit) s before, length-take-le i (calls_of calls) inside)

  -- one call more, on what its forerunner handed back
  pub standing_more : (words : List ℕ) (state : State) (i : ℕ) → Standing limit calls old s words state i → i < length calls / 3
      → (call : Call) → call ≡ call_of (get_or calls (3 * i) 0) (get_or calls (3 * i + 1) 0) (get_or calls (3 * i + 2) 0)
      → (next : State) (numbers : List ℕ) (n : ℕ) → next ≡ (called limit state call).state → numbers ≡ answer_words (called limit state call).answer → n ≡ 3
      → Standing limit calls old s (put_mid (3 * i) n words numbers) next (i + 1)
  standing_more words state i g h call is next numbers n e f three =
      let before = take i (calls_of calls) in
      let so_far = answers (called limit) s before in
      let here = called limit (end (called limit) s before) call in
      let more : take (i + 1) (calls_of calls) ≡ before ++ (call ∷ []) = rw is (one_more_call calls i h) in
      record {
        after = rw (more, end_more (called limit) s before call, ← g.after) e;
        written =
            rw (g.written, f, g.after, put_behind (words_of so_far) old (answer_words here.answer) (3 * i) n (length_so_far i (omega arith)) (length_answer here.answer ∙ sym three))
            (rw (more, answers_more (called limit) s before call, joined_more answer_words so_far here.answer) refl);
      }

  -- all of them
  pub standing_last : (words : List ℕ) (state : State) (i : ℕ) → Standing limit calls old s words state i → i ≡ min (length calls / 3) (length old / 3)
      → after_calls state words ≡ calls_from limit s calls old
  unfolding calls_from
  standing_last words state i g e = rw (g.after, g.written, all_made calls old i e)
