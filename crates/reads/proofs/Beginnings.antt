-- The beginning of the input, check by check. Assumes nothing.
use Rattle.std.proofs.Common.{◌≡◌, refl, ap, ◌∙◌, List, ℕ, ◌-◌, ◌≤◌, ◌<◌, le-leb, length, take, drop}
use borrow.Author.Tests.{lt-leb}
use borrow.Author.Rules.{part_to_end}
use Rattle.lists.specs.Runs.{Result}
use Rattle.terms.specs.Limits.{max_places}
use Rattle.terms.specs.declared.refusals.Refusal.{Refusal}
use Rattle.terms.specs.State.{State}
use Rattle.terms.specs.Refusals.{faultless, fault, refusal}
use Rattle.terms.specs.Answers.{Answer, accepted, granted, idle, refused, unless}
use Rattle.terms.specs.Input.{input_verdict}
use Rattle.terms.specs.TableResult.{TableResult}
use Rattle.table_bytes.specs.Reading.{read, stop, next, number_read, read_table}
use Rattle.layout.specs.Words.{word_count, room_of_words}
use Rattle.arbiter.proofs.ByValue.{room_full}
use Rattle.starts.specs.Starts as starts
use Rattle.reads.specs.Reads.{start_read, state_read, begun}

-- ---- the start

-- what a start from the table's bytes comes to
start_told : (limit : ℕ) (t : TableResult) (rest : List ℕ) (begins : Result State Answer) → begins ≡ starts.begun limit t 0
    → unless begins.answer stop (read begins.state rest) ≡ start_read limit t rest
unfolding starts.begun start_read
start_told limit t rest begins e = by t.answer refl where
  by : (a : Answer) → t.answer ≡ a → unless begins.answer stop (read begins.state rest) ≡ start_read limit t rest
  by accepted f = rw (e, f)
  by (granted stamp p) f = rw (e, f)
  by (idle stamp) f = rw (e, f)
  by (refused why) f = rw (e, f)

-- on words with room for the largest N
pub full_told : (words bytes : List ℕ) → length words ≡ word_count max_places → (begins : Result State Answer)
    → begins ≡ starts.begun (room_of_words words) (read_table (room_of_words words) bytes) 0 → (rest : List ℕ)
    → unless begins.answer stop (read begins.state rest) ≡ start_read max_places (read_table max_places bytes) rest
full_told words bytes full begins e rest =
    start_told max_places (read_table max_places bytes) rest begins (e ∙ ap (λ k. starts.begun k (read_table k bytes) 0) (room_full words full))

-- ---- check by check

module _ (limit : ℕ) (input : List ℕ) where
  -- 13 is ahead of all else
  pub input_refused : (why : Refusal) → input_verdict (length input) ≡ fault why → stop why ≡ begun limit input
  unfolding begun
  input_refused why e = rw e

  module _ (ok : input_verdict (length input) ≡ faultless) where
    pub size_refused : (why : Refusal) → number_read input ≡ stop why → stop why ≡ begun limit input
    unfolding begun state_read next
    size_refused why e = rw (ok, e)

    -- the table's length, and the bytes behind it
    module _ (size : ℕ) (rest : List ℕ) (e : number_read input ≡ read size rest) where
      pub size_passes : length rest < size → stop (refusal 8) ≡ begun limit input
      unfolding begun state_read next
      size_passes h = rw (ok, e, lt-leb size (length rest) h)

      pub table_begins : size ≤ length rest → start_read limit (read_table limit (take size rest)) (take (length rest - size) (drop size rest)) ≡ begun limit input
      unfolding begun state_read next
      table_begins h = rw (ok, e, le-leb size (length rest) h, part_to_end rest size)
