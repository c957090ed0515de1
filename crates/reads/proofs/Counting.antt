-- The counts of a slot, read one after the other. Assumes nothing.
use Rattle.std.proofs.Common.{◌≡◌, sym, ◌∙◌, List, ℕ, ◌+◌, ◌≤◌, ◌<◌, arith, length, length-set, take, set}
use Rattle.std.proofs.lemmas.List.{take_more_set}
use Rattle.terms.specs.Limits.{max_places}
use Rattle.terms.specs.declared.refusals.Refusal.{Refusal}
use Rattle.table_bytes.specs.Reading.{Read, read, stop, number_read}
use Rattle.table_bytes.proofs.Readings.{Done, done_none, done_next, done_stop, done_end}
use Rattle.reads.specs.Reads.{counts_read}

-- a count is a number, whatever its place
abbrev pub count : (place : ℕ) → List ℕ → Read ℕ
count p bytes = number_read bytes

-- the first p counts of n are read and stand in front of the array, and what is left of the bytes comes to the same as all of them
pub record Counting (n : ℕ) (bytes counts : List ℕ) (p : ℕ) (left : List ℕ) : Type 0 where
  pub room : length counts ≡ max_places
  pub done : Done count n bytes (take p counts) p left

pub counting_none : (n : ℕ) (bytes counts : List ℕ) → length counts ≡ max_places → Counting n bytes counts 0 bytes
counting_none n bytes counts room = record { room = room; done = done_none count n bytes }

module _ {n : ℕ} {bytes counts : List ℕ} {p : ℕ} {left : List ℕ} (s : Counting n bytes counts p left) where
  -- one count more
  pub counting_next : (x : ℕ) (rest : List ℕ) → p < n → n ≤ max_places → number_read left ≡ read x rest → Counting n bytes (set counts p x) (p + 1) rest
  counting_next x rest h few e = record {
    room = length-set counts p x ∙ s.room;
    done = rw (take_more_set counts p x (omega (arith, s.room))) (done_next s.done x rest h e);
  }

  pub counting_stop : (why : Refusal) → p < n → number_read left ≡ stop why → stop why ≡ counts_read n bytes
  counting_stop why h e = sym (done_stop s.done why h e)

  pub counting_end : p ≡ n → read (take n counts) left ≡ counts_read n bytes
  counting_end e = rw e at (sym (done_end s.done (omega arith)))
