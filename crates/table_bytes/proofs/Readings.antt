-- What the parts of a reading come to, part after part, and what a reading that is not refused has taken. Assumes nothing.
use Rattle.std.proofs.Common.{◌≡◌, refl, ap, sym, ◌∙◌, Result, Ok, Err, List, [], ◌∷◌, ◌++◌, append-nil, append_assoc, ℕ, suc, ◌+◌, ◌-◌, ◌≤◌, ◌<◌, add-one, arith, length, set, replicate, length-append}
use lib.ListN.{length-replicate}
use Rattle.lists.proofs.Overwriting.{stored_behind}
use Rattle.groups.specs.Groups.{Reading, Number, Ended, Malformed, number_of, number_answer}
use Rattle.terms.specs.declared.refusals.InputRefusal.{InputRefusal}
use Rattle.terms.specs.declared.refusals.Cause.TheVariants as cause
use Rattle.terms.specs.declared.refusals.Refusal.{Refusal}
use Rattle.terms.specs.declared.place.Requestor.{Requestor}
use Rattle.terms.specs.Table.{Table, no_requestor, table_of}
use Rattle.terms.specs.Refusals.{refusal_of}
use Rattle.table_bytes.specs.Reading.{Read, read, stop, next, read_as, number_read, items_read, row_read}

-- ---- one number

-- as the code is handed it
abbrev pub handed_read : Result (ℕ × List ℕ) InputRefusal → Read ℕ
handed_read (Ok r) = read r.0 r.1
handed_read (Err i) = stop (refusal_of (cause.Input i))

pub number_handed : (bytes : List ℕ) → number_read bytes ≡ handed_read (number_answer bytes (number_of bytes))
number_handed bytes = by (number_of bytes) where
  by : (n : Reading) → read_as bytes n ≡ handed_read (number_answer bytes n)
  by (Number x taken) = refl
  by Ended = refl
  by Malformed = refl

-- ---- item after item

-- items that are done, ahead of those that are read next
abbrev behind : {X : Type 0} → List X → Read (List X) → Read (List X)
behind done items = next items λ more rest. read (done ++ more) rest

-- the first p items of n are read, and what is left of the bytes comes to the same as all of them
pub record Done {X : Type 0} (item : (place : ℕ) → List ℕ → Read X) (n : ℕ) (bytes : List ℕ) (done : List X) (p : ℕ) (left : List ℕ) : Type 0 where
  pub count : length done ≡ p
  pub within : p ≤ n
  pub same : items_read item n 0 bytes ≡ behind done (items_read item (n - p) p left)

none_behind : {X : Type 0} (items : Read (List X)) → items ≡ behind [] items
unfolding next
none_behind (read items rest) = refl
none_behind (stop why) = refl

-- one item more is done
one_behind : {X : Type 0} (done : List X) (x : X) (items : Read (List X))
    → behind done (next items λ more rest. read (x ∷ more) rest) ≡ behind (done ++ (x ∷ [])) items
unfolding next
one_behind done x (read items rest) = ap (λ l. read l rest) (sym (append_assoc done (x ∷ []) items))
one_behind done x (stop why) = refl

module _ {X : Type 0} (item : (place : ℕ) → List ℕ → Read X) where
  items_next : (items p : ℕ) (left : List ℕ) (x : X) (rest : List ℕ) → item p left ≡ read x rest
      → items_read item (suc items) p left ≡ next (items_read item items (suc p) rest) λ xs l. read (x ∷ xs) l
  unfolding items_read next
  items_next items p left x rest e = rw e

  items_stop : (items p : ℕ) (left : List ℕ) (why : Refusal) → item p left ≡ stop why → items_read item (suc items) p left ≡ stop why
  unfolding items_read next
  items_stop items p left why e = rw e

  pub done_none : (n : ℕ) (bytes : List ℕ) → Done item n bytes [] 0 bytes
  done_none n bytes =
      let all : n - 0 ≡ n = omega arith in
      record { count = refl; within = omega arith; same = rw all (none_behind (items_read item n 0 bytes)) }

module _ {X : Type 0} {item : (place : ℕ) → List ℕ → Read X} {n : ℕ} {bytes : List ℕ} {done : List X} {p : ℕ} {left : List ℕ} (s : Done item n bytes done p left) where
  -- one item more
  pub done_next : (x : X) (rest : List ℕ) → p < n → item p left ≡ read x rest → Done item n bytes (done ++ (x ∷ [])) (p + 1) rest
  done_next x rest h e =
      let fewer : n - p ≡ suc (n - (p + 1)) = omega arith in
      record {
        count = simp length-append (omega (arith, s.count));
        within = omega arith;
        same =
            s.same ∙ rw fewer (ap (behind done) (items_next item (n - (p + 1)) p left x rest e))
            ∙ one_behind done x (items_read item (n - (p + 1)) (suc p) rest)
            ∙ rw (← add-one p);
      }

  pub done_stop : (why : Refusal) → p < n → item p left ≡ stop why → items_read item n 0 bytes ≡ stop why
  unfolding next
  done_stop why h e =
      let fewer : n - p ≡ suc (n - (p + 1)) = omega arith in
      s.same ∙ rw (fewer, items_stop item (n - (p + 1)) p left why e)

  pub done_end : n ≤ p → items_read item n 0 bytes ≡ read done left
  unfolding items_read next
  done_end h =
      let none : n - p ≡ 0 = omega arith in
      s.same ∙ rw none (ap (λ l. read l left) (append-nil done))

-- ---- place after place

-- the first p places of n are read and stand in the table
pub record Sofar (limit d n : ℕ) (bytes : List ℕ) (t : Table) (p : ℕ) (left : List ℕ) : Type 0 where
  pub rows : List Requestor
  pub done : Done (row_read d) n bytes rows p left
  pub table : t ≡ table_of limit d n rows

pub sofar_none : (limit d n : ℕ) (bytes : List ℕ) (t : Table) → t ≡ table_of limit d n [] → Sofar limit d n bytes t 0 bytes
sofar_none limit d n bytes t e = record { rows = []; done = done_none (row_read d) n bytes; table = e }

-- the table with one row more
placed : (limit d n p : ℕ) (rows : List Requestor) (r : Requestor) → length rows ≡ p → p < limit
    → set (table_of limit d n rows).requestors p r ≡ (table_of limit d n (rows ++ (r ∷ []))).requestors
unfolding table_of
placed limit d n p rows r e h = stored_behind rows (replicate limit no_requestor) (r ∷ []) p e (simp length-replicate (omega arith))

-- one place more
pub sofar_next : {limit d n : ℕ} {bytes : List ℕ} {t : Table} {p : ℕ} {left : List ℕ} → Sofar limit d n bytes t p left
    → (r : Requestor) (rest : List ℕ) → p < n → p < limit → row_read d p left ≡ read r rest
    → Sofar limit d n bytes (record { denominator = t.denominator; count = t.count; requestors = set t.requestors p r }) (p + 1) rest
unfolding table_of
sofar_next {limit} {d} {n} {bytes} {t} {p} {left} s r rest h inside e = record {
  rows = s.rows ++ (r ∷ []);
  done = done_next s.done r rest h e;
  table = rw s.table (ap (λ l. record { denominator = d; count = n; requestors = l }) (placed limit d n p s.rows r s.done.count inside));
}
