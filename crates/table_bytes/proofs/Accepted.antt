-- What a reading that is not refused says of its bytes: what was read passes its checks, and its numbers' bytes stand in front of the
-- rest. Assumes nothing.
use Rattle.std.proofs.Common.{◌≡◌, refl, ap, sym, subst, ◌∙◌, List, [], ◌∷◌, ◌++◌, append-nil, append_assoc, ℕ, zero, suc, ◌<◌, arith, length, get_or, drop}
use Rattle.lists.specs.Sums.{joined}
use Rattle.lists.specs.Overwriting.{written_over}
use Rattle.lists.proofs.Sums.{joined_append}
use Rattle.groups.specs.Groups as number
use Rattle.groups.specs.Groups.{Number, Ended, Malformed, number_of, number_bytes}
use Rattle.groups.specs.Inverse.{Bytes, Form}
use Rattle.groups.proofs.Inverse.{one_form}
use Rattle.terms.specs.declared.refusals.Refusal.{Refusal}
use Rattle.terms.specs.declared.place.Requestor.{Requestor}
use Rattle.terms.specs.Table.{row_numbers, Bounds, rate_bounds, burst_bounds, need_bounds, within_bounds, held_to, fields_verdict, offered_row_verdict, need_fits_verdict, each_place}
use Rattle.terms.specs.Refusals.{Verdict, faultless, fault, then}
use Rattle.table_bytes.specs.Reading.{Read, read, stop, next, read_as, checked_read, field_read, items_read, row_fields_read, row_read, rows_read}

-- ---- what comes next has something to be read from

pub stop_read : {X Y : Type 0} {why : Refusal} {x : X} {rest : List ℕ} → stop why ≡ read x rest → Y
stop_read e = let z : ◌≡◌ {A = ℕ} 0 1 = cc in absurd (omega arith)

pub record Next {X Y : Type 0} (r : Read X) (more : X → List ℕ → Read Y) (y : Y) (rest : List ℕ) : Type 0 where
  pub value : X
  pub left : List ℕ
  pub first : r ≡ read value left
  pub second : more value left ≡ read y rest

pub next_open : {X Y : Type 0} (r : Read X) (more : X → List ℕ → Read Y) (y : Y) (rest : List ℕ) → next r more ≡ read y rest → Next r more y rest
unfolding next
next_open (read x left) more y rest e = record { value = x; left = left; first = refl; second = e }
next_open (stop why) more y rest e = stop_read e

pub read_same : {X : Type 0} (x y : X) (left rest : List ℕ) → read x left ≡ read y rest → (x ≡ y) × (left ≡ rest)
read_same x y left rest e = let value : x ≡ y = cc in let same : left ≡ rest = cc in (value, same)

-- what holds of a reading holds of the same reading
moved : {X : Type 0} (P : X → List ℕ → Type 0) (x y : X) (left rest : List ℕ) → read x left ≡ read y rest → P x left → P y rest
moved P x y left rest e holds =
    let same = read_same x y left rest e in
    subst (P y) same.1 (subst (λ z. P z left) same.0 holds)

-- ---- a number

pub record Field (b : Bounds) (bytes : List ℕ) (x : ℕ) (rest : List ℕ) : Type 0 where
  pub held : held_to b x ≡ faultless
  pub taken : ℕ
  pub number : number_of bytes ≡ Number x taken
  pub behind : drop taken bytes ≡ rest

-- what was read passed its check
checked : {X : Type 0} (v : Verdict) (x y : X) (left rest : List ℕ) → checked_read v x left ≡ read y rest → (v ≡ faultless) × ((x ≡ y) × (left ≡ rest))
checked faultless x y left rest e = (refl, read_same x y left rest e)
checked (fault why) x y left rest e = stop_read e

pub field_open : (b : Bounds) (bytes : List ℕ) (x : ℕ) (rest : List ℕ) → field_read b bytes ≡ read x rest → Field b bytes x rest
unfolding field_read
field_open b bytes x rest e = told (number_of bytes) refl (next_open (read_as bytes (number_of bytes)) _ x rest e) where
  told : (n : number.Reading) → number_of bytes ≡ n → Next (read_as bytes n) (λ y l. checked_read (held_to b y) y l) x rest → Field b bytes x rest
  told (Number y taken) f step =
      let one = read_same y step.value (drop taken bytes) step.left step.first in
      let two = checked (held_to b step.value) step.value x step.left rest step.second in
      record { held = rw two.1.0 at two.0; taken = taken; number = f ∙ ap (λ z. Number z taken) (one.0 ∙ two.1.0); behind = one.1 ∙ two.1.1 }
  told Ended f step = stop_read step.first
  told Malformed f step = stop_read step.first

-- a number that was read is within its bounds
pub field_held : (b : Bounds) (bytes : List ℕ) (x : ℕ) (rest : List ℕ) → field_read b bytes ≡ read x rest → held_to b x ≡ faultless
field_held b bytes x rest e = (field_open b bytes x rest e).held

-- ---- bytes

-- what stands behind some bytes are bytes
bytes_behind : (front rest bytes : List ℕ) → bytes ≡ front ++ rest → Bytes bytes → Bytes rest
bytes_behind [] rest bytes e all = rw e at all
bytes_behind (x ∷ front) rest bytes e all = bytes_behind front rest (front ++ rest) refl (λ i. tail i)
  where
    tail : (i : ℕ) → get_or (front ++ rest) i 0 < 256
    tail i = rw e at (all (suc i))

-- the bytes of some numbers stand in front of the rest
pub record Spent (numbers bytes rest : List ℕ) : Type 0 where
  pub split : Bytes bytes → (bytes ≡ joined number_bytes numbers ++ rest) × Bytes rest

spent_none : (bytes : List ℕ) → Spent [] bytes bytes
unfolding joined
spent_none bytes = record { split = λ all. (refl, all) }

pub spent_more : (xs ys : List ℕ) {bytes left rest : List ℕ} → Spent xs bytes left → Spent ys left rest → Spent (xs ++ ys) bytes rest
spent_more xs ys {bytes} {left} {rest} one two = record { split = λ all. both (one.split all) (two.split (one.split all).1) } where
  both : (bytes ≡ joined number_bytes xs ++ left) × Bytes left → (left ≡ joined number_bytes ys ++ rest) × Bytes rest
      → (bytes ≡ joined number_bytes (xs ++ ys) ++ rest) × Bytes rest
  both a b = (
    a.0 ∙ ap (λ l. joined number_bytes xs ++ l) b.0
        ∙ sym (append_assoc (joined number_bytes xs) (joined number_bytes ys) rest)
        ∙ ap (λ l. l ++ rest) (sym (joined_append number_bytes xs ys)),
    b.1,
  )

pub field_spent : {b : Bounds} {bytes : List ℕ} {x : ℕ} {rest : List ℕ} → Field b bytes x rest → Spent (x ∷ []) bytes rest
unfolding joined written_over
field_spent {b} {bytes} {x} {rest} f = record { split = λ all. told all (one_form bytes x f.taken all f.number) } where
  told : Bytes bytes → Form bytes x f.taken → (bytes ≡ joined number_bytes (x ∷ []) ++ rest) × Bytes rest
  told all form =
      let behind : drop (length (number_bytes x)) bytes ≡ rest = ap (λ n. drop n bytes) (sym form.taken_all) ∙ f.behind in
      let same : bytes ≡ number_bytes x ++ rest = sym form.same ∙ ap (λ l. number_bytes x ++ l) behind in
      (same ∙ ap (λ l. l ++ rest) (sym (append-nil (number_bytes x))), bytes_behind (number_bytes x) rest bytes same all)

-- ---- a row

-- its numbers' bytes stand in front of the rest, and what is checked of it passes
record RowRead (passes : Requestor → Verdict) (bytes : List ℕ) (r : Requestor) (rest : List ℕ) : Type 0 where
  passed : passes r ≡ faultless
  spent : Spent (row_numbers r) bytes rest

row_made : (d p : ℕ) {bytes after-n after-b after-j rest : List ℕ} {n b j l : ℕ} → Field (rate_bounds d p) bytes n after-n
    → Field (burst_bounds d p) after-n b after-b → Field (need_bounds p) after-b j after-j → Field (within_bounds p) after-j l rest
    → RowRead (fields_verdict d p) bytes (record { rate = n; burst = b; need = record { 0 = j }; within = record { 0 = l } }) rest
unfolding fields_verdict then
row_made d p {n = n} {b = b} {j = j} {l = l} rate burst need within = record {
  passed = rw (rate.held, burst.held, need.held, within.held);
  spent =
      spent_more (n ∷ []) (b ∷ j ∷ l ∷ []) (field_spent rate)
      (spent_more (b ∷ []) (j ∷ l ∷ []) (field_spent burst) (spent_more (j ∷ []) (l ∷ []) (field_spent need) (field_spent within)));
}

-- its four numbers
fields_open : (d p : ℕ) (bytes : List ℕ) (r : Requestor) (rest : List ℕ) → row_fields_read d p bytes ≡ read r rest → RowRead (fields_verdict d p) bytes r rest
unfolding row_fields_read
fields_open d p bytes r rest e =
    let n = next_open _ _ r rest e in
    let b = next_open _ _ r rest n.second in
    let j = next_open _ _ r rest b.second in
    let l = next_open _ _ r rest j.second in
    let row =
    row_made d p (field_open (rate_bounds d p) bytes n.value n.left n.first) (field_open (burst_bounds d p) n.left b.value b.left b.first)
    (field_open (need_bounds p) b.left j.value j.left j.first) (field_open (within_bounds p) j.left l.value l.left l.first) in
    moved (RowRead (fields_verdict d p) bytes) _ r _ rest l.second row

-- and 17
row_open : (d p : ℕ) (bytes : List ℕ) (r : Requestor) (rest : List ℕ) → row_read d p bytes ≡ read r rest → RowRead (offered_row_verdict d p) bytes r rest
unfolding row_read offered_row_verdict then
row_open d p bytes r rest e =
    let x = next_open _ _ r rest e in
    let (fits, (same, behind)) = checked (need_fits_verdict d p x.value) x.value r x.left rest x.second in
    let row = fields_open d p bytes x.value x.left x.first in
    let whole : RowRead (offered_row_verdict d p) bytes x.value x.left = record { passed = rw row.passed fits; spent = row.spent } in
    subst (λ l. RowRead (offered_row_verdict d p) bytes r l) behind (subst (λ z. RowRead (offered_row_verdict d p) bytes z x.left) same whole)

-- the row's own limits, which 17 stands on
pub row_limits : (d p : ℕ) (bytes : List ℕ) (r : Requestor) (rest : List ℕ) → row_fields_read d p bytes ≡ read r rest → fields_verdict d p r ≡ faultless
row_limits d p bytes r rest e = (fields_open d p bytes r rest e).passed

-- ---- rows

-- so many, of which each passes what is checked of it
pub record RowsRead (check : ℕ → Requestor → Verdict) (places p : ℕ) (bytes : List ℕ) (rows : List Requestor) (rest : List ℕ) : Type 0 where
  pub passes : each_place check p rows ≡ faultless
  pub count : length rows ≡ places
  pub spent : Spent (joined row_numbers rows) bytes rest

module _ (item : ℕ → List ℕ → Read Requestor) (check : ℕ → Requestor → Verdict)
    (item-open : (p : ℕ) (bytes : List ℕ) (r : Requestor) (rest : List ℕ) → item p bytes ≡ read r rest → RowRead (check p) bytes r rest) where
  rows_more : {places p : ℕ} {bytes left rest : List ℕ} {r : Requestor} {rows : List Requestor} → RowRead (check p) bytes r left → RowsRead check places (suc p) left rows rest
      → RowsRead check (suc places) p bytes (r ∷ rows) rest
  unfolding each_place then joined
  rows_more {places} {p} {bytes} {left} {rest} {r} {rows} one more = record {
    passes = rw one.passed more.passes;
    count = ap suc more.count;
    spent = spent_more (row_numbers r) (joined row_numbers rows) one.spent more.spent;
  }

  items_open : (places p : ℕ) (bytes : List ℕ) (rows : List Requestor) (rest : List ℕ) → items_read item places p bytes ≡ read rows rest → RowsRead check places p bytes rows rest
  unfolding items_read each_place joined
  items_open zero p bytes rows rest e = moved (RowsRead check zero p bytes) [] rows bytes rest e (record { passes = refl; count = refl; spent = spent_none bytes })
  items_open (suc places) p bytes rows rest e =
      let one = next_open (item p bytes) _ rows rest e in
      let more = next_open (items_read item places (suc p) one.left) _ rows rest one.second in
      let all = rows_more (item-open p bytes one.value one.left one.first) (items_open places (suc p) one.left more.value more.left more.first) in
      moved (RowsRead check (suc places) p bytes) (one.value ∷ more.value) rows more.left rest more.second all

pub rows_open : (places d p : ℕ) (bytes : List ℕ) (rows : List Requestor) (rest : List ℕ) → rows_read places d p bytes ≡ read rows rest → RowsRead (offered_row_verdict d) places p bytes rows rest
rows_open places d = items_open (row_read d) (offered_row_verdict d) (row_open d) places

-- without 17
pub fields_rows_open : (places d p : ℕ) (bytes : List ℕ) (rows : List Requestor) (rest : List ℕ) → items_read (row_fields_read d) places p bytes ≡ read rows rest → RowsRead (fields_verdict d) places p bytes rows rest
fields_rows_open places d = items_open (row_fields_read d) (fields_verdict d) (fields_open d) places

-- one place, and those behind it: 17 there, or what is found of these
checked_more : (places d p : ℕ) (bytes : List ℕ) (x : Requestor) (left : List ℕ) (w : Verdict) (xs : List Requestor) (rest : List ℕ) → row_fields_read d p bytes ≡ read x left
    → rows_read places d (suc p) left ≡ checked_read w xs rest → rows_read (suc places) d p bytes ≡ checked_read (then (need_fits_verdict d p x) w) (x ∷ xs) rest
unfolding items_read row_read next then
checked_more places d p bytes x left w xs rest numbers later = rw numbers (by (need_fits_verdict d p x) w later)
  where
    by : (v w : Verdict) → rows_read places d (suc p) left ≡ checked_read w xs rest
        → next (checked_read v x left) (λ y l. next (rows_read places d (suc p) l) λ ys k. read (y ∷ ys) k) ≡ checked_read (then v w) (x ∷ xs) rest
    by (fault r) w f = refl
    by faultless faultless f = rw f
    by faultless (fault r) f = rw f

-- so 17 is all that can then be found of them, at the first place whose need does not fit
pub fields_rows_checked : (places d p : ℕ) (bytes : List ℕ) (rows : List Requestor) (rest : List ℕ) → items_read (row_fields_read d) places p bytes ≡ read rows rest
    → rows_read places d p bytes ≡ checked_read (each_place (need_fits_verdict d) p rows) rows rest
unfolding items_read each_place
fields_rows_checked zero d p bytes rows rest e = moved (λ x l. rows_read zero d p bytes ≡ checked_read (each_place (need_fits_verdict d) p x) x l) [] rows bytes rest e refl
fields_rows_checked (suc places) d p bytes rows rest e =
    let one = next_open (row_fields_read d p bytes) _ rows rest e in
    let more = next_open (items_read (row_fields_read d) places (suc p) one.left) _ rows rest one.second in
    let later = fields_rows_checked places d (suc p) one.left more.value more.left more.first in
    moved (λ x l. rows_read (suc places) d p bytes ≡ checked_read (each_place (need_fits_verdict d) p x) x l) (one.value ∷ more.value) rows more.left rest more.second
    (checked_more places d p bytes one.value one.left _ more.value more.left one.first later)
