-- The bytes of a list's numbers: counted, and written one number behind the other. Assumes nothing.
use Rattle.std.proofs.Common.{◌≡◌, refl, ap, ◌∙◌, List, [], ◌∷◌, ℕ, suc, ◌+◌, ◌-◌, ◌*◌, ◌≤◌, ◌<◌, arith, length, get_or, take, drop, length-append, take_all, le-leb}
use Rattle.std.specs.List.{sum_by}
use Rattle.std.proofs.lemmas.List.Sums.{sum_by-cons, sum_by-take-le}
use borrow.Rule.Slice.PartMut.{put_mid}
use Rattle.lists.specs.Sums.{joined}
use Rattle.lists.specs.Overwriting.{written_over}
use Rattle.lists.proofs.Sums.{joined_next}
use Rattle.lists.proofs.Putting.{Put, put_none, put_next, put_room}
use Rattle.groups.specs.Groups.{max_later, number_bytes, Filled, number_written}
use Rattle.groups.proofs.Writings.{number_few}

-- how many bytes a number takes
abbrev pub bytes_of : ℕ → ℕ
bytes_of x = length (number_bytes x)

-- the bytes of all numbers are the sum of what each takes
pub bytes_sum : (numbers : List ℕ) → sum_by bytes_of numbers ≡ length (joined number_bytes numbers)
unfolding joined
bytes_sum [] = refl
bytes_sum (x ∷ numbers) = omega (arith, sum_by-cons bytes_of x numbers, bytes_sum numbers, length-append (number_bytes x) (joined number_bytes numbers))

-- which is five to a number at most
pub bytes_few : (numbers : List ℕ) → sum_by bytes_of numbers ≤ length numbers * suc max_later
bytes_few [] = omega arith
bytes_few (x ∷ numbers) = omega (arith, sum_by-cons bytes_of x numbers, number_few x, bytes_few numbers)

-- ---- in a buffer that has room

-- the first i numbers' bytes stand in front of what the buffer held
pub record Written (numbers old buffer : List ℕ) (k i : ℕ) : Type 0 where
  pub within : i ≤ length numbers
  pub put : Put (joined number_bytes (take i numbers)) old buffer k

-- before the first number the buffer is as it was
pub written_none : (numbers old : List ℕ) → Written numbers old old 0 0
unfolding joined
written_none numbers old = record { within = omega arith; put = put_none old }

-- behind the last, the bytes of all of them stand there
pub written_all : {numbers old buffer : List ℕ} {k i : ℕ} → Written numbers old buffer k i → length numbers ≤ i → buffer ≡ written_over (joined number_bytes numbers) old
written_all {numbers} {old} {buffer} {k} {i} w h = w.put.same ∙ ap (λ (l : List ℕ). written_over (joined number_bytes l) old) (take_all i numbers h)

-- one number more, in the part of the buffer that is left
module _ {numbers old buffer : List ℕ} {k i : ℕ} (room : length (joined number_bytes numbers) ≤ length old) (w : Written numbers old buffer k i) (h : i < length numbers) where
  abbrev x : ℕ
  x = get_or numbers i 0

  abbrev part : List ℕ
  part = take (length buffer - k) (drop k buffer)

  fits : length (joined number_bytes (take i numbers)) + bytes_of x ≤ length old
  fits =
      omega (
        arith,
        room,
        ap length (joined_next number_bytes 0 numbers i h),
        length-append (joined number_bytes (take i numbers)) (number_bytes x),
        bytes_sum (take (i + 1) numbers),
        bytes_sum numbers,
        sum_by-take-le bytes_of numbers (i + 1),
      )

  -- there is room for it
  pub written_there : number_written x part ≡ record { wrote = bytes_of x; buffer = written_over (number_bytes x) part }
  unfolding number_written
  written_there = rw (le-leb (bytes_of x) (length part) (put_room w.put (number_bytes x) fits))

  module _ (more : ℕ) (filled : List ℕ) (e : ◌≡◌ {A = Filled} (record { wrote = more; buffer = filled }) (number_written x part)) where
    wrote : more ≡ bytes_of x
    wrote = ap (λ (f : Filled). f.wrote) (e ∙ written_there)

    pub written_next : Written numbers old (put_mid k (length buffer - k) buffer filled) (k + more) (i + 1)
    written_next = record {
      within = omega arith;
      put = rw (joined_next number_bytes 0 numbers i h) (put_next w.put (number_bytes x) fits (wrote, ap (λ (f : Filled). f.buffer) (e ∙ written_there)));
    }

    -- not past the buffer's end
    pub written_inside : k + more ≤ length old
    written_inside = written_next.put.fits
