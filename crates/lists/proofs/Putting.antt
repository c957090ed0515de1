-- Texts put one behind the other at the start of a buffer. Assumes nothing.
use Rattle.std.proofs.Common.{◌≡◌, refl, ap, sym, ◌∙◌, List, [], ◌∷◌, ◌++◌, ℕ, ◌+◌, ◌-◌, ◌≤◌, ◌<◌, arith, length, set, take, drop, length-append, length-drop}
use borrow.Rule.Slice.PartMut.{put_mid}
use Rattle.lists.specs.Overwriting.{written_over}
use Rattle.lists.proofs.Overwriting.{stored_behind, length_over, part_behind, written_behind}

-- the text stands at the start of the buffer, and behind it what the buffer held
pub record Put {A : Type 0} (text old buffer : List A) (k : ℕ) : Type 0 where
  pub count : k ≡ length text
  pub fits : k ≤ length old
  pub same : buffer ≡ written_over text old

-- the same text by another name
pub put_named : {A : Type 0} (old : List A) {text named buffer : List A} {k : ℕ} → text ≡ named → (k ≡ length text) × (buffer ≡ written_over text old)
    → (k ≡ length named) × (buffer ≡ written_over named old)
put_named old e w = (w.0 ∙ ap length e, w.1 ∙ ap (λ l. written_over l old) e)

pub put_none : {A : Type 0} (old : List A) → Put [] old old 0
unfolding written_over
put_none old = record { count = refl; fits = omega arith; same = refl }

pub put_first : {A : Type 0} {text old buffer : List A} {k : ℕ} → length text ≤ length old → (k ≡ length text) × (buffer ≡ written_over text old) → Put text old buffer k
put_first fits e = record { count = e.0; fits = omega (arith, e.0); same = e.1 }

module _ {A : Type 0} {text old buffer : List A} {k : ℕ} (p : Put text old buffer k) where
  pub put_whole : {named : List A} → text ≡ named → (k ≡ length named) × (buffer ≡ written_over named old)
  put_whole e = put_named old e (p.count, p.same)

  -- the buffer is as long as it was
  pub put_length : length buffer ≡ length old
  put_length = rw p.same (length_over text old (omega (arith, p.count, p.fits)))

  pub put_inside : k ≤ length buffer
  put_inside = omega (arith, put_length, p.fits)

  -- what is left of it
  pub put_left : length (take (length buffer - k) (drop k buffer)) ≡ length old - k
  put_left = rw p.same (rw (part_behind text old k (sym p.count)) (length-drop k old))

  -- one element more
  pub put_byte : (b : A) → k < length old → Put (text ++ (b ∷ [])) old (set buffer k b) (k + 1)
  put_byte b room = record {
    count = simp length-append (omega (arith, p.count));
    fits = omega arith;
    same = rw p.same (stored_behind text old (b ∷ []) k (sym p.count) (omega arith));
  }

  -- another text, put in the part of the buffer that is left
  pub put_next : (more : List A) {wrote : ℕ} {part : List A} → length text + length more ≤ length old
      → (wrote ≡ length more) × (part ≡ written_over more (take (length buffer - k) (drop k buffer)))
      → Put (text ++ more) old (put_mid k (length buffer - k) buffer part) (k + wrote)
  put_next more {wrote} {part} room e = record {
    count = simp length-append (omega (arith, p.count, e.0));
    fits = omega (arith, p.count, e.0);
    same = rw p.same (written_behind text old k (sym p.count) more part (rw p.same at e.1));
  }

  -- it fits in that part
  pub put_room : (more : List A) → length text + length more ≤ length old → length more ≤ length (take (length buffer - k) (drop k buffer))
  put_room more room = rw put_left (omega (arith, p.count))
