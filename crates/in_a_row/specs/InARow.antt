-- The steps' texts in a row are the listing of clauses 14.1 to 14.3: whoever prints the first step's text, then takes step after step from
-- the state and the rest that the one before handed on, and prints each text until the last, has printed it. And the last one comes
-- (clause 14.5).
use Rattle.std.specs.Prelude.{◌≡◌, List, ◌++◌, ℕ, zero, suc, ◌≤◌, ◌<◌, length}
use Rattle.terms.specs.Limits.{max_input}
use Rattle.terms.specs.Refusals.{refusal}
use Rattle.lines.specs.Lines.{header, refused_line}
use Rattle.listing.specs.Listing.{Step, more, last, step, first_step, listing}

-- the texts of a step and of exactly `follow` steps after it, the last of which is last, in a row
abbrev pub InARow : ℕ → (follow : ℕ) → Step → (printed : List ℕ) → Type 0
InARow limit zero (last text s) printed = printed ≡ text
InARow limit zero (more text s rest) printed = ⊥
InARow limit (suc follow) (last text s) printed = ⊥
InARow limit (suc follow) (more text s rest) printed =
    (others : List ℕ) × (InARow limit follow (step limit s rest) others × (printed ≡ text ++ others))

-- clause 14.2: these lines and no others
abbrev pub PrintsListing : Type 0
PrintsListing =
    (limit : ℕ) (input : List ℕ) (follow : ℕ) (printed : List ℕ)
    → InARow limit follow (first_step limit input) printed → printed ≡ listing limit input

-- clause 14.2: there is a last line
abbrev pub ComesToAnEnd : Type 0
ComesToAnEnd =
    (limit : ℕ) (input : List ℕ)
    → (follow : ℕ) × ((follow ≤ length input) × InARow limit follow (first_step limit input) (listing limit input))

-- Clause 13.15: of an input that is too long no more than that is looked at, so a program need read only one byte more than 65,536.
abbrev pub TooLong : Type 0
TooLong = (limit : ℕ) (input : List ℕ) → max_input < length input → listing limit input ≡ header ++ refused_line (refusal 13)
