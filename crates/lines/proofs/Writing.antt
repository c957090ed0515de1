-- Texts put one behind the other at the start of a buffer, and the lines that are made of them. Assumes nothing.
use Rattle.std.proofs.Common.{◌≡◌, refl, ap, sym, ◌∙◌, List, [], ◌∷◌, ◌++◌, map, append-nil, append_assoc, ℕ, Option, suc, ◌+◌, ◌-◌, ◌≤◌, ◌<◌, arith, length, get_or, take, drop, length-append}
use borrow.Rule.Slice.PartMut.{put_mid}
use Rattle.lists.specs.Sums.{joined}
use Rattle.lists.specs.Overwriting.{written_over}
use Rattle.lists.proofs.Sums.{total_take_rises, joined_next, length_joined}
use Rattle.lists.proofs.Putting.{Put, put_none, put_room, put_next, put_whole}
use Rattle.terms.specs.declared.place.Account.{Account}
use Rattle.terms.specs.State.{State, no_account, account_at}
use Rattle.terms.specs.Limits.{max_places}
use Rattle.layout.specs.Words.{word_count, room_of_words, account_in, state_of}
use Rattle.layout.proofs.RoundTrip.{words_shaped, account_at_lem}
use Rattle.admission.specs.Checked.{Counted}
use Rattle.admission.proofs.Rows.{count_word, head_there, within_room}
use Rattle.lines.specs.Text.{decimal, spaced, line}
use Rattle.lines.specs.Lines.{place_item, credit_item, credit_items, slot_line}

-- ---- items and lines

pub item_length : (item : List ℕ) → length (spaced item) ≡ suc (length item)
unfolding spaced
item_length item = refl

pub line_length : (first : List ℕ) (others : List (List ℕ)) → length (line first others) ≡ length first + length (joined spaced others) + 1
unfolding line
line_length first others = simp (length-append) (omega arith)

-- a line of two items and more
pub line_text : (first item : List ℕ) (others : List (List ℕ)) → ((first ++ spaced item) ++ joined spaced others) ++ (10 ∷ []) ≡ line first (item ∷ others)
unfolding line joined
line_text first item others = rw (append_assoc first (spaced item) (joined spaced others), append_assoc first (spaced item ++ joined spaced others) (10 ∷ []))

pub line_of_two : (first item : List ℕ) → (first ++ spaced item) ++ (10 ∷ []) ≡ line first (item ∷ [])
unfolding joined
line_of_two first item = ap (λ l. l ++ (10 ∷ [])) (sym (append-nil (first ++ spaced item))) ∙ line_text first item []

pub two_length : (first item : List ℕ) → length (line first (item ∷ [])) ≡ length first + length (spaced item) + 1
two_length first item = ap length (sym (line_of_two first item)) ∙ simp length-append (omega arith)

pub more_length : (first item : List ℕ) (others : List (List ℕ)) → length (line first (item ∷ others)) ≡ length first + length (spaced item) + length (joined spaced others) + 1
more_length first item others = ap length (sym (line_text first item others)) ∙ simp length-append (omega arith)

-- ---- the credits

-- the credit of an account, as an item
abbrev pub spaced_credit : Account → List ℕ
spaced_credit a = spaced (credit_item a)

credits_joined : (accounts : List Account) → joined spaced (map credit_item accounts) ≡ joined spaced_credit accounts
unfolding joined
credits_joined [] = refl
credits_joined (a ∷ accounts) = ap (λ l. spaced_credit a ++ l) (credits_joined accounts)

-- the credits of the first p places of n
abbrev pub credits_to : ℕ → List Account → List ℕ
credits_to p accounts = joined spaced_credit (take p accounts)

pub credits_all : (s : State) → credits_to s.table.count s.accounts ≡ joined spaced (credit_items s)
credits_all s = sym (credits_joined (take s.table.count s.accounts))

pub credits_none : (accounts : List Account) (old : List ℕ) → Put (credits_to 0 accounts) old old 0
unfolding joined
credits_none accounts old = put_none old

-- those of words that have room for their N places
module _ (words : List ℕ) (counted : Counted max_places words) where
  pub words_there : 3 ≤ length words
  words_there = head_there words max_places counted.right

  pub account_there : (p : ℕ) → p < get_or words 1 0 → word_count (p + 1) ≤ length words
  account_there p h = within_room words _ words_there (omega (arith, count_word words, counted.count_most))

  inside : (state_of words).table.count ≤ length (state_of words).accounts
  inside = rw (words_shaped (room_of_words words) words).accounts counted.count_most

  -- put in a buffer that has room for all of them, as far as place p
  module _ (old : List ℕ) (fits : length (joined spaced (credit_items (state_of words))) ≤ length old) (p : ℕ) (h : p < get_or words 1 0) {a : Account} (same : a ≡ account_in words p)
      {buffer : List ℕ} {at : ℕ} (sofar : Put (credits_to p (state_of words).accounts) old buffer at) where
    below : p < (state_of words).table.count
    below = omega (arith, count_word words)

    here : account_at p (state_of words).accounts ≡ a
    here = account_at_lem (room_of_words words) words p (omega (arith, below, counted.count_most)) ∙ sym same

    next : credits_to (p + 1) (state_of words).accounts ≡ credits_to p (state_of words).accounts ++ spaced_credit a
    next = joined_next spaced_credit no_account (state_of words).accounts p (omega (arith, below, inside)) ∙ ap (λ x. credits_to p (state_of words).accounts ++ spaced_credit x) here

    -- there is room for one more
    fit : length (credits_to p (state_of words).accounts) + length (spaced_credit a) ≤ length old
    fit =
        let accounts = (state_of words).accounts in
        let n = (state_of words).table.count in
        let rises = total_take_rises (λ x. length (spaced_credit x)) (p + 1) n accounts (omega (arith, below)) in
        omega (arith, ap length (credits_all (state_of words)), ap length next, length-append (credits_to p accounts) (spaced_credit a), length_joined spaced_credit (take (p + 1) accounts), length_joined spaced_credit (take n accounts), rises)

    pub credit_room : length (spaced_credit a) ≤ length (take (length buffer - at) (drop at buffer))
    credit_room = put_room sofar (spaced_credit a) fit

    pub credit_next : {wrote : ℕ} {part : List ℕ} → (wrote ≡ length (spaced_credit a)) × (part ≡ written_over (spaced_credit a) (take (length buffer - at) (drop at buffer)))
        → Put (credits_to (p + 1) (state_of words).accounts) old (put_mid at (length buffer - at) buffer part) (at + wrote)
    credit_next e = rw next (put_next sofar (spaced_credit a) fit e)

  -- and as far as N
  pub credits_put : {old buffer : List ℕ} {p at : ℕ} → p ≡ get_or words 1 0 → Put (credits_to p (state_of words).accounts) old buffer at
      → (at ≡ length (joined spaced (credit_items (state_of words)))) × (buffer ≡ written_over (joined spaced (credit_items (state_of words))) old)
  credits_put e sofar = put_whole sofar (ap (λ k. credits_to k (state_of words).accounts) (e ∙ count_word words) ∙ credits_all (state_of words))

-- ---- the line of a slot

module _ (stamp : ℕ) (g : Option ℕ) (after : State) where
  pub slot_text : ((decimal stamp ++ spaced (place_item g)) ++ joined spaced (credit_items after)) ++ (10 ∷ []) ≡ slot_line stamp g after
  unfolding slot_line
  slot_text = line_text (decimal stamp) (place_item g) (credit_items after)

  pub slot_length : length (slot_line stamp g after) ≡ length (decimal stamp) + length (spaced (place_item g)) + length (joined spaced (credit_items after)) + 1
  unfolding slot_line
  slot_length = more_length (decimal stamp) (place_item g) (credit_items after)

  -- a buffer with room for it has room for its parts
  pub slot_room : {room : ℕ} → length (slot_line stamp g after) ≤ room
      → length (decimal stamp) + length (spaced (place_item g)) + length (joined spaced (credit_items after)) + 1 ≤ room
  slot_room fits = rw slot_length at fits
