-- A walk over the places of words, in which the first p had their turn, and the rest is to come. Assumes nothing.
use Rattle.std.proofs.Common.{◌≡◌, refl, ap, sym, ◌∙◌, Bool, true, false, List, [], ◌∷◌, ◌++◌, append_assoc, ℕ, suc, ◌+◌, ◌≤◌, ◌<◌, ◌^◌, add-one, arith, length, get_or, set, take, drop, drop-cons, drop_of_length-le, take-append-drop, get_or-take, length-take-le, Option, Some, None}
use Rattle.std.proofs.lemmas.List.{take_more_set, drop-set-lt}
use Rattle.terms.specs.declared.place.Requestor.{Requestor}
use Rattle.terms.specs.declared.place.Account.{Account}
use Rattle.terms.specs.State.{credit, no_account, account_at}
use Rattle.terms.specs.Table.{rate, no_requestor, requestor_at}
use Rattle.rule.specs.Rule.{eligible, first_eligible, later, served, passed, after}
use Rattle.rule.proofs.Head.{slotted, slotted_no_place, head_granted, head_passed}
use Rattle.layout.specs.Words.{word_count, room_of_words, row_in, account_in, words_state, state_of, put_account, with_accounts}
use Rattle.layout.proofs.RoundTrip.{words_shaped, row_at, account_at_lem}
use Rattle.layout.proofs.Stores.{put_account_lem, put_others, put_length, same_room}
use Rattle.walk.specs.Walk.{Roomy, grant_among, slot_among}

-- what a rule makes of rows and accounts
abbrev Turns : Type 0
Turns = List Requestor → List Account → List Account

-- one place's turn: of what is to come from place p on, its account comes first
turn : (rest behind : Turns) (rows : List Requestor) (accounts : List Account) (p : ℕ) (next : Account) → p < length rows → p < length accounts
    → ((rs : List Requestor) (more : List Account) → rest (requestor_at p rows ∷ rs) (account_at p accounts ∷ more) ≡ next ∷ behind rs more)
    → take (p + 1) (set accounts p next) ++ behind (drop (p + 1) rows) (drop (p + 1) (set accounts p next)) ≡ take p accounts ++ rest (drop p rows) (drop p accounts)
turn rest behind rows accounts p next h k e =
    rw (take_more_set accounts p next k, drop-set-lt (p + 1) accounts p next (omega arith), append_assoc, add-one)
    (rw (drop-cons rows p no_requestor h, drop-cons accounts p no_account k, e) refl)

-- when all had it, nothing is to come
over : (rest : Turns) (rows : List Requestor) (accounts : List Account) (p : ℕ) → length rows ≤ p → ((more : List Account) → rest [] more ≡ more)
    → take p accounts ++ rest (drop p rows) (drop p accounts) ≡ accounts
over rest rows accounts p h e = rw (drop_of_length-le rows h, e) (take-append-drop p accounts)

after_no_place : (d : ℕ) (accounts : List Account) → after d None [] accounts ≡ accounts
unfolding after
after_no_place d accounts = refl

-- a grant among the places from place p on, counted from place 0 on
abbrev from_place : ℕ → Option ℕ → Option ℕ
from_place p None = None
from_place p (Some q) = Some (p + q)

from_none : (g : Option ℕ) → from_place 0 g ≡ g
from_none None = refl
from_none (Some q) = ap Some (omega arith)

from_later : (p : ℕ) (g : Option ℕ) → from_place p (later g) ≡ from_place (suc p) g
unfolding later
from_later p None = refl
from_later p (Some q) = ap Some (omega arith)

-- whom a slot grants that looks from place p on
abbrev granted_from : (d p : ℕ) → List Requestor → List Account → Option ℕ
granted_from d p rows accounts = from_place p (first_eligible d (drop p rows) (drop p accounts))

module _ (d : ℕ) (rows : List Requestor) (accounts : List Account) (p : ℕ) where
  module _ (h : p < length rows) (k : p < length accounts) where
    granted_here : eligible d (requestor_at p rows) (account_at p accounts) ≡ true → Some p ≡ granted_from d p rows accounts
    unfolding first_eligible
    granted_here e = rw (drop-cons rows p no_requestor h, drop-cons accounts p no_account k, e) (ap Some (omega arith))

    granted_later : eligible d (requestor_at p rows) (account_at p accounts) ≡ false → granted_from d (p + 1) rows accounts ≡ granted_from d p rows accounts
    unfolding first_eligible
    granted_later e = rw (add-one, drop-cons rows p no_requestor h, drop-cons accounts p no_account k, e) (sym (from_later p _))

  granted_none : length rows ≤ p → None ≡ granted_from d p rows accounts
  unfolding first_eligible
  granted_none h = rw (drop_of_length-le rows h) refl

module _ (old : List ℕ) (n : ℕ) where
  abbrev rows : List Requestor
  rows = take n (state_of old).table.requestors

  -- the rows stand, and so do the accounts from place p on; what is to come of these makes the whole
  pub record Walked (rest : Turns) (whole : List Account) (words : List ℕ) (p : ℕ) : Type 0 where
    pub length_stands : length words ≡ length old
    pub state : state_of words ≡ with_accounts (state_of old) (state_of words).accounts
    pub left : (q : ℕ) → p ≤ q → account_in words q ≡ account_in old q
    pub to_come : take p (state_of words).accounts ++ rest (drop p rows) (drop p (state_of words).accounts) ≡ whole

  walked_none : (rest : Turns) → Walked rest (rest rows (state_of old).accounts) old 0
  walked_none rest = record { length_stands = refl; state = refl; left = λ q l. refl; to_come = refl }

  module _ (room : Roomy old n) where
    rows_long : length rows ≡ n
    rows_long = length-take-le n (state_of old).table.requestors (omega (arith, (words_shaped (room_of_words old) old).rows, room.most))

    module _ (rest : Turns) (whole : List Account) (words : List ℕ) (p : ℕ) (v : Walked rest whole words p) where
      room_stands : room_of_words words ≡ room_of_words old
      room_stands = same_room old words v.length_stands

      walked_end : n ≤ p → ((more : List Account) → rest [] more ≡ more) → state_of words ≡ with_accounts (state_of old) whole
      walked_end h e = v.state ∙ ap (with_accounts (state_of old)) (sym (over rest rows (state_of words).accounts p (omega (arith, rows_long)) e) ∙ v.to_come)

      walked_over : n ≤ p → ((more : List Account) → rest [] more ≡ more) → (behind : Turns) → ((more : List Account) → behind [] more ≡ more) → Walked behind whole words (p + 1)
      walked_over h e behind f = record {
        length_stands = v.length_stands;
        state = v.state;
        left = λ q l. v.left q (omega arith);
        to_come =
            over behind rows (state_of words).accounts (p + 1) (omega (arith, rows_long)) f
            ∙ sym (over rest rows (state_of words).accounts p (omega (arith, rows_long)) e)
            ∙ v.to_come;
      }

      module _ (h : p < n) where
        inside : p < room_of_words words
        inside = omega (arith, room_stands, room.most)

        row_stands : row_in words p ≡ row_in old p
        row_stands =
            sym (row_at (room_of_words words) words p inside)
            ∙ ap (λ s. get_or s.table.requestors p no_requestor) v.state
            ∙ row_at (room_of_words old) old p (omega (arith, room_stands))

        the_row : requestor_at p rows ≡ row_in words p
        the_row = get_or-take n (state_of old).table.requestors p no_requestor h ∙ row_at (room_of_words old) old p (omega (arith, room_stands)) ∙ sym row_stands

        the_account : account_at p (state_of words).accounts ≡ account_in words p
        the_account = account_at_lem (room_of_words words) words p inside

        old_account : account_at p (state_of old).accounts ≡ account_in words p
        old_account = account_at_lem (room_of_words old) old p (omega (arith, room_stands)) ∙ sym (v.left p (omega arith))

        walked_sum : (account_in words p).credit + (row_in words p).rate < 2 ^ 64
        walked_sum = omega (arith, ap rate row_stands, ap credit (v.left p (omega arith)), room.sums p h)

        walked_more : (behind : Turns) (next : Account)
            → ((rs : List Requestor) (more : List Account) → rest (row_in words p ∷ rs) (account_in words p ∷ more) ≡ next ∷ behind rs more)
            → Walked behind whole (put_account words p next) (p + 1)
        walked_more behind next e =
            let long : length words ≡ word_count (room_of_words words) = omega (arith, room.long, v.length_stands, room_stands) in
            let same = same_room words (put_account words p next) (put_length words p next) in
            let put : state_of (put_account words p next) ≡ with_accounts (state_of words) (set (state_of words).accounts p next) =
            ap (λ k. words_state k (put_account words p next)) same ∙ put_account_lem words p next (room_of_words words) long inside in
            let accounts : (state_of (put_account words p next)).accounts ≡ set (state_of words).accounts p next = ap (λ s. s.accounts) put in
            record {
              length_stands = put_length words p next ∙ v.length_stands;
              state = put ∙ rw (v.state, accounts);
              left = λ q l. put_others words p next q (λ f. omega arith) ∙ v.left q (omega arith);
              to_come = rw accounts (turn rest behind rows (state_of words).accounts p next (omega (arith, rows_long))
                  (omega (arith, (words_shaped (room_of_words words) words).accounts, inside)) (rw (the_row, the_account) e) ∙ v.to_come);
            }

  module _ (d : ℕ) where
    abbrev after_slot : List Account
    after_slot = slotted d rows (state_of old).accounts

    -- no place before p is eligible, and each was passed over
    pub record Searching (words : List ℕ) (p : ℕ) : Type 0 where
      pub below : p ≤ n
      pub walked : Walked (slotted d) after_slot words p
      pub granted_is : granted_from d p rows (state_of old).accounts ≡ grant_among d n (state_of old)

    -- the search is over, and the places before q had their turn
    pub record Passing (granted : Option ℕ) (words : List ℕ) (q : ℕ) : Type 0 where
      pub granted_is : granted ≡ grant_among d n (state_of old)
      pub walked : Walked (after d None) after_slot words q

    pub searching_none : Searching old 0
    searching_none = record { below = omega arith; walked = walked_none (slotted d); granted_is = from_none _ }

    module _ (room : Roomy old n) where
      module _ (words : List ℕ) (p : ℕ) (v : Searching words p) where
        module _ (h : p < n) where
          pub searching_sum : (account_in words p).credit + (row_in words p).rate < 2 ^ 64
          searching_sum = walked_sum room (slotted d) after_slot words p v.walked h

          accounts_long : p < length (state_of old).accounts
          accounts_long = omega (arith, (words_shaped (room_of_words old) old).accounts, room.most)

          test : (b : Bool) → eligible d (row_in words p) (account_in words p) ≡ b → eligible d (requestor_at p rows) (account_at p (state_of old).accounts) ≡ b
          test b e = rw (the_row room (slotted d) after_slot words p v.walked h, old_account room (slotted d) after_slot words p v.walked h) e

          pub searching_more : eligible d (row_in words p) (account_in words p) ≡ false
              → Searching (put_account words p (passed (row_in words p) (account_in words p))) (p + 1)
          searching_more e = record {
            below = omega arith;
            walked = walked_more room (slotted d) after_slot words p v.walked h (slotted d) _ (λ rs more. (head_passed d (row_in words p) rs (account_in words p) more e).slotted_is);
            granted_is = granted_later d rows (state_of old).accounts p (omega (arith, rows_long room)) accounts_long (test false e) ∙ v.granted_is;
          }

          pub served_passing : eligible d (row_in words p) (account_in words p) ≡ true
              → Passing (Some p) (put_account words p (served d (row_in words p) (account_in words p))) (p + 1)
          served_passing e = record {
            granted_is = granted_here d rows (state_of old).accounts p (omega (arith, rows_long room)) accounts_long (test true e) ∙ v.granted_is;
            walked = walked_more room (slotted d) after_slot words p v.walked h (after d None) _ (λ rs more. (head_granted d (row_in words p) rs (account_in words p) more e).slotted_is);
          }

        pub idle_passing : n ≤ p → Passing None words (p + 1)
        idle_passing h = record {
          granted_is = granted_none d rows (state_of old).accounts p (omega (arith, rows_long room)) ∙ v.granted_is;
          walked = walked_over room (slotted d) after_slot words p v.walked h (slotted_no_place d) (after d None) (after_no_place d);
        }

      module _ (granted : Option ℕ) (words : List ℕ) (q : ℕ) (v : Passing granted words q) where
        pub passing_sum : q < n → (account_in words q).credit + (row_in words q).rate < 2 ^ 64
        passing_sum h = walked_sum room (after d None) after_slot words q v.walked h

        pub passing_more : q < n → Passing granted (put_account words q (passed (row_in words q) (account_in words q))) (q + 1)
        unfolding after
        passing_more h = record {
          granted_is = v.granted_is;
          walked = walked_more room (after d None) after_slot words q v.walked h (after d None) _ (λ rs more. refl);
        }

        pub passing_end : n ≤ q → state_of words ≡ slot_among d n granted (state_of old)
        unfolding slotted
        passing_end h = rw v.granted_is (walked_end room (after d None) after_slot words q v.walked h (after_no_place d))

-- what the proof of a walk takes at its calls and at the end
pub ruleset steps = (searching_none, searching_sum, passing_sum, passing_more, passing_end)
