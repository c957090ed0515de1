-- The places of a state as items, how many words a state has, and the round trip of a state and its words. Assumes nothing.
use Rattle.std.proofs.Common.{◌≡◌, refl, ap, sym, ◌∙◌, true, List, [], ◌∷◌, ◌++◌, map, append-nil, ℕ, ◌+◌, ◌*◌, ◌≤◌, ◌<◌, arith, length, get_or, drop, drop_of_length-le, drop-cons}
use Rattle.std.proofs.lemmas.Grind.{common_steps}
use Rattle.lists.specs.Sums.{joined}
use Rattle.lists.specs.Pairs.{paired}
use Rattle.lists.specs.Places.{places_from}
use Rattle.lists.proofs.Sums.{length_joined_same}
use Rattle.lists.proofs.Pairs.{length_paired}
use Rattle.terms.specs.declared.place.Requestor.{Requestor}
use Rattle.terms.specs.declared.place.Account.{Account}
use Rattle.terms.specs.State.{State, no_account, Shaped}
use Rattle.terms.specs.Table.{no_requestor}
use Rattle.layout.specs.Words.{place_start, word_count, room_of_words, right_length, head_words, Place, place, place_words, state_words, row_from, account_from, row_in, account_in, words_state}
use Rattle.layout.specs.RoundTrip.{WordsReadBack, WordsShaped, StateWrittenBack}
use Rattle.layout.proofs.Items.{drop_next, rooms_behind, size_open, size_shut, length_places, at_place, map_places, paired_places, Items, written_read, read_written}

-- ---- a place's six words

pub place_read : (x : Place) (front rest : List ℕ) → (let words = front ++ (place_words x ++ rest) in place (row_from words (length front)) (account_from words (length front))) ≡ x
place_read x front rest = grind (arith, common_steps)

pub place_stands : (words : List ℕ) (at : ℕ) → at + 6 ≤ length words → place_words (place (row_from words at) (account_from words at)) ++ drop (at + 6) words ≡ drop at words
place_stands words at h = grind (arith, common_steps, drop_next)

unfoldable pub places : Items Place
places = record {
  width = 6;
  write = place_words;
  read = λ words at. place (row_from words at) (account_from words at);
  at = place_start;
  next = λ p. omega arith;
  wide = λ x. refl;
  read_write = place_read;
  write_read = place_stands;
}

-- ---- how many words

pub length_state : (room : ℕ) (s : State) → Shaped room s → length (state_words s) ≡ word_count room
unfolding state_words
length_state room s v =
    let rs = s.table.requestors in
    let same : length rs ≡ length s.accounts = v.rows ∙ sym v.accounts in
    let items : length (joined place_words (paired place rs s.accounts)) ≡ 6 * length (paired place rs s.accounts) =
    length_joined_same place_words 6 (λ x. refl) (paired place rs s.accounts) in
    omega (arith, items, length_paired place rs s.accounts same, v.rows)

pub room_of : (room : ℕ) (words : List ℕ) → length words ≡ word_count room → room_of_words words ≡ room
unfolding room_of_words
room_of room words long = rooms_behind 3 6 room (length words) (omega arith) long

-- what a right length says, and the other way round
pub record Right (most : ℕ) (words : List ℕ) : Type 0 where
  pub long : length words ≡ word_count (room_of_words words)
  pub some : 1 ≤ room_of_words words
  pub room_most : room_of_words words ≤ most

pub right : (most : ℕ) (words : List ℕ) → right_length most words ≡ true → Right most words
unfolding right_length
right most words e =
    let (long, some, few) = size_open (length words) (word_count (room_of_words words)) (room_of_words words) most e in
    record { long = long; some = some; room_most = few }

pub right_of : (most room : ℕ) (words : List ℕ) → length words ≡ word_count room → 1 ≤ room → room ≤ most → right_length most words ≡ true
unfolding right_length
right_of most room words long some few = rw (room_of room words long) (size_shut (length words) (word_count room) room most long some few)

-- ---- words, read and written

pub written_back : (room : ℕ) (words : List ℕ) → length words ≡ word_count room → state_words (words_state room words) ≡ words
unfolding state_words words_state places
written_back room words long =
    let items = joined place_words (places_from (λ q. place (row_in words q) (account_in words q)) 0 room) in
    let none : drop (word_count room) words ≡ [] = drop_of_length-le words {i = word_count room} (omega arith) in
    let all : items ++ drop (word_count room) words ≡ drop 3 words = read_written places words room (omega arith) in
    let stand : items ≡ drop 3 words = sym (append-nil items) ∙ ap (λ l. items ++ l) (sym none) ∙ all in
    let head : words ≡ get_or words 0 0 ∷ get_or words 1 0 ∷ get_or words 2 0 ∷ drop 3 words =
    drop-cons words 0 0 (omega arith) ∙ ap (λ l. get_or words 0 0 ∷ l) (drop-cons words 1 0 (omega arith) ∙ ap (λ l. get_or words 1 0 ∷ l) (drop-cons words 2 0 (omega arith))) in
    rw (paired_places place (row_in words) (account_in words) 0 room, stand) (sym head)

pub words_shaped : WordsShaped
unfolding words_state
words_shaped room words = record {
  rows = length_places (row_in words) 0 room;
  accounts = length_places (account_in words) 0 room;
}

-- what the state has at a place
pub row_at : (room : ℕ) (words : List ℕ) (p : ℕ) → p < room → get_or (words_state room words).table.requestors p no_requestor ≡ row_in words p
unfolding words_state
row_at room words p h = at_place (row_in words) no_requestor room p h

pub account_at_lem : (room : ℕ) (words : List ℕ) (p : ℕ) → p < room → get_or (words_state room words).accounts p no_account ≡ account_in words p
unfolding words_state
account_at_lem room words p h = at_place (account_in words) no_account room p h

pub state_written_back : StateWrittenBack
state_written_back most words e = written_back (room_of_words words) words (right most words e).long

-- words that are read as a state are its words
pub words_of : (room : ℕ) (words : List ℕ) (s : State) → length words ≡ word_count room → words_state room words ≡ s → words ≡ state_words s
words_of room words s long e = sym (written_back room words long) ∙ ap state_words e

-- ---- a state, written and read

paired_rows : (rs : List Requestor) (accounts : List Account) → length rs ≡ length accounts
    → (map (λ x. x.row) (paired place rs accounts) ≡ rs) × (map (λ x. x.account) (paired place rs accounts) ≡ accounts)
unfolding paired
paired_rows [] [] h = (refl, refl)
paired_rows [] (a ∷ accounts) h = absurd (omega arith)
paired_rows (r ∷ rs) [] h = absurd (omega arith)
paired_rows (r ∷ rs) (a ∷ accounts) h =
    let more = paired_rows rs accounts (omega arith) in
    (ap (λ l. r ∷ l) more.0, ap (λ l. a ∷ l) more.1)

pub read_back : (room : ℕ) (s : State) → Shaped room s → words_state room (state_words s) ≡ s
unfolding state_words words_state places
read_back room s v =
    let words = state_words s in
    let rs = s.table.requestors in
    let same : length rs ≡ length s.accounts = v.rows ∙ sym v.accounts in
    let items = joined place_words (paired place rs s.accounts) in
    let many : length (paired place rs s.accounts) ≡ room = length_paired place rs s.accounts same ∙ v.rows in
    let back : places_from (λ q. place (row_in words q) (account_in words q)) 0 room ≡ paired place rs s.accounts =
    rw many at (written_read places words (paired place rs s.accounts) 0 (head_words s) [] refl (ap (λ l. head_words s ++ l) (sym (append-nil items)))) in
    let parts = paired_rows rs s.accounts same in
    let at : ℕ → Place = λ q. place (row_in words q) (account_in words q) in
    let rows : places_from (row_in words) 0 room ≡ rs = sym (map_places at (λ x. x.row) 0 room) ∙ ap (map (λ x. x.row)) back ∙ parts.0 in
    let accounts : places_from (account_in words) 0 room ≡ s.accounts = sym (map_places at (λ x. x.account) 0 room) ∙ ap (map (λ x. x.account)) back ∙ parts.1 in
    rw (rows, accounts)

pub words_read_back : WordsReadBack
words_read_back most room s v some few =
    let long = length_state room s v in
    (right_of most room (state_words s) long some few, room_of room (state_words s) long, read_back room s v)
