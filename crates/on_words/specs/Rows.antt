-- Worked examples of the calls on lent words (clauses 15.1 to 15.5), with table T and the cases of clauses 16.1 to 16.3, 16.5 and 16.11. A
-- row is a call, and what was lent and the outcome after it; what is not in section 16 was worked out by hand. A state of T is 15 words in
-- room for its 2 places, and 387 in room for the largest N.
use Rattle.std.specs.Prelude.{◌≡◌, List, [], ◌∷◌, ◌++◌, map, ℕ, suc, ◌+◌, ◌-◌, ◌*◌, ℤ, pos, negsuc, replicate}
use Rattle.terms.specs.Limits.{max_places, old_places, max_slot}
use Rattle.layout.specs.Words.{word_count}
use Rattle.justrave.specs.Exported.{size_of, Stated, started, started_of, carried_over, posted, Slotted, slotted, Ran, ran, Figured, figured, chained, account_exported, standing_exported, Led, led, Wrote, wrote, ordered}

-- ---- words

-- T with this n at place 1, in words with this room: D=4, N=2, the slot number; place 0 with n=1, b=8, j=1, L=4, its c and its q; place 1
-- with b=4, j=1, L=7, its c and its q; and zeros
unfoldable pub words_in : (room n slot c q d e : ℕ) → List ℕ
words_in room n slot c q d e =
    4 ∷ 2 ∷ slot
    ∷ 1 ∷ 8 ∷ 1 ∷ 4 ∷ c ∷ q
    ∷ n ∷ 4 ∷ 1 ∷ 7 ∷ d ∷ e
    ∷ replicate (6 * (room - 2)) 0

-- T in words with room for the largest N, at a slot number; c and q of place 0, then of place 1
abbrev pub words_t : (slot c q d e : ℕ) → List ℕ
words_t slot c q d e = words_in max_places 1 slot c q d e

-- T with each credit b and nothing posted; the same from slot 0; and with three posted to each place
abbrev pub fresh_at : (slot : ℕ) → List ℕ
fresh_at slot = words_t slot 8 0 4 0

abbrev pub fresh : List ℕ
fresh = fresh_at 0

abbrev pub three_each : List ℕ
three_each = words_t 0 8 3 4 3

-- T with a rate of two to the power 32, which is above D
abbrev pub wide : List ℕ
wide = words_in max_places 4294967296 0 8 0 4 0

-- words that hold nothing of use
abbrev pub unused : ℕ → List ℕ
unused n = replicate n 90

-- the log of clause 16.3
abbrev pub nine_slots : List ℕ
nine_slots = 0 ∷ 0 ∷ 1 ∷ 0 ∷ 1 ∷ 255 ∷ 255 ∷ 1 ∷ 255 ∷ []

abbrev pub bytes_t : (last : ℕ) → List ℕ
bytes_t last = 4 ∷ 2 ∷ 1 ∷ 8 ∷ 1 ∷ 4 ∷ 1 ∷ 4 ∷ 1 ∷ last ∷ []

-- the table of clause 16.11 with this L at place 1
abbrev pub bytes_five : (within : ℕ) → List ℕ
bytes_five within = 5 ∷ 2 ∷ 1 ∷ 6 ∷ 1 ∷ 5 ∷ 2 ∷ 5 ∷ 1 ∷ within ∷ []

-- T's numbers with this L at place 1, and these past its two places
abbrev pub numbers_t : (within : ℕ) → (past : List ℕ) → List ℕ
numbers_t within past = 4 ∷ 2 ∷ 1 ∷ 8 ∷ 1 ∷ 4 ∷ 1 ∷ 4 ∷ 1 ∷ within ∷ past

-- the numbers past T's two places
abbrev pub past_t : ℕ
past_t = 4 * (max_places - 2)

-- ---- rows

pub data After : Type 0 where
  stated_as : Stated → After
  slotted_as : Slotted → After
  ran_as : Ran → After
  figured_as : Figured → After
  led_as : Led → After
  wrote_as : Wrote → After

pub record Row : Type 0 where
  pub query : After
  pub written : After

abbrev pub starting : (bytes : List ℕ) (first : ℕ) (words : List ℕ) → (after : List ℕ) (outcome : ℕ) → Row
starting bytes first words after o = record {
  query = stated_as (started max_places bytes first words);
  written = stated_as (record { words = after; outcome = o });
}

abbrev pub numbering : (numbers : List ℕ) (first : ℕ) (words : List ℕ) → (after : List ℕ) (outcome : ℕ) → Row
numbering numbers first words after o = record {
  query = stated_as (started_of max_places numbers first words);
  written = stated_as (record { words = after; outcome = o });
}

abbrev pub carrying : (old words : List ℕ) → (after : List ℕ) (outcome : ℕ) → Row
carrying old words after o = record {
  query = stated_as (carried_over old_places max_places old words);
  written = stated_as (record { words = after; outcome = o });
}

abbrev pub posting : (words : List ℕ) (place count : ℕ) → (after : List ℕ) (outcome : ℕ) → Row
posting words p count after o = record {
  query = stated_as (posted max_places words p count);
  written = stated_as (record { words = after; outcome = o });
}

abbrev pub slotting : (words old : List ℕ) → (after answer : List ℕ) (outcome : ℕ) → Row
slotting words old after answer o = record {
  query = slotted_as (slotted max_places words old);
  written = slotted_as (record { words = after; answer = answer; outcome = o });
}

abbrev pub running : (words log : List ℕ) → (after written : List ℕ) (outcome : ℕ) → Row
running words log after bytes o = record {
  query = ran_as (ran max_places words log);
  written = ran_as (record { words = after; log = bytes; outcome = o });
}

abbrev pub figuring : (words : List ℕ) (place j : ℕ) (old : List ℕ) → (answer : List ℕ) (outcome : ℕ) → Row
figuring words p j old answer o = record {
  query = figured_as (figured max_places words p j old);
  written = figured_as (record { answer = answer; outcome = o });
}

abbrev pub chaining : (words : List ℕ) (place : ℕ) (names old : List ℕ) → (answer : List ℕ) (outcome : ℕ) → Row
chaining words p names old answer o = record {
  query = figured_as (chained max_places words p names old);
  written = figured_as (record { answer = answer; outcome = o });
}

abbrev pub looking : (words : List ℕ) (place : ℕ) (old : List ℕ) → (answer : List ℕ) (outcome : ℕ) → Row
looking words p old answer o = record {
  query = figured_as (account_exported max_places words p old);
  written = figured_as (record { answer = answer; outcome = o });
}

abbrev pub standing : (words old : List ℕ) → (answer : List ℕ) (outcome : ℕ) → Row
standing words old answer o = record {
  query = figured_as (standing_exported max_places words old);
  written = figured_as (record { answer = answer; outcome = o });
}

abbrev pub leading : (words : List ℕ) (place : ℕ) (log : List ℕ) (old : List ℤ) → (answer : List ℤ) (outcome : ℕ) → Row
leading words p log old answer o = record {
  query = led_as (led max_places words p log old);
  written = led_as (record { answer = answer; outcome = o });
}

abbrev pub writing : (words buffer old : List ℕ) → (after answer : List ℕ) (outcome : ℕ) → Row
writing words buffer old after answer o = record {
  query = wrote_as (wrote max_places words buffer old);
  written = wrote_as (record { buffer = after; answer = answer; outcome = o });
}

abbrev pub ordering : (bytes buffer old : List ℕ) → (after answer : List ℕ) (outcome : ℕ) → Row
ordering bytes buffer old after answer o = record {
  query = wrote_as (ordered max_places bytes buffer old);
  written = wrote_as (record { buffer = after; answer = answer; outcome = o });
}

unfoldable pub start_rows : List Row
start_rows =
    -- a start writes T's words (clause 16.1)
    starting (bytes_t 7) 0 (unused (word_count max_places)) fresh 0
    -- clause 16.2: refused 7 at place 1 is 7 + 256 × 2; every word is 0. No bytes are refused 8, which names no place
    ∷ starting (bytes_t 6) 0 (unused (word_count max_places)) (replicate (word_count max_places) 0) 519
    ∷ starting [] 0 (unused (word_count max_places)) (replicate (word_count max_places) 0) 8
    -- clause 16.11: accepted with the figure 4 for the probe's L, and refused 7 at place 1 with one less
    ∷ starting (bytes_five 4) 0 (unused 15) (5 ∷ 2 ∷ 0 ∷ 1 ∷ 6 ∷ 1 ∷ 5 ∷ 6 ∷ 0 ∷ 2 ∷ 5 ∷ 1 ∷ 4 ∷ 5 ∷ 0 ∷ []) 0
    ∷ starting (bytes_five 3) 0 (unused 15) (replicate 15 0) 519
    -- a first slot number past its limit is refused 12
    ∷ starting (bytes_t 7) (max_slot + 1) (unused (word_count max_places)) (replicate (word_count max_places) 0) 12
    -- one word fewer or more is 255, ahead of all else, and the words stay
    ∷ starting (bytes_t 7) 0 (unused (word_count max_places - 1)) (unused (word_count max_places - 1)) 255
    ∷ starting [] 0 (unused (word_count max_places + 1)) (unused (word_count max_places + 1)) 255
    ∷ []

unfoldable pub number_rows : List Row
number_rows =
    -- T's numbers are T; the L of clause 16.2 is refused 7 at place 1, and a number past T's two places 2, the first of them or the last
    numbering (numbers_t 7 (replicate past_t 0)) 0 (unused (word_count max_places)) fresh 0
    ∷ numbering (numbers_t 6 (replicate past_t 0)) 0 (unused (word_count max_places)) (replicate (word_count max_places) 0) 519
    ∷ numbering (numbers_t 7 (1 ∷ replicate (past_t - 1) 0)) 0 (unused (word_count max_places)) (replicate (word_count max_places) 0) 2
    ∷ numbering (numbers_t 7 (replicate (past_t - 1) 0 ++ 1 ∷ [])) 0 (unused (word_count max_places)) (replicate (word_count max_places) 0) 2
    -- 7 is ahead of 12
    ∷ numbering (numbers_t 7 (replicate past_t 0)) (max_slot + 1) (unused (word_count max_places)) (replicate (word_count max_places) 0) 12
    ∷ numbering (numbers_t 6 (replicate past_t 0)) (max_slot + 1) (unused (word_count max_places)) (replicate (word_count max_places) 0) 519
    -- one number fewer or more, or one word fewer or more, is 255, ahead of all else, and the words stay
    ∷ numbering (numbers_t 7 (replicate (past_t - 1) 0)) 0 (unused (word_count max_places)) (unused (word_count max_places)) 255
    ∷ numbering (numbers_t 7 (replicate (past_t + 1) 0)) 0 (unused (word_count max_places)) (unused (word_count max_places)) 255
    ∷ numbering [] (max_slot + 1) (unused (word_count max_places)) (unused (word_count max_places)) 255
    ∷ numbering (numbers_t 7 (replicate past_t 0)) 0 (unused (word_count max_places - 1)) (unused (word_count max_places - 1)) 255
    ∷ numbering (numbers_t 6 (replicate past_t 0)) 0 (unused (word_count max_places + 1)) (unused (word_count max_places + 1)) 255
    ∷ []

-- T after two slots of clause 16.3 as an old unit kept it, with this room and this n at place 1: D, N, the slot number, then n, b, j, L, c
-- and q of each place, and zeros
abbrev pub old_t : (room n : ℕ) → List ℕ
old_t room n = 4 ∷ 2 ∷ 2 ∷ 1 ∷ 8 ∷ 1 ∷ 4 ∷ 2 ∷ 1 ∷ n ∷ 4 ∷ 1 ∷ 7 ∷ 6 ∷ 3 ∷ replicate (6 * (room - 2)) 0

unfoldable pub carry_rows : List Row
carry_rows =
    -- into the same room, into room for one place more, and from the old limit into the new one; what the words held is gone
    carrying (old_t 2 1) (unused 15) (words_in 2 1 2 2 1 6 3) 0
    ∷ carrying (old_t 2 1) (unused 21) (words_in 3 1 2 2 1 6 3) 0
    ∷ carrying (old_t old_places 1) (unused (word_count max_places)) (words_t 2 2 1 6 3) 0
    -- a rate above D, N above the old room, and words that are all 0 are 23: the words become 0
    ∷ carrying (old_t old_places 4294967296) (unused (word_count max_places)) (replicate (word_count max_places) 0) 23
    ∷ carrying (4 ∷ 2 ∷ 0 ∷ 1 ∷ 8 ∷ 1 ∷ 4 ∷ 8 ∷ 0 ∷ []) (unused 15) (replicate 15 0) 23
    ∷ carrying (replicate 15 0) (unused 15) (replicate 15 0) 23
    -- 99 words are an old unit's, with room for its 16 places, and 105 are no old unit's
    ∷ carrying (unused 99) (unused 387) (replicate 387 0) 23
    ∷ carrying (unused 105) (unused 387) (unused 387) 255
    -- less room than there was, more of it than the old limit had, and lengths that are no state's are 255, ahead of 23
    ∷ carrying (old_t 3 1) (unused 15) (unused 15) 255
    ∷ carrying (old_t (suc old_places) 1) (unused (word_count max_places)) (unused (word_count max_places)) 255
    ∷ carrying (old_t 2 1) (unused (word_count (suc max_places))) (unused (word_count (suc max_places))) 255
    ∷ carrying (0 ∷ old_t 2 1) (unused 21) (unused 21) 255
    ∷ carrying (unused 14) (unused 21) (unused 21) 255
    ∷ carrying (unused 3) (unused 21) (unused 21) 255
    ∷ carrying [] (unused 21) (unused 21) 255
    ∷ carrying (unused 15) (unused 16) (unused 16) 255
    ∷ carrying (unused 15) [] [] 255
    ∷ []

unfoldable pub post_rows : List Row
post_rows =
    -- clause 16.3: three posted to each; place 2 is refused 11, and a backlog past its limit 21
    posting fresh 0 3 (words_t 0 8 3 4 0) 0
    ∷ posting (words_t 0 8 3 4 0) 1 3 three_each 0
    ∷ posting fresh 2 1 fresh 11
    ∷ posting three_each 1 65533 three_each 21
    ∷ posting (three_each ++ 0 ∷ []) 0 0 (three_each ++ 0 ∷ []) 255
    -- words that fit and break a rule are 23: a credit above its burst, a backlog past its limit
    ∷ posting (words_t 0 9 0 3 0) 0 0 (words_t 0 9 0 3 0) 23
    ∷ posting (words_t 0 8 0 4 65536) 0 0 (words_t 0 8 0 4 65536) 23
    -- a rate far above D is 23, here and in every call; 255 is ahead of 23
    ∷ posting wide 0 0 wide 23
    ∷ posting (wide ++ 0 ∷ []) 0 0 (wide ++ 0 ∷ []) 255
    ∷ []

unfoldable pub slot_rows : List Row
slot_rows =
    -- clause 15.5: granted in slot 0 to place 0, told as 1; idle with nothing waiting, told as 0; the last slot number is refused 22
    slotting three_each (90 ∷ 91 ∷ []) (words_t 1 5 2 5 3) (0 ∷ 1 ∷ []) 0
    ∷ slotting (fresh_at 7) (90 ∷ 91 ∷ []) (fresh_at 8) (7 ∷ 0 ∷ []) 0
    ∷ slotting (fresh_at max_slot) (90 ∷ 91 ∷ []) (fresh_at max_slot) (90 ∷ 91 ∷ []) 22
    -- slot 2 of clause 16.3 goes to place 1, told as 2; in its slot 5 nobody has the credit, though one waits
    ∷ slotting (words_t 2 2 1 6 3) (90 ∷ 91 ∷ []) (words_t 3 3 1 3 2) (2 ∷ 2 ∷ []) 0
    ∷ slotting (words_t 5 1 0 1 1) (90 ∷ 91 ∷ []) (words_t 6 2 0 2 1) (5 ∷ 0 ∷ []) 0
    -- words that are all 0 are no state's
    ∷ slotting (replicate (word_count max_places) 0) (90 ∷ 91 ∷ []) (replicate (word_count max_places) 0) (90 ∷ 91 ∷ []) 23
    ∷ slotting wide (90 ∷ 91 ∷ []) wide (90 ∷ 91 ∷ []) 23
    -- an answer of one word or of three is 255, ahead of 23
    ∷ slotting three_each (90 ∷ []) three_each (90 ∷ []) 255
    ∷ slotting three_each (90 ∷ 91 ∷ 92 ∷ []) three_each (90 ∷ 91 ∷ 92 ∷ []) 255
    ∷ slotting wide (90 ∷ []) wide (90 ∷ []) 255
    ∷ []

unfoldable pub run_rows : List Row
run_rows =
    -- the nine slots of clause 16.3
    running three_each (unused 9) (words_t 9 5 0 1 0) nine_slots 0
    -- a run that would pass the last slot number is refused 22
    ∷ running (fresh_at max_slot) (90 ∷ []) (fresh_at max_slot) (90 ∷ []) 22
    ∷ running wide (90 ∷ []) wide (90 ∷ []) 23
    ∷ running (three_each ++ 0 ∷ []) (90 ∷ []) (three_each ++ 0 ∷ []) (90 ∷ []) 255
    ∷ []

unfoldable pub query_rows : List Row
query_rows =
    -- the wait and the finish figure of place 1; no transfer is refused 5 at the place asked for, 5 + 256 × 2
    figuring fresh 1 1 (90 ∷ 91 ∷ []) (3 ∷ 7 ∷ []) 0
    ∷ figuring fresh 1 0 (90 ∷ 91 ∷ []) (90 ∷ 91 ∷ []) 517
    ∷ figuring wide 0 1 (90 ∷ 91 ∷ []) (90 ∷ 91 ∷ []) 23
    ∷ figuring fresh 1 1 (90 ∷ []) (90 ∷ []) 255
    -- clause 16.5: both lead by 3 after the nine slots, and place 1 by −2 after two
    ∷ leading fresh 0 nine_slots (pos 90 ∷ []) (pos 3 ∷ []) 0
    ∷ leading fresh 1 nine_slots (pos 90 ∷ []) (pos 3 ∷ []) 0
    ∷ leading fresh 1 (0 ∷ 0 ∷ []) (pos 90 ∷ []) (negsuc 1 ∷ []) 0
    ∷ leading fresh 2 (0 ∷ 0 ∷ []) (pos 90 ∷ []) (pos 90 ∷ []) 11
    ∷ leading wide 0 [] (pos 90 ∷ []) (pos 90 ∷ []) 23
    ∷ leading fresh 1 [] [] [] 255
    ∷ []

unfoldable pub write_rows : List Row
write_rows =
    -- T's ten bytes, and what stands behind them stays; a buffer of nine is refused 14
    writing fresh (unused 12) (91 ∷ []) (bytes_t 7 ++ 90 ∷ 90 ∷ []) (10 ∷ []) 0
    ∷ writing fresh (unused 9) (91 ∷ []) (unused 9) (91 ∷ []) 14
    ∷ writing wide (unused 10) (90 ∷ []) (unused 10) (90 ∷ []) 23
    ∷ writing fresh (unused 12) [] (unused 12) [] 255
    ∷ []

unfoldable pub look_rows : List Row
look_rows =
    -- the credit and the backlog of a place; place 2 is refused 11
    looking three_each 0 (90 ∷ 91 ∷ []) (8 ∷ 3 ∷ []) 0
    ∷ looking (words_t 3 3 1 3 2) 1 (90 ∷ 91 ∷ []) (3 ∷ 2 ∷ []) 0
    ∷ looking three_each 2 (90 ∷ 91 ∷ []) (90 ∷ 91 ∷ []) 11
    ∷ looking wide 0 (90 ∷ 91 ∷ []) (90 ∷ 91 ∷ []) 23
    ∷ looking three_each 0 (90 ∷ []) (90 ∷ []) 255
    -- the slot number and N
    ∷ standing (fresh_at 7) (90 ∷ 91 ∷ []) (7 ∷ 2 ∷ []) 0
    ∷ standing wide (90 ∷ 91 ∷ []) (90 ∷ 91 ∷ []) 23
    ∷ standing wide (90 ∷ 91 ∷ 92 ∷ []) (90 ∷ 91 ∷ 92 ∷ []) 255
    ∷ []

-- as many names as there is room for places, and these for T's two
abbrev pub names_t : (first second : ℕ) → List ℕ
names_t first second = first ∷ second ∷ replicate (max_places - 2) 7

unfoldable pub chain_rows : List Row
chain_rows =
    -- place 1 follows place 0: 4 + 7; place 0 follows nobody. The names past T's places are not read
    chaining fresh 1 (names_t 255 0) (90 ∷ []) (11 ∷ []) 0
    ∷ chaining fresh 0 (names_t 255 0) (90 ∷ []) (4 ∷ []) 0
    -- refused 16 at place 1 is 16 + 256 × 2; place 2 is refused 11, asked for or followed, and 11 is ahead of 16
    ∷ chaining fresh 0 (names_t 255 1) (90 ∷ []) (90 ∷ []) 528
    ∷ chaining fresh 2 (names_t 255 0) (90 ∷ []) (90 ∷ []) 11
    ∷ chaining fresh 1 (names_t 0 2) (90 ∷ []) (90 ∷ []) 11
    ∷ chaining wide 2 (names_t 0 2) (90 ∷ []) (90 ∷ []) 23
    -- one name fewer or more, an answer of two words, or one word more is 255, ahead of all else
    ∷ chaining fresh 1 (255 ∷ 0 ∷ replicate (max_places - 3) 7) (90 ∷ []) (90 ∷ []) 255
    ∷ chaining wide 1 (255 ∷ 0 ∷ replicate (max_places - 1) 7) (90 ∷ []) (90 ∷ []) 255
    ∷ chaining fresh 1 (names_t 255 0) (90 ∷ 91 ∷ []) (90 ∷ 91 ∷ []) 255
    ∷ chaining (fresh ++ 0 ∷ []) 1 (names_t 255 0) (90 ∷ []) (90 ∷ []) 255
    -- in room for two places there are two names
    ∷ chaining (words_in 2 1 0 8 3 4 3) 1 (255 ∷ 0 ∷ []) (90 ∷ []) (11 ∷ []) 0
    ∷ chaining (words_in 2 1 0 8 3 4 3) 1 (names_t 255 0) (90 ∷ []) (90 ∷ []) 255
    ∷ []

-- room for two places, or for three, is as good as room for the largest N; with room for one there is no T
unfoldable pub room_rows : List Row
room_rows =
    starting (bytes_t 7) 0 (unused 15) (words_in 2 1 0 8 0 4 0) 0
    ∷ starting (bytes_t 7) 0 (unused 21) (words_in 3 1 0 8 0 4 0) 0
    ∷ starting (bytes_t 7) 0 (unused 9) (replicate 9 0) 2
    ∷ numbering (numbers_t 7 []) 0 (unused 15) (words_in 2 1 0 8 0 4 0) 0
    ∷ numbering (numbers_t 7 (replicate 4 0)) 0 (unused 21) (words_in 3 1 0 8 0 4 0) 0
    ∷ numbering (4 ∷ 2 ∷ 1 ∷ 8 ∷ 1 ∷ 4 ∷ []) 0 (unused 9) (replicate 9 0) 2
    -- the numbers have the words' room
    ∷ numbering (numbers_t 7 (replicate 4 0)) 0 (unused 15) (unused 15) 255
    -- clause 16.3 in 15 words and in 21
    ∷ posting (words_in 2 1 0 8 3 4 0) 1 3 (words_in 2 1 0 8 3 4 3) 0
    ∷ posting (words_in 3 1 0 8 3 4 0) 1 3 (words_in 3 1 0 8 3 4 3) 0
    ∷ posting (words_in 2 1 0 8 3 4 0) 2 1 (words_in 2 1 0 8 3 4 0) 11
    ∷ posting (words_in 3 1 0 8 3 4 0) 2 1 (words_in 3 1 0 8 3 4 0) 11
    ∷ slotting (words_in 2 1 2 2 1 6 3) (90 ∷ 91 ∷ []) (words_in 2 1 3 3 1 3 2) (2 ∷ 2 ∷ []) 0
    ∷ slotting (words_in 3 1 2 2 1 6 3) (90 ∷ 91 ∷ []) (words_in 3 1 3 3 1 3 2) (2 ∷ 2 ∷ []) 0
    ∷ running (words_in 2 1 0 8 3 4 3) (unused 2) (words_in 2 1 2 2 1 6 3) (0 ∷ 0 ∷ []) 0
    ∷ figuring (words_in 2 1 0 8 3 4 3) 1 1 (90 ∷ 91 ∷ []) (3 ∷ 7 ∷ []) 0
    ∷ looking (words_in 2 1 0 8 3 4 3) 1 (90 ∷ 91 ∷ []) (4 ∷ 3 ∷ []) 0
    ∷ standing (words_in 2 1 2 2 1 6 3) (90 ∷ 91 ∷ []) (2 ∷ 2 ∷ []) 0
    ∷ standing (words_in 3 1 2 2 1 6 3) (90 ∷ 91 ∷ []) (2 ∷ 2 ∷ []) 0
    -- N above the room, and a third place that is not all 0, are 23
    ∷ posting (4 ∷ 2 ∷ 0 ∷ 1 ∷ 8 ∷ 1 ∷ 4 ∷ 8 ∷ 0 ∷ []) 0 1 (4 ∷ 2 ∷ 0 ∷ 1 ∷ 8 ∷ 1 ∷ 4 ∷ 8 ∷ 0 ∷ []) 23
    ∷ posting (words_in 2 1 0 8 3 4 0 ++ 0 ∷ 0 ∷ 0 ∷ 0 ∷ 0 ∷ 1 ∷ []) 0 1 (words_in 2 1 0 8 3 4 0 ++ 0 ∷ 0 ∷ 0 ∷ 0 ∷ 0 ∷ 1 ∷ []) 23
    ∷ []

-- T's bytes with the probe listed first, and this L for it
abbrev pub bytes_guessed : (within : ℕ) → List ℕ
bytes_guessed within = 4 ∷ 2 ∷ 1 ∷ 4 ∷ 1 ∷ within ∷ 1 ∷ 8 ∷ 1 ∷ 4 ∷ []

unfoldable pub order_rows : List Row
order_rows =
    -- T's bytes, either way round, come out in T's order, and the answer is how many; what stands behind them stays
    ordering (bytes_t 7) (unused 10) (91 ∷ []) (bytes_t 7) (10 ∷ []) 0
    ∷ ordering (bytes_guessed 7) (unused 11) (91 ∷ []) (bytes_t 7 ++ 90 ∷ []) (10 ∷ []) 0
    -- one byte of room too few is 14; no order passes is 15, ahead of it; nothing is written
    ∷ ordering (bytes_guessed 7) (unused 9) (91 ∷ []) (unused 9) (91 ∷ []) 14
    ∷ ordering (bytes_guessed 6) (unused 9) (91 ∷ []) (unused 9) (91 ∷ []) 15
    -- a rate of 0 at listed place 1 is 3 + 256 × 2, where the bytes end behind it; no bytes are 8
    ∷ ordering (4 ∷ 2 ∷ 1 ∷ 4 ∷ 1 ∷ 7 ∷ 0 ∷ []) (unused 9) (91 ∷ []) (unused 9) (91 ∷ []) 515
    ∷ ordering [] [] (91 ∷ []) [] (91 ∷ []) 8
    -- an answer of no word or of two is 255, ahead of all else
    ∷ ordering (bytes_guessed 7) (unused 10) [] (unused 10) [] 255
    ∷ ordering [] (unused 10) (91 ∷ 92 ∷ []) (unused 10) (91 ∷ 92 ∷ []) 255
    ∷ ordering [] [] [] [] [] 255
    ∷ []

-- T with a need of three transfers within 15 slots at place 1, whose burst holds one, in words with room for its places; and its table as
-- numbers, which are its bytes too, with this burst there
unfoldable pub words_thrice : (slot c q d e : ℕ) → List ℕ
words_thrice slot c q d e = 4 ∷ 2 ∷ slot ∷ 1 ∷ 8 ∷ 1 ∷ 4 ∷ c ∷ q ∷ 1 ∷ 4 ∷ 3 ∷ 15 ∷ d ∷ e ∷ []

unfoldable pub numbers_thrice : (burst : ℕ) → List ℕ
numbers_thrice burst = 4 ∷ 2 ∷ 1 ∷ 8 ∷ 1 ∷ 4 ∷ 1 ∷ burst ∷ 3 ∷ 15 ∷ []

-- no start takes it (clause 2.3), and every call but a write serves a state with it (clauses 2.5 and 13.4)
unfoldable pub need_rows : List Row
need_rows =
    -- refused 17 at place 1 is 17 + 256 × 2; a burst of 12 holds the three. At place 0 it is 17 + 256, where the bytes end behind it
    starting (numbers_thrice 4) 0 (unused 15) (replicate 15 0) 529
    ∷ starting (numbers_thrice 12) 0 (unused 15) (4 ∷ 2 ∷ 0 ∷ 1 ∷ 8 ∷ 1 ∷ 4 ∷ 8 ∷ 0 ∷ 1 ∷ 12 ∷ 3 ∷ 15 ∷ 12 ∷ 0 ∷ []) 0
    ∷ starting (4 ∷ 2 ∷ 1 ∷ 8 ∷ 3 ∷ 12 ∷ []) 0 (unused 15) (replicate 15 0) 273
    ∷ numbering (numbers_thrice 4) 0 (unused 15) (replicate 15 0) 529
    ∷ numbering (numbers_thrice 11) (max_slot + 1) (unused 15) (replicate 15 0) 529
    ∷ numbering (numbers_thrice 12) (max_slot + 1) (unused 15) (replicate 15 0) 12
    ∷ ordering (numbers_thrice 4) (unused 9) (91 ∷ []) (unused 9) (91 ∷ []) 529
    ∷ ordering (numbers_thrice 12) (unused 10) (91 ∷ []) (numbers_thrice 12) (10 ∷ []) 0
    -- a state that has it
    ∷ posting (words_thrice 0 8 0 4 0) 1 3 (words_thrice 0 8 0 4 3) 0
    ∷ slotting (words_thrice 0 8 0 4 3) (90 ∷ 91 ∷ []) (words_thrice 1 8 0 1 2) (0 ∷ 2 ∷ []) 0
    ∷ running (words_thrice 0 8 0 4 3) (unused 4) (words_thrice 4 8 0 0 1) (1 ∷ 255 ∷ 255 ∷ 1 ∷ []) 0
    ∷ figuring (words_thrice 0 8 0 4 3) 1 3 (90 ∷ 91 ∷ []) (3 ∷ 15 ∷ []) 0
    ∷ figuring (words_thrice 0 8 0 4 3) 1 255 (90 ∷ 91 ∷ []) (3 ∷ 1023 ∷ []) 0
    ∷ leading (words_thrice 0 8 0 4 3) 1 nine_slots (pos 90 ∷ []) (pos 3 ∷ []) 0
    ∷ chaining (words_thrice 0 8 0 4 3) 1 (255 ∷ 0 ∷ []) (90 ∷ []) (11 ∷ []) 0
    ∷ looking (words_thrice 0 8 0 4 3) 1 (90 ∷ 91 ∷ []) (4 ∷ 3 ∷ []) 0
    ∷ standing (words_thrice 7 8 0 4 3) (90 ∷ 91 ∷ []) (7 ∷ 2 ∷ []) 0
    ∷ carrying (words_thrice 2 2 1 6 3) (unused 15) (words_thrice 2 2 1 6 3) 0
    -- its table is not written, into room enough or into none
    ∷ writing (words_thrice 0 8 0 4 3) (unused 12) (91 ∷ []) (unused 12) (91 ∷ []) 529
    ∷ writing (words_thrice 0 8 0 4 3) [] (91 ∷ []) [] (91 ∷ []) 529
    ∷ []

-- as many words: 9 are room for one place and 387 for the largest N; no other of these is a state's length
unfoldable pub length_rows : List Row
length_rows =
    posting (unused 3) 0 0 (unused 3) 255
    ∷ posting (unused 8) 0 0 (unused 8) 255
    ∷ posting (unused 9) 0 0 (unused 9) 23
    ∷ posting (unused 10) 0 0 (unused 10) 255
    ∷ posting (unused 387) 0 0 (unused 387) 23
    ∷ posting (unused 393) 0 0 (unused 393) 255
    ∷ []

-- the words of a state by its room, 0 where there is no such room
abbrev pub Sizes : Type 0
Sizes = map (size_of max_places) (0 ∷ 1 ∷ 2 ∷ 3 ∷ max_places ∷ suc max_places ∷ []) ≡ 0 ∷ 9 ∷ 15 ∷ 21 ∷ 387 ∷ 0 ∷ []

-- what each row asks for is what is written (clause 15.5)
abbrev pub Pass : List Row → Type 0
Pass rows = map (λ r. r.query) rows ≡ map (λ r. r.written) rows

abbrev pub AllPass : Type 0
AllPass = Pass start_rows × Pass number_rows × Pass carry_rows × Pass post_rows × Pass slot_rows × Pass run_rows × Pass query_rows × Pass chain_rows × Pass write_rows × Pass look_rows × Pass room_rows × Pass order_rows × Pass need_rows × Pass length_rows × Sizes
