-- The lines that slotlist prints: the header, a slot's and the end's of clause 14.2, and a refusal's of clause 14.3.
use Rattle.std.specs.Prelude.{List, [], ◌∷◌, map, ℕ, Option, Some, None, take}
use Rattle.terms.specs.declared.refusals.Refusal.{Refusal}
use Rattle.terms.specs.declared.place.Account.{Account}
use Rattle.terms.specs.State.{State, credit}
use Rattle.lines.specs.Text.{decimal, line}

-- clause 14.2: the header, slot place credits
unfoldable pub header : List ℕ
header = line (115 ∷ 108 ∷ 111 ∷ 116 ∷ []) ((112 ∷ 108 ∷ 97 ∷ 99 ∷ 101 ∷ []) ∷ (99 ∷ 114 ∷ 101 ∷ 100 ∷ 105 ∷ 116 ∷ 115 ∷ []) ∷ [])

-- clause 14.2: the line of the end
unfoldable pub end_line : (slots : ℕ) → List ℕ
end_line slots = line (101 ∷ 110 ∷ 100 ∷ []) (decimal slots ∷ [])

-- clause 14.3: the line of a refusal, without its place
unfoldable pub refused_line : Refusal → List ℕ
refused_line r = line (114 ∷ 101 ∷ 102 ∷ 117 ∷ 115 ∷ 101 ∷ 100 ∷ []) (decimal r.number ∷ [])

-- the place granted, or -
abbrev pub place_item : Option ℕ → List ℕ
place_item None = 45 ∷ []
place_item (Some p) = decimal p

-- the credits from place 0 on
abbrev pub credit_item : Account → List ℕ
credit_item a = decimal (credit a)

abbrev pub credit_items : State → List (List ℕ)
credit_items s = map credit_item (take s.table.count s.accounts)

-- clause 14.2: the line of a slot; its credits are those of the state after it
unfoldable pub slot_line : (stamp : ℕ) → (granted : Option ℕ) → (after : State) → List ℕ
slot_line stamp granted after = line (decimal stamp) (place_item granted ∷ credit_items after)
