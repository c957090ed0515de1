-- Clause 15.4, an outcome: 0 is accepted, and a refusal is its number in the low 8 bits, and above them place + 1 where it names a place.
-- The exported calls add only 255 (clause 12.255), for lent memory of a wrong length, ahead of all else.
use Rattle.std.specs.Prelude.{ℕ, ◌+◌, ◌*◌, Option, Some, None}
use Rattle.terms.specs.declared.refusals.Refusal.{Refusal}
use Rattle.terms.specs.Answers.{Answer, accepted, granted, idle, refused}

-- a place that a refusal names, as place + 1
abbrev pub place_code : Option ℕ → ℕ
place_code None = 0
place_code (Some p) = p + 1

-- clause 15.4
unfoldable pub refusal_code : Refusal → ℕ
refusal_code r = r.number + 256 * place_code r.place

-- clause 15.4
abbrev pub answer_code : Answer → ℕ
answer_code accepted = 0
answer_code (granted stamp p) = 0
answer_code (idle stamp) = 0
answer_code (refused r) = refusal_code r

-- clause 12.255
abbrev pub wrong_length : ℕ
wrong_length = 255
