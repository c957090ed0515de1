-- Clause 2.1: the limits, each named once. `Arbiter::limits` ties each name to the code's constant.
use Rattle.std.specs.Prelude.{ℕ}

-- D, the table's common denominator
abbrev pub max_denominator : ℕ
max_denominator = 65535

-- N, the number of requestors. Definitions take `limit`, how many places there is room for; by value that is this number, and only
-- contracts, rows and what says which words are an arbiter's put it there.
abbrev pub max_places : ℕ
max_places = 64

-- the largest N before request 5: states that were made under it are carried over
abbrev pub old_places : ℕ
old_places = 16

-- b, a burst
abbrev pub max_burst : ℕ
max_burst = 16777216

-- j, the transfers of a need
abbrev pub max_need : ℕ
max_need = 255

-- L, the slots of a need
abbrev pub max_within : ℕ
max_within = 1073741824

-- q, a backlog
abbrev pub max_backlog : ℕ
max_backlog = 65535

-- a slot number: two to the power 62
abbrev pub max_slot : ℕ
max_slot = 4611686018427387904

-- the bytes of a log or of slotlist's input
abbrev pub max_input : ℕ
max_input = 65536
