-- Clause 12.13: neither a log nor slotlist's input has more than 65,536 bytes.
use Rattle.std.specs.Prelude.{ℕ, leb}
use Rattle.terms.specs.Limits.{max_input}
use Rattle.terms.specs.Refusals.{Verdict, faultless, refusal, gate}

unfoldable pub input_verdict : (bytes : ℕ) → Verdict
input_verdict bytes = gate (refusal 13) (leb bytes max_input) faultless
