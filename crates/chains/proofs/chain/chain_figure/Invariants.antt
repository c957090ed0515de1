-- `chains::chain::chain_figure` meets its contract. The loop's invariant, `Summed`: what is summed and what is still to be summed come to the
-- whole, and what is summed is at most a largest finish figure for each link. Assumes nothing.
use Rattle.std.proofs.Common.{ℕ, List}
use Rattle.terms.specs.Limits.{max_places}
use Rattle.terms.specs.Table.{requestors_of}
use Rattle.terms.specs.Figures.{finish, most_finish}
use Rattle.admission.specs.Checked.{table_in}
use Rattle.chains.proofs.Walks.{Summed}
use Rattle.chains.proofs.chain.chain_figure.Given as goal

-- the finish figure of a place for one transfer
abbrev pub figure_in : List ℕ → ℕ → ℕ
figure_in words p = finish (table_in words).denominator (requestors_of (table_in words)) p 1

abbrev pub invariant-loop-link : goal.invariant-loop-link
invariant-loop-link l = Summed l.names (figure_in l.words) (table_in l.words).count (most_finish max_places) l.p l.sum l.at l._link
