-- What is promised of every list of posts and slots and of every run, for general N (clause 10.1). Counts has what is counted; each other
-- file states the clauses that it names or, where it says so, what follows from them, and its proof is the file of the same name in
-- proofs/.
pub mod Counts
pub mod ServiceBounds
pub mod CreditSums
pub mod Need
pub mod FinishFigure
pub mod NeedFits
pub mod Chains
pub mod SharperFloor
pub mod Conservation
pub mod Isolation
pub mod Stamps
pub mod RunSlots
pub mod Leads
