-- The arbiter's values and checks: its limits, the table and checks 1 to 6 and 17, the figures and check 7, what a call that makes a table
-- hands back, the state and test 23, start, room for more places, the figures as a call, the chain figure beside them, and the length of an
-- input. Refusals stands ahead of the checks because each names one.
pub mod Limits
pub mod Refusals
pub mod Answers
pub mod Table
pub mod Figures
pub mod TableResult
pub mod State
pub mod Start
pub mod Longer
pub mod Queries
pub mod Chain
pub mod Input
