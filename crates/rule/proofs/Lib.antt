-- Laws that belong to no one function: one account, the place granted, what a slot does to the accounts and their credits, that it
-- keeps a state sound, the verdicts on a call, slots one after the other with their log, and room for more places.
pub mod Accounts
pub mod Search
pub mod Verdicts
pub mod Grants
pub mod Head
pub mod Slots
pub mod Credits
pub mod Kept
pub mod Logs
pub mod Longer
