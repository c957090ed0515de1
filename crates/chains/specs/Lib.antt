-- What check 16 and the chain mean: definitions in terms (Chain) follow for N steps, and no further step would tell more.
pub mod Claims
