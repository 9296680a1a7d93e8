-- What the contracts of the public functions say, in Rattle and in C, and what each function is lent.
pub mod Contracts
pub mod InC
pub mod Lent
