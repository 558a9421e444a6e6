pub mod Refusals
pub mod Lending
