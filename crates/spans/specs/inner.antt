pub mod Activities
pub mod Instants
