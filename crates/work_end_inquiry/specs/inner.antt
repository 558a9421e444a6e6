pub mod Near
pub mod Said
