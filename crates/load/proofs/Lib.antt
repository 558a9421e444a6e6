pub mod Caps
pub mod Finding
pub mod Firsts
pub mod Gathering
pub mod Loads
pub mod Told
pub mod Usages
