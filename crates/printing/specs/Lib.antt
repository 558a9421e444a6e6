pub mod Decimal
pub mod NumberLines
pub mod Printed
