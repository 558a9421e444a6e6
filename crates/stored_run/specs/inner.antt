pub mod Cases
pub mod Count
pub mod Expected
pub mod Replays
