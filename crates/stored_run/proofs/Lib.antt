pub mod Appending
pub mod Reading
pub mod Replaying
pub mod RoomLaws
