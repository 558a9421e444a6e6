pub mod PutLaws
pub mod GivesLaws
