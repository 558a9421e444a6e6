pub mod CallLaws
pub mod ReadLaws
pub mod ShortLaws
pub mod StepLaws
pub mod WindowLaws
