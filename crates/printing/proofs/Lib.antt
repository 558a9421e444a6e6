pub mod ChunkLaws
pub mod DecimalLaws
pub mod Examples
pub mod FitLaws
pub mod PutLaws
pub mod RestLaws
pub mod SignLaws
