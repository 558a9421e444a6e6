pub mod OfPiece
