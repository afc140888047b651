pub mod LatestCopies
