pub mod Ops
pub mod Buckets
pub mod Logs
pub mod Batches
pub mod Standing
pub mod Laws
pub mod Types
