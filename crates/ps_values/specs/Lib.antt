pub mod Laws
pub mod ValueFaults
pub mod Writing
