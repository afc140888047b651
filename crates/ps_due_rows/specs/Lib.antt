pub mod Dues
pub mod Filling
pub mod FirstCopies
pub mod Loading
pub mod Syncing
pub mod Turning
