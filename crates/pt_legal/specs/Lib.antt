pub mod Cores
pub mod Sealing
pub mod Applying
pub mod Replies
