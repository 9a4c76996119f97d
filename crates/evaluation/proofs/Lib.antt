pub mod Showing
pub mod Preparing
pub mod Answering
pub mod Taken
