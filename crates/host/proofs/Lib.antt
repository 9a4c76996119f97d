pub mod Entering
pub mod Fields
pub mod Taken
pub mod Numbered
pub mod Single
