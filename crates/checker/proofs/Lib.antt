pub mod Promising
pub mod Filling
pub mod Deciding
pub mod Single
pub mod Tabled
