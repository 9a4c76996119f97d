pub mod Beginning
pub mod Looping
pub mod Filling
pub mod Gathering
pub mod Single
pub mod Walking
