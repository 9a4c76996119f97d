pub mod Moving
pub mod Doing
pub mod Seeing
