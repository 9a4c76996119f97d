pub mod Ready
pub mod Links
pub mod Unmet
pub mod Judging
pub mod Trail
pub mod Propagation
pub mod Way
pub mod Assigned
