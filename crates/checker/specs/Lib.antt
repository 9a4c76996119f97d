pub mod Checked
pub mod Lending
pub mod Meant
pub mod Steps
