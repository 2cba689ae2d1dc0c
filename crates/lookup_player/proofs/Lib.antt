pub mod Following
pub mod Numbers
pub mod Places
pub mod Tables
