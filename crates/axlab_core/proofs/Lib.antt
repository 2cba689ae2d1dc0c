pub mod Asking
pub mod Completing
pub mod Ending
pub mod Fronts
pub mod Loading
pub mod SentUpTo
