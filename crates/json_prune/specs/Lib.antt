pub mod Kept
pub mod Mark
pub mod Mend
pub mod Names
pub mod Prune
pub mod Skip
pub mod Tokens
pub mod Walk
