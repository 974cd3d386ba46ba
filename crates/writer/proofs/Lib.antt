pub mod Tests
pub mod Nearest
pub mod Filling
pub mod Stretches
pub mod Answered
pub mod Unique
