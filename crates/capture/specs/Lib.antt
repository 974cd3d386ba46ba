pub mod Frames
pub mod Reports
pub mod Replay
pub mod Parts
pub mod Law
pub mod Takes
