pub mod Answering
pub mod Effects
pub mod Ends
pub mod Limits
pub mod Rules
pub mod Streams
