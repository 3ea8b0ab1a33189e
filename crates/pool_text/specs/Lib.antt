pub mod Digests
pub mod Folding
pub mod Lines
pub mod Number
pub mod Reading
pub mod Texts
pub mod Words
