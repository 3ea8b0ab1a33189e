pub mod Pieces
pub mod Printed
pub mod Quotes
pub mod ReadBack
pub mod Values
pub mod Writing
