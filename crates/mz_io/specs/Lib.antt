pub mod Count
pub mod File
pub mod Shelf
pub mod Sink
