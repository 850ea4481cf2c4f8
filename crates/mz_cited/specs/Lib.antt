pub mod Cited
