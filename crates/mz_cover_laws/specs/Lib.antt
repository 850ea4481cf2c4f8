pub mod Inhabited
