pub mod Within
pub mod Meant
pub mod Application
pub mod Reading
pub mod Private
pub mod Laws
