pub mod Fresh
pub mod Choice
pub mod Resolution
pub mod Cover
pub mod Laws
