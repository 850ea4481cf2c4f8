pub mod Article
