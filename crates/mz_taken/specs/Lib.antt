pub mod Taken
pub mod Answers
pub mod OneByOne
