pub mod Expected
pub mod OptionWord
pub mod Reading
pub mod Words
pub mod Program
pub mod Given
