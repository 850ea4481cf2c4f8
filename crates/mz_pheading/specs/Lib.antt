pub mod Classes
pub mod HeadingForms
pub mod ModeForms
