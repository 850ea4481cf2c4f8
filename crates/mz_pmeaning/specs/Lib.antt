pub mod CaseForms
pub mod Classes
pub mod MeaningForms
