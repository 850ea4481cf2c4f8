pub mod HeadingHeads
pub mod DefinitionSteps
pub mod ItemSteps
pub mod ArticleSteps
pub mod WholeArticle
