pub mod OneExpression
pub mod OneDeclaration
pub mod OneProposition
pub mod OneName
