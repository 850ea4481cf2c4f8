pub mod ListParts
pub mod KnownTerms
pub mod KnownValues
pub mod KnownMatches
pub mod KnownRows
pub mod KnownChain
pub mod KnownChoice
pub mod LociHolds
