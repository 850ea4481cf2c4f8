pub mod Fired
pub mod Said
pub mod Values
pub mod RowHolds
pub mod StructureHolds
pub mod AggregateHolds
pub mod ChainHolds
pub mod StructureClauses
