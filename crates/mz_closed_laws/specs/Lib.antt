pub mod ClosedClauses
pub mod ClosedLaws
pub mod ClosedEnvironment
pub mod EnvironmentLaws
