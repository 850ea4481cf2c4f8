pub mod ItemKeeps
pub mod AcceptedProofs
pub mod AloneProofs
