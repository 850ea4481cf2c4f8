pub mod Each
pub mod Definientia
pub mod Results
pub mod It
