pub mod Bodies
pub mod Private
