pub mod OneBlock
pub mod OneSaid
pub mod OneSplit
pub mod OneWalk
