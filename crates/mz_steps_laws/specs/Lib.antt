pub mod Facts
pub mod StepLaws
pub mod NowLaws
pub mod HiddenLaws
pub mod BlockLaws
