pub mod Marks
pub mod OneParse
