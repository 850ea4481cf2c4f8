pub mod Lets
