pub mod Loci
