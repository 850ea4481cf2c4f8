pub mod BesideProofs
