pub mod ProblemProofs
pub mod OneProblemProofs
