pub mod ProblemLaw
pub mod OneProblem
