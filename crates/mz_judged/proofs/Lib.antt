pub mod JudgeLemmas
pub mod OneJudgement
pub mod MetProofs
pub mod PushLemmas
