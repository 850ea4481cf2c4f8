pub mod OneHeadLemmas
