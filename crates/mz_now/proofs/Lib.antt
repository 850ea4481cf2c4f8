pub mod StatedLemmas
