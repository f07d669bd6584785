pub mod SeenLemmas
