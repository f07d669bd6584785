pub mod StepsKeep
