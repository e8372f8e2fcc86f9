pub mod CenteringVectors
