pub mod Shapes
pub mod Planned
pub mod Conditions
pub mod ShapeSteps
pub mod Reached
pub mod Taking
pub mod Limits
