pub mod OnlySteps
pub mod Taking
