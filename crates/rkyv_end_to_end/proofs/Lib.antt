pub mod ListSteps
pub mod Reports
pub mod Listing
