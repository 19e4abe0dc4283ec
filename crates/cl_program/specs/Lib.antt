pub mod Asking
pub mod Faults
pub mod Files
pub mod Outputs
pub mod Readings
pub mod Runs
pub mod ScriptRuns
pub mod Serving
