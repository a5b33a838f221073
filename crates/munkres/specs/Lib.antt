pub mod ForSteps
