pub mod ParamSteps
