pub mod PlannedArguments
