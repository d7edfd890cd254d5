pub mod Builtins
pub mod Conversations
pub mod Evaluations
pub mod FunctionNames
pub mod FunctionRuns
pub mod Requests
pub mod SmallWorlds
