pub mod LinesBehind
