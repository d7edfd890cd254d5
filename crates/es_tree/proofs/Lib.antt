pub mod LongestLiteral
