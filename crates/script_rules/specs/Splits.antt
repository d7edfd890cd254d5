-- How a list part comes apart.
use Rattle.std.specs.Prelude.{◌≡◌, ℕ, List, [], Option, Some, None}
use Rattle.script_grammar.specs.declared.labels.Pair.TheVariants as pair
use Rattle.script_grammar.specs.declared.node.ParseNode.{ParseNode}
use Rattle.script_rules.specs.Arena.{tree_at, IsPair}
use Rattle.script_rules.specs.Names.{members}

-- a front and a last member, or no members
abbrev pub Splits : List ParseNode → ℕ → Option (ℕ × ℕ) → Type 0
Splits ns n None = members (tree_at ns n) ≡ []
Splits ns n (Some found) = IsPair ns n pair.And found.0 found.1
