use Rattle.script_rules.proofs.Parts.{part_known, has_parts}
use Rattle.script_rules.proofs.reads.part.Goals as goal

pub node-requires : goal.node-requires
node-requires c = part_known _ _ c.requires

pub returns : goal.returns
returns c = has_parts _ _ _ c.requires c.node.ensures
