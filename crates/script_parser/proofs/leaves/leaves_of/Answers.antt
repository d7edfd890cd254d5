use Rattle.script_parser.proofs.Whole.{mapped_more}
use Rattle.script_parser.proofs.leaves.leaves_of.Goals as goal

pub loop-i-preserved : goal.loop-i-preserved
loop-i-preserved c =
    mapped_more c.args.tokens.now.tokens c.loop-i.i c.at.result.now c.loop-i.leaves.items c.push_leaf.new.leaves.items c.in_ok-leaf_of.field-0 c.at.ensures c.in_ok-leaf_of.ensures c.loop-i.invariant
    c.in_ok-push_leaf.ensures
