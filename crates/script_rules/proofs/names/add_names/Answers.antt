use Rattle.std.proofs.Common.{arith, ap, ◌∙◌}
use Rattle.script_rules.specs.Arena.{trees_at}
use Rattle.script_rules.proofs.Lists.{names_found}
use Rattle.script_rules.proofs.names.add_names.Goals as goal

pub returns : goal.returns
returns c =
    names_found c.args.script.now.nodes c.args.manner c.args.list _ _ _ _ c.loop-n.invariant (omega arith)
    (ap (trees_at c.args.script.now.nodes) c.deref-n-items.ensures.value ∙ c.in_ok-all.ensures.trees)
