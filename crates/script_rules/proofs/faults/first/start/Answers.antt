use Rattle.std.proofs.Common.{ap, ◌∙◌}
use Rattle.script_rules.specs.Arena.{tree_at}
use Rattle.script_rules.specs.Names.{declared_in}
use Rattle.script_rules.proofs.Whole.{starts}
use Rattle.script_rules.proofs.faults.first.start.Goals as goal

pub returns : goal.returns
returns c =
    let names = c.in_ok-names.ensures ∙ ap (λ n. declared_in (tree_at c.args.script.now.nodes n)) c.root-items.ensures in
    starts c.args.script.now.leaves c.args.script.now.nodes c.args.script.now.root c.new-walk.result c.report.new.self c.enter.new.self c.push.new.self c.in_ok-duplicates.field-0
    c.in_ok-script_scope.field-0 c.in_ok-scope.scope _ _ c.root-items.result c.root-items.ensures c.requires c.new-walk.ensures c.report.ensures c.in_ok-scope.ensures c.in_ok-push.ensures (c.deref.ensures.value ∙ names) (c.deref-2.ensures.value ∙ names)
    c.in_ok-duplicates.ensures c.in_ok-script_scope.ensures
