use Rattle.std.proofs.Common.{refl, codes}
use Rattle.script_generator.proofs.LinesBehind.{lines_pushed}
use Rattle.script_generator.proofs.generating.generated.Goals as goal

pub loop-before-preserved : goal.loop-before-preserved
loop-before-preserved c =
    lines_pushed (codes "let t=0;\n") c.loop-before.script.items c.push_declaration.new.script.items c.push_addition.new.script.items c.loop-before.before _ refl
    c.loop-before.invariant c.in_ok-push_declaration.ensures c.in_ok-push_addition.ensures
