use Rattle.std.proofs.Common.{◌∙◌, ap, not, subst, sym}
use Rattle.script_checker.proofs.LastOnes.{GoesBack, goes_back, goes_past}
use Rattle.script_checker.proofs.functions.functions_back.Goals as goal

pub back-preserved-in_ok-push : goal.back-preserved-in_ok-push
back-preserved-in_ok-push c =
    let own = c.in-Some-function_of in
    let before = subst (λ l. GoesBack c.args.items l c.back.names c.back.functions) c.in-Some.ensures.items c.back.invariant in
    rw (c.in_ok-push.ensures, c.in_ok-add.ensures, c.in_ok-copied.ensures)
    (goes_back c.args.items c.pop.new.self.items c.in-Some.item own.function own.named c.back.names c.back.functions _ before (sym c.function_of.ensures ∙ own.is)
    (ap not c.contains-is_last.ensures))

pub back-preserved : goal.back-preserved
back-preserved c =
    let before = subst (λ l. GoesBack c.args.items l c.back.names c.back.functions) c.in-Some.ensures.items c.back.invariant in
    goes_past c.args.items c.pop.new.self.items c.in-Some.item c.back.names c.back.functions before (sym c.function_of.ensures ∙ c.in_default-function_of.is)
