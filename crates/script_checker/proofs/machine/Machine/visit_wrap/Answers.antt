use Rattle.std.proofs.Common.{◌∷◌, ◌∙◌, ap, refl}
use Rattle.script_checker.specs.declared.tasks.Task.TheVariants as task
use Rattle.script_checker.proofs.Visiting.{wrap_visited}
use Rattle.script_checker.proofs.machine.Machine.visit_wrap.Goals as goal

pub returns : goal.returns
returns c =
    let i = c.in_ok-inner.inner in
    wrap_visited c.args.script.now c.args.self.now _ c.args.n c.args.x c.args.around i c.args.label c.requires.tasks c.requires.known c.requires.part c.requires.node c.in_ok-inner.ensures
    (c.in_ok-push-2.ensures ∙ ap (λ ts. task.Visit c.args.x i ∷ ts) c.in_ok-push.ensures) refl refl
