use Rattle.std.proofs.Common.{◌∷◌, ◌∙◌, ap, refl}
use Rattle.script_checker.specs.declared.tasks.Task.TheVariants as task
use Rattle.script_checker.proofs.Visiting.{for_visited}
use Rattle.script_checker.proofs.machine.Machine.visit_for.Goals as goal

pub returns : goal.returns
returns c =
    let i = c.in_ok-inner.inner in
    let p = c.args.parts in
    for_visited c.args.script.now c.args.self.now _ c.args.n p.first p.test p.step p.body c.args.around i c.args.label c.requires.tasks c.requires.known c.requires.part c.requires.node c.in_ok-inner.ensures
    (c.in_ok-push-5.ensures ∙ ap (λ ts. task.Visit p.first i ∷ ts) (c.in_ok-push-4.ensures ∙ ap (λ ts. task.Visit p.test i ∷ ts)
    (c.in_ok-push-3.ensures ∙ ap (λ ts. task.Visit p.step i ∷ ts) (c.in_ok-push-2.ensures ∙ ap (λ ts. task.Visit p.body i ∷ ts) c.in_ok-push.ensures)))) refl refl
