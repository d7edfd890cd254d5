use Rattle.std.proofs.Common.{◌∷◌, ◌∙◌, ap, refl}
use Rattle.script_checker.specs.declared.tasks.Task.TheVariants as task
use Rattle.script_checker.proofs.Visiting.{triple_visited}
use Rattle.script_checker.proofs.Entering.{known_later}
use Rattle.script_checker.proofs.machine.Machine.visit_triple.Goals as goal

pub returns : goal.returns
returns c =
    let i = c.in_ok-inner.inner in
    let o = c.in_ok-inner.ensures in
    let chains = c.in_triple.new.scopes in
    let b = c.before_triple in
    let l = c.after_triple in
    triple_visited c.args.script.now c.args.self.now _ c.args.n c.args.x c.args.y c.args.z c.args.around i b.result l.result c.args.label c.requires.tasks c.requires.known c.requires.part c.requires.node o
    (b.ensures.around chains) (b.ensures.known chains (known_later c.args.self.now.scopes chains c.args.around o.grown c.requires.known)) (l.ensures.around chains) (l.ensures.known chains o.known)
    (c.in_ok-push-4.ensures ∙ ap (λ ts. task.Visit c.args.x b.result ∷ ts) (c.in_ok-push-3.ensures ∙ ap (λ ts. task.Visit c.args.y i ∷ ts) (c.in_ok-push-2.ensures ∙ ap (λ ts. task.Visit c.args.z l.result ∷ ts) c.in_ok-push.ensures))) refl refl
