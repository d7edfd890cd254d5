use Rattle.std.proofs.Common.{◌∷◌, ◌∙◌, ap, refl}
use Rattle.script_checker.specs.Machine.{around_of, entry}
use Rattle.script_checker.specs.Made.{wrap_made}
use Rattle.script_checker.proofs.Visiting.{wrap_done}
use Rattle.script_checker.proofs.machine.Machine.finish_wrap.Goals as goal

pub wrap_made-requires : goal.wrap_made-requires
wrap_made-requires c = record { around = c.requires.known.1; inner = c.requires.known.2; first = c.requires.node.part; last = c.requires.node.part }

pub returns : goal.returns
returns c =
    let s = c.args.script.now in
    let old = c.args.self.now in
    let e = c.taken-part.result in
    let first = c.wrap_first-first.result in
    wrap_done s old _ c.args.n c.args.x c.args.around c.args.inner c.args.label e first c.in_ok-value.value c.requires.tasks c.requires.node.is c.taken-part.ensures.top c.wrap_first-first.ensures
    (c.in_ok-value.ensures ∙ ap (λ p. wrap_made s.leaves (around_of old.scopes c.args.around) (around_of old.scopes c.args.inner) p c.args.label e.value old.maker) c.place_of.ensures)
    (c.in_ok-push.ensures ∙ ap (λ es. entry c.in_ok-value.value first ∷ es) c.taken-part.ensures.rest) refl refl
