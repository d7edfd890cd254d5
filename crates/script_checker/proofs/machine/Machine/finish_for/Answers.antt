use Rattle.std.proofs.Common.{◌∷◌, ◌∙◌, ap, refl}
use Rattle.script_checker.specs.Machine.{around_of, below, entry, top}
use Rattle.script_checker.specs.Made.{for_made}
use Rattle.script_checker.proofs.Visiting.{for_done}
use Rattle.script_checker.proofs.machine.Machine.finish_for.Goals as goal

pub for_made-requires : goal.for_made-requires
for_made-requires c = c.requires.known.2

pub returns : goal.returns
returns c =
    let s = c.args.script.now in
    let old = c.args.self.now in
    let b = c.taken-body.result in
    let h = c.taken-step.result in
    let d = c.taken-test.result in
    let e = c.taken-head.result in
    let p = c.args.parts in
    let first = c.for_first-first.result in
    let two = c.taken-step.ensures.rest ∙ ap below c.taken-body.ensures.rest in
    let three = c.taken-test.ensures.rest ∙ ap below two in
    for_done s old _ c.args.n p.first p.test p.step p.body c.args.around c.args.inner c.args.label b h d e first c.in_ok-value.value c.requires.tasks c.requires.node.is c.taken-body.ensures.top
    (c.taken-step.ensures.top ∙ ap top c.taken-body.ensures.rest) (c.taken-test.ensures.top ∙ ap top two) (c.taken-head.ensures.top ∙ ap top three) c.for_first-first.ensures
    (c.in_ok-value.ensures ∙ ap (λ q. for_made (around_of old.scopes c.args.inner) q e.value d.value h.value b.value old.maker) c.place_of-place.ensures)
    (c.in_ok-push.ensures ∙ ap (λ es. entry c.in_ok-value.value first ∷ es) (c.taken-head.ensures.rest ∙ ap below three)) refl refl
