use Rattle.std.proofs.Common.{◌∷◌, ◌∙◌, ap, refl}
use Rattle.script_rules.specs.Arena.{tree_at}
use Rattle.script_checker.specs.Machine.{around_of, below, entry, top}
use Rattle.script_checker.specs.Made.{triple_made}
use Rattle.script_checker.proofs.Visiting.{triple_done}
use Rattle.script_checker.proofs.machine.Machine.finish_triple.Goals as goal

pub triple_made-requires : goal.triple_made-requires
triple_made-requires c = record { around = c.requires.known.1; inner = c.requires.known.2; first = c.requires.node.first; last = c.requires.node.third }

pub returns : goal.returns
returns c =
    let s = c.args.script.now in
    let old = c.args.self.now in
    let b = c.taken-third.result in
    let d = c.taken-second.result in
    let e = c.taken-entry.result in
    let first = c.triple_first-first.result in
    let two = c.taken-second.ensures.rest ∙ ap below c.taken-third.ensures.rest in
    triple_done s old _ c.args.n c.args.x c.args.y c.args.z c.args.around c.args.inner c.args.label b d e first c.in_ok-value.value c.requires.tasks c.requires.node.is c.taken-third.ensures.top
    (c.taken-second.ensures.top ∙ ap top c.taken-third.ensures.rest) (c.taken-entry.ensures.top ∙ ap top two) c.triple_first-first.ensures
    (c.in_ok-value.ensures ∙ ap (λ p. triple_made s.leaves (around_of old.scopes c.args.inner) p c.args.label (tree_at s.nodes c.args.z) e.value d.value b.value old.maker) c.place_of.ensures)
    (c.in_ok-push.ensures ∙ ap (λ es. entry c.in_ok-value.value first ∷ es) (c.taken-entry.ensures.rest ∙ ap below two)) refl refl
