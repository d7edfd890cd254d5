use Rattle.std.proofs.Common.{◌∷◌, ◌∙◌, ap, refl}
use Rattle.script_rules.specs.Arena.{tree_at}
use Rattle.script_checker.specs.Machine.{around_of, below, entry, top}
use Rattle.script_checker.specs.Made.{pair_made}
use Rattle.script_checker.proofs.Visiting.{pair_done}
use Rattle.script_checker.proofs.machine.Machine.finish_pair.Goals as goal

pub pair_made-requires : goal.pair_made-requires
pair_made-requires c = record { around = c.requires.known.1; inner = c.requires.known.2; first = c.requires.node.first; last = c.requires.node.second }

pub returns : goal.returns
returns c =
    let s = c.args.script.now in
    let old = c.args.self.now in
    let d = c.taken-right.result in
    let e = c.taken-left.result in
    let first = c.pair_first-first.result in
    pair_done s old _ c.args.n c.args.x c.args.y c.args.around c.args.inner c.args.label d e first c.in_ok-value.value c.requires.tasks c.requires.node.is c.taken-right.ensures.top
    (c.taken-left.ensures.top ∙ ap top c.taken-right.ensures.rest) c.pair_first-first.ensures
    (c.in_ok-value.ensures ∙ ap (λ p. pair_made s.leaves (around_of old.scopes c.args.around) (around_of old.scopes c.args.inner) p c.args.label (tree_at s.nodes c.args.x) (tree_at s.nodes c.args.y) e.value d.value old.maker) c.place_of.ensures)
    (c.in_ok-push.ensures ∙ ap (λ es. entry c.in_ok-value.value first ∷ es) (c.taken-left.ensures.rest ∙ ap below c.taken-right.ensures.rest)) refl refl
