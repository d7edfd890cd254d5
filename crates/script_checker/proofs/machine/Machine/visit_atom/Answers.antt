use Rattle.std.proofs.Common.{◌∙◌, ap, refl}
use Rattle.script_checker.specs.Made.{atom_made}
use Rattle.script_checker.specs.Machine.{around_of}
use Rattle.script_checker.proofs.Visiting.{atom_done}
use Rattle.script_checker.proofs.machine.Machine.visit_atom.Goals as goal

pub returns : goal.returns
returns c =
    atom_done c.args.script.now c.args.self.now _ c.args.n c.args.around c.args.label c.atom_first-first.result c.in_ok-value.value c.requires.tasks c.requires.node c.atom_first-first.ensures
    (c.in_ok-value.ensures ∙ ap (λ p. atom_made c.args.script.now.leaves (around_of c.args.self.now.scopes c.args.around) p c.args.label c.args.self.now.maker) c.place_of-place.ensures)
    c.in_ok-push.ensures refl refl
