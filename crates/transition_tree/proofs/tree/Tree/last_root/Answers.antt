use Rattle.transition_tree.proofs.Methods.{root-last, root-none}
use Rattle.transition_tree.proofs.tree.Tree.last_root.Goals as goal

pub returns-in_err-slot : goal.returns-in_err-slot
returns-in_err-slot c =
    let s = c.self.inside.table in
    rw c.from_residual.ensures
    (root-none s.places s.slots.items s.made.items c.self.invariant c.args.self.now c.self.view_is c.args.origin c.args.proto c.root_edge.result c.root_edge.ensures c.in_err-slot.ensures)

pub returns : goal.returns
returns c =
    let s = c.self.inside.table in
    root-last s.places s.slots.items s.made.items c.self.invariant c.args.self.now c.self.view_is c.args.origin c.args.proto c.root_edge.result c.in_ok-slot.field-0 c.root_edge.ensures c.in_ok-slot.ensures
