use Rattle.transition_tree.proofs.Methods.{step-last, step-none}
use Rattle.transition_tree.proofs.tree.Tree.last_after.Goals as goal

pub returns-in_err-slot : goal.returns-in_err-slot
returns-in_err-slot c =
    let s = c.self.inside.table in
    rw c.from_residual.ensures
    (step-none s.places s.slots.items s.made.items c.self.invariant c.args.self.now c.self.view_is c.args.map c.requires c.index.result.now c.index.ensures c.args.step c.edge_of-edge.result c.edge_of-edge.ensures c.in_err-slot.ensures)

pub returns : goal.returns
returns c =
    let s = c.self.inside.table in
    step-last s.places s.slots.items s.made.items c.self.invariant c.args.self.now c.self.view_is c.args.map c.requires c.index.result.now c.index.ensures c.args.step c.edge_of-edge.result c.edge_of-edge.ensures c.in_ok-slot.field-0 c.in_ok-slot.ensures
