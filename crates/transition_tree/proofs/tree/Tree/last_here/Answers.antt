use Rattle.transition_tree.proofs.Methods.{place-last}
use Rattle.transition_tree.proofs.tree.Tree.last_here.Goals as goal

pub returns : goal.returns
returns c =
    let s = c.self.inside.table in
    place-last s.places s.slots.items s.made.items c.self.invariant c.args.self.now c.self.view_is c.args.map c.requires c.index.result.now c.index.ensures c.index-2.result.now c.index-2.ensures
