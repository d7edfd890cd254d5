use Rattle.transition_tree.proofs.Methods.{step-due, step-kept, step-not-had, step-unkept}
use Rattle.transition_tree.proofs.tree.Tree.kept.Goals as goal

pub returns-in-Some-clause-value : goal.returns-in-Some-clause-value
returns-in-Some-clause-value c =
    let s = c.self.inside.table in
    step-kept s.places s.slots.items s.made.items c.self.invariant c.args.self.now c.self.view_is c.args.map c.requires c.index.result.now c.index.ensures c.args.step.now c.edge_of-edge.result c.edge_of-edge.ensures c.in-Some.slot c.in-Some.ensures

pub returns-in-Some-clause-made : goal.returns-in-Some-clause-made
returns-in-Some-clause-made c =
    let s = c.self.inside.table in
    step-due s.places s.slots.items s.made.items c.self.invariant c.args.self.now c.self.view_is c.args.map c.requires c.index.result.now c.index.ensures c.args.step.now c.edge_of-edge.result c.edge_of-edge.ensures c.in-Some.slot c.in-Some.ensures

pub returns-in-None-clause-value : goal.returns-in-None-clause-value
returns-in-None-clause-value c =
    let s = c.self.inside.table in
    step-unkept s.places s.slots.items s.made.items c.self.invariant c.args.self.now c.self.view_is c.args.map c.requires c.index.result.now c.index.ensures c.args.step.now c.edge_of-edge.result c.edge_of-edge.ensures c.in-None.ensures

pub returns-in-None-clause-made : goal.returns-in-None-clause-made
returns-in-None-clause-made c =
    let s = c.self.inside.table in
    λ had. absurd (step-not-had s.places s.slots.items s.made.items c.self.invariant c.args.self.now c.self.view_is c.args.map c.requires c.index.result.now c.index.ensures c.args.step.now c.edge_of-edge.result c.edge_of-edge.ensures c.in-None.ensures had)
