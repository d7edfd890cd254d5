use Rattle.transition_tree.specs.Rows.{row_of}
use Rattle.transition_tree.proofs.Belonging.{lacks-onward}
use Rattle.std.proofs.Common.{arith}
use Rattle.transition_tree.proofs.Walking.{walk-fails}
use Rattle.transition_tree.proofs.tree.Tree.walk.Goals as goal

pub returns-in_err-at-clause-end : goal.returns-in_err-at-clause-end
returns-in_err-at-clause-end g c =
    rw c.from_residual.ensures (lacks-onward c.args.self.now c.args.maps.now c.requires.together (row_of c.args.self.now c.args.root) c.in_err-at.ensures.current c.args.path.now)

pub returns-in_err-at-2-clause-end : goal.returns-in_err-at-2-clause-end
returns-in_err-at-2-clause-end g c =
    let tree = c.args.self.now in
    rw c.from_residual-in_err-at-2.ensures
    (walk-fails tree c.args.maps.now (row_of tree c.args.root) c.args.path.now c.requires.together c.loop-i.at c.loop-i.i c.at.result.now c.loop-i.invariant.here (omega arith) c.at.ensures c.in_err-at-2.ensures.child)
