use Rattle.std.proofs.Common.{Some, arith}
use Rattle.std.specs.Prelude.{slice_set}
use Rattle.std.proofs.lemmas.List.{length-set}
use Rattle.object_heap.proofs.Change.{goes-cell_set}
use Rattle.object_heap.proofs.Retaining.{retains-cells}
use Rattle.object_heap.proofs.Views.{by_cells}
use Rattle.object_heap.proofs.heap.Heap.set_cell.Goals as goal

pub returns-clause-goes : goal.returns-clause-goes
returns-clause-goes c = goes-cell_set _ _ c.args.cell c.args.value (by_cells (λ xs. slice_set xs c.args.cell.0 (Some c.args.value)) c.self.view_is c.set.ensures)

pub returns-clause-retains : goal.returns-clause-retains
returns-clause-retains c =
    let n = length-set (c.args.self.now).cells c.args.cell.0 (Some c.args.value) in
    retains-cells _ _ (slice_set (c.args.self.now).cells c.args.cell.0 (Some c.args.value)) (omega arith) (by_cells (λ xs. slice_set xs c.args.cell.0 (Some c.args.value)) c.self.view_is c.set.ensures)
