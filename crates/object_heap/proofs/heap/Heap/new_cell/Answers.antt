use Rattle.std.proofs.Common.{ap, ◌∙◌, length, length-append, arith, ◌++◌, ◌∷◌, []}
use Rattle.object_heap.specs.Stands.{HeapView}
use Rattle.object_heap.proofs.Standing.{cells-stand}
use Rattle.object_heap.proofs.Change.{goes-cell}
use Rattle.object_heap.proofs.Retaining.{retains-cells, retains-same}
use Rattle.object_heap.proofs.Views.{by_cells}
use Rattle.object_heap.proofs.heap.Heap.new_cell.Goals as goal

pub returns-clause-cell : goal.returns-clause-cell
returns-clause-cell c = λ w h. c.in_ok-cell.ensures.cell ∙ ap (λ (v : HeapView). record { 0 = length v.cells }) c.self.view_is ∙ ap (λ xs. record { 0 = length xs }) (cells-stand _ w h)

pub returns-clause-ok : goal.returns-clause-ok
returns-clause-ok c = goes-cell _ _ c.args.value (by_cells (λ xs. xs ++ c.args.value ∷ []) c.self.view_is c.in_ok-cell.ensures.ok)

pub returns-clause-retains : goal.returns-clause-retains
returns-clause-retains c =
    let xs = (c.args.self.now).cells in
    let n = length-append xs (c.args.value ∷ []) in
    retains-cells _ _ (xs ++ c.args.value ∷ []) (omega arith) (by_cells (λ xs. xs ++ c.args.value ∷ []) c.self.view_is c.in_ok-cell.ensures.ok)

pub returns-in_err-cell-clause-retains : goal.returns-in_err-cell-clause-retains
returns-in_err-cell-clause-retains c = retains-same _ _ (by_cells (λ xs. xs) c.self.view_is c.in_err-cell.ensures.err)
