use Rattle.es_model.specs.StartWorld.{start_world}
use Rattle.object_heap.proofs.Standing.{stand}
use Rattle.object_heap.proofs.StartLists.{start-table}
use Rattle.object_heap.proofs.TextNumbers.{table-same}
use Rattle.object_heap.proofs.heap.Heap.with_hashing.Goals as goal

pub invariant_of-result : goal.invariant_of-result
invariant_of-result c = table-same _ _ c.in_ok-texts.ensures start-table

pub returns : goal.returns
returns c = λ script. stand _ (start_world script c.args.budget) c.in_ok-objects.ensures
    (λ t. record { texts = c.in_ok-texts.ensures t; symbols = c.in_ok-symbols.ensures t; cells = c.new-2.ensures t; turns = c.new.ensures t })
