use Rattle.object_heap.proofs.Ascending.{below-ascends, indices-ascend}
use Rattle.object_heap.proofs.laws.indices_ascend.Goals as goal

pub returns : goal.returns
returns c = λ count ps. below-ascends count _ (indices-ascend ps)
