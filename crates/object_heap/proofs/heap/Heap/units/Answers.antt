use Rattle.std.proofs.Common.{ap, ◌∙◌}
use Rattle.object_heap.specs.Stands.{HeapView}
use Rattle.object_heap.proofs.TextCalls.{units-stand}
use Rattle.object_heap.proofs.heap.Heap.units.Goals as goal

pub returns : goal.returns
returns c = λ w h.
    c.units.ensures.units ∙ units-stand c.self.inside.texts _ w c.args.text c.known.result (ap (λ (x : HeapView). x.texts) c.self.view_is) c.known.ensures.same h
