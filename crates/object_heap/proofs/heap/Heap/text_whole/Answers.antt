use Rattle.std.proofs.Common.{ap, ◌∙◌}
use Rattle.property_keys.specs.Numbers.{number_of}
use Rattle.object_heap.specs.Stands.{HeapView}
use Rattle.object_heap.proofs.TextCalls.{units-stand}
use Rattle.object_heap.proofs.heap.Heap.text_whole.Goals as goal

pub returns-clause-number : goal.returns-clause-number
returns-clause-number c = λ w h.
    c.text_whole.ensures.number
    ∙ ap number_of (units-stand c.self.inside.texts _ w c.args.text c.known.result (ap (λ (x : HeapView). x.texts) c.self.view_is) c.known.ensures.same h)
