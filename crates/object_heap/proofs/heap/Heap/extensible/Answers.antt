use Rattle.std.proofs.Common.{ap, ◌∙◌}
use Rattle.object_heap.specs.Stands.{HeapView}
use Rattle.object_heap.specs.Seen.{seen_at}
use Rattle.object_heap.proofs.Standing.{extensible-stands}
use Rattle.object_heap.proofs.heap.Heap.extensible.Goals as goal

pub returns : goal.returns
returns c = λ w h. c.extensible.ensures ∙ ap (λ (v : HeapView). (seen_at v.objects c.args.object).extensible) c.self.view_is ∙ extensible-stands _ w c.args.object h
