use Rattle.std.proofs.Common.{ap, ◌∙◌}
use Rattle.object_heap.specs.Stands.{HeapView}
use Rattle.object_heap.specs.Seen.{seen_at, find_seen}
use Rattle.object_heap.proofs.Standing.{own-stands}
use Rattle.object_heap.proofs.heap.Heap.found.Goals as goal

pub returns-clause-now : goal.returns-clause-now
returns-clause-now c = c.own.ensures ∙ ap (λ (v : HeapView). find_seen (seen_at v.objects c.args.object) c.args.key) c.self.view_is

pub returns-clause-world : goal.returns-clause-world
returns-clause-world c = λ w h. returns-clause-now c ∙ own-stands _ w c.args.object c.args.key h
