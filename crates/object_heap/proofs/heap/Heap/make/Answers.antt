use Rattle.std.proofs.Common.{ap, ◌∙◌, length, ◌++◌, ◌∷◌, []}
use Rattle.es_model.specs.Objects.{new_object_of}
use Rattle.object_heap.specs.Origins.{origin_at, origin_in}
use Rattle.object_heap.specs.Stands.{HeapView}
use Rattle.object_heap.specs.Seen.{seen}
use Rattle.object_heap.proofs.Standing.{count-stands}
use Rattle.object_heap.proofs.Change.{goes-making}
use Rattle.object_heap.proofs.Retaining.{retains-made, retains-same}
use Rattle.object_heap.proofs.Views.{by_objects}
use Rattle.object_heap.proofs.heap.Heap.make.Goals as goal

pub returns-clause-object : goal.returns-clause-object
returns-clause-object g c = λ w h. c.in_ok-object.ensures.object ∙ ap (λ (v : HeapView). record { 0 = length v.objects }) c.self.view_is ∙ ap (λ n. record { 0 = n }) (count-stands _ w h)

pub returns-clause-ok : goal.returns-clause-ok
returns-clause-ok g c = λ w h.
    let origin = origin_in w.script (origin_at c.args.self.now c.args.origin) in
    goes-making _ _ c.args.kind c.args.proto (by_objects (λ ss. ss ++ seen (new_object_of c.args.kind c.args.proto) ∷ []) c.self.view_is c.in_ok-object.ensures.ok) w origin h

pub returns-clause-retains : goal.returns-clause-retains
returns-clause-retains g c = retains-made _ _ (seen (new_object_of c.args.kind c.args.proto)) (by_objects (λ ss. ss ++ seen (new_object_of c.args.kind c.args.proto) ∷ []) c.self.view_is c.in_ok-object.ensures.ok)

pub returns-in_err-object-clause-retains : goal.returns-in_err-object-clause-retains
returns-in_err-object-clause-retains g c = retains-same _ _ (by_objects (λ ss. ss) c.self.view_is c.in_err-object.ensures.err)
