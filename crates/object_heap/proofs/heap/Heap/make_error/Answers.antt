use Rattle.std.proofs.Common.{◌++◌, ◌∷◌, [], Some, ap, ◌∙◌, length, subst}
use Rattle.property_keys.specs.declared.keys.PropKey.TheVariants.{Name}
use Rattle.es_model.specs.declared.kinds.ObjectKind.TheVariants.{Error}
use Rattle.es_model.specs.Objects.{new_object_of}
use Rattle.object_heap.specs.Stands.{HeapView}
use Rattle.object_heap.specs.Seen.{seen, seen_added}
use Rattle.object_heap.specs.Tables.{IsTable}
use Rattle.object_heap.proofs.ErrorsMade.{error-goes, error-is, message_key, message_of, new_error}
use Rattle.object_heap.proofs.Retaining.{retains-made, retains-same}
use Rattle.object_heap.proofs.Views.{by_objects}
use Rattle.object_heap.proofs.heap.Heap.make_error.Goals as goal

pub returns-in_err-error-clause-retains : goal.returns-in_err-error-clause-retains
returns-in_err-error-clause-retains g c = retains-same _ _ (by_objects (λ ss. ss) c.self.view_is c.in_err-error.ensures.err)

pub returns-clause-object : goal.returns-clause-object
returns-clause-object g c = λ w h. c.in_ok-error.ensures.object ∙ ap (λ (v : HeapView). record { 0 = length v.objects }) c.self.view_is ∙ error-is _ w h

pub returns-clause-ok : goal.returns-clause-ok
returns-clause-ok g c =
    let e = c.in_ok-error.ensures.ok ∙ (λ t. c.self.inside.objects ++ seen_added (seen (new_object_of Error (Some (c.object-parent.ensures t)))) (Name (c.number.ensures t)) (message_of c.args.text) ∷ []) in
    error-goes c.args.self.now _ c.args.kind c.args.text (subst (λ (v : HeapView). IsTable v.texts) c.self.view_is c.self.invariant)
    (by_objects (λ ss. ss ++ seen_added (new_error c.args.kind) message_key (message_of c.args.text) ∷ []) c.self.view_is e)

pub returns-clause-retains : goal.returns-clause-retains
returns-clause-retains g c =
    let s = seen_added (seen (new_object_of Error (Some c.object-parent.result))) (Name c.number.result) (message_of c.args.text) in
    retains-made c.args.self.now _ s (by_objects (λ ss. ss ++ s ∷ []) c.self.view_is c.in_ok-error.ensures.ok)
