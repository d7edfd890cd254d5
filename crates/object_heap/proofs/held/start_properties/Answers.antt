use Rattle.std.proofs.Common.{◌≡◌, List, length, take, slice_get, ap, sym, ◌∙◌, subst}
use Rattle.es_model.specs.declared.owned.OwnProperty.{OwnProperty}
use Rattle.es_model.specs.StartTable.{start_properties}
use Rattle.object_heap.proofs.StartLists.{taken-more}
use Rattle.object_heap.proofs.held.start_properties.Goals as goal

pub loop-property-preserved : goal.loop-property-preserved
loop-property-preserved c =
    let ps = c.loop-property.properties.items in
    let all = start_properties c.args.intrinsic in
    let s = ap (λ n. slice_get all n) (sym (c.len.ensures ∙ c.loop-property.properties.ok.0)) ∙ sym c.property.ensures ∙ c.in-Some.is in
    subst (λ (qs : List OwnProperty). qs ≡ take (length qs) all) (sym c.in-Ok.ensures.items) (taken-more ps all c.in-Some.property c.loop-property.invariant s)
