use Rattle.std.proofs.Common.{◌≡◌, ◌++◌, ◌∷◌, [], List, length, map, take, slice_get, ap, sym, ◌∙◌, subst}
use Rattle.es_model.specs.StartWorld.{all_intrinsics, start_lists}
use Rattle.object_heap.specs.Seen.{Seen, seen}
use Rattle.object_heap.proofs.StartLists.{taken-more, taken-all, start-object, no-start_object}
use Rattle.object_heap.proofs.objects.Objects.at_start.Goals as goal

pub loop-intrinsic-preserved : goal.loop-intrinsic-preserved
loop-intrinsic-preserved c =
    let ss = c.loop-intrinsic.all.items in
    let wanted = map seen start_lists.objects in
    let s = ap (λ n. slice_get all_intrinsics n) (sym (c.len.ensures ∙ c.loop-intrinsic.all.ok.0)) ∙ sym c.start_intrinsic.ensures ∙ c.in-Some.is in
    let more = taken-more ss wanted _ c.loop-intrinsic.invariant (start-object (length ss) c.in-Some.intrinsic s) in
    subst (λ (qs : List Seen). qs ≡ take (length qs) wanted) (sym (c.in-Ok.ensures.items ∙ ap (λ s. ss ++ s ∷ []) c.in_ok-held.ensures)) more

pub returns : goal.returns
returns c =
    let ss = c.loop-intrinsic.all.items in
    let s = ap (λ n. slice_get all_intrinsics n) (sym (c.len.ensures ∙ c.loop-intrinsic.all.ok.0)) ∙ sym c.start_intrinsic.ensures ∙ c.in_default.is in
    taken-all ss (map seen start_lists.objects) c.loop-intrinsic.invariant (no-start_object (length ss) s)
