use Rattle.std.proofs.Common.{ap, sym, ◌∙◌, take, get_or}
use Rattle.std.proofs.lemmas.List.{take_more}
use Rattle.es_model.specs.OwnKeys.{indices_in, put_key}
use Rattle.object_heap.specs.Places.{no_property}
use Rattle.object_heap.proofs.KeyLists.{indices-more}
use Rattle.object_heap.proofs.listing.listed_indices.Goals as goal

pub loop-property-preserved : goal.loop-property-preserved
loop-property-preserved c =
    let ps = c.args.properties.now in
    let i = c.loop-property.property-index in
    let p = get_or ps i no_property in
    c.in_ok-add_key.ensures ∙ ap (put_key p.key) c.loop-property.invariant ∙ sym (indices-more (take i ps) p) ∙ ap indices_in (sym (take_more ps i no_property c.loop-property-test.true))
