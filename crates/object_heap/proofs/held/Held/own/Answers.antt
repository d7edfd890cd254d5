use Rattle.std.proofs.Common.{Some, ap, sym, ◌∙◌}
use Rattle.std.proofs.lemmas.List.{get_or_read}
use Rattle.es_model.specs.declared.owned.OwnProperty.{OwnProperty}
use Rattle.object_heap.specs.Places.{IsPlace, no_property}
use Rattle.es_model.specs.Objects.{Object}
use Rattle.object_heap.specs.Seen.{find_seen}
use Rattle.object_heap.proofs.SeenFacts.{find-seen}
use Rattle.object_heap.proofs.KeyPlaces.{find-place}
use Rattle.object_heap.proofs.held.Held.own.Goals as goal

pub returns-in-Some : goal.returns-in-Some
returns-in-Some c =
    let h = c.self.inside in
    let o : Object = record { kind = h.kind; proto = h.proto; extensible = h.extensible; properties = h.properties.items } in
    let k : IsPlace o.properties c.args.key c.in-Some.i = rw c.deref.ensures.value at c.in-Some.ensures in
    ap (λ (p : OwnProperty). Some p.complete) (get_or_read o.properties c.in-Some.i c.index.result.now k.within c.index.ensures no_property)
    ∙ sym (find-place o.properties c.args.key c.in-Some.i k) ∙ sym (find-seen o c.args.key) ∙ ap (λ s. find_seen s c.args.key) c.self.view_is

pub returns-in-None : goal.returns-in-None
returns-in-None c =
    let h = c.self.inside in
    let o : Object = record { kind = h.kind; proto = h.proto; extensible = h.extensible; properties = h.properties.items } in
    sym (rw c.deref.ensures.value at c.in-None.ensures) ∙ sym (find-seen o c.args.key) ∙ ap (λ s. find_seen s c.args.key) c.self.view_is
