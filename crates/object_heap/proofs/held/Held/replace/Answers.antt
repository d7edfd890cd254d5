use Rattle.std.proofs.Common.{ap, sym, ◌∙◌, subst, Option}
use Rattle.std.specs.Prelude.{IsSome}
use Rattle.std.proofs.Math.ListN.{set}
use Rattle.std.proofs.lemmas.List.{get_or_read}
use Rattle.descriptors.specs.declared.property.Complete.{Complete}
use Rattle.es_model.specs.declared.owned.OwnProperty.{OwnProperty}
use Rattle.object_heap.specs.Places.{IsPlace, no_property}
use Rattle.es_model.specs.Objects.{Object, with_properties}
use Rattle.object_heap.specs.Seen.{seen, find_seen, seen_replaced}
use Rattle.object_heap.proofs.SeenFacts.{find-seen, seen-replaced}
use Rattle.object_heap.proofs.KeyPlaces.{replace-place, none_some}
use Rattle.object_heap.proofs.held.Held.replace.Goals as goal

pub returns-in-Some : goal.returns-in-Some
returns-in-Some c =
    let h = c.self.inside in
    let o : Object = record { kind = h.kind; proto = h.proto; extensible = h.extensible; properties = h.properties.items } in
    let i = c.in-Some.i in
    let k : IsPlace o.properties c.args.key i = rw c.deref.ensures.value at c.in-Some.ensures in
    let read = get_or_read o.properties i c.index_mut.result.now k.within c.index_mut.ensures.value no_property in
    let e = ap (λ (q : OwnProperty). set o.properties i (record { key = q.key; complete = c.args.complete })) read in
    let there = subst (λ (x : Option Complete). IsSome x) (sym (ap (λ s. find_seen s c.args.key) c.self.view_is) ∙ find-seen o c.args.key) c.requires in
    ap (λ qs. seen (with_properties o qs)) (e ∙ sym (replace-place o.properties c.args.key c.args.complete i k))
    ∙ seen-replaced o c.args.key c.args.complete there ∙ ap (λ s. seen_replaced s c.args.key c.args.complete) c.self.view_is

pub returns-in_default : goal.returns-in_default
returns-in_default c =
    let h = c.self.inside in
    let o : Object = record { kind = h.kind; proto = h.proto; extensible = h.extensible; properties = h.properties.items } in
    let none = rw c.deref.ensures.value at c.in_default.ensures in
    absurd (none_some (sym (ap (λ s. find_seen s c.args.key) c.self.view_is) ∙ find-seen o c.args.key ∙ none) c.requires)
