use Rattle.std.proofs.Common.{◌≡◌, ◌<◌, List, length, set, subst, sym, ◌∙◌, ap, arith}
use Rattle.std.specs.Prelude.{slice_index}
use Rattle.std.proofs.lemmas.List.{get_or_default}
use Rattle.property_keys.specs.declared.keys.PropKey.{PropKey}
use Rattle.descriptors.specs.declared.property.Complete.{Complete}
use Rattle.indexmap.specs.IndexMap.{get}
use Rattle.dictionary_mode.proofs.Slots.{key_eq, length-in_use, sound_written, in_use-written}
use Rattle.dictionary_mode.specs.Entries.{key_at, with_property, no_entry}
use Rattle.dictionary_mode.specs.Places.{IsSoundDictionary, in_use}
use Rattle.dictionary_mode.proofs.dictionary.Dictionary.replace.Goals as goal

inside : (c : goal.After-self-1) → c.args.place < length c.self.inside.order.list
inside c = omega (arith, length-in_use c.self.inside.slots.items c.self.inside.order.list, c.requires, ap length c.self.view_is)

the_slot : (c : goal.After-self-1) → c.at-slot.result ≡ slice_index c.self.inside.order.list c.args.place
the_slot c = c.at-slot.ensures

the_key : (c : goal.After-self-1) → c.index_mut.result.now.0 ≡ key_at c.self.inside.slots.items (slice_index c.self.inside.order.list c.args.place)
the_key c =
    let lt : c.at-slot.result < length c.self.inside.slots.items = omega (arith, the_slot c, c.self.invariant.within c.args.place (inside c)) in
    ap (λ (e : PropKey × Complete). e.0) (c.index_mut.ensures.value ∙ get_or_default c.self.inside.slots.items c.at-slot.result c.index_mut.result.now no_entry lt)
    ∙ ap (key_at c.self.inside.slots.items) (the_slot c)

written : (c : goal.After-self-1) → set c.self.inside.slots.items c.at-slot.result (c.index_mut.result.now.0, c.args.property)
    ≡ set c.self.inside.slots.items (slice_index c.self.inside.order.list c.args.place) (key_at c.self.inside.slots.items (slice_index c.self.inside.order.list c.args.place), c.args.property)
written c = λ t. set c.self.inside.slots.items (the_slot c t) (the_key c t, c.args.property)

pub invariant_of-self : goal.invariant_of-self
invariant_of-self c =
    let P : List (PropKey × Complete) → Type 0 = λ xs. IsSoundDictionary (λ key. get key_eq c.self.inside.index key) xs c.self.inside.order.list c.self.inside.order.room in
    subst P (sym (written c)) (sound_written _ _ _ _ c.self.invariant c.args.place (inside c) c.args.property)

pub returns : goal.returns
returns c =
    ap (λ xs. in_use xs c.self.inside.order.list) (written c) ∙ in_use-written _ _ _ _ c.self.invariant c.args.place (inside c) c.args.property
    ∙ ap (λ es. with_property es c.args.place c.args.property) c.self.view_is
