use Rattle.std.proofs.Common.{◌≡◌, length, ap, sym, subst, ◌∙◌, refl}
use Rattle.std.proofs.lemmas.List.{get_or_read}
use Rattle.map_store.specs.Views.{MapsView}
use Rattle.transition_tree.specs.declared.edges.Edge.{Edge}
use Rattle.transition_tree.specs.declared.table.Slot.{Slot}
use Rattle.transition_tree.specs.Tables.{LeadsOn, no_slot, slot_at, tree_view}
use Rattle.transition_tree.specs.Together.{BelongTogether, MakesRoot}
use Rattle.transition_tree.proofs.Belonging.{root-together, together-same}
use Rattle.transition_tree.proofs.Entering.{placed-before, placed-sound, root-keeps, root-maps, root-sound, within}
use Rattle.transition_tree.proofs.RowsOfPlaces.{leads-root}
use Rattle.transition_tree.proofs.Results.{on_err}
use Rattle.transition_tree.proofs.tree.Tree.make_root.Goals as goal

pub invariant_of-self-in_err-map : goal.invariant_of-self-in_err-map
invariant_of-self-in_err-map c =
    let s = c.self.inside.table in
    let leads : LeadsOn c.root_edge.result (length s.places) = subst (λ (x : Edge). LeadsOn x (length s.places)) (sym c.root_edge.ensures) (leads-root c.args.origin c.args.proto (length s.places)) in
    placed-sound s c.make_room.new.self c.place.new.self c.args.self.now c.self.invariant c.self.view_is c.in_ok-make_room.ensures.places c.in_ok-make_room.ensures.slots c.in_ok-make_room.ensures.made
    c.root_edge.result c.in_ok-place.place leads c.in_ok-place.ensures.ok c.in_ok-place.ensures.made

pub returns-in_err-map-clause-tree : goal.returns-in_err-map-clause-tree
returns-in_err-map-clause-tree c =
    let s = c.self.inside.table in
    let leads : LeadsOn c.root_edge.result (length s.places) = subst (λ (x : Edge). LeadsOn x (length s.places)) (sym c.root_edge.ensures) (leads-root c.args.origin c.args.proto (length s.places)) in
    on_err c.from_residual-in_err-map.result
    (placed-before s c.make_room.new.self c.place.new.self c.args.self.now c.self.invariant c.self.view_is c.in_ok-make_room.ensures.places c.in_ok-make_room.ensures.slots c.in_ok-make_room.ensures.made
    c.root_edge.result c.in_ok-place.place leads c.in_ok-place.ensures.ok c.in_ok-place.ensures.made)

pub returns-in_err-map-clause-together : goal.returns-in_err-map-clause-together
returns-in_err-map-clause-together c =
    let s = c.self.inside.table in
    let leads : LeadsOn c.root_edge.result (length s.places) = subst (λ (x : Edge). LeadsOn x (length s.places)) (sym c.root_edge.ensures) (leads-root c.args.origin c.args.proto (length s.places)) in
    let before = placed-before s c.make_room.new.self c.place.new.self c.args.self.now c.self.invariant c.self.view_is c.in_ok-make_room.ensures.places c.in_ok-make_room.ensures.slots c.in_ok-make_room.ensures.made
    c.root_edge.result c.in_ok-place.place leads c.in_ok-place.ensures.ok c.in_ok-place.ensures.made in
    subst (λ (ms : MapsView). BelongTogether (tree_view c.place.new.self.places c.place.new.self.slots.items c.place.new.self.made.items) ms) (sym c.in_err-map.ensures.err)
    (together-same c.args.self.now (tree_view c.place.new.self.places c.place.new.self.slots.items c.place.new.self.made.items) c.args.maps.now before.maps c.requires.together)

pub invariant_of-self-2 : goal.invariant_of-self-2
invariant_of-self-2 c =
    let s = c.self.inside.table in
    let leads : LeadsOn c.root_edge.result (length s.places) = subst (λ (x : Edge). LeadsOn x (length s.places)) (sym c.root_edge.ensures) (leads-root c.args.origin c.args.proto (length s.places)) in
    let slots = c.place.new.self.slots.items in
    let inside = within s c.make_room.new.self c.place.new.self c.args.self.now c.self.invariant c.self.view_is c.in_ok-make_room.ensures.places c.in_ok-make_room.ensures.slots c.in_ok-make_room.ensures.made
    c.root_edge.result c.in_ok-place.place leads c.in_ok-place.ensures.ok c.in_ok-place.ensures.made in
    let old : c.index.result.now ≡ slot_at slots c.in_ok-place.place = get_or_read slots c.in_ok-place.place c.index.result.now inside c.index.ensures no_slot in
    root-sound s c.make_room.new.self c.place.new.self c.args.self.now c.self.invariant c.self.view_is c.in_ok-make_room.ensures.places c.in_ok-make_room.ensures.slots c.in_ok-make_room.ensures.made
    c.root_edge.result c.in_ok-place.place leads c.in_ok-place.ensures.ok c.in_ok-place.ensures.made
    c.args.origin c.args.proto c.root_edge.ensures c.enter.new.self _ c.enter.ensures.places c.enter.ensures.slots c.enter.ensures.made (ap (λ (x : Slot). x.kept) old)
    c.in_ok-map.map (c.in_ok-map.ensures.number ∙ sym c.requires.together.count) refl c.in_ok-make_room.ensures.few

pub returns-clause-ok : goal.returns-clause-ok
returns-clause-ok c =
    let s = c.self.inside.table in
    let leads : LeadsOn c.root_edge.result (length s.places) = subst (λ (x : Edge). LeadsOn x (length s.places)) (sym c.root_edge.ensures) (leads-root c.args.origin c.args.proto (length s.places)) in
    let slots = c.place.new.self.slots.items in
    let inside = within s c.make_room.new.self c.place.new.self c.args.self.now c.self.invariant c.self.view_is c.in_ok-make_room.ensures.places c.in_ok-make_room.ensures.slots c.in_ok-make_room.ensures.made
    c.root_edge.result c.in_ok-place.place leads c.in_ok-place.ensures.ok c.in_ok-place.ensures.made in
    let old : c.index.result.now ≡ slot_at slots c.in_ok-place.place = get_or_read slots c.in_ok-place.place c.index.result.now inside c.index.ensures no_slot in
    record {
      none = c.requires.none;
      number = c.in_ok-map.ensures.number;
      made = c.in_ok-map.ensures.ok;
      maps = root-maps s c.make_room.new.self c.place.new.self c.args.self.now c.self.invariant c.self.view_is c.in_ok-make_room.ensures.places c.in_ok-make_room.ensures.slots c.in_ok-make_room.ensures.made
          c.root_edge.result c.in_ok-place.place leads c.in_ok-place.ensures.ok c.in_ok-place.ensures.made
          c.args.origin c.args.proto c.root_edge.ensures c.enter.new.self _ c.enter.ensures.places c.enter.ensures.slots c.enter.ensures.made (ap (λ (x : Slot). x.kept) old);
      kept = root-keeps s c.make_room.new.self c.place.new.self c.args.self.now c.self.invariant c.self.view_is c.in_ok-make_room.ensures.places c.in_ok-make_room.ensures.slots c.in_ok-make_room.ensures.made
          c.root_edge.result c.in_ok-place.place leads c.in_ok-place.ensures.ok c.in_ok-place.ensures.made
          c.args.origin c.args.proto c.root_edge.ensures c.enter.new.self _ c.enter.ensures.places c.enter.ensures.slots c.enter.ensures.made (ap (λ (x : Slot). x.kept) old);
    }

pub returns-clause-together : goal.returns-clause-together
returns-clause-together c =
    let made : MakesRoot c.args.self.now (tree_view c.enter.new.self.places c.enter.new.self.slots.items c.enter.new.self.made.items) c.args.maps.now c.root.new.self c.args.origin c.args.proto c.in_ok-map.map = returns-clause-ok c in
    root-together c.args.self.now (tree_view c.enter.new.self.places c.enter.new.self.slots.items c.enter.new.self.made.items) c.args.maps.now c.root.new.self c.args.origin c.args.proto c.requires.together c.requires.none made.maps made.made
