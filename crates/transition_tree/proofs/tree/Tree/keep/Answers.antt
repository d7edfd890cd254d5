use Rattle.std.proofs.Common.{◌≡◌, List, map, ap, sym, subst, ◌∙◌, arith}
use Rattle.std.proofs.Math.ListN.{set}
use Rattle.std.proofs.lemmas.List.{get_or_read}
use Rattle.std.specs.Global.{Vec}
use Rattle.transition_tree.specs.declared.table.Made.{Made}
use Rattle.transition_tree.specs.declared.table.Slot.{Slot}
use Rattle.transition_tree.specs.Tables.{IsSoundTable, no_slot, rows_of, slot_at, standing_of}
use Rattle.transition_tree.proofs.Methods.{keeps-ready, ready-maps, row-by-step, sound-keep, step-ready}
use Rattle.transition_tree.proofs.tree.Tree.keep.Goals as goal

pub invariant_of-self-2 : goal.invariant_of-self-2
invariant_of-self-2 c =
    let s = c.self.inside.table in
    let r = step-ready s.places s.slots.items s.made.items c.self.invariant c.args.self.now c.self.view_is c.args.map c.requires.known c.index.result.now c.index.ensures c.args.step.now c.edge_of-edge.result c.edge_of-edge.ensures
    c.place.new.self.places c.place.new.self.slots.items c.in_ok-place.place c.in_ok-place.ensures.ok in
    let slots = c.place.new.self.slots.items in
    let old : c.index_mut.result.now ≡ slot_at slots c.in_ok-place.place = get_or_read slots c.in_ok-place.place c.index_mut.result.now (let known = r.found.known in let paired = r.sound.paired in omega arith) c.index_mut.ensures.value no_slot in
    subst (λ (m : List Made). IsSoundTable c.place.new.self.places (set slots c.in_ok-place.place (record { kept = c.args.representation; latest = c.index_mut.result.now.latest })) m)
    (sym (ap (λ (v : Vec Made). v.items) c.in_ok-place.ensures.made))
    (sound-keep s.places s.slots.items s.made.items c.edge_of-edge.result c.in_ok-place.place c.args.self.now c.place.new.self.places slots c.self.view_is r c.args.map c.requires.known c.index.result.now c.index.ensures c.args.step.now c.edge_of-edge.ensures
    (record { kept = c.args.representation; latest = c.index_mut.result.now.latest }) (ap (λ (x : Slot). x.latest) old) c.requires.pair)

pub returns-clause-maps : goal.returns-clause-maps
returns-clause-maps c =
    let s = c.self.inside.table in
    let r = step-ready s.places s.slots.items s.made.items c.self.invariant c.args.self.now c.self.view_is c.args.map c.requires.known c.index.result.now c.index.ensures c.args.step.now c.edge_of-edge.result c.edge_of-edge.ensures
    c.place.new.self.places c.place.new.self.slots.items c.in_ok-place.place c.in_ok-place.ensures.ok in
    ap (λ (v : Vec Made). map (standing_of (rows_of c.place.new.self.places)) v.items) c.in_ok-place.ensures.made
    ∙ ready-maps s.places s.slots.items s.made.items c.edge_of-edge.result c.in_ok-place.place c.args.self.now c.place.new.self.places c.place.new.self.slots.items c.self.view_is r

pub returns-clause-ok : goal.returns-clause-ok
returns-clause-ok c =
    let s = c.self.inside.table in
    let r = step-ready s.places s.slots.items s.made.items c.self.invariant c.args.self.now c.self.view_is c.args.map c.requires.known c.index.result.now c.index.ensures c.args.step.now c.edge_of-edge.result c.edge_of-edge.ensures
    c.place.new.self.places c.place.new.self.slots.items c.in_ok-place.place c.in_ok-place.ensures.ok in
    keeps-ready s.places s.slots.items s.made.items c.edge_of-edge.result c.in_ok-place.place c.args.self.now c.place.new.self.places c.place.new.self.slots.items c.self.view_is r
    (record { kept = c.args.representation; latest = c.index_mut.result.now.latest }) _
    (row-by-step s.places s.slots.items s.made.items c.edge_of-edge.result c.in_ok-place.place c.args.self.now c.place.new.self.places c.place.new.self.slots.items c.self.view_is r c.args.map c.requires.known c.index.result.now c.index.ensures c.args.step.now c.edge_of-edge.ensures)
    _
