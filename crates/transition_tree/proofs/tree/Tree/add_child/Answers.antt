use Rattle.std.proofs.Common.{sym, subst, ◌∙◌, arith, refl}
use Rattle.map_store.specs.Views.{MapsView}
use Rattle.transition_tree.specs.Rows.{IsIn}
use Rattle.transition_tree.specs.Tables.{tree_view}
use Rattle.transition_tree.specs.Together.{AddsChild, BelongTogether}
use Rattle.transition_tree.proofs.Belonging.{child-together, together-same}
use Rattle.transition_tree.proofs.Entering.{child-keeps, child-maps, child-sound, placed-before, placed-sound, within}
use Rattle.transition_tree.proofs.Methods.{step-leads}
use Rattle.transition_tree.proofs.Results.{on_err}
use Rattle.transition_tree.proofs.tree.Tree.add_child.Goals as goal

pub invariant_of-self-in_err-child : goal.invariant_of-self-in_err-child
invariant_of-self-in_err-child g c =
    let s = c.self.inside.table in
    let known : IsIn c.args.self.now c.args.map = omega (arith, c.requires.together.count, c.requires.known) in
    let leads = step-leads s.places s.slots.items s.made.items c.self.invariant c.args.self.now c.self.view_is c.args.map known c.index.result.now c.index.ensures c.args.step c.edge_of-edge.result c.edge_of-edge.ensures in
    placed-sound s c.make_room.new.self c.place.new.self c.args.self.now c.self.invariant c.self.view_is c.in_ok-make_room.ensures.places c.in_ok-make_room.ensures.slots c.in_ok-make_room.ensures.made
    c.edge_of-edge.result c.in_ok-place.place leads c.in_ok-place.ensures.ok c.in_ok-place.ensures.made

pub returns-in_err-child-clause-tree : goal.returns-in_err-child-clause-tree
returns-in_err-child-clause-tree g c =
    let s = c.self.inside.table in
    let known : IsIn c.args.self.now c.args.map = omega (arith, c.requires.together.count, c.requires.known) in
    let leads = step-leads s.places s.slots.items s.made.items c.self.invariant c.args.self.now c.self.view_is c.args.map known c.index.result.now c.index.ensures c.args.step c.edge_of-edge.result c.edge_of-edge.ensures in
    on_err c.from_residual-in_err-child.result
    (placed-before s c.make_room.new.self c.place.new.self c.args.self.now c.self.invariant c.self.view_is c.in_ok-make_room.ensures.places c.in_ok-make_room.ensures.slots c.in_ok-make_room.ensures.made
    c.edge_of-edge.result c.in_ok-place.place leads c.in_ok-place.ensures.ok c.in_ok-place.ensures.made)

pub returns-in_err-child-clause-together : goal.returns-in_err-child-clause-together
returns-in_err-child-clause-together g c =
    let s = c.self.inside.table in
    let known : IsIn c.args.self.now c.args.map = omega (arith, c.requires.together.count, c.requires.known) in
    let leads = step-leads s.places s.slots.items s.made.items c.self.invariant c.args.self.now c.self.view_is c.args.map known c.index.result.now c.index.ensures c.args.step c.edge_of-edge.result c.edge_of-edge.ensures in
    let before = placed-before s c.make_room.new.self c.place.new.self c.args.self.now c.self.invariant c.self.view_is c.in_ok-make_room.ensures.places c.in_ok-make_room.ensures.slots c.in_ok-make_room.ensures.made
    c.edge_of-edge.result c.in_ok-place.place leads c.in_ok-place.ensures.ok c.in_ok-place.ensures.made in
    subst (λ (ms : MapsView). BelongTogether (tree_view c.place.new.self.places c.place.new.self.slots.items c.place.new.self.made.items) ms) (sym c.in_err-child.ensures.err)
    (together-same c.args.self.now (tree_view c.place.new.self.places c.place.new.self.slots.items c.place.new.self.made.items) c.args.maps.now before.maps c.requires.together)

pub enter-requires-clause-within : goal.enter-requires-clause-within
enter-requires-clause-within g c =
    let s = c.self.inside.table in
    let known : IsIn c.args.self.now c.args.map = omega (arith, c.requires.together.count, c.requires.known) in
    let leads = step-leads s.places s.slots.items s.made.items c.self.invariant c.args.self.now c.self.view_is c.args.map known c.index.result.now c.index.ensures c.args.step c.edge_of-edge.result c.edge_of-edge.ensures in
    within s c.make_room.new.self c.place.new.self c.args.self.now c.self.invariant c.self.view_is c.in_ok-make_room.ensures.places c.in_ok-make_room.ensures.slots c.in_ok-make_room.ensures.made
    c.edge_of-edge.result c.in_ok-place.place leads c.in_ok-place.ensures.ok c.in_ok-place.ensures.made

pub invariant_of-self-2 : goal.invariant_of-self-2
invariant_of-self-2 g c =
    let s = c.self.inside.table in
    let known : IsIn c.args.self.now c.args.map = omega (arith, c.requires.together.count, c.requires.known) in
    let leads = step-leads s.places s.slots.items s.made.items c.self.invariant c.args.self.now c.self.view_is c.args.map known c.index.result.now c.index.ensures c.args.step c.edge_of-edge.result c.edge_of-edge.ensures in
    child-sound s c.make_room.new.self c.place.new.self c.args.self.now c.self.invariant c.self.view_is c.in_ok-make_room.ensures.places c.in_ok-make_room.ensures.slots c.in_ok-make_room.ensures.made
    c.edge_of-edge.result c.in_ok-place.place leads c.in_ok-place.ensures.ok c.in_ok-place.ensures.made
    c.args.map known c.index.result.now c.index.ensures c.args.step c.edge_of-edge.ensures c.enter.new.self _ c.enter.ensures.places c.enter.ensures.slots c.enter.ensures.made
    c.in_ok-child.child (c.in_ok-child.ensures.ok.number ∙ sym c.requires.together.count) refl c.requires.pair c.in_ok-make_room.ensures.few

pub returns-clause-ok : goal.returns-clause-ok
returns-clause-ok g c =
    let s = c.self.inside.table in
    let known : IsIn c.args.self.now c.args.map = omega (arith, c.requires.together.count, c.requires.known) in
    let leads = step-leads s.places s.slots.items s.made.items c.self.invariant c.args.self.now c.self.view_is c.args.map known c.index.result.now c.index.ensures c.args.step c.edge_of-edge.result c.edge_of-edge.ensures in
    record {
      made = c.in_ok-child.ensures.ok;
      maps = child-maps s c.make_room.new.self c.place.new.self c.args.self.now c.self.invariant c.self.view_is c.in_ok-make_room.ensures.places c.in_ok-make_room.ensures.slots c.in_ok-make_room.ensures.made
          c.edge_of-edge.result c.in_ok-place.place leads c.in_ok-place.ensures.ok c.in_ok-place.ensures.made
          c.args.map known c.index.result.now c.index.ensures c.args.step c.edge_of-edge.ensures c.enter.new.self _ c.enter.ensures.places c.enter.ensures.slots c.enter.ensures.made;
      kept = child-keeps s c.make_room.new.self c.place.new.self c.args.self.now c.self.invariant c.self.view_is c.in_ok-make_room.ensures.places c.in_ok-make_room.ensures.slots c.in_ok-make_room.ensures.made
          c.edge_of-edge.result c.in_ok-place.place leads c.in_ok-place.ensures.ok c.in_ok-place.ensures.made
          c.args.map known c.index.result.now c.index.ensures c.args.step c.edge_of-edge.ensures c.enter.new.self _ c.enter.ensures.places c.enter.ensures.slots c.enter.ensures.made;
    }

pub returns-clause-together : goal.returns-clause-together
returns-clause-together g c =
    let added : AddsChild c.args.self.now (tree_view c.enter.new.self.places c.enter.new.self.slots.items c.enter.new.self.made.items) c.args.maps.now c.follow.new.maps c.args.map c.args.step c.args.representation c.in_ok-child.child = returns-clause-ok g c in
    child-together c.args.self.now (tree_view c.enter.new.self.places c.enter.new.self.slots.items c.enter.new.self.made.items) c.args.maps.now c.follow.new.maps c.args.map c.in_ok-child.child c.args.step c.args.representation
    c.requires.together c.requires.known c.requires.live c.requires.none c.requires.fits added.maps added.made
