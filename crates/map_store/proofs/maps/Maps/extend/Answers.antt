use Rattle.std.proofs.Common.{ap, sym, ◌∙◌, ◌≡◌, ◌++◌, ◌∷◌, [], subst, true}
use Rattle.map_store.specs.Views.{extended}
use Rattle.map_store.specs.Records.{lists, maps_view, gone_on, next_array, AreSound}
use Rattle.map_store.proofs.Changes.{extended-is, extended-sound, keeps_extended, known-row, longer_record}
use Rattle.map_store.proofs.maps.Maps.extend.Goals as goal

rows-are : (c : goal.After-append) → c.append.new.maps.items
    ≡ c.self.inside.maps.items ++ longer_record c.index-kept.result.now (next_array (lists c.self.inside.arrays.items) c.index-kept.result.now.array c.index-kept.result.now.count) ∷ []
rows-are c = c.append.ensures
    ∙ (λ i. c.in_ok-make_room.ensures.items i ++ (record c.index-kept.result.now { array = c.in_ok-array.ensures.number i; count = c.in_ok-count.ensures i; live = true }) ∷ [])

pub invariant_of-self-2 : goal.invariant_of-self-2
invariant_of-self-2 c =
    let ess = lists c.self.inside.arrays.items in
    let kept = c.index-kept.result.now in
    subst (λ ess. AreSound ess c.append.new.maps.items) (sym c.in_ok-array.ensures.ok)
    (subst (AreSound (gone_on ess kept.array kept.count c.args.entry)) (sym (rows-are c))
    (extended-sound ess c.self.inside.maps.items c.args.map.0 kept c.args.entry c.self.invariant (known-row _ _ _ _ c.self.view_is c.requires) c.index-kept.ensures))

pub returns-clause-ok : goal.returns-clause-ok
returns-clause-ok c =
    let ess = lists c.self.inside.arrays.items in
    let rows = c.self.inside.maps.items in
    let kept = c.index-kept.result.now in
    (λ i. maps_view (c.in_ok-array.ensures.ok i) (rows-are c i))
    ∙ extended-is ess rows c.args.map kept c.args.entry c.self.invariant (known-row _ _ _ _ c.self.view_is c.requires) c.index-kept.ensures
    ∙ ap (λ ms. extended ms c.args.map c.args.entry) c.self.view_is

pub returns-clause-entries : goal.returns-clause-entries
returns-clause-entries c = keeps_extended _ _ c.args.map c.args.entry (returns-clause-ok c)
