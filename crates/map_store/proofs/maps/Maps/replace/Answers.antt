use Rattle.std.proofs.Common.{ap, ◌∙◌, ◌≡◌, ◌++◌, ◌∷◌, [], length, true}
use Rattle.map_store.specs.Views.{replaced, MapsView}
use Rattle.map_store.specs.Records.{lists, maps_view}
use Rattle.map_store.proofs.Changes.{replaced-is, known-row, lists-count}
use Rattle.map_store.proofs.Kept.{keeps_pushed}
use Rattle.map_store.proofs.maps.Maps.replace.Goals as goal

pub returns-clause-ok : goal.returns-clause-ok
returns-clause-ok c =
    let ess = lists c.self.inside.arrays.items in
    let rows = c.self.inside.maps.items in
    let kept = c.index-kept.result.now in
    let numbered : c.in_ok-array.array ≡ length ess = c.in_ok-array.ensures ∙ c.len-2.ensures ∙ lists-count c.self.inside.arrays in
    let pushed : c.append.new.maps.items ≡ rows ++ (record kept { array = length ess; live = true }) ∷ [] =
    c.append.ensures ∙ (λ i. c.in_ok-make_room.ensures.items i ++ (record kept { array = numbered i; live = true }) ∷ []) in
    (λ i. maps_view (c.in_ok-push_replaced.ensures.ok i) (pushed i))
    ∙ replaced-is ess rows c.args.map kept c.args.i c.args.entry c.self.invariant (known-row _ _ _ _ c.self.view_is c.requires.known) c.index-kept.ensures
    ∙ ap (λ ms. replaced ms c.args.map c.args.i c.args.entry) c.self.view_is

pub returns-clause-entries : goal.returns-clause-entries
returns-clause-entries c = keeps_pushed _ _ _ (ap (λ (ms : MapsView). ms.maps) (returns-clause-ok c))
