use Rattle.std.proofs.Common.{ap, ◌∙◌, ◌≡◌, ◌++◌, ◌∷◌, [], length}
use Rattle.map_store.specs.Views.{rooted, MapsView}
use Rattle.map_store.specs.Records.{lists, maps_view}
use Rattle.map_store.proofs.Changes.{root-is, root_record, lists-count}
use Rattle.map_store.proofs.Kept.{keeps_pushed}
use Rattle.map_store.proofs.maps.Maps.root.Goals as goal

pub returns-clause-ok : goal.returns-clause-ok
returns-clause-ok c =
    let ess = lists c.self.inside.arrays.items in
    let rows = c.self.inside.maps.items in
    let grown : lists c.push_array.new.arrays.items ≡ ess ++ [] ∷ [] = c.in_ok-push_array.ensures.ok ∙ (λ i. ess ++ c.new.ensures.items i ∷ []) in
    let numbered : c.in_ok-array.array ≡ length ess = c.in_ok-array.ensures ∙ c.len-2.ensures ∙ lists-count c.self.inside.arrays in
    let pushed : c.append.new.maps.items ≡ rows ++ root_record (length ess) c.args.origin c.args.proto ∷ [] =
    c.append.ensures ∙ (λ i. c.in_ok-make_room.ensures.items i ++ root_record (numbered i) c.args.origin c.args.proto ∷ []) in
    (λ i. maps_view (grown i) (pushed i))
    ∙ root-is ess rows c.args.origin c.args.proto c.self.invariant
    ∙ ap (λ ms. rooted ms c.args.origin c.args.proto) c.self.view_is

pub returns-clause-entries : goal.returns-clause-entries
returns-clause-entries c = keeps_pushed _ _ _ (ap (λ (ms : MapsView). ms.maps) (returns-clause-ok c))
