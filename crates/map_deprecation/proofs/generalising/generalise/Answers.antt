use Rattle.std.proofs.Common.{◌≡◌, ap, sym, subst, ◌∙◌}
use Rattle.map_store.specs.Views.{entry_at, map_at}
use Rattle.transition_tree.specs.Rows.{Row, Standing, TreeView, after, row_of, standing_at}
use Rattle.transition_tree.specs.Together.{BelongTogether, IsLiveAt, LacksLive}
use Rattle.transition_tree.proofs.Belonging.{together-same}
use Rattle.std.specs.Prelude.{List}
use Rattle.map_deprecation.specs.Generalising.{Generalises}
use Rattle.map_deprecation.proofs.Falling.{branch-falls, nothing-falls}
use Rattle.map_deprecation.proofs.Generalised.{joins-it}
use Rattle.map_deprecation.proofs.generalising.generalise.Goals as goal

pub returns-in-Some-clause-ok : goal.returns-in-Some-clause-ok
returns-in-Some-clause-ok g c =
    let giver = c.giver_of-giver in
    let tree = c.args.tree.now in
    let maps = c.args.maps.now in
    let kept = c.keep.new.self in
    let row : Row = after (row_of tree giver.result.parent) giver.result.step in
    let same : row_of kept giver.result.map ≡ row = ap (λ (xs : List Standing). (standing_at xs giver.result.map.0).row) c.keep.ensures.maps ∙ giver.ensures.giver.row in
    let live : IsLiveAt kept maps row c.in-Some.live = subst (λ (r : Row). IsLiveAt kept maps r c.in-Some.live) same c.in-Some.ensures.current in
    let together : BelongTogether kept maps = together-same tree kept maps c.keep.ensures.maps c.requires.together in
    subst (λ (t : TreeView). Generalises tree t maps c.drop_branch.new.maps c.args.map (entry_at (map_at maps c.args.map).entries c.args.i).key c.args.class) (sym c.drop_branch.ensures.tree)
    (joins-it tree maps c.args.map c.args.i c.args.class giver.result.map giver.result.parent giver.result.step giver.ensures.giver c.kept-kept.result c.kept-kept.ensures.value kept c.drop_branch.new.maps c.join.result
    (sym c.takes.ensures ∙ c.if-takes.false) c.join.ensures c.keep.ensures.maps c.in_ok-keep.ensures.ok
    (branch-falls kept maps row together c.drop_branch.new.maps c.in-Some.live live c.drop_branch.ensures.maps))

pub returns-in_default-clause-ok : goal.returns-in_default-clause-ok
returns-in_default-clause-ok g c =
    let giver = c.giver_of-giver in
    let tree = c.args.tree.now in
    let maps = c.args.maps.now in
    let kept = c.keep.new.self in
    let row : Row = after (row_of tree giver.result.parent) giver.result.step in
    let same : row_of kept giver.result.map ≡ row = ap (λ (xs : List Standing). (standing_at xs giver.result.map.0).row) c.keep.ensures.maps ∙ giver.ensures.giver.row in
    let lacks : LacksLive kept maps row = subst (λ (r : Row). LacksLive kept maps r) same c.in_default.ensures.current in
    let together : BelongTogether kept maps = together-same tree kept maps c.keep.ensures.maps c.requires.together in
    joins-it tree maps c.args.map c.args.i c.args.class giver.result.map giver.result.parent giver.result.step giver.ensures.giver c.kept-kept.result c.kept-kept.ensures.value kept maps c.join.result
    (sym c.takes.ensures ∙ c.if-takes.false) c.join.ensures c.keep.ensures.maps c.in_ok-keep.ensures.ok
    (nothing-falls kept maps row together lacks)
