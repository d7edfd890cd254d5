-- The maps at a row and beyond fall with the live map of that row.
use Rattle.std.proofs.Common.{◌≡◌, ◌≢◌, inl, inr, true, false, List, refl, ap, sym, subst, ◌∙◌, true≢false}
use Rattle.std.proofs.lemmas.Bool.{false_from_ne_true}
use Rattle.map_store.specs.declared.MapId.{MapId}
use Rattle.map_store.specs.declared.entries.Representation.{Representation}
use Rattle.map_store.specs.declared.entries.Representation.TheVariants as representation
use Rattle.map_store.specs.Views.{IsKnown, MapView, MapsView, dead_map, map_at}
use Rattle.transition_tree.specs.declared.paths.Step.{Step}
use Rattle.transition_tree.specs.Rows.{Row, TreeView, onward, row_of}
use Rattle.transition_tree.specs.Together.{BelongTogether, DropsBranch, IsBelow, IsLiveAt, LacksLive}
use Rattle.transition_tree.proofs.Belonging.{below-onward, front-of, live-same}
use Rattle.map_deprecation.specs.declared.classes.Class.{Class}
use Rattle.map_deprecation.specs.declared.classes.Class.TheVariants as class
use Rattle.map_deprecation.specs.Classes.{is_at_or_above, of_class}
use Rattle.map_deprecation.specs.Generalising.{DropsThrough}

dead-itself : (v : MapView) → v.live ≡ false → v ≡ dead_map v
dead-itself v e = λ t. record v { live = e t }

module _ (tree : TreeView) (ms : MapsView) (row : Row) (b : BelongTogether tree ms) where
  -- no live map at the row, so none beyond
  pub nothing-falls : LacksLive tree ms row → DropsThrough tree ms ms row
  nothing-falls lacks = record {
    count = refl;
    arrays = refl;
    through = λ n known rest e.
        let f = front-of tree ms b row n known rest e in
        dead-itself (map_at ms n) (false_from_ne_true (map_at ms n).live (λ l. lacks f.at f.known (f.live l) f.here));
    others = λ n known apart. refl;
  }

  module _ (now : MapsView) (live : MapId) (at : IsLiveAt tree ms row live) (d : DropsBranch tree ms now live) where
    is-below : (n : MapId) → IsKnown ms n → (rest : List Step) → row_of tree n ≡ onward row rest → (map_at ms n).live ≡ true → IsBelow tree live n
    is-below n known rest e l =
        let f = front-of tree ms b row n known rest e in
        let same : f.at ≡ live = live-same tree ms row f.at live b (record { known = f.known; live = f.live l; here = f.here }) at in
        subst (λ (m : MapId). IsBelow tree m n) same f.below

    pub branch-falls : DropsThrough tree ms now row
    branch-falls = record {
      count = d.count;
      arrays = d.arrays;
      through = λ n known rest e. elim (d.each n known) [
        | inl f ↦ f.1
        | inr f ↦ f.1 ∙ dead-itself (map_at ms n) (false_from_ne_true (map_at ms n).live (λ l. f.0 (is-below n known rest e l)))
      ];
      others = λ n known apart. elim (d.each n known) [
        | inl f ↦
            let on = below-onward tree ms b live n known f.0 in
            absurd (apart on.rest (on.is ∙ ap (λ (r : Row). onward r on.rest) at.here))
        | inr f ↦ f.1
      ];
    }

-- a join is no Pair
pub not-pair : (r : Representation) (c : Class) → is_at_or_above r (of_class c) ≡ true → r ≢ representation.Pair
not-pair r class.Smi t e = absurd (true≢false (sym t ∙ ap (λ (x : Representation). is_at_or_above x representation.Smi) e))
not-pair r class.Whole t e = absurd (true≢false (sym t ∙ ap (λ (x : Representation). is_at_or_above x representation.Whole) e))
not-pair r class.Ref t e = absurd (true≢false (sym t ∙ ap (λ (x : Representation). is_at_or_above x representation.Ref) e))
not-pair r class.Tagged t e = absurd (true≢false (sym t ∙ ap (λ (x : Representation). is_at_or_above x representation.Tagged) e))
