-- A class is joined into what is kept for the step that gave an entry.
use Rattle.std.proofs.Common.{◌≡◌, ◌≢◌, inl, inr, ℕ, true, false, refl, ap, sym, subst, ◌∙◌}
use Rattle.std.proofs.lemmas.Bool.{false≢true}
use Rattle.map_store.specs.declared.MapId.{MapId}
use Rattle.map_store.specs.declared.entries.Kind.TheVariants as kind
use Rattle.map_store.specs.declared.entries.Representation.{Representation}
use Rattle.map_store.specs.declared.entries.Representation.TheVariants as representation
use Rattle.map_store.specs.Views.{MapsView, entry_at, map_at}
use Rattle.transition_tree.specs.declared.paths.Step.{Step}
use Rattle.transition_tree.specs.Paths.{HasPairWhereDue, is_accessor, is_accessor_step}
use Rattle.transition_tree.specs.Rows.{KeepsAt, TreeView, after, kept_at, row_of}
use Rattle.map_deprecation.specs.declared.classes.Class.{Class}
use Rattle.map_deprecation.specs.Classes.{IsLeastAbove, is_at_or_above, of_class}
use Rattle.map_deprecation.specs.Generalising.{DropsThrough, Generalises, IsGiver}
use Rattle.map_deprecation.proofs.Falling.{not-pair}

module _ (tree : TreeView) (ms : MapsView) (map : MapId) (i : ℕ) (c : Class) (at parent : MapId) (s : Step) (giver : IsGiver tree ms map i at parent s) (kept : Representation)
    (kept_is : kept ≡ kept_at tree.kept (after (row_of tree parent) s)) where
  pub takes-it : is_at_or_above kept (of_class c) ≡ true → Generalises tree tree ms ms map (entry_at (map_at ms map).entries i).key c
  takes-it t = record {
    front = row_of tree parent;
    by = s;
    given = giver.given;
    change = inl (record { taken = ap (λ (r : Representation). is_at_or_above r (of_class c)) (sym kept_is) ∙ t; tree = refl; maps = refl });
  }

  pub joins-it : (new : TreeView) (now : MapsView) (joined : Representation) → is_at_or_above kept (of_class c) ≡ false → IsLeastAbove kept (of_class c) joined → new.maps ≡ tree.maps
      → KeepsAt tree new (after (row_of tree parent) s) joined → DropsThrough new ms now (after (row_of tree parent) s) → Generalises tree new ms now map (entry_at (map_at ms map).entries i).key c
  joins-it new now joined f least maps keeps drops = record {
    front = row_of tree parent;
    by = s;
    given = giver.given;
    change = inr (record {
      not_taken = ap (λ (r : Representation). is_at_or_above r (of_class c)) (sym kept_is) ∙ f;
      least = subst (λ (r : Representation). IsLeastAbove r (of_class c) (kept_at new.kept (after (row_of tree parent) s))) kept_is
          (subst (λ (r : Representation). IsLeastAbove kept (of_class c) r) (sym keeps.here) least);
      others = keeps.others;
      tree = maps;
      maps = drops;
    });
  }

  module _ (stored : (entry_at (map_at ms map).entries i).kind ≡ kind.Stored) where
    not-accessor : is_accessor_step s ≡ true → ⊥
    not-accessor a = false≢true (sym (ap is_accessor stored) ∙ sym giver.kind_is ∙ a)

    pub kept-no-pair : (kept ≡ representation.Pair → is_accessor_step s ≡ true) → kept ≢ representation.Pair
    kept-no-pair only e = not-accessor (only e)

    pub joined-pair : (joined : Representation) → IsLeastAbove kept (of_class c) joined → HasPairWhereDue s joined
    joined-pair joined least = (λ e. absurd (not-pair joined c least.second e), λ a. absurd (not-accessor a))
