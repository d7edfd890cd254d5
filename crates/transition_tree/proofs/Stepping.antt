-- A map made by a redefinition.
use Rattle.std.proofs.Common.{◌≡◌, ℕ, List, [], ◌∷◌, ◌++◌, Result, Ok, Err, IfOk, OnOk, length, get_or, refl, ap, sym, ◌∙◌}
use Rattle.std.proofs.Math.ListN.{set}
use Rattle.property_keys.specs.declared.faults.NoMemory.{NoMemory}
use Rattle.property_keys.specs.declared.keys.Attributes.{Attributes}
use Rattle.property_keys.specs.declared.keys.PropKey.{PropKey}
use Rattle.map_store.specs.declared.MapId.{MapId}
use Rattle.map_store.specs.declared.entries.Kind.{Kind}
use Rattle.map_store.specs.declared.entries.Representation.{Representation}
use Rattle.map_store.specs.Keys.{IsPlace}
use Rattle.map_store.specs.Views.{MapView, MapsView, entry_at, map_at, no_map, replaced, with_entry}
use Rattle.transition_tree.specs.declared.paths.Step.{Step}
use Rattle.transition_tree.specs.declared.paths.Step.TheVariants as step
use Rattle.transition_tree.specs.Paths.{entry_of, MakesChild}

at_end : (ms : List MapView) (m : MapView) → get_or (ms ++ m ∷ []) (length ms) no_map ≡ m
at_end [] m = refl
at_end (x ∷ ms) m = at_end ms m

pub at_last : (ms : List MapView) (m : MapView) (n : ℕ) → n ≡ length ms → get_or (ms ++ m ∷ []) n no_map ≡ m
at_last ms m n e = ap (λ n. get_or (ms ++ m ∷ []) n no_map) e ∙ at_end ms m

redefined : (before after : MapsView) (parent child : MapId) (key : PropKey) (kind : Kind) (attributes : Attributes) (r : Representation) (i place : ℕ)
    → IsPlace (map_at before parent).entries key i → place ≡ (entry_at (map_at before parent).entries i).place
    → child.0 ≡ length before.maps → after ≡ replaced before parent i (entry_of key kind attributes r place) → MakesChild before after parent (step.Redefine key kind attributes) r child
redefined before after parent child key kind attributes r i place at here number is =
    let m : MapView = map_at before parent in
    let made : MapView = with_entry m i (entry_of key kind attributes r place) (length before.lengths) in
    let last : map_at after child ≡ made = ap (λ (ms : MapsView). map_at ms child) is ∙ at_last before.maps made child.0 number in
    record {
      all = (i, at, is ∙ ap (λ (p : ℕ). replaced before parent i (entry_of key kind attributes r p)) here);
      number = number;
      maps = ap (λ (ms : MapsView). ms.maps) is ∙ (λ t. before.maps ++ sym last t ∷ []);
      follows = record {
        origin = ap (λ (m : MapView). m.origin) last;
        proto = ap (λ (m : MapView). m.proto) last;
        live = ap (λ (m : MapView). m.live) last;
        extensible = ap (λ (m : MapView). m.extensible) last;
        entries = (i, at, ap (λ (m : MapView). m.entries) last ∙ (λ t. set m.entries i (entry_of key kind attributes r (here t))));
      };
    }

pub redefines : (result : Result MapId NoMemory) (before after : MapsView) (parent : MapId) (s : Step) (key : PropKey) (kind : Kind) (attributes : Attributes) (r : Representation) (i place : ℕ)
    → s ≡ step.Redefine key kind attributes → IsPlace (map_at before parent).entries key i → place ≡ (entry_at (map_at before parent).entries i).place
    → IfOk result (λ child. child.0 ≡ length before.maps) → OnOk result (after ≡ replaced before parent i (entry_of key kind attributes r place)) → IfOk result (MakesChild before after parent s r)
redefines (Ok child) before after parent s key kind attributes r i place e at here number is =
    rw e (redefined before after parent child key kind attributes r i place at here number is)
redefines (Err x) before after parent s key kind attributes r i place e at here number is = tt
