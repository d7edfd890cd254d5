-- No change of the maps changes the entries of a map that is there.
use Rattle.std.proofs.Common.{◌≡◌, ℕ, zero, suc, ◌<◌, List, [], ◌∷◌, ◌++◌, length, get_or, refl, ap, ◌∙◌, arith}
use Rattle.std.proofs.Math.ListN.{set}
use Rattle.std.proofs.lemmas.List.{length-append, length-set}
use Rattle.map_store.specs.declared.MapId.{MapId}
use Rattle.map_store.specs.Views.{MapView, MapsView, KeepsEntries, no_map, map_at, marked_dead, dead_map}

entries-push : (vs : List MapView) (v : MapView) (j : ℕ) → j < length vs → (get_or (vs ++ v ∷ []) j no_map).entries ≡ (get_or vs j no_map).entries
entries-push [] v j b = absurd (omega arith)
entries-push (x ∷ vs) v zero b = refl
entries-push (x ∷ vs) v (suc j) b = entries-push vs v j (omega arith)

entries-set : (vs : List MapView) (m : ℕ) (v : MapView) (j : ℕ) → v.entries ≡ (get_or vs m no_map).entries → (get_or (set vs m v) j no_map).entries ≡ (get_or vs j no_map).entries
entries-set [] m v j e = refl
entries-set (x ∷ vs) zero v zero e = e
entries-set (x ∷ vs) zero v (suc j) e = refl
entries-set (x ∷ vs) (suc m) v zero e = refl
entries-set (x ∷ vs) (suc m) v (suc j) e = entries-set vs m v j e

pub keeps_same : (ms : MapsView) → KeepsEntries ms ms
keeps_same ms = record { more = omega arith; same = λ map b. refl }

-- a map more
pub keeps_pushed : (before after : MapsView) (v : MapView) → after.maps ≡ before.maps ++ v ∷ [] → KeepsEntries before after
keeps_pushed before after v e = record {
  more = omega (arith, ap length e ∙ length-append before.maps (v ∷ []));
  same = λ map b. ap (λ ms. (get_or ms map.0 no_map).entries) e ∙ entries-push before.maps v map.0 b;
}

pub keeps_dead : (before after : MapsView) (map : MapId) → after ≡ marked_dead before map → KeepsEntries before after
keeps_dead before after map e = record {
  more = omega (arith, ap (λ ms. length ms.maps) e ∙ length-set before.maps map.0 (dead_map (map_at before map)));
  same = λ m b. ap (λ ms. (map_at ms m).entries) e ∙ entries-set before.maps map.0 (dead_map (map_at before map)) m.0 refl;
}
