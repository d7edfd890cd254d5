-- A walk along a path takes steps by the entries of the maps on it, of which none has more than the path has steps.
use Rattle.std.proofs.Common.{◌≡◌, ◌+◌, ◌*◌, ◌≤◌, ◌<◌, ℕ, suc, Bool, true, false, cond, List, [], ◌∷◌, ◌++◌, length, map, take, refl, ap, ◌∙◌, arith, length-append}
use Rattle.std.proofs.Math.Nat.{mul-le-mul_right, suc-mul}
use Rattle.std.proofs.lemmas.List.{length-map, length-take}
use Rattle.property_keys.specs.declared.keys.Attributes.{Attributes}
use Rattle.property_keys.specs.declared.keys.PropKey.{PropKey}
use Rattle.map_store.specs.declared.MapId.{MapId}
use Rattle.map_store.specs.declared.entries.Entry.{Entry}
use Rattle.map_store.specs.declared.entries.Kind.{Kind}
use Rattle.map_store.specs.declared.entries.Representation.TheVariants as representation
use Rattle.map_store.specs.Views.{MapView, MapsView, map_at}
use Rattle.transition_tree.specs.declared.paths.Step.{Step}
use Rattle.transition_tree.specs.declared.paths.Step.TheVariants as step
use Rattle.transition_tree.specs.Paths.{Form, bare, entry_of, form_of, redefined, same_key, stepped, stepped_by}
use Rattle.transition_tree.specs.Rows.{Row, TreeView, onward, row_of}
use Rattle.transition_tree.specs.Together.{BelongTogether, IsLiveAt, StandsAt}
use Rattle.map_deprecation.specs.Updating.{root_of}

redefined-length : (key : PropKey) (kind : Kind) (attributes : Attributes) (es : List Entry) → length (redefined key kind attributes es) ≡ length es
redefined-length key kind attributes [] = refl
redefined-length key kind attributes (e ∷ es) =
    elim (same_key e.key key) as (λ b. length (cond b (record e { kind = kind; attributes = attributes } ∷ es) (e ∷ redefined key kind attributes es)) ≡ suc (length es)) [
      | true ↦ refl
      | false ↦ ap suc (redefined-length key kind attributes es)
    ]

stepped-length : (f : Form) (s : Step) → length (stepped f s).entries ≤ length f.entries + 1
stepped-length f (step.Add key kind attributes) = omega (arith, length-append f.entries (entry_of key kind attributes representation.None (length f.entries) ∷ []))
stepped-length f (step.Redefine key kind attributes) = omega (arith, redefined-length key kind attributes f.entries)
stepped-length f step.Close = omega arith

form-length : (f : Form) (path : List Step) → length (stepped_by f path).entries ≤ length f.entries + length path
form-length f [] = omega arith
form-length f (s ∷ path) = let a = stepped-length f s in let b = form-length (stepped f s) path in omega arith

entries-few : (m : MapView) (row : Row) → StandsAt m row → length m.entries ≤ length row.path
entries-few m row h =
    let e : length (map bare m.entries) ≡ length (form_of row.path).entries = ap (λ (f : Form). length f.entries) h.form in
    let few = form-length (record { entries = []; extensible = true }) row.path in
    let same = length-map m.entries bare in
    omega arith

-- a map at a front of a path has no more entries than the path has steps
pub front-few : (tree : TreeView) (ms : MapsView) (row : Row) (path : List Step) (i : ℕ) (at : MapId) → BelongTogether tree ms → IsLiveAt tree ms (onward (root_of row) (take i path)) at
    → length (map_at ms at).entries ≤ length path
front-few tree ms row path i at b h =
    let few = entries-few (map_at ms at) (row_of tree at) (b.stands at h.known) in
    let here : length (row_of tree at).path ≡ length (take i path) = ap (λ (r : Row). length r.path) h.here in
    let short = length-take i path in
    omega arith

-- i rounds and one more, each of n + 2 steps at most
pub more-steps : (i n start now next more : ℕ) → now ≤ start + i * (n + 2) → next ≤ now + (more + 2) → more ≤ n → next ≤ start + (i + 1) * (n + 2)
more-steps i n start now next more before round few =
    let one : i + 1 ≡ suc i = omega arith in
    let e : (i + 1) * (n + 2) ≡ i * (n + 2) + (n + 2) = ap (λ (k : ℕ). k * (n + 2)) one ∙ suc-mul i (n + 2) in
    omega arith

pub all-steps : (i n start now : ℕ) → i ≤ n → now ≤ start + i * (n + 2) → now ≤ start + n * (n + 2)
all-steps i n start now le before = let most : i * (n + 2) ≤ n * (n + 2) = mul-le-mul_right (n + 2) le in omega arith
