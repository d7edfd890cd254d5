-- The way from a map back to the step that gave an entry.
use Rattle.std.proofs.Common.{◌≡◌, inl, inr, ℕ, ◌<◌, List, [], ◌∷◌, length, map, refl, ap, sym, subst, ◌∙◌, arith, length-append}
use Rattle.std.proofs.lemmas.Bool.{cases_lt}
use Rattle.std.proofs.lemmas.List.{get_or_append_left, get_or_push, get_or-map, length-map}
use Rattle.std.proofs.lemmas.Option.{MatchOption-at_some}
use Rattle.property_keys.specs.declared.keys.PropKey.{PropKey}
use Rattle.map_store.specs.declared.MapId.{MapId}
use Rattle.map_store.specs.declared.entries.Entry.{Entry}
use Rattle.map_store.specs.declared.entries.Representation.TheVariants as representation
use Rattle.map_store.specs.Views.{IsKnown, MapView, MapsView, entry_at, map_at, no_entry}
use Rattle.transition_tree.specs.declared.paths.Step.{Step}
use Rattle.transition_tree.specs.declared.paths.Step.TheVariants as step
use Rattle.transition_tree.specs.Paths.{Fits, Form, bare, entry_of, form_in, form_of, is_accessor, is_accessor_step, stepped}
use Rattle.transition_tree.specs.Rows.{Row, TreeView, onward, row_of}
use Rattle.transition_tree.specs.Together.{BelongTogether, CameBy, IsRoot, IsUnder}
use Rattle.transition_tree.proofs.Belonging.{after-onward, onward-nil}
use Rattle.transition_tree.proofs.Keys.{HasOneKeyEach, form-under, key-redefined, length-redefined, one-key-each, redefined-kind, redefined-other}
use Rattle.transition_tree.proofs.RowsOfPlaces.{after-inverse}
use Rattle.map_deprecation.specs.Generalising.{IsGiver, Names, NoneNames}

-- the entry that is looked for, in a map on the way
abbrev pub key_of : MapsView → MapId → ℕ → PropKey
key_of ms map i = (entry_at (map_at ms map).entries i).key

pub record IsOnTheWay (tree : TreeView) (ms : MapsView) (map : MapId) (i : ℕ) (at : MapId) : Type 0 where
  pub known : IsKnown ms at
  pub within : i < length (map_at ms at).entries
  pub same : bare (entry_at (map_at ms at).entries i) ≡ bare (entry_at (map_at ms map).entries i)
  pub later : List Step
  pub here : row_of tree map ≡ onward (row_of tree at) later
  pub apart : NoneNames (key_of ms map i) later

pub starts : (tree : TreeView) (ms : MapsView) (map : MapId) (i : ℕ) → IsKnown ms map → i < length (map_at ms map).entries → IsOnTheWay tree ms map i map
starts tree ms map i known within = record { known = known; within = within; same = refl; later = []; here = sym (onward-nil (row_of tree map)); apart = tt }

-- an entry of what a step makes, whose key the step does not name, was there
record WasThere (es : List Entry) (made : List Entry) (i : ℕ) : Type 0 where
  within : i < length es
  same : entry_at made i ≡ entry_at es i

was-there : (f : Form) (s : Step) (i : ℕ) → i < length (stepped f s).entries → (Names s (entry_at (stepped f s).entries i).key → ⊥) → WasThere f.entries (stepped f s).entries i
was-there f (step.Add key kind attributes) i b apart =
    let e : Entry = entry_of key kind attributes representation.None (length f.entries) in
    elim (cases_lt i (length f.entries)) [
      | inl c ↦ record { within = c; same = get_or_append_left f.entries (e ∷ []) no_entry i c }
      | inr c ↦ absurd (apart (ap (λ (x : Entry). x.key) (sym (get_or_push f.entries e no_entry i (omega (arith, length-append f.entries (e ∷ [])))))))
    ]
was-there f (step.Redefine key kind attributes) i b apart = record {
  within = omega (arith, length-redefined key kind attributes f.entries);
  same = redefined-other key kind attributes f.entries i (λ h. apart (sym h ∙ sym (key-redefined key kind attributes f.entries i)));
}
was-there f step.Close i b apart = record { within = b; same = refl }

-- and one whose key it names has its kind
named-kind : (m : MapView) (s : Step) (i : ℕ) → Fits m s → HasOneKeyEach (form_in m).entries → i < length (stepped (form_in m) s).entries → Names s (entry_at (stepped (form_in m) s).entries i).key
    → is_accessor_step s ≡ is_accessor (entry_at (stepped (form_in m) s).entries i).kind
named-kind m (step.Add key kind attributes) i fits one b named =
    let es = map bare m.entries in
    let e : Entry = entry_of key kind attributes representation.None (length es) in
    elim (cases_lt i (length es)) [
      | inl c ↦
          let d : i < length m.entries = omega (arith, length-map m.entries bare) in
          absurd (fits.1 i d (ap (λ (x : Entry). x.key) (sym (get_or-map bare m.entries i no_entry no_entry d)) ∙ ap (λ (x : Entry). x.key) (sym (get_or_append_left es (e ∷ []) no_entry i c)) ∙ sym named))
      | inr c ↦ ap (λ (x : Entry). is_accessor x.kind) (sym (get_or_push es e no_entry i (omega (arith, length-append es (e ∷ [])))))
    ]
named-kind m (step.Redefine key kind attributes) i fits one b named =
    let es = map bare m.entries in
    ap is_accessor (sym (redefined-kind key kind attributes es i one (omega (arith, length-redefined key kind attributes es)) (sym (key-redefined key kind attributes es i) ∙ sym named)))
named-kind m step.Close i fits one b named = absurd named

module _ (tree : TreeView) (ms : MapsView) (b : BelongTogether tree ms) (start at parent : MapId) (s : Step) (i : ℕ) (way : IsOnTheWay tree ms start i at) (came : CameBy tree at parent s) where
  above : IsUnder tree ms at parent
  above = MatchOption-at_some ((row_of tree at).path ≡ []) (IsUnder tree ms at) parent came.parent_is (b.under at way.known)

  pub parent-known : IsKnown ms parent
  parent-known = let earlier = came.earlier in let known = way.known in omega arith

  same-step : above.by ≡ s
  same-step = (after-inverse (row_of tree parent) (row_of tree parent) above.by s (sym above.row ∙ came.row)).1

  stepped-form : form_in (map_at ms at) ≡ stepped (form_in (map_at ms parent)) s
  stepped-form = form-under tree ms b at parent way.known above ∙ ap (stepped (form_in (map_at ms parent))) same-step

  fits : Fits (map_at ms parent) s
  fits = subst (λ (x : Step). Fits (map_at ms parent) x) same-step above.fits

  entries-are : map bare (map_at ms at).entries ≡ (stepped (form_in (map_at ms parent)) s).entries
  entries-are = ap (λ (f : Form). f.entries) stepped-form

  in-made : i < length (stepped (form_in (map_at ms parent)) s).entries
  in-made = omega (arith, way.within, length-map (map_at ms at).entries bare, ap (λ (xs : List Entry). length xs) entries-are)

  made-entry : entry_at (stepped (form_in (map_at ms parent)) s).entries i ≡ bare (entry_at (map_at ms start).entries i)
  made-entry = ap (λ (xs : List Entry). entry_at xs i) (sym entries-are) ∙ get_or-map bare (map_at ms at).entries i no_entry no_entry way.within ∙ way.same

  pub goes-back : (Names s (key_of ms start i) → ⊥) → IsOnTheWay tree ms start i parent
  goes-back apart =
      let es = (map_at ms parent).entries in
      let was = was-there (form_in (map_at ms parent)) s i in-made (λ named. apart (subst (λ (e : Entry). Names s e.key) made-entry named)) in
      let within : i < length es = omega (arith, was.within, length-map es bare) in
      record {
        known = parent-known;
        within = within;
        same = sym (get_or-map bare es i no_entry no_entry within) ∙ sym was.same ∙ made-entry;
        later = s ∷ way.later;
        here = way.here ∙ ap (λ (r : Row). onward r way.later) came.row ∙ after-onward (row_of tree parent) s way.later;
        apart = (apart, way.apart);
      }

  pub is-giver : Names s (key_of ms start i) → IsGiver tree ms start i at parent s
  is-giver named = record {
    given = record { later = way.later; here = way.here ∙ ap (λ (r : Row). onward r way.later) came.row; names = named; last = way.apart };
    row = came.row;
    known = way.known;
    parent_known = parent-known;
    kind_is = named-kind (map_at ms parent) s i fits (one-key-each tree ms b parent parent-known) in-made (subst (λ (e : Entry). Names s e.key) (sym made-entry) named)
        ∙ ap (λ (e : Entry). is_accessor e.kind) made-entry;
  }

-- a root has no entry
pub not-at-root : (tree : TreeView) (ms : MapsView) → BelongTogether tree ms → (map at : MapId) (i : ℕ) → IsOnTheWay tree ms map i at → IsRoot tree at → ⊥
not-at-root tree ms b map at i way root =
    let empty : form_in (map_at ms at) ≡ form_of [] = (b.stands at way.known).form ∙ ap (λ (p : List Step). form_of p) root.0 in
    omega (arith, way.within, length-map (map_at ms at).entries bare, ap (λ (f : Form). length f.entries) empty)
