-- The keys of a map's entries, and what a step makes of an entry.
use Rattle.std.proofs.Common.{◌≡◌, ◌≢◌, inl, inr, ℕ, zero, suc, ◌<◌, Bool, true, false, cond, Option, Some, None, List, [], ◌∷◌, ◌++◌, length, map, MatchOption, refl, ap, sym, subst, ◌∙◌, arith, length-append}
use Rattle.std.proofs.lemmas.Bool.{cases_Bool, cases_lt}
use Rattle.std.proofs.lemmas.List.{get_or_append_left, get_or_push, get_or-map, length-map}
use Rattle.property_keys.specs.declared.keys.Attributes.{Attributes}
use Rattle.property_keys.specs.declared.keys.PropKey.{PropKey}
use Rattle.map_store.specs.declared.MapId.{MapId}
use Rattle.map_store.specs.declared.entries.Entry.{Entry}
use Rattle.map_store.specs.declared.entries.Kind.{Kind}
use Rattle.map_store.specs.declared.entries.Representation.TheVariants as representation
use Rattle.map_store.specs.Keys.{LacksKey}
use Rattle.map_store.specs.Views.{IsKnown, MapView, MapsView, entry_at, map_at, no_entry}
use Rattle.transition_tree.specs.declared.paths.Step.{Step}
use Rattle.transition_tree.specs.declared.paths.Step.TheVariants as step
use Rattle.transition_tree.specs.Paths.{Fits, Form, bare, entry_of, form_in, form_of, redefined, same_key, stepped}
use Rattle.transition_tree.specs.Rows.{Row, TreeView, parent_of, row_of}
use Rattle.transition_tree.specs.Together.{BelongTogether, IsUnder}
use Rattle.transition_tree.proofs.Forms.{stepped_by-push}
use Rattle.transition_tree.proofs.Same.{same_key-eq, same_key-itself}

-- no key stands at two entries
abbrev pub HasOneKeyEach : List Entry → Type 0
HasOneKeyEach es = (i j : ℕ) → i < length es → j < length es → (entry_at es i).key ≡ (entry_at es j).key → i ≡ j

module _ (key : PropKey) (kind : Kind) (attributes : Attributes) where
  abbrev changed : Entry → Entry
  changed e = record e { kind = kind; attributes = attributes }

  pub length-redefined : (es : List Entry) → length (redefined key kind attributes es) ≡ length es
  length-redefined [] = refl
  length-redefined (e ∷ es) =
      elim (same_key e.key key) as (λ b. length (cond b (changed e ∷ es) (e ∷ redefined key kind attributes es)) ≡ suc (length es)) [
        | true ↦ refl
        | false ↦ ap suc (length-redefined es)
      ]

  pub key-redefined : (es : List Entry) (i : ℕ) → (entry_at (redefined key kind attributes es) i).key ≡ (entry_at es i).key
  key-redefined [] i = refl
  key-redefined (e ∷ es) zero =
      elim (same_key e.key key) as (λ b. (entry_at (cond b (changed e ∷ es) (e ∷ redefined key kind attributes es)) 0).key ≡ e.key) [ true ↦ refl | false ↦ refl ]
  key-redefined (e ∷ es) (suc i) =
      elim (same_key e.key key) as (λ b. (entry_at (cond b (changed e ∷ es) (e ∷ redefined key kind attributes es)) (suc i)).key ≡ (entry_at es i).key) [
        | true ↦ refl
        | false ↦ key-redefined es i
      ]

  -- an entry with another key stays
  redefined-cond : (e : Entry) (es : List Entry) (b : Bool) → same_key e.key key ≡ b → redefined key kind attributes (e ∷ es) ≡ cond b (changed e ∷ es) (e ∷ redefined key kind attributes es)
  redefined-cond e es b t = ap (λ (x : Bool). cond x (changed e ∷ es) (e ∷ redefined key kind attributes es)) t

  pub redefined-other : (es : List Entry) (i : ℕ) → (entry_at es i).key ≢ key → entry_at (redefined key kind attributes es) i ≡ entry_at es i
  redefined-other [] i ne = refl
  redefined-other (e ∷ es) zero ne =
      elim (cases_Bool (same_key e.key key)) [
        | inl t ↦ absurd (ne (same_key-eq e.key key t))
        | inr f ↦ ap (λ (xs : List Entry). entry_at xs 0) (redefined-cond e es false f)
      ]
  redefined-other (e ∷ es) (suc i) ne =
      elim (cases_Bool (same_key e.key key)) [
        | inl t ↦ ap (λ (xs : List Entry). entry_at xs (suc i)) (redefined-cond e es true t)
        | inr f ↦ ap (λ (xs : List Entry). entry_at xs (suc i)) (redefined-cond e es false f) ∙ redefined-other es i ne
      ]

  -- the one with the key gets the kind
  pub redefined-kind : (es : List Entry) (i : ℕ) → HasOneKeyEach es → i < length es → (entry_at es i).key ≡ key → (entry_at (redefined key kind attributes es) i).kind ≡ kind
  redefined-kind [] i one b h = absurd (omega arith)
  redefined-kind (e ∷ es) zero one b h =
      ap (λ (xs : List Entry). (entry_at xs 0).kind) (redefined-cond e es true (ap (λ (k : PropKey). same_key k key) h ∙ same_key-itself key))
  redefined-kind (e ∷ es) (suc i) one b h =
      elim (cases_Bool (same_key e.key key)) [
        | inl t ↦ let same : zero ≡ suc i = one 0 (suc i) (omega arith) b (same_key-eq e.key key t ∙ sym h) in absurd (omega arith)
        | inr f ↦ ap (λ (xs : List Entry). (entry_at xs (suc i)).kind) (redefined-cond e es false f)
            ∙ redefined-kind es i (λ j k c d e. let same : suc j ≡ suc k = one (suc j) (suc k) (omega arith) (omega arith) e in omega arith) (omega arith) h
      ]

one-pushed : (es : List Entry) (e : Entry) → HasOneKeyEach es → LacksKey es e.key → HasOneKeyEach (es ++ e ∷ [])
one-pushed es e one lacks i j a b same =
    let long = length-append es (e ∷ []) in
    let old : (k : ℕ) → k < length es → entry_at (es ++ e ∷ []) k ≡ entry_at es k = λ k c. get_or_append_left es (e ∷ []) no_entry k c in
    let new : (k : ℕ) → length es ≡ k → entry_at (es ++ e ∷ []) k ≡ e = λ k c. get_or_push es e no_entry k c in
    let key : Entry → PropKey = λ x. x.key in
    elim (cases_lt i (length es)) [
      | inl c ↦ elim (cases_lt j (length es)) [
        | inl d ↦ one i j c d (sym (ap key (old i c)) ∙ same ∙ ap key (old j d))
        | inr d ↦ absurd (lacks i c (sym (ap key (old i c)) ∙ same ∙ ap key (new j (omega arith))))
      ]
      | inr c ↦ elim (cases_lt j (length es)) [
        | inl d ↦ absurd (lacks j d (sym (ap key (old j d)) ∙ sym same ∙ ap key (new i (omega arith))))
        | inr d ↦ omega arith
      ]
    ]

lacks-bare : (es : List Entry) (key : PropKey) → LacksKey es key → LacksKey (map bare es) key
lacks-bare es key lacks i b h =
    let c : i < length es = omega (arith, length-map es bare) in
    lacks i c (sym (ap (λ (x : Entry). x.key) (get_or-map bare es i no_entry no_entry c)) ∙ h)

-- the form of a map is a step of its parent's
pub form-under : (tree : TreeView) (ms : MapsView) → BelongTogether tree ms → (map parent : MapId) → IsKnown ms map → (u : IsUnder tree ms map parent) → form_in (map_at ms map) ≡ stepped (form_in (map_at ms parent)) u.by
form-under tree ms b map parent known u =
    (b.stands map known).form ∙ ap (λ (r : Row). form_of r.path) u.row ∙ stepped_by-push (record { entries = []; extensible = true }) (row_of tree parent).path u.by
    ∙ ap (λ (f : Form). stepped f u.by) (sym (b.stands parent (let earlier = u.earlier in omega arith)).form)

one-stepped : (m : MapView) (s : Step) → Fits m s → HasOneKeyEach (form_in m).entries → HasOneKeyEach (stepped (form_in m) s).entries
one-stepped m (step.Add key kind attributes) fits one =
    one-pushed (map bare m.entries) (entry_of key kind attributes representation.None (length (map bare m.entries))) one (lacks-bare m.entries key fits.1)
one-stepped m (step.Redefine key kind attributes) fits one = λ i j a b same.
    let es = map bare m.entries in
    one i j (omega (arith, length-redefined key kind attributes es)) (omega (arith, length-redefined key kind attributes es))
    (sym (key-redefined key kind attributes es i) ∙ same ∙ key-redefined key kind attributes es j)
one-stepped m step.Close fits one = one

module _ (tree : TreeView) (ms : MapsView) (b : BelongTogether tree ms) where
  one-below : (bound : ℕ) (map : MapId) → map.0 < bound → IsKnown ms map → HasOneKeyEach (form_in (map_at ms map)).entries
  one-below zero map lt known = absurd (omega arith)
  one-below (suc bound) map lt known = one-from map known (λ p earlier. one-below bound p (omega arith) (omega arith)) (parent_of tree map) (b.under map known)
    where
      one-from : (map : MapId) → IsKnown ms map → ((p : MapId) → p.0 < map.0 → HasOneKeyEach (form_in (map_at ms p)).entries) → (o : Option MapId) → MatchOption o ((row_of tree map).path ≡ []) (IsUnder tree ms map)
          → HasOneKeyEach (form_in (map_at ms map)).entries
      one-from map known above None h =
          let empty = (b.stands map known).form ∙ ap (λ (p : List Step). form_of p) h in
          subst (λ (f : Form). HasOneKeyEach f.entries) (sym empty) (λ i j c d e. absurd (omega arith))
      one-from map known above (Some p) u = subst (λ (f : Form). HasOneKeyEach f.entries) (sym (form-under tree ms b map p known u)) (one-stepped (map_at ms p) u.by u.fits (above p u.earlier))

  -- no key stands at two entries of a map
  pub one-key-each : (map : MapId) → IsKnown ms map → HasOneKeyEach (form_in (map_at ms map)).entries
  one-key-each map known = one-below (suc map.0) map (omega arith) known
