-- What a step makes of a map, but for the representations.
use Rattle.std.proofs.Common.{◌≡◌, ◌<◌, ℕ, zero, suc, List, [], ◌∷◌, ◌++◌, length, get_or, map, refl, ap, sym, ◌∙◌, arith}
use Rattle.std.proofs.Math.ListN.{set}
use Rattle.std.proofs.lemmas.Bool.{cond-false, cond-true}
use Rattle.std.proofs.lemmas.List.{get_or-map, length-map, map_push}
use Rattle.property_keys.specs.declared.keys.Attributes.{Attributes}
use Rattle.property_keys.specs.declared.keys.PropKey.{PropKey}
use Rattle.map_store.specs.declared.entries.Entry.{Entry}
use Rattle.map_store.specs.declared.entries.Kind.{Kind}
use Rattle.map_store.specs.declared.entries.Representation.{Representation}
use Rattle.map_store.specs.declared.entries.Representation.TheVariants as representation
use Rattle.map_store.specs.Keys.{IsPlace, LacksKey}
use Rattle.map_store.specs.Views.{MapView, entry_at, no_entry}
use Rattle.transition_tree.specs.declared.paths.Step.{Step}
use Rattle.transition_tree.specs.declared.paths.Step.TheVariants as step
use Rattle.transition_tree.specs.Paths.{Fits, Follows, Form, bare, entry_of, form_in, redefined, same_key, stepped, stepped_by}
use Rattle.transition_tree.proofs.Same.{same_key-false, same_key-itself}

redefined-is : (es : List Entry) (key : PropKey) (kind : Kind) (attributes : Attributes) (r : Representation) (i : ℕ) → IsPlace es key i
    → map bare (set es i (entry_of key kind attributes r (entry_at es i).place)) ≡ redefined key kind attributes (map bare es)
redefined-is [] key kind attributes r i at = absurd (let within = at.within in omega arith)
redefined-is (e ∷ es) key kind attributes r zero at =
    let changed : Entry = record e { kind = kind; attributes = attributes; representation = representation.None } in
    (λ t. entry_of (sym at.here t) kind attributes representation.None e.place ∷ map bare es)
    ∙ sym (cond-true (same_key e.key key) (changed ∷ map bare es) (bare e ∷ redefined key kind attributes (map bare es)) (ap (λ (k : PropKey). same_key k key) at.here ∙ same_key-itself key))
redefined-is (e ∷ es) key kind attributes r (suc i) at =
    let changed : Entry = record e { kind = kind; attributes = attributes; representation = representation.None } in
    let rest : IsPlace es key i = record { within = let within = at.within in omega arith; here = at.here; first = λ j b. at.first (suc j) (omega arith) } in
    ap (λ (xs : List Entry). bare e ∷ xs) (redefined-is es key kind attributes r i rest)
    ∙ sym (cond-false (same_key e.key key) (changed ∷ map bare es) (bare e ∷ redefined key kind attributes (map bare es)) (same_key-false e.key key (at.first 0 (omega arith))))

pub form-follows : (m child : MapView) (s : Step) (r : Representation) → Follows m s r child → form_in child ≡ stepped (form_in m) s
form-follows m child (step.Add key kind attributes) r h =
    let entries = ap (λ (es : List Entry). map bare es) h.entries ∙ map_push bare m.entries (entry_of key kind attributes r (length m.entries))
    ∙ ap (λ (n : ℕ). map bare m.entries ++ entry_of key kind attributes representation.None n ∷ []) (sym (length-map m.entries bare)) in
    λ t. record { entries = entries t; extensible = h.extensible t }
form-follows m child (step.Redefine key kind attributes) r h =
    let entries = ap (λ (es : List Entry). map bare es) h.entries.2 ∙ redefined-is m.entries key kind attributes r h.entries.0 h.entries.1 in
    λ t. record { entries = entries t; extensible = h.extensible t }
form-follows m child step.Close r h = λ t. record { entries = map bare (h.entries t); extensible = h.extensible t }

pub stepped_by-push : (f : Form) (path : List Step) (s : Step) → stepped_by f (path ++ s ∷ []) ≡ stepped (stepped_by f path) s
stepped_by-push f [] s = refl
stepped_by-push f (x ∷ path) s = stepped_by-push (stepped f x) path s

-- ---- maps of one form fit the same steps

pub same_length : (es fs : List Entry) → map bare es ≡ map bare fs → length es ≡ length fs
same_length es fs e = sym (length-map es bare) ∙ ap (λ (xs : List Entry). length xs) e ∙ length-map fs bare

pub same_bare : (es fs : List Entry) → map bare es ≡ map bare fs → (i : ℕ) → i < length es → bare (entry_at es i) ≡ bare (entry_at fs i)
same_bare es fs e i b =
    sym (get_or-map bare es i no_entry no_entry b) ∙ ap (λ (xs : List Entry). get_or xs i no_entry) e ∙ get_or-map bare fs i no_entry no_entry (omega (arith, same_length es fs e))

lacks-same : (es fs : List Entry) (key : PropKey) → map bare es ≡ map bare fs → LacksKey es key → LacksKey fs key
lacks-same es fs key e lacks i b here =
    let c : i < length es = omega (arith, same_length es fs e) in
    lacks i c (ap (λ (x : Entry). x.key) (same_bare es fs e i c) ∙ here)

pub fits-same : (m n : MapView) (s : Step) → form_in m ≡ form_in n → Fits m s → Fits n s
fits-same m n (step.Add key kind attributes) e h =
    (sym (ap (λ (f : Form). f.extensible) e) ∙ h.0, lacks-same m.entries n.entries key (ap (λ (f : Form). f.entries) e) h.1)
fits-same m n (step.Redefine key kind attributes) e h = λ lacks. h (lacks-same n.entries m.entries key (sym (ap (λ (f : Form). f.entries) e)) lacks)
fits-same m n step.Close e h = sym (ap (λ (f : Form). f.extensible) e) ∙ h
