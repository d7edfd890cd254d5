-- Lemmas on the least of the places of a list from one place on.
use Rattle.std.proofs.Common.{◌≡◌, ◌≤◌, ◌+◌, ◌∙◌, ◌∷◌, ℕ, Bool, true, false, cond, List, [], Option, Some, arith, length, drop, option_map, slice_get, refl, sym, ap}
use Rattle.es_tree.specs.declared.body.Body.{Body}
use Rattle.std.proofs.lemmas.List.{length-map}
use Rattle.std.proofs.lemmas.Option.{slice_get-map}
use Rattle.es_source.specs.declared.place.Place.{Place}
use Rattle.es_tree.specs.declared.facts.FunctionFacts.{FunctionFacts}
use Rattle.script_host.specs.Unbuilt.{earlier, earliest, function_places, places_where, uses_arguments}
use Rattle.script_host.proofs.Drops.{drop_at, drop_all}

-- those from a place on
where_at : {A : Type 0} (holds : A → Bool) (xs : List A) (places : List Place) (i : ℕ) (x : A) (p : Place) → slice_get xs i ≡ Some x → slice_get places i ≡ Some p
    → places_where holds (drop i xs) (drop i places) ≡ places_where holds (x ∷ drop (i + 1) xs) (p ∷ drop (i + 1) places)
where_at holds xs places i x p is there =
    ap (λ ys. places_where holds ys (drop i places)) (drop_at xs i x is) ∙ ap (λ ps. places_where holds (x ∷ drop (i + 1) xs) ps) (drop_at places i p there)

chosen : (b : Bool) (found : Option Place) (p : Place) (rest : List Place) → earliest found (cond b (p ∷ rest) rest) ≡ earliest (cond b (earlier found p) found) rest
chosen true found p rest = refl
chosen false found p rest = refl

pub where_next : {A : Type 0} (holds : A → Bool) (xs : List A) (places : List Place) (i : ℕ) (x : A) (p : Place) (found all : Option Place)
    → slice_get xs i ≡ Some x → slice_get places i ≡ Some p → earliest found (places_where holds (drop i xs) (drop i places)) ≡ all
    → earliest (cond (holds x) (earlier found p) found) (places_where holds (drop (i + 1) xs) (drop (i + 1) places)) ≡ all
where_next holds xs places i x p found all is there so_far =
    let rest : List Place = places_where holds (drop (i + 1) xs) (drop (i + 1) places) in
    sym (chosen (holds x) found p rest) ∙ ap (earliest found) (sym (where_at holds xs places i x p is there)) ∙ so_far

pub where_last : {A : Type 0} (holds : A → Bool) (xs : List A) (places : List Place) (i : ℕ) (found all : Option Place) → length xs ≤ i
    → earliest found (places_where holds (drop i xs) (drop i places)) ≡ all → found ≡ all
where_last holds xs places i found all past so_far = ap (λ ys. earliest found (places_where holds ys (drop i places))) (sym (drop_all xs i past)) ∙ so_far

-- the place of a function
pub place_of : (functions : List FunctionFacts) (i : ℕ) (f : FunctionFacts) → slice_get functions i ≡ Some f → slice_get (function_places functions) i ≡ Some f.place
place_of functions i f is = slice_get-map (λ (g : FunctionFacts). g.place) functions i ∙ ap (λ o. option_map (λ (g : FunctionFacts). g.place) o) is

none_where : {A : Type 0} (holds : A → Bool) (xs : List A) → places_where holds xs [] ≡ []
none_where holds [] = refl
none_where holds (x ∷ xs) = refl

pub function_last : (functions : List FunctionFacts) (bodies : List Body) (i : ℕ) (found all : Option Place) → length functions ≤ i
    → earliest found (places_where uses_arguments (drop i bodies) (drop i (function_places functions))) ≡ all → found ≡ all
function_last functions bodies i found all past so_far =
    let n = length-map functions (λ (g : FunctionFacts). g.place) in
    sym (ap (earliest found) (ap (places_where uses_arguments (drop i bodies)) (drop_all (function_places functions) i (omega arith)) ∙ none_where uses_arguments (drop i bodies))) ∙ so_far
