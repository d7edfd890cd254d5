-- The declared functions of a list are found from the last one on.
use Rattle.std.proofs.Common.{◌≡◌, ◌∙◌, ◌++◌, ap, sym, refl, ℕ, Bool, true, false, not, ◌||◌, List, [], ◌∷◌, append_assoc, bytes_eq, inl, inr, Some, None}
use Rattle.std.specs.List.{list_any}
use Rattle.std.proofs.lemmas.Bool.{cases_Bool}
use Rattle.std.proofs.lemmas.Slice.Eq.{bytes_eq-Decides}
use Rattle.property_keys.specs.Texts.{interned}
use Rattle.es_tree.specs.declared.body.DeclaredFunction.{DeclaredFunction}
use Rattle.es_tree.specs.declared.names.Named.{Named}
use Rattle.es_tree.specs.declared.numbers.FunctionNo.{FunctionNo}
use Rattle.script_checker.specs.declared.made_parts.MadePart.{MadePart}
use Rattle.script_checker.specs.Values.{function_of, functions_in, is_named, with_function}

-- the members behind are done, and their names are those in the set
pub record GoesBack (all rest : List MadePart) (seen : List (List ℕ)) (later : List DeclaredFunction) : Type 0 where
  pub done : List MadePart
  pub whole : all ≡ rest ++ done
  pub functions : later ≡ functions_in done
  pub names : (u : List ℕ) → list_any (bytes_eq u) seen ≡ list_any (is_named u) (functions_in done)

any_append : (p : List ℕ → Bool) (xs ys : List (List ℕ)) → list_any p (xs ++ ys) ≡ (list_any p xs || list_any p ys)
any_append p [] ys = refl
any_append p (x ∷ xs) ys = elim (p x) as (λ b. (b || list_any p (xs ++ ys)) ≡ ((b || list_any p xs) || list_any p ys)) [ true ↦ refl | false ↦ any_append p xs ys ]

or_swap : (a b : Bool) → (a || (b || false)) ≡ (b || a)
or_swap true true = refl
or_swap true false = refl
or_swap false true = refl
or_swap false false = refl

-- a text that stands there is found by each text that equals it
known : (names : List (List ℕ)) (u n : List ℕ) → list_any (bytes_eq n) names ≡ true → list_any (bytes_eq u) names ≡ (bytes_eq u n || list_any (bytes_eq u) names)
known names u n there = elim (cases_Bool (bytes_eq u n)) [
  | inl e ↦ rw e (rw ((bytes_eq-Decides u n).0 e) there)
  | inr e ↦ rw e refl
]

pub found : (names : List (List ℕ)) (n u : List ℕ) → list_any (bytes_eq u) (interned names n) ≡ (bytes_eq u n || list_any (bytes_eq u) names)
found names n u = elim (cases_Bool (list_any (bytes_eq n) names)) [
  | inl e ↦ rw e (known names u n e)
  | inr e ↦ rw e (any_append (bytes_eq u) names (n ∷ []) ∙ or_swap (list_any (bytes_eq u) names) (bytes_eq u n))
]

-- another member in front of those that are done
pub goes_back : (all rest : List MadePart) (x : MadePart) (f : FunctionNo) (own : Named) (seen : List (List ℕ)) (later : List DeclaredFunction) (last : Bool)
    → GoesBack all (rest ++ x ∷ []) seen later → function_of x ≡ Some (f, own) → last ≡ not (list_any (bytes_eq own.name) seen)
    → GoesBack all rest (interned seen own.name) (record { function = f; named = own; is_last = last } ∷ later)
goes_back all rest x f own seen later last g is e = record {
  done = x ∷ g.done;
  whole = g.whole ∙ append_assoc rest (x ∷ []) g.done;
  functions = rw (is, e, g.names own.name, g.functions) refl;
  names = λ u. found seen own.name u ∙ ap (λ b. bytes_eq u own.name || b) (g.names u) ∙ ap (λ o. list_any (is_named u) (with_function o (functions_in g.done))) (sym is);
}

pub goes_past : (all rest : List MadePart) (x : MadePart) (seen : List (List ℕ)) (later : List DeclaredFunction)
    → GoesBack all (rest ++ x ∷ []) seen later → function_of x ≡ None → GoesBack all rest seen later
goes_past all rest x seen later g is = record {
  done = x ∷ g.done;
  whole = g.whole ∙ append_assoc rest (x ∷ []) g.done;
  functions = rw is g.functions;
  names = λ u. g.names u ∙ ap (λ o. list_any (is_named u) (with_function o (functions_in g.done))) (sym is);
}
