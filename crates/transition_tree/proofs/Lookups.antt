-- The table of places: what leads to a place stands in it once.
use Rattle.std.proofs.Common.{◌≡◌, ◌<◌, ◌∙◌, ◌++◌, ◌∷◌, [], inl, inr, ℕ, suc, true, false, Bool, List, Some, length, position, refl, sym, ap, true≢false, arith, cond}
use Rattle.std.specs.List.{list_any}
use Rattle.std.proofs.lemmas.Bool.{cases_Bool}
use Rattle.std.proofs.lemmas.List.Quantifiers.{position-Some}
use Rattle.std.proofs.lemmas.List.Folds.{list_any_at}
use Rattle.transition_tree.specs.contracts.edges.EdgePartialEq.TheImpl as edge_eq
use Rattle.transition_tree.specs.declared.edges.Edge.{Edge}
use Rattle.transition_tree.specs.Edges.{edge_at, HasNoPlace, IsPlaceOf, no_edge}
use Rattle.transition_tree.proofs.EdgeEq.{edges_decide}

abbrev same : Edge → Edge → Bool
same = edge_eq.eq-value.it

-- the place that the look-up finds
pub found_at : (table : List Edge) (e : Edge) (i : ℕ) → position (same e) table ≡ Some i → IsPlaceOf table e i
found_at table e i p =
    let at = position-Some (same e) table i no_edge p in
    record { known = at.0; here = sym ((edges_decide e (edge_at table i)).0 at.1) }

seen : (table : List Edge) (e : Edge) (i : ℕ) → i < length table → edge_at table i ≡ e → list_any (same e) table ≡ true
seen table e i known here = list_any_at (same e) table i no_edge known ((edges_decide e (edge_at table i)).1 (sym here))

pub unknown : (table : List Edge) (e : Edge) → list_any (same e) table ≡ false → HasNoPlace table e
unknown table e none i known here = true≢false (sym (seen table e i known here) ∙ none)

-- the look-up does not find what stands nowhere
absent : (table : List Edge) (e : Edge) → HasNoPlace table e → list_any (same e) table ≡ false
absent [] e none = refl
absent (x ∷ xs) e none =
    elim (cases_Bool (same e x)) [
      | inl t ↦ absurd (none 0 (omega arith) (sym ((edges_decide e x).0 t)))
      | inr f ↦ rw f (absent xs e (λ n b. none (suc n) (omega arith)))
    ]

-- what the set makes of its keys
pub appended : (old new : List Edge) (e : Edge) → HasNoPlace old e → new ≡ (cond (list_any (same e) old) old (old ++ e ∷ [])) → new ≡ old ++ e ∷ []
appended old new e none is = is ∙ ap (λ b. cond b old (old ++ e ∷ [])) (absent old e none)
