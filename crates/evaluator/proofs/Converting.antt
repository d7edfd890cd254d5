-- What is not of the wanted type yet is asked for.
use Rattle.std.proofs.Common.{◌≡◌, ◌⊎◌, inl, inr, Bool, ℤ, refl, subst, sym}
use Rattle.property_keys.specs.declared.identifiers.ObjectId.{ObjectId}
use Rattle.property_keys.specs.declared.identifiers.SymbolId.{SymbolId}
use Rattle.property_keys.specs.declared.identifiers.TextId.{TextId}
use Rattle.property_keys.specs.declared.values.Value.{Value}
use Rattle.property_keys.specs.declared.values.Value.TheVariants as value
use Rattle.es_model.specs.declared.requests.Operation.TheVariants as operation
use Rattle.es_model.specs.Completions.{Completion}
use Rattle.es_model.specs.Program.{Program}
use Rattle.es_model.specs.programs.Converting.{to_number}
use Rattle.es_model.specs.programs.Texts.{to_string}
use Rattle.evaluator.specs.Contexts.{convert}
use Rattle.evaluator.specs.Operators.{to_primitive}

abbrev pub IsNoNumber : Value → Type 0
IsNoNumber v =
    (v ≡ value.Undefined) ⊎ ((v ≡ value.Null) ⊎ (((b : Bool) × v ≡ value.Bool b) ⊎ (((t : TextId) × v ≡ value.Text t)
    ⊎ (((s : SymbolId) × v ≡ value.Symbol s) ⊎ ((o : ObjectId) × v ≡ value.Object o)))))

pub number_asked : (v : Value) (next : Completion → Program) → IsNoNumber v → to_number v next ≡ convert operation.ToWhole v next
number_asked v next (inl e) = subst (λ (x : Value). to_number x next ≡ convert operation.ToWhole x next) (sym e) refl
number_asked v next (inr (inl e)) = subst (λ (x : Value). to_number x next ≡ convert operation.ToWhole x next) (sym e) refl
number_asked v next (inr (inr (inl e))) = subst (λ (x : Value). to_number x next ≡ convert operation.ToWhole x next) (sym e.1) refl
number_asked v next (inr (inr (inr (inl e)))) = subst (λ (x : Value). to_number x next ≡ convert operation.ToWhole x next) (sym e.1) refl
number_asked v next (inr (inr (inr (inr (inl e))))) = subst (λ (x : Value). to_number x next ≡ convert operation.ToWhole x next) (sym e.1) refl
number_asked v next (inr (inr (inr (inr (inr e))))) = subst (λ (x : Value). to_number x next ≡ convert operation.ToWhole x next) (sym e.1) refl

abbrev pub IsNoText : Value → Type 0
IsNoText v =
    (v ≡ value.Undefined) ⊎ ((v ≡ value.Null) ⊎ (((b : Bool) × v ≡ value.Bool b) ⊎ (((n : ℤ) × v ≡ value.Whole n)
    ⊎ (((s : SymbolId) × v ≡ value.Symbol s) ⊎ ((o : ObjectId) × v ≡ value.Object o)))))

pub text_asked : (v : Value) (next : Completion → Program) → IsNoText v → to_string v next ≡ convert operation.ToText v next
text_asked v next (inl e) = subst (λ (x : Value). to_string x next ≡ convert operation.ToText x next) (sym e) refl
text_asked v next (inr (inl e)) = subst (λ (x : Value). to_string x next ≡ convert operation.ToText x next) (sym e) refl
text_asked v next (inr (inr (inl e))) = subst (λ (x : Value). to_string x next ≡ convert operation.ToText x next) (sym e.1) refl
text_asked v next (inr (inr (inr (inl e)))) = subst (λ (x : Value). to_string x next ≡ convert operation.ToText x next) (sym e.1) refl
text_asked v next (inr (inr (inr (inr (inl e))))) = subst (λ (x : Value). to_string x next ≡ convert operation.ToText x next) (sym e.1) refl
text_asked v next (inr (inr (inr (inr (inr e))))) = subst (λ (x : Value). to_string x next ≡ convert operation.ToText x next) (sym e.1) refl

pub primitive_asked : (v : Value) (next : Completion → Program) (o : ObjectId) → v ≡ value.Object o → to_primitive v next ≡ convert operation.ToPrimitiveDefault v next
primitive_asked v next o e = subst (λ (x : Value). to_primitive x next ≡ convert operation.ToPrimitiveDefault x next) (sym e) refl
