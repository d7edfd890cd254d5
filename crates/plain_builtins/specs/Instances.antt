-- InstanceofOperator and OrdinaryHasInstance (ECMA-262, 13.10.2, 7.3.21).
use Rattle.std.specs.Prelude.{ℕ, zero, suc, ◌^◌, Bool, true, false, nat_eq, if◌then◌else◌, Option, Some, None, [], ◌∷◌, codes}
use Rattle.property_keys.specs.declared.identifiers.ObjectId.{ObjectId}
use Rattle.property_keys.specs.declared.keys.PropKey.TheVariants.{Sym}
use Rattle.property_keys.specs.declared.values.Value.{Value}
use Rattle.property_keys.specs.declared.values.Value.TheVariants as value
use Rattle.es_model.specs.declared.requests.Request.TheVariants.{Call, Proto}
use Rattle.es_model.specs.declared.start_texts.WellKnown.TheVariants as symbol
use Rattle.es_model.specs.Completions.{Completion}
use Rattle.es_model.specs.StartTexts.{symbol_of}
use Rattle.es_model.specs.World.{kind}
use Rattle.es_model.specs.Program.{Program, look, charge, ask}
use Rattle.es_model.specs.programs.Abrupt.{then_value, then_proto}
use Rattle.es_model.specs.programs.Converting.{not_an_object}
use Rattle.es_model.specs.programs.Errors.{not_a_function}
use Rattle.es_model.specs.programs.Methods.{get, get_named, then_method}
use Rattle.es_model.specs.programs.Testing.{as_object, is_callable_kind, is_truth}
use Rattle.plain_builtins.specs.Comparisons.{says}

-- ---- OrdinaryHasInstance (7.3.21)

-- No run has more turns, and each round takes one: so no walk up the prototypes has more rounds (laws.rt).
abbrev pub most_rounds : ℕ
most_rounds = 2 ^ 64

abbrev pub same_object : ObjectId → ObjectId → Bool
same_object a b = nat_eq a.0 b.0

-- the prototype was asked for: p is what is looked for
abbrev pub parent_found : (ObjectId → Program) → ObjectId → Option ObjectId → Program
parent_found onward p None = says false
parent_found onward p (Some up) = if same_object up p then says true else onward up

abbrev pub parent_given : (ObjectId → Program) → ObjectId → Completion → Program
parent_given onward p c = then_proto (parent_found onward p) c

-- step 6, a turn for each round, the last one too
abbrev pub instance_round : ℕ → ObjectId → ObjectId → Program
instance_round zero p x = says false
instance_round (suc left) p x = charge 1 (ask (Proto x) (parent_given (instance_round left p) p))

abbrev pub prototype_by : Option ObjectId → ObjectId → Program
prototype_by (Some p) x = instance_round most_rounds p x
prototype_by None x = not_an_object

-- step 5
abbrev pub prototype_given : ObjectId → Completion → Program
prototype_given x c = then_value (λ p. prototype_by (as_object p) x) c

-- steps 3 and 4
abbrev pub has_instance : ObjectId → Option ObjectId → Program
has_instance f (Some x) = get_named f (codes "prototype") (prototype_given x)
has_instance f None = says false

-- step 1 comes first where it is not known that the value can be called
abbrev pub ordinary_by : Option ObjectId → Value → Program
ordinary_by (Some f) v = look (λ l. if is_callable_kind (kind l f) then has_instance f (as_object v) else says false)
ordinary_by None v = says false

abbrev pub ordinary_has_instance : Value → Value → Program
ordinary_has_instance f v = ordinary_by (as_object f) v

-- ---- InstanceofOperator (13.10.2)

-- step 3.a
abbrev pub handler_called : Completion → Program
handler_called c = then_value (λ v. look (λ l. says (is_truth l v))) c

-- steps 3 to 5
abbrev pub handler_found : Value → ObjectId → Option ObjectId → Program
handler_found v f (Some h) = ask (Call (value.Object h) (value.Object f) (v ∷ [])) handler_called
handler_found v f None = look (λ l. if is_callable_kind (kind l f) then has_instance f (as_object v) else not_a_function)

abbrev pub handler_given : Value → ObjectId → Completion → Program
handler_given v f c = then_method (handler_found v f) c

-- steps 1 and 2
abbrev pub instance_of_by : Value → Option ObjectId → Program
instance_of_by v (Some f) = get f (Sym (symbol_of symbol.HasInstance)) (handler_given v f)
instance_of_by v None = not_an_object

abbrev pub instance_of : Value → Value → Program
instance_of v target = instance_of_by v (as_object target)
