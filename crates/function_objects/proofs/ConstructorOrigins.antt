-- The steps of a construction over a heap, over plain variables.
use Rattle.std.proofs.Common.{◌≡◌, ℕ, suc, Some, List, [], ◌∷◌, cond, refl, ap, subst, sym, Result}
use Rattle.property_keys.specs.declared.identifiers.ObjectId.{ObjectId}
use Rattle.property_keys.specs.declared.values.Value.{Value}
use Rattle.slack_tracking.specs.declared.OriginKind.{OriginKind}
use Rattle.slack_tracking.specs.declared.OriginKind.TheVariants as origin
use Rattle.es_source.specs.Places.{same_place}
use Rattle.es_tree.specs.declared.facts.FunctionFacts.{FunctionFacts}
use Rattle.es_model.specs.declared.intrinsics.Class.{Class}
use Rattle.es_model.specs.declared.kinds.ObjectKind.TheVariants.{Ordinary}
use Rattle.es_model.specs.Changes.{Constructing, Making, changed}
use Rattle.es_model.specs.Completions.{Completion}
use Rattle.es_model.specs.Events.{OfConstructor}
use Rattle.es_model.specs.World.{World}
use Rattle.es_model.specs.programs.Abrupt.{taken, value_in}
use Rattle.object_heap.specs.Origins.{constructed_by, function_at, origin_in}
use Rattle.object_heap.specs.Stands.{Goes, HeapView}
use Rattle.function_objects.specs.Constructing.{constructed_world, first_function_at, noted_world, prototype_result, prototype_world, result_by_taken, world_by_taken}

first_function : (fs : List FunctionFacts) (facts : FunctionFacts) → function_at fs facts.place ≡ first_function_at fs facts
first_function [] facts = refl
first_function (f ∷ fs) facts = ap (λ (n : ℕ). cond (same_place f.place facts.place) 0 (suc n)) (first_function fs facts)

-- an object whose origin is a function's
pub constructed_goes : (a b : HeapView) (w : World) (facts : FunctionFacts) (proto : ObjectId) (x : OriginKind) → x ≡ origin.Constructor facts.place →
    Goes a b w (changed (Making Ordinary (origin_in w.script x) (Some proto)) w) → Goes a b w (constructed_world facts proto w)
unfolding constructed_world
constructed_goes a b w facts proto x is g =
    subst (λ (n : ℕ). Goes a b w (changed (Making Ordinary (OfConstructor (record { 0 = n })) (Some proto)) w)) (first_function w.script.functions facts)
    (subst (λ y. Goes a b w (changed (Making Ordinary (origin_in w.script y) (Some proto)) w)) is g)

-- the event of a function's construction
pub noted_goes : (a b : HeapView) (w : World) (facts : FunctionFacts) (x : OriginKind) → x ≡ origin.Constructor facts.place → Goes a b w (constructed_by w x) → Goes a b w (noted_world facts w)
unfolding noted_world
noted_goes a b w facts x is g =
    subst (λ (n : ℕ). Goes a b w (changed (Constructing (record { 0 = n })) w)) (first_function w.script.functions facts) (subst (λ y. Goes a b w (constructed_by w y)) is g)

-- ---- what is taken from the answer

pub result_taken : (default : Class) (target : ObjectId) (c : Completion) (w : World) (r : Result Value Completion) → taken value_in c ≡ r → result_by_taken default target r w ≡ prototype_result default target c w
unfolding prototype_result
result_taken default target c w r e = ap (λ x. result_by_taken default target x w) (sym e)

pub world_taken : (target : ObjectId) (c : Completion) (w : World) (r : Result Value Completion) → taken value_in c ≡ r → world_by_taken target r w ≡ prototype_world target c w
unfolding prototype_world
world_taken target c w r e = ap (λ x. world_by_taken target x w) (sym e)
