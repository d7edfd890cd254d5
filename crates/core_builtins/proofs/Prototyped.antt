-- What follows GetPrototypeFromConstructor (ECMA-262, 10.1.14), over plain variables.
use Rattle.std.proofs.Common.{◌≡◌, Result, sym, ap, ◌∙◌}
use Rattle.property_keys.specs.declared.identifiers.ObjectId.{ObjectId}
use Rattle.es_model.specs.declared.intrinsics.Class.{Class}
use Rattle.es_model.specs.Completions.{Completion}
use Rattle.es_model.specs.Program.{Program}
use Rattle.es_model.specs.Stages.{stage_of}
use Rattle.es_model.specs.World.{World}
use Rattle.function_objects.specs.Constructing.{prototype_given, prototype_result, prototype_world, with_prototype}
use Rattle.function_objects.proofs.Constructed.{prototype_stage}

-- with the prototype, or how it ends
pub given_stage : (default : Class) (target : ObjectId) (next : ObjectId → Program) (failed : Completion → Program) (c : Completion) (w : World) (r : Result ObjectId Completion) →
    r ≡ prototype_result default target c w → stage_of (prototype_given default target next failed c) w ≡ stage_of (with_prototype next failed r) (prototype_world target c w)
given_stage default target next failed c w r is =
    prototype_stage default target next failed c w ∙ ap (λ x. stage_of (with_prototype next failed x) (prototype_world target c w)) (sym is)
