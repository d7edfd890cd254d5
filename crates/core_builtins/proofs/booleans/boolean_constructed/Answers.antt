use Rattle.std.proofs.Common.{ap, ◌∙◌, subst}
use Rattle.property_keys.specs.declared.values.Value.TheVariants as value
use Rattle.es_model.specs.declared.intrinsics.Class.TheVariants as class
use Rattle.es_model.specs.Stages.{stage_of}
use Rattle.es_model.specs.programs.Testing.{is_truth}
use Rattle.object_heap.specs.Stops.{Stops}
use Rattle.core_builtins.specs.Constructed.{create_wrapper}
use Rattle.core_builtins.specs.Rests.{program_after}
use Rattle.core_builtins.proofs.booleans.boolean_constructed.Goals as goal

pub returns-clause-stops : goal.returns-clause-stops
returns-clause-stops c = λ w h.
    let is = c.is_truth-is_truth.ensures w h ∙ ap (is_truth w.lists) c.first_of.ensures.value in
    subst (λ b. Stops program_after c.args.heap.now c.create_wrapper.new.heap w (stage_of (create_wrapper class.Boolean (value.Bool b) c.args.target) w) c.create_wrapper.result)
    is (c.create_wrapper.ensures.stops w h)
