use Rattle.std.proofs.Common.{subst}
use Rattle.std.specs.Prelude.{codes}
use Rattle.es_model.specs.Stages.{stage_of}
use Rattle.es_model.specs.programs.Methods.{get_named}
use Rattle.object_heap.specs.Stops.{Stops}
use Rattle.core_builtins.specs.Answers.{second_of}
use Rattle.core_builtins.specs.Errors.{error_given}
use Rattle.core_builtins.specs.Rests.{program_after}
use Rattle.core_builtins.proofs.errors.error_constructed.Goals as goal

pub returns-clause-stops : goal.returns-clause-stops
returns-clause-stops c = λ w h.
    let kind = c.args.kind in
    let target = c.args.target in
    let vs = c.args.arguments.now in
    subst (λ m. Stops program_after c.args.heap.now c.get_named.new.heap w (stage_of (get_named target (codes "prototype") (error_given kind target m (second_of vs))) w) c.get_named.result)
    c.first_of.ensures.value
    (subst (λ o. Stops program_after c.args.heap.now c.get_named.new.heap w (stage_of (get_named target (codes "prototype") (error_given kind target c.first_of.result o)) w) c.get_named.result)
    c.second_of.ensures.value (c.get_named.ensures.stops w h))

pub returns-clause-named : goal.returns-clause-named
returns-clause-named c = λ w target arguments. c.get_named.ensures.named w (target, (c.first_of.ensures.known w.lists arguments, (c.second_of.ensures.known w.lists arguments, tt)))
