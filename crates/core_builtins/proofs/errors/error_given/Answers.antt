use Rattle.std.proofs.Common.{◌≡◌, Ok, Err, refl, ap, sym, ◌∙◌, subst}
use Rattle.es_model.specs.declared.answers.Completion.TheVariants as answer
use Rattle.es_model.specs.declared.intrinsics.Class.TheVariants as class
use Rattle.es_model.specs.declared.answers.Turn.TheVariants.{Done}
use Rattle.es_model.specs.Completions.{Completion, Throw, answered}
use Rattle.es_model.specs.Program.{done}
use Rattle.es_model.specs.Stages.{stage_of}
use Rattle.es_model.specs.World.{World}
use Rattle.es_model.specs.programs.Abrupt.{or_throw}
use Rattle.object_heap.specs.Stops.{Stops, stops_then}
use Rattle.function_objects.specs.Constructing.{prototype_result, prototype_world}
use Rattle.core_builtins.specs.Errors.{error_made}
use Rattle.core_builtins.specs.Rests.{program_after}
use Rattle.core_builtins.proofs.Prototyped.{given_stage}
use Rattle.core_builtins.proofs.errors.error_given.Goals as goal

pub returns-in-Ok-clause-stops : goal.returns-in-Ok-clause-stops
returns-in-Ok-clause-stops g c = λ w h.
    let f = c.args.erring in
    let x : Completion = answered c.args.answer in
    let v : World = prototype_world f.target x w in
    let goes = c.in_ok-prototype.ensures.goes w h in
    let is : Ok c.in-Ok.prototype ≡ prototype_result (class.Error f.kind) f.target x w = sym (ap or_throw c.in-Ok.is) ∙ c.in_ok-prototype.ensures.found w h in
    subst (λ s. Stops program_after c.args.heap.now c.error_made.new.heap w s c.error_made.result)
    (sym (given_stage (class.Error f.kind) f.target (error_made f.message f.options) done x w (Ok c.in-Ok.prototype) is))
    (stops_then program_after c.args.heap.now c.prototype_of.new.heap c.error_made.new.heap w v (stage_of (error_made f.message f.options c.in-Ok.prototype) v) c.error_made.result goes (c.error_made.ensures.stops v goes.stands))

pub returns-in-Err-clause-stops : goal.returns-in-Err-clause-stops
returns-in-Err-clause-stops g c = λ w h.
    let f = c.args.erring in
    let x : Completion = answered c.args.answer in
    let goes = c.in_ok-prototype.ensures.goes w h in
    let is : Err (Throw c.in-Err.thrown) ≡ prototype_result (class.Error f.kind) f.target x w = sym (ap or_throw c.in-Err.is) ∙ c.in_ok-prototype.ensures.found w h in
    subst (λ s. Stops program_after c.args.heap.now c.prototype_of.new.heap w s (Ok (Done (answer.Throw c.in-Err.thrown))))
    (sym (given_stage (class.Error f.kind) f.target (error_made f.message f.options) done x w (Err (Throw c.in-Err.thrown)) is)) (refl, goes)
