use Rattle.std.proofs.Common.{◌≡◌, ap, ◌∙◌, subst, Ok, Err}
use Rattle.es_model.specs.Completions.{Throw, answered}
use Rattle.es_model.specs.programs.Abrupt.{or_throw, taken, value_in}
use Rattle.object_heap.specs.Stands.{Goes, goes_none}
use Rattle.function_objects.proofs.ConstructorOrigins.{result_taken, world_taken}
use Rattle.function_objects.proofs.constructing.prototype_of.Goals as goal

pub returns-in_ok-found-in-Ok-clause-found : goal.returns-in_ok-found-in-Ok-clause-found
returns-in_ok-found-in-Ok-clause-found g c = λ w h.
    let is : taken value_in (answered c.args.answer) ≡ Ok c.in-Ok.value = c.value.ensures ∙ ap or_throw c.in-Ok.is in
    c.in_ok-found-in-Ok.ensures.found w h ∙ result_taken c.args.default c.args.target (answered c.args.answer) w (Ok c.in-Ok.value) is

pub returns-in_ok-found-in-Ok-clause-goes : goal.returns-in_ok-found-in-Ok-clause-goes
returns-in_ok-found-in-Ok-clause-goes g c = λ w h.
    let is : taken value_in (answered c.args.answer) ≡ Ok c.in-Ok.value = c.value.ensures ∙ ap or_throw c.in-Ok.is in
    subst (λ u. Goes c.args.heap.now c.value_prototype.new.heap w u) (world_taken c.args.target (answered c.args.answer) w (Ok c.in-Ok.value) is) (c.in_ok-found-in-Ok.ensures.goes w h)

pub returns-in-Err-clause-found : goal.returns-in-Err-clause-found
returns-in-Err-clause-found g c = λ w h.
    let is : taken value_in (answered c.args.answer) ≡ Err (Throw c.in-Err.thrown) = c.value.ensures ∙ ap or_throw c.in-Err.is in
    result_taken c.args.default c.args.target (answered c.args.answer) w (Err (Throw c.in-Err.thrown)) is

pub returns-in-Err-clause-goes : goal.returns-in-Err-clause-goes
returns-in-Err-clause-goes g c = λ w h.
    let is : taken value_in (answered c.args.answer) ≡ Err (Throw c.in-Err.thrown) = c.value.ensures ∙ ap or_throw c.in-Err.is in
    subst (λ u. Goes c.args.heap.now c.args.heap.now w u) (world_taken c.args.target (answered c.args.answer) w (Err (Throw c.in-Err.thrown)) is) (goes_none c.args.heap.now w h)
