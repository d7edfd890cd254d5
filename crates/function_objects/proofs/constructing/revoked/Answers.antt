use Rattle.std.proofs.Common.{subst}
use Rattle.es_model.specs.declared.kinds.ErrorKind.TheVariants.{TypeError}
use Rattle.es_model.specs.World.{World}
use Rattle.object_heap.specs.Errors.{error_made}
use Rattle.object_heap.specs.Stands.{Goes, goes_then}
use Rattle.function_objects.specs.Constructing.{revoked_world, text_known}
use Rattle.function_objects.proofs.constructing.revoked.Goals as goal

pub returns-clause-goes : goal.returns-clause-goes
returns-clause-goes g c = λ w h.
    let a = c.args.heap.now in
    let b = c.word.new.self in
    let d = c.make_error.new.self in
    let u : World = text_known w in
    let one : Goes a b w u = c.in_ok-text.ensures.ok w h in
    let two : Goes b d u (revoked_world w) = subst (λ t. Goes b d u (error_made u TypeError t)) (c.in_ok-text.ensures.number w h) (c.in_ok-error.ensures.ok u one.stands) in
    goes_then a b d w u (revoked_world w) one two
