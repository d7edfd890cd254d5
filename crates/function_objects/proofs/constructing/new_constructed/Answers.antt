use Rattle.es_model.specs.World.{World}
use Rattle.object_heap.specs.Origins.{origin_at}
use Rattle.object_heap.specs.Stands.{Goes, goes_then}
use Rattle.function_objects.specs.Constructing.{constructed_world}
use Rattle.function_objects.proofs.ConstructorOrigins.{constructed_goes}
use Rattle.function_objects.proofs.constructing.new_constructed.Goals as goal

pub returns-clause-goes : goal.returns-clause-goes
returns-clause-goes g c = λ w f is h.
    let a = c.args.heap.now in
    let b = c.constructor_origin.new.heap in
    let d = c.make.new.self in
    let u : World = constructed_world c.args.facts c.args.prototype w in
    let one : Goes a b w w = c.in_ok-origin.ensures.goes w f is h in
    let two : Goes b d w u = constructed_goes b d w c.args.facts c.args.prototype (origin_at b c.in_ok-origin.origin) c.in_ok-origin.ensures.kind (c.in_ok-object.ensures.ok w one.stands) in
    goes_then a b d w w u one two
