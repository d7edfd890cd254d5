use Rattle.function_objects.specs.Making.{created_world}
use Rattle.function_objects.proofs.Made.{named_there}
use Rattle.function_objects.proofs.making.function_made.Goals as goal

pub returns-clause-there : goal.returns-clause-there
returns-clause-there g c = λ w v is stands.
    let a = c.in_ok-object.ensures in
    let made = a.goes w is in
    let named = c.in_ok-name_function.ensures.goes (created_world c.args.function c.args.facts w) made.stands in
    named_there c.name_function.new.heap c.args.function c.args.facts c.args.name c.in_ok-object.object w v (a.object w is) named.stands stands
