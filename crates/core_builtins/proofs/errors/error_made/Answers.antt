use Rattle.std.proofs.Common.{Some, refl}
use Rattle.object_heap.specs.Origins.{origin_at, origin_in}
use Rattle.core_builtins.proofs.There.{error_there}
use Rattle.core_builtins.proofs.errors.error_made.Goals as goal

pub returns-clause-named : goal.returns-clause-named
returns-clause-named g c = λ w v hw hv known.
    let a = c.origin_for.new.self in
    let begun = c.in_ok-origin.ensures.ok w hw refl in
    let made = c.in_ok-error.ensures.ok w begun.stands in
    c.with_message.ensures.named v
    (error_there c.make.new.self c.with_message.new.heap w v (origin_in w.script (origin_at a c.in_ok-origin.origin)) (Some c.args.prototype) c.in_ok-error.error (c.in_ok-error.ensures.object w begun.stands) made.stands
    c.with_message.ensures.retains hv)
    known
