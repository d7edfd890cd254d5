use Rattle.std.proofs.Common.{ap}
use Rattle.map_store.specs.declared.entries.Entry.{Entry}
use Rattle.transition_tree.proofs.Stepping.{redefines}
use Rattle.transition_tree.proofs.following.follow.Goals as goal

pub returns-in-Some-clause-ok : goal.returns-in-Some-clause-ok
returns-in-Some-clause-ok g c =
    redefines c.replace.result c.args.maps.now c.replace.new.self c.args.map c.args.step c.in-Redefine.key c.in-Redefine.kind c.in-Redefine.attributes c.args.representation c.in-Some.i _
    c.in-Redefine.is c.in-Some.ensures.place (ap (λ (e : Entry). e.place) c.entry-place.ensures.value) c.replace.ensures.number c.replace.ensures.ok
