use Rattle.es_model.specs.Completions.{answered}
use Rattle.core_builtins.specs.Names.{names_of}
use Rattle.core_builtins.specs.Rests.{program_after}
use Rattle.core_builtins.proofs.NamedLater.{named_after}
use Rattle.core_builtins.proofs.turns.resume.Goals as goal

pub returns-clause-belongs : goal.returns-clause-belongs
returns-clause-belongs g c = λ w h b k.
    let turn = c.next_turn in
    named_after names_of program_after c.args.heap.now turn.new.heap (program_after c.args.frame (answered c.args.answer)) c.args.frame (answered c.args.answer) w turn.result turn.ensures.named
    (turn.ensures.stops w h) h b k
