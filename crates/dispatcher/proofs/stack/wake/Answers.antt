use Rattle.es_model.specs.Completions.{answered}
use Rattle.dispatcher.specs.Rests.{frame_rest}
use Rattle.dispatcher.proofs.stack.wake.Goals as goal

pub returns : goal.returns
returns g c = λ S w is same h.
    c.take.ensures c.args.script.now S (frame_rest c.args.script.now c.args.entry.frame S c.args.entry.nested (answered c.args.answer) w) c.args.heap.now c.resume-turn.new.heap w
    (c.resume-turn.ensures S c.args.entry.nested w is same h)
