use Rattle.std.specs.Prelude.{is_some}
use Rattle.std.proofs.Common.{◌∙◌}
use Rattle.evaluator.proofs.Looped.{frame_turn, step_goes}
use Rattle.evaluator.specs.Contexts.{context}
use Rattle.evaluator.proofs.Sounding.{sound_asks, sound_goes}
use Rattle.evaluator.proofs.Belonging.{asks_named, goes_named}
use Rattle.evaluator.proofs.machine.continue_with.Goals as goal

pub returns-in-GoOn-clause-turn : goal.returns-in-GoOn-clause-turn
returns-in-GoOn-clause-turn g c = λ S n a o old w is same h.
    let next = rw c.in-GoOn.is at h in
    step_goes a c.args.script.now c.args.body c.args.cells S n o old c.args.heap.now c.go.new.heap w c.args.pending.items c.in-GoOn.current c.go.result same next (λ v sv hv. c.go.ensures.turn S n v is sv hv)

pub returns-in-Asks-clause-turn : goal.returns-in-Asks-clause-turn
returns-in-Asks-clause-turn g c = λ S n a o old w is same h.
    let next = rw c.in-Asks.is at h in
    frame_turn c.args.script.now c.args.body S n old c.args.heap.now w o c.args.cells c.args.pending.items c.in-Asks.request c.in-Asks.asked c.waiting.result c.waiting.ensures next

pub returns-in-Ends-clause-turn : goal.returns-in-Ends-clause-turn
returns-in-Ends-clause-turn g c = λ S n a o old w is same h. rw c.in-Ends.is at h

pub returns-in-GoOn-clause-sound : goal.returns-in-GoOn-clause-sound
returns-in-GoOn-clause-sound g c = λ old w same h.
    let next = rw c.in-GoOn.is at h in
    sound_goes (is_some c.args.body.constructs) c.args.script.now (context c.args.script.now c.args.body c.args.cells) old c.args.heap.now c.go.new.heap w c.args.pending.items c.in-GoOn.current c.go.result same next (λ v sv hv now ps. c.go.ensures.sound v sv hv now ps)

pub returns-in-Asks-clause-sound : goal.returns-in-Asks-clause-sound
returns-in-Asks-clause-sound g c = λ old w same h.
    let next = rw c.in-Asks.is at h in
    sound_asks c.args.script.now c.args.body old c.args.heap.now w c.args.cells c.args.pending.items c.in-Asks.request c.in-Asks.asked c.waiting.result c.waiting.ensures next

pub returns-in-Ends-clause-sound : goal.returns-in-Ends-clause-sound
returns-in-Ends-clause-sound g c = λ old w same h. rw c.in-Ends.is at h

pub returns-in-GoOn-clause-belongs : goal.returns-in-GoOn-clause-belongs
returns-in-GoOn-clause-belongs g c = λ old w v same h here hv.
    let next = rw c.in-GoOn.is at h in
    let (x, goes, later, current, items) = next in
    c.go.ensures.belongs x v (later.script ∙ same) goes.stands current items
    (goes_named c.args.script.now x.lists c.args.body c.args.cells c.args.pending.items c.in-GoOn.current (rw c.in-GoOn.is at (here x goes.stands))) hv

pub returns-in-Asks-clause-belongs : goal.returns-in-Asks-clause-belongs
returns-in-Asks-clause-belongs g c = λ old w v same h here hv.
    asks_named c.args.script.now v.lists c.args.body c.args.cells c.args.pending.items c.in-Asks.request c.in-Asks.asked c.waiting.result c.waiting.ensures (rw c.in-Asks.is at (here v hv))
