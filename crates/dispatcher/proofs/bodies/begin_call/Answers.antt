use Rattle.dispatcher.proofs.Jobs.{runs_jobs}
use Rattle.dispatcher.proofs.bodies.begin_call.Goals as goal

pub returns-in-Object : goal.returns-in-Object
returns-in-Object g c = λ S n w is same h. rw c.in-Object.is (c.start_body.ensures.turn S n w (runs_jobs S is) same h)
