use Rattle.dispatcher.proofs.Jobs.{runs_jobs}
use Rattle.dispatcher.proofs.bodies.begin_body.Goals as goal

pub returns-in-Call : goal.returns-in-Call
returns-in-Call g c = λ S n w is same h. rw c.in-Call.is (c.begin_call.ensures S n w is same h)

pub returns-in-Construct : goal.returns-in-Construct
returns-in-Construct g c = λ S n w is same h. rw c.in-Construct.is (c.start_construction.ensures.turn S n w (runs_jobs S is) same h)
