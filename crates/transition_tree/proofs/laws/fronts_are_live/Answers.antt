use Rattle.transition_tree.proofs.Belonging.{front-of}
use Rattle.transition_tree.proofs.laws.fronts_are_live.Goals as goal

pub returns : goal.returns
returns c = λ tree ms front later map together live.
    let f = front-of tree ms together front map live.known later live.here in
    (f.at, record { known = f.known; live = f.live live.live; here = f.here })
