use Rattle.plain_builtins.proofs.turns.work.Goals as goal

pub returns-in-Two-clause-named : goal.returns-in-Two-clause-named
returns-in-Two-clause-named g c = λ w k. let both = c.in-Two.ensures.known w.lists k in c.two_operands.ensures.named w both.0 both.1

pub returns-in-Three-clause-named : goal.returns-in-Three-clause-named
returns-in-Three-clause-named g c = λ w k. let all = c.in-Three.ensures.known w.lists k in c.three_operands.ensures.named w all.0 all.1
