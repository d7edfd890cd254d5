use Rattle.evaluator.proofs.Belonging.{write_site}
use Rattle.evaluator.proofs.writing.put_value.Goals as goal

pub returns-in-Property-clause-named : goal.returns-in-Property-clause-named
returns-in-Property-clause-named g c = λ l known value given. let k = rw c.in-Property.is at known in c.put_of.ensures.named l given (write_site c.args.script.now l _ c.in-Property.write k.1.1)
