use Rattle.command_words.specs.Orders.{order_of}
use Rattle.script_host.specs.Answers.{file_of}
use Rattle.script_host.proofs.Settled.{asks_nothing}
use Rattle.script_host.proofs.outcome.settle.Goals as goal

pub returns-in-Err-NoMemory-clause-names : goal.returns-in-Err-NoMemory-clause-names
returns-in-Err-NoMemory-clause-names g c = asks_nothing (file_of (order_of c.args.words.now)) _
