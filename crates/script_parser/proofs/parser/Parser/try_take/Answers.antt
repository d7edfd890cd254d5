use Rattle.script_parser.proofs.Steps.{tried_if}
use Rattle.script_parser.proofs.parser.Parser.try_take.Goals as goal

pub returns : goal.returns
returns c = tried_if c.args.self.now c.settle.new.self c.shift.new.self c.args.x c.shift.result c.in_ok-settle.ensures.settled c.shift.ensures
