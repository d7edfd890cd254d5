use Rattle.std.proofs.Common.{arith}
use Rattle.std.proofs.lemmas.Grind.{common_steps}
use Rattle.script_parser.proofs.Whole.{started}
use Rattle.script_parser.proofs.parser.Parser.start.Goals as goal

pub returns : goal.returns
returns c =
    started c.begin_list.new.self
    (grind (arith, common_steps, c.in_ok-begin_list.ensures.stack, c.new.ensures.items, c.new-2.ensures.items))
    (grind (arith, common_steps, c.in_ok-begin_list.ensures.made, c.new-3.ensures.items, c.new-4.ensures.items))
