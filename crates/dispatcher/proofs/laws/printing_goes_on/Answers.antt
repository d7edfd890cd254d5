use Rattle.dispatcher.proofs.Printing.{prints-on}
use Rattle.dispatcher.proofs.laws.printing_goes_on.Goals as goal

pub returns : goal.returns
returns c = prints-on
