use Rattle.dispatcher.proofs.Entered.{print_leads}
use Rattle.dispatcher.proofs.entering.printed.Goals as goal

pub returns-in-Print : goal.returns-in-Print
returns-in-Print c = λ script S n fs heap w h. rw c.in-Print.is (print_leads script S fs heap w c.in-Print.line h)
