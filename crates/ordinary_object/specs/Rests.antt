-- What is left of an algorithm of an ordinary object where a frame waits.
use Rattle.es_model.specs.Completions.{Completion}
use Rattle.es_model.specs.Program.{Program, done}
use Rattle.ordinary_object.specs.Ordinary.{set_had, set_called}
use Rattle.ordinary_object.specs.declared.frame.OrdinaryFrame.{OrdinaryFrame}
use Rattle.ordinary_object.specs.declared.frame.OrdinaryFrame.TheVariants.{ParentHas, ParentGet, GetterCalled, ParentSet}
use Rattle.ordinary_object.specs.declared.frame.OrdinaryFrame.TheVariants.{ReceiverHad, ReceiverDefined, SetterCalled}

abbrev pub program_after : OrdinaryFrame → Completion → Program
program_after ParentHas c = done c
program_after ParentGet c = done c
program_after GetterCalled c = done c
program_after ParentSet c = done c
program_after (ReceiverHad s) c = set_had s.key s.value s.receiver c
program_after ReceiverDefined c = done c
program_after SetterCalled c = set_called c
