-- What is left of a built-in function where a frame waits.
use Rattle.es_model.specs.Completions.{Completion}
use Rattle.es_model.specs.Program.{Program}
use Rattle.core_builtins.specs.Constructed.{wrapper_given}
use Rattle.core_builtins.specs.Errors.{cause_given, cause_had, error_given, message_given}
use Rattle.core_builtins.specs.ErrorTexts.{message_got, message_text_given, name_got, name_text_given}
use Rattle.core_builtins.specs.Functions.{called, instance_given, list_given}
use Rattle.core_builtins.specs.Numbers.{number_given, number_to_wrap}
use Rattle.core_builtins.specs.Radices.{radix_given}
use Rattle.core_builtins.specs.Symbols.{description_given}
use Rattle.core_builtins.specs.declared.frame.CoreFrame.{CoreFrame}
use Rattle.core_builtins.specs.declared.frame.CoreFrame.TheVariants as core
use Rattle.core_builtins.specs.declared.frame.FunctionFrame.{FunctionFrame}
use Rattle.core_builtins.specs.declared.frame.FunctionFrame.TheVariants.{ListGiven, Called, InstanceGiven}
use Rattle.core_builtins.specs.declared.frame.WrapperFrame.{WrapperFrame}
use Rattle.core_builtins.specs.declared.frame.WrapperFrame.TheVariants as wrapper
use Rattle.core_builtins.specs.declared.frame.SymbolFrame.{SymbolFrame}
use Rattle.core_builtins.specs.declared.frame.SymbolFrame.TheVariants.{DescriptionGiven}
use Rattle.core_builtins.specs.declared.frame.ErrorFrame.{ErrorFrame}
use Rattle.core_builtins.specs.declared.frame.ErrorFrame.TheVariants as error
use Rattle.core_builtins.specs.declared.frame.ErrorTextFrame.{ErrorTextFrame}
use Rattle.core_builtins.specs.declared.frame.ErrorTextFrame.TheVariants as text

abbrev pub after_function : FunctionFrame → Completion → Program
after_function (ListGiven f) c = list_given f.function f.this c
after_function Called c = called c
after_function InstanceGiven c = instance_given c

abbrev pub after_wrapper : WrapperFrame → Completion → Program
after_wrapper wrapper.NumberGiven c = number_given c
after_wrapper (wrapper.NumberToWrap target) c = number_to_wrap target c
after_wrapper (wrapper.RadixGiven x) c = radix_given x c
after_wrapper (wrapper.PrototypeGiven f) c = wrapper_given f.class f.value f.target c

abbrev pub after_symbol : SymbolFrame → Completion → Program
after_symbol DescriptionGiven c = description_given c

abbrev pub after_error : ErrorFrame → Completion → Program
after_error (error.PrototypeGiven f) c = error_given f.kind f.target f.message f.options c
after_error (error.MessageGiven f) c = message_given f.error f.options c
after_error (error.CauseHad f) c = cause_had f.error f.options c
after_error (error.CauseGiven e) c = cause_given e c

abbrev pub after_error_text : ErrorTextFrame → Completion → Program
after_error_text (text.NameGot o) c = name_got o c
after_error_text (text.NameGiven o) c = name_text_given o c
after_error_text (text.MessageGot t) c = message_got t c
after_error_text (text.MessageGiven t) c = message_text_given t c

abbrev pub program_after : CoreFrame → Completion → Program
program_after (core.Function f) c = after_function f c
program_after (core.Wrapper f) c = after_wrapper f c
program_after (core.Symbol f) c = after_symbol f c
program_after (core.Error f) c = after_error f c
program_after (core.ErrorText f) c = after_error_text f c
