-- What a frame keeps.
use Rattle.std.specs.Prelude.{List, [], ◌∷◌}
use Rattle.es_model.specs.Belongs.{FrameName, NamesObject, NamesText, NamesValue}
use Rattle.core_builtins.specs.declared.frame.CoreFrame.{CoreFrame}
use Rattle.core_builtins.specs.declared.frame.CoreFrame.TheVariants as core
use Rattle.core_builtins.specs.declared.frame.FunctionFrame.{FunctionFrame}
use Rattle.core_builtins.specs.declared.frame.FunctionFrame.TheVariants.{ListGiven, Called, InstanceGiven}
use Rattle.core_builtins.specs.declared.frame.WrapperFrame.{WrapperFrame}
use Rattle.core_builtins.specs.declared.frame.WrapperFrame.TheVariants as wrapper
use Rattle.core_builtins.specs.declared.frame.ErrorFrame.{ErrorFrame}
use Rattle.core_builtins.specs.declared.frame.ErrorFrame.TheVariants as error
use Rattle.core_builtins.specs.declared.frame.ErrorTextFrame.{ErrorTextFrame}
use Rattle.core_builtins.specs.declared.frame.ErrorTextFrame.TheVariants as text

abbrev pub names_of_function : FunctionFrame → List FrameName
names_of_function (ListGiven f) = NamesValue f.function ∷ NamesValue f.this ∷ []
names_of_function Called = []
names_of_function InstanceGiven = []

abbrev pub names_of_wrapper : WrapperFrame → List FrameName
names_of_wrapper wrapper.NumberGiven = []
names_of_wrapper (wrapper.NumberToWrap target) = NamesObject target ∷ []
names_of_wrapper (wrapper.RadixGiven x) = []
names_of_wrapper (wrapper.PrototypeGiven f) = NamesValue f.value ∷ NamesObject f.target ∷ []

abbrev pub names_of_error : ErrorFrame → List FrameName
names_of_error (error.PrototypeGiven f) = NamesObject f.target ∷ NamesValue f.message ∷ NamesValue f.options ∷ []
names_of_error (error.MessageGiven f) = NamesObject f.error ∷ NamesValue f.options ∷ []
names_of_error (error.CauseHad f) = NamesObject f.error ∷ NamesObject f.options ∷ []
names_of_error (error.CauseGiven e) = NamesObject e ∷ []

abbrev pub names_of_error_text : ErrorTextFrame → List FrameName
names_of_error_text (text.NameGot o) = NamesObject o ∷ []
names_of_error_text (text.NameGiven o) = NamesObject o ∷ []
names_of_error_text (text.MessageGot t) = NamesText t ∷ []
names_of_error_text (text.MessageGiven t) = NamesText t ∷ []

abbrev pub names_of : CoreFrame → List FrameName
names_of (core.Function f) = names_of_function f
names_of (core.Wrapper f) = names_of_wrapper f
names_of (core.Symbol f) = []
names_of (core.Error f) = names_of_error f
names_of (core.ErrorText f) = names_of_error_text f
