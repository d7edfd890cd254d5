-- What a frame of an ordinary object keeps.
use Rattle.std.specs.Prelude.{List, [], ◌∷◌}
use Rattle.es_model.specs.Belongs.{FrameName, NamesObject, NamesValue, NamesKey}
use Rattle.ordinary_object.specs.declared.frame.OrdinaryFrame.{OrdinaryFrame}
use Rattle.ordinary_object.specs.declared.frame.OrdinaryFrame.TheVariants.{ParentHas, ParentGet, GetterCalled, ParentSet}
use Rattle.ordinary_object.specs.declared.frame.OrdinaryFrame.TheVariants.{ReceiverHad, ReceiverDefined, SetterCalled}

abbrev pub names_of : OrdinaryFrame → List FrameName
names_of ParentHas = []
names_of ParentGet = []
names_of GetterCalled = []
names_of ParentSet = []
names_of (ReceiverHad s) = NamesKey s.key ∷ NamesValue s.value ∷ NamesObject s.receiver ∷ []
names_of ReceiverDefined = []
names_of SetterCalled = []
