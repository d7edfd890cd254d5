-- What is left of an algorithm where a frame waits.
use Rattle.es_model.specs.Completions.{Completion}
use Rattle.es_model.specs.Program.{Program}
use Rattle.es_model.specs.programs.Converting.{length_got, length_given}
use Rattle.plain_builtins.specs.ArrayLikes.{element_given, elements_left, elements_of}
use Rattle.plain_builtins.specs.Comparisons.{left_converted, right_converted, left_first, right_after, right_first, left_after}
use Rattle.plain_builtins.specs.Conversions.{exotic_given, first_given, first_called, second_given, last_called, text_given, whole_given, key_given}
use Rattle.plain_builtins.specs.Instances.{handler_given, handler_called, prototype_given, parent_given, instance_round}
use Rattle.plain_builtins.specs.Printing.{argument_given, line_printed, print_left}
use Rattle.plain_builtins.specs.WantedFields.{field_had, field_given, fields_left, fields_after}
use Rattle.plain_builtins.specs.declared.frame.PlainFrame.{PlainFrame}
use Rattle.plain_builtins.specs.declared.frame.PlainFrame.TheVariants.{Primitive, Converted, Compared, Instance, Wanted, Listed, Printed}
use Rattle.plain_builtins.specs.declared.frame.PrimitiveFrame.{PrimitiveFrame}
use Rattle.plain_builtins.specs.declared.frame.PrimitiveFrame.TheVariants.{ExoticGiven, FirstGiven, FirstCalled, SecondGiven, LastCalled}
use Rattle.plain_builtins.specs.declared.frame.ConvertedFrame.{ConvertedFrame}
use Rattle.plain_builtins.specs.declared.frame.ConvertedFrame.TheVariants as converted
use Rattle.plain_builtins.specs.declared.frame.ComparedFrame.{ComparedFrame}
use Rattle.plain_builtins.specs.declared.frame.ComparedFrame.TheVariants.{EqualLeft, EqualRight, LeftFirst, RightAfter, RightFirst, LeftAfter}
use Rattle.plain_builtins.specs.declared.frame.InstanceFrame.{InstanceFrame}
use Rattle.plain_builtins.specs.declared.frame.InstanceFrame.TheVariants.{HandlerGiven, HandlerCalled, PrototypeGiven, ParentGiven}
use Rattle.plain_builtins.specs.declared.frame.WantedFrame.{WantedFrame}
use Rattle.plain_builtins.specs.declared.frame.WantedFrame.TheVariants.{FieldHad, FieldGiven}
use Rattle.plain_builtins.specs.declared.frame.ListedFrame.{ListedFrame}
use Rattle.plain_builtins.specs.declared.frame.ListedFrame.TheVariants.{LengthGot, LengthGiven, ElementGiven}
use Rattle.plain_builtins.specs.declared.frame.PrintedFrame.{PrintedFrame}
use Rattle.plain_builtins.specs.declared.frame.PrintedFrame.TheVariants.{ArgumentGiven, LinePrinted}

abbrev pub after_primitive : PrimitiveFrame → Completion → Program
after_primitive (ExoticGiven f) c = exotic_given f.hint f.object c
after_primitive (FirstGiven f) c = first_given f.hint f.object c
after_primitive (FirstCalled f) c = first_called f.hint f.object c
after_primitive (SecondGiven o) c = second_given o c
after_primitive LastCalled c = last_called c

abbrev pub after_converted : ConvertedFrame → Completion → Program
after_converted converted.Text c = text_given c
after_converted converted.Whole c = whole_given c
after_converted converted.Key c = key_given c

abbrev pub after_compared : ComparedFrame → Completion → Program
after_compared (EqualLeft b) c = left_converted b c
after_compared (EqualRight a) c = right_converted a c
after_compared (LeftFirst b) c = left_first b c
after_compared (RightAfter p) c = right_after p c
after_compared (RightFirst a) c = right_first a c
after_compared (LeftAfter q) c = left_after q c

abbrev pub after_instance : InstanceFrame → Completion → Program
after_instance (HandlerGiven f) c = handler_given f.value f.target c
after_instance HandlerCalled c = handler_called c
after_instance (PrototypeGiven x) c = prototype_given x c
after_instance (ParentGiven f) c = parent_given (instance_round f.left f.wanted) f.wanted c

abbrev pub after_wanted : WantedFrame → Completion → Program
after_wanted (FieldHad f) c = field_had (fields_left (fields_after f.field) f.object) f.field f.object f.descriptor c
after_wanted (FieldGiven f) c = field_given (fields_left (fields_after f.field) f.object) f.field f.descriptor c

abbrev pub after_listed : ListedFrame → Completion → Program
after_listed (LengthGot f) c = length_got (length_given (elements_of f.object f.collected)) c
after_listed (LengthGiven f) c = length_given (elements_of f.object f.collected) c
after_listed (ElementGiven f) c = element_given (elements_left f.left f.length f.object) f.collected c

abbrev pub after_printed : PrintedFrame → Completion → Program
after_printed (ArgumentGiven f) c = argument_given (print_left f.left) f.texts c
after_printed LinePrinted c = line_printed c

abbrev pub program_after : PlainFrame → Completion → Program
program_after (Primitive f) c = after_primitive f c
program_after (Converted f) c = after_converted f c
program_after (Compared f) c = after_compared f c
program_after (Instance f) c = after_instance f c
program_after (Wanted f) c = after_wanted f c
program_after (Listed f) c = after_listed f c
program_after (Printed f) c = after_printed f c
