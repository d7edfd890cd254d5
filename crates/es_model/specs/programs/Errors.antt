-- Steps that many algorithms share: answers, and errors that are thrown.
use Rattle.std.specs.Prelude.{ℕ, Bool, true, false, Option, Some, None, List, codes}
use Rattle.property_keys.specs.declared.identifiers.ObjectId.{ObjectId}
use Rattle.property_keys.specs.declared.identifiers.TextId.{TextId}
use Rattle.property_keys.specs.declared.keys.PropKey.TheVariants.{Name}
use Rattle.property_keys.specs.declared.values.Value.{Value}
use Rattle.property_keys.specs.declared.values.Value.TheVariants as value
use Rattle.descriptors.specs.declared.fields.Descriptor.{Descriptor}
use Rattle.es_model.specs.Completions.{Completion, Normal, Throw}
use Rattle.es_model.specs.declared.answers.Reply.TheVariants as reply
use Rattle.es_model.specs.declared.kinds.ErrorKind.{ErrorKind}
use Rattle.es_model.specs.declared.kinds.ErrorKind.TheVariants as error
use Rattle.es_model.specs.declared.kinds.ObjectKind.TheVariants as kind_of
use Rattle.es_model.specs.declared.intrinsics.Class.TheVariants as class
use Rattle.es_model.specs.declared.intrinsics.Intrinsic.TheVariants as intrinsic
use Rattle.es_model.specs.declared.start_texts.StartText.TheVariants as start_text
use Rattle.es_model.specs.StartObjects.{object_of}
use Rattle.es_model.specs.StartTexts.{units_of_start}
use Rattle.es_model.specs.Events.{OfError}
use Rattle.es_model.specs.Program.{Program, done, charge, nest, make, intern, define}

abbrev pub flag : Bool → Completion
flag b = Normal (reply.Flag b)

abbrev pub undefined : Completion
undefined = Normal (reply.Value value.Undefined)

-- An answer of a kind that its request does not have. No server gives one; the definitions are total all the same.
abbrev pub unfit : Program
unfit = done (Throw value.Undefined)

-- a case that is not written yet
abbrev pub unwritten : Program
unwritten = done (Throw value.Undefined)

-- a property that is writable, configurable and not enumerable
abbrev pub hidden : Value → Descriptor
hidden v = record { value = Some v; writable = Some true; get = None; set = None; enumerable = Some false; configurable = Some true }

-- the prototype of the errors of a kind (20.5.3, 20.5.6.3)
abbrev pub error_proto : ErrorKind → Option ObjectId
error_proto k = Some (object_of (intrinsic.Prototype (class.Error k)))

-- a new error object with a message (20.5.1.1, 20.5.6.1.1)
abbrev pub make_error : ErrorKind → TextId → (ObjectId → Program) → Program
make_error k text next =
    intern (units_of_start start_text.Message) (λ name. make kind_of.Error OfError (error_proto k) (λ e.
    define e (Name name) (hidden (value.Text text)) (λ b. next e)))

abbrev pub throw_error : ErrorKind → List ℕ → Program
throw_error k text = intern text (λ t. make_error k t (λ e. done (Throw (value.Object e))))

-- a call that would be one more than may run at once
abbrev pub too_many_calls : Program
too_many_calls = throw_error error.RangeError (codes "too many nested calls")

-- a call of what cannot be called, or constructed
abbrev pub not_a_function : Program
not_a_function = throw_error error.TypeError (codes "not a function")

abbrev pub not_a_constructor : Program
not_a_constructor = throw_error error.TypeError (codes "not a constructor")

-- a function, a constructor or a method of a Proxy starts: its turn, and then the test of the nested calls
abbrev pub entering : Program → Program
entering body = charge 1 (nest body too_many_calls)
