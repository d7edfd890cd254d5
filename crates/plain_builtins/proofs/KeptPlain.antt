-- The program of every request that comes here keeps worlds sound.
use Rattle.std.proofs.Common.{ℕ, List, [], ◌∷◌, arith}
use Rattle.std.specs.Prelude.{codes, nat_eq}
use Rattle.property_keys.specs.declared.identifiers.ObjectId.{ObjectId}
use Rattle.property_keys.specs.declared.values.Value.{Value}
use Rattle.property_keys.specs.declared.values.Value.TheVariants as value
use Rattle.es_model.specs.declared.kinds.ErrorKind.TheVariants as error
use Rattle.es_model.specs.declared.requests.Operation.{Operation}
use Rattle.es_model.specs.declared.requests.Operation.TheVariants as operation
use Rattle.es_model.specs.declared.requests.Request.{Request}
use Rattle.es_model.specs.declared.requests.Request.TheVariants.{GetOwn, Define, Has, Read, Write, Delete, Keys, Proto, SetProto, Extensible, Prevent, Call, Construct, Work, Print}
use Rattle.es_model.specs.World.{World, kind}
use Rattle.es_model.specs.Program.{Of, Task}
use Rattle.es_model.specs.Known.{IsKnown, AreKnown}
use Rattle.es_model.specs.Fits.{IsKnownRequest}
use Rattle.es_model.specs.Sound.{IsSound}
use Rattle.es_model.specs.Kept.{FitsTask, IsKept}
use Rattle.es_model.specs.programs.Errors.{not_a_constructor, unfit, unwritten}
use Rattle.es_model.specs.programs.Testing.{is_constructor_kind}
use Rattle.es_model.proofs.SharedKept.{not_function-kept}
use Rattle.es_model.proofs.SoundErrors.{error-kept, kept-if, throw-fits}
use Rattle.object_heap.specs.Turns.{KeepsFor}
use Rattle.plain_builtins.specs.Plain.{one_operand, two_operands, three_operands, less_than_by, work_program, print_row, row_program, callee_in, call_by, construct_program, plain_program}
use Rattle.plain_builtins.specs.Printing.{print}
use Rattle.plain_builtins.specs.declared.words.Callee.{Callee}
use Rattle.plain_builtins.specs.declared.words.Callee.TheVariants.{Row, Elsewhere, NoFunction}
use Rattle.plain_builtins.proofs.KeptComparisons.{loosely_equal-kept, less_than-kept}
use Rattle.plain_builtins.proofs.KeptConversions.{default-kept, number-kept, string-kept, to_text-kept, to_whole-kept, to_key-kept}
use Rattle.plain_builtins.proofs.KeptInstances.{instance_of-kept, ordinary-kept}
use Rattle.plain_builtins.proofs.KeptLists.{list-kept, keys-kept, print-kept}
use Rattle.plain_builtins.proofs.KeptWanted.{to_wanted-kept}

unfit-kept : (t : Task) (w : World) → IsSound w → IsKept (FitsTask t) unfit w
unfit-kept t w s = (s, throw-fits t w.lists value.Undefined tt)

-- ---- abstract operations

one-kept : (op : Operation) (operands : List Value) (w : World) (v : Value) → IsSound w → IsKnown w.lists v → IsKept (FitsTask (Of (Work op operands))) (one_operand op v) w
one-kept operation.ToPrimitiveDefault operands w v s known = default-kept w v operands s known
one-kept operation.ToPrimitiveNumber operands w v s known = number-kept w v operands s known
one-kept operation.ToPrimitiveText operands w v s known = string-kept w v operands s known
one-kept operation.ToText operands w v s known = to_text-kept operands w v s known
one-kept operation.ToWhole operands w v s known = to_whole-kept operands w v s known
one-kept operation.ToKey operands w v s known = to_key-kept operands w v s known
one-kept operation.ToWanted operands w v s known = to_wanted-kept operands w v s known
one-kept operation.ListFromArrayLike operands w v s known = list-kept operands w v s known
one-kept operation.KeysFromArrayLike operands w v s known = keys-kept operands w v s known
one-kept operation.InstanceOf operands w v s known = unfit-kept (Of (Work operation.InstanceOf operands)) w s
one-kept operation.OrdinaryHasInstance operands w v s known = unfit-kept (Of (Work operation.OrdinaryHasInstance operands)) w s
one-kept operation.LooselyEqual operands w v s known = unfit-kept (Of (Work operation.LooselyEqual operands)) w s
one-kept operation.LessThan operands w v s known = unfit-kept (Of (Work operation.LessThan operands)) w s

two-kept : (op : Operation) (operands : List Value) (w : World) (a b : Value) → IsSound w → IsKnown w.lists a → IsKnown w.lists b → IsKept (FitsTask (Of (Work op operands))) (two_operands op a b) w
two-kept operation.ToPrimitiveDefault operands w a b s ka kb = unfit-kept (Of (Work operation.ToPrimitiveDefault operands)) w s
two-kept operation.ToPrimitiveNumber operands w a b s ka kb = unfit-kept (Of (Work operation.ToPrimitiveNumber operands)) w s
two-kept operation.ToPrimitiveText operands w a b s ka kb = unfit-kept (Of (Work operation.ToPrimitiveText operands)) w s
two-kept operation.ToText operands w a b s ka kb = unfit-kept (Of (Work operation.ToText operands)) w s
two-kept operation.ToWhole operands w a b s ka kb = unfit-kept (Of (Work operation.ToWhole operands)) w s
two-kept operation.ToKey operands w a b s ka kb = unfit-kept (Of (Work operation.ToKey operands)) w s
two-kept operation.ToWanted operands w a b s ka kb = unfit-kept (Of (Work operation.ToWanted operands)) w s
two-kept operation.ListFromArrayLike operands w a b s ka kb = unfit-kept (Of (Work operation.ListFromArrayLike operands)) w s
two-kept operation.KeysFromArrayLike operands w a b s ka kb = unfit-kept (Of (Work operation.KeysFromArrayLike operands)) w s
two-kept operation.InstanceOf operands w a b s ka kb = instance_of-kept operands w a b s ka kb
two-kept operation.OrdinaryHasInstance operands w a b s ka kb = ordinary-kept operands w a b s ka kb
two-kept operation.LooselyEqual operands w a b s ka kb = loosely_equal-kept operands w a b s ka kb
two-kept operation.LessThan operands w a b s ka kb = unfit-kept (Of (Work operation.LessThan operands)) w s

less-kept : (operands : List Value) (w : World) (a b c : Value) → IsSound w → IsKnown w.lists a → IsKnown w.lists b → IsKept (FitsTask (Of (Work operation.LessThan operands))) (less_than_by a b c) w
less-kept operands w a b value.Undefined s ka kb = unfit-kept (Of (Work operation.LessThan operands)) w s
less-kept operands w a b value.Null s ka kb = unfit-kept (Of (Work operation.LessThan operands)) w s
less-kept operands w a b (value.Bool first) s ka kb = less_than-kept operands w a b first s ka kb
less-kept operands w a b (value.Whole n) s ka kb = unfit-kept (Of (Work operation.LessThan operands)) w s
less-kept operands w a b (value.Text t) s ka kb = unfit-kept (Of (Work operation.LessThan operands)) w s
less-kept operands w a b (value.Symbol x) s ka kb = unfit-kept (Of (Work operation.LessThan operands)) w s
less-kept operands w a b (value.Object o) s ka kb = unfit-kept (Of (Work operation.LessThan operands)) w s

three-kept : (op : Operation) (operands : List Value) (w : World) (a b c : Value) → IsSound w → IsKnown w.lists a → IsKnown w.lists b → IsKept (FitsTask (Of (Work op operands))) (three_operands op a b c) w
three-kept operation.ToPrimitiveDefault operands w a b c s ka kb = unfit-kept (Of (Work operation.ToPrimitiveDefault operands)) w s
three-kept operation.ToPrimitiveNumber operands w a b c s ka kb = unfit-kept (Of (Work operation.ToPrimitiveNumber operands)) w s
three-kept operation.ToPrimitiveText operands w a b c s ka kb = unfit-kept (Of (Work operation.ToPrimitiveText operands)) w s
three-kept operation.ToText operands w a b c s ka kb = unfit-kept (Of (Work operation.ToText operands)) w s
three-kept operation.ToWhole operands w a b c s ka kb = unfit-kept (Of (Work operation.ToWhole operands)) w s
three-kept operation.ToKey operands w a b c s ka kb = unfit-kept (Of (Work operation.ToKey operands)) w s
three-kept operation.ToWanted operands w a b c s ka kb = unfit-kept (Of (Work operation.ToWanted operands)) w s
three-kept operation.ListFromArrayLike operands w a b c s ka kb = unfit-kept (Of (Work operation.ListFromArrayLike operands)) w s
three-kept operation.KeysFromArrayLike operands w a b c s ka kb = unfit-kept (Of (Work operation.KeysFromArrayLike operands)) w s
three-kept operation.InstanceOf operands w a b c s ka kb = unfit-kept (Of (Work operation.InstanceOf operands)) w s
three-kept operation.OrdinaryHasInstance operands w a b c s ka kb = unfit-kept (Of (Work operation.OrdinaryHasInstance operands)) w s
three-kept operation.LooselyEqual operands w a b c s ka kb = unfit-kept (Of (Work operation.LooselyEqual operands)) w s
three-kept operation.LessThan operands w a b c s ka kb = less-kept operands w a b c s ka kb

pub work-kept : (op : Operation) (operands : List Value) (w : World) → IsSound w → AreKnown w.lists operands → IsKept (FitsTask (Of (Work op operands))) (work_program op operands) w
work-kept op [] w s known = unfit-kept (Of (Work op [])) w s
work-kept op (a ∷ []) w s known = one-kept op (a ∷ []) w a s known.0
work-kept op (a ∷ b ∷ []) w s known = two-kept op (a ∷ b ∷ []) w a b s known.0 known.1.0
work-kept op (a ∷ b ∷ c ∷ []) w s known = three-kept op (a ∷ b ∷ c ∷ []) w a b c s known.0 known.1.0
work-kept op (a ∷ b ∷ c ∷ d ∷ more) w s known = unfit-kept (Of (Work op (a ∷ b ∷ c ∷ d ∷ more))) w s

-- ---- calls and constructions

pub row-kept : (f this : Value) (arguments : List Value) (row : ℕ) (w : World) → IsSound w → AreKnown w.lists arguments → IsKept (FitsTask (Of (Call f this arguments))) (row_program row arguments) w
row-kept f this arguments row w s known =
    kept-if (FitsTask (Of (Call f this arguments))) w (nat_eq row print_row) (print arguments) unwritten (print-kept f this arguments arguments w s known) (unfit-kept (Of (Call f this arguments)) w s)

call_by-kept : (f this : Value) (arguments : List Value) (callee : Callee) (w : World) → IsSound w → AreKnown w.lists arguments → IsKept (FitsTask (Of (Call f this arguments))) (call_by callee arguments) w
call_by-kept f this arguments (Row row) w s known = row-kept f this arguments row w s known
call_by-kept f this arguments Elsewhere w s known = unfit-kept (Of (Call f this arguments)) w s
call_by-kept f this arguments NoFunction w s known = not_function-kept (Of (Call f this arguments)) w s

construct-kept : (f : ObjectId) (arguments : List Value) (target : ObjectId) (w : World) → IsSound w → IsKept (FitsTask (Of (Construct f arguments target))) (construct_program f) w
construct-kept f arguments target w s =
    kept-if (FitsTask (Of (Construct f arguments target))) w (is_constructor_kind (kind w.lists f)) unwritten not_a_constructor
    (unfit-kept (Of (Construct f arguments target)) w s) (error-kept (Of (Construct f arguments target)) w error.TypeError (codes "not a constructor") s (omega arith))

-- ---- every request

pub plain_kept : (q : Request) (w : World) → IsSound w → IsKnownRequest w.lists q → KeepsFor (Of q) (plain_program q) w
plain_kept (GetOwn o k) w s h = (s, tt)
plain_kept (Define o k d) w s h = (s, tt)
plain_kept (Has o k) w s h = (s, tt)
plain_kept (Read o k r site) w s h = (s, tt)
plain_kept (Write o k x r site) w s h = (s, tt)
plain_kept (Delete o k) w s h = (s, tt)
plain_kept (Keys o) w s h = (s, tt)
plain_kept (Proto o) w s h = (s, tt)
plain_kept (SetProto o v) w s h = (s, tt)
plain_kept (Extensible o) w s h = (s, tt)
plain_kept (Prevent o) w s h = (s, tt)
plain_kept (Call f this arguments) w s h = call_by-kept f this arguments (callee_in w.lists f) w s h.2
plain_kept (Construct f arguments target) w s h = construct-kept f arguments target w s
plain_kept (Work op operands) w s h = work-kept op operands w s h.1
plain_kept (Print line) w s h = (s, tt)
