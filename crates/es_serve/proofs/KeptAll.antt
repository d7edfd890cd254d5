-- Every algorithm keeps worlds sound.
use Rattle.std.proofs.Common.{◌≡◌, ◌≤◌, ℕ, true, Option, Some, None, List, length, refl, sym, subst, ◌∙◌, arith}
use Rattle.std.specs.Prelude.{codes, nat_eq}
use Rattle.property_keys.specs.declared.identifiers.ObjectId.{ObjectId}
use Rattle.property_keys.specs.declared.keys.PropKey.{PropKey}
use Rattle.property_keys.specs.declared.values.Value.{Value}
use Rattle.property_keys.specs.declared.values.Value.TheVariants as value
use Rattle.descriptors.specs.declared.fields.Descriptor.{Descriptor}
use Rattle.es_tree.specs.declared.numbers.FunctionNo.{FunctionNo}
use Rattle.es_tree.specs.declared.numbers.SiteId.{SiteId}
use Rattle.es_tree.specs.Tree.{Tree, top_names}
use Rattle.es_model.specs.declared.kinds.ErrorKind.TheVariants as error
use Rattle.es_model.specs.declared.kinds.ObjectKind.{ObjectKind}
use Rattle.es_model.specs.declared.kinds.ObjectKind.TheVariants as kind_of
use Rattle.es_model.specs.declared.requests.Request.{Request}
use Rattle.es_model.specs.declared.requests.Request.TheVariants.{GetOwn, Define, Has, Read, Write, Delete, Keys, Proto, SetProto, Extensible, Prevent, Call, Construct, Work, Print}
use Rattle.es_model.specs.Events.{Way, Reads, Writes, class_of}
use Rattle.es_model.specs.Fits.{IsKnownRequest, object_in}
use Rattle.es_model.specs.Grows.{Grows}
use Rattle.es_model.specs.World.{World, kind}
use Rattle.es_model.specs.Changes.{Accessing, changed, charged, printed_more}
use Rattle.es_model.specs.Program.{Program, change, Of, Evaluating, Statements, Round}
use Rattle.es_model.specs.Known.{AreKnown, IfThere, IsKnown, IsObject}
use Rattle.es_model.specs.Sound.{IsRightKind, IsSound}
use Rattle.es_model.specs.Kept.{FitsTask, IsKept, IsLater, KeepsEachBy}
use Rattle.es_model.specs.programs.Errors.{entering, unwritten, not_a_function, not_a_constructor}
use Rattle.es_model.proofs.Growing.{grows_none, grows-changed}
use Rattle.es_model.proofs.KnownLater.{object-later, key-later, known-later}
use Rattle.es_model.proofs.SoundReads.{sound-charged}
use Rattle.es_model.proofs.SoundChanges.{sound-accessing}
use Rattle.es_model.proofs.SoundErrors.{kept-if, error-kept}
use Rattle.ordinary_object.specs.Ordinary.{ordinary_program}
use Rattle.ordinary_object.specs.Serving.{has_ordinary_method, is_ordinary}
use Rattle.ordinary_object.proofs.Kept.{ordinary_kept}
use Rattle.core_builtins.specs.Core.{row_called, row_constructed}
use Rattle.core_builtins.proofs.KeptCore.{row_called-kept, row_constructed-kept}
use Rattle.plain_builtins.specs.Plain.{print_row, row_program}
use Rattle.plain_builtins.proofs.KeptPlain.{row-kept, work-kept}
use Rattle.evaluator.specs.Functions as functions
use Rattle.evaluator.proofs.FunctionsKept.{FitsAs, call_fits, call_program_kept, construct_fits, construct_program_kept}
use Rattle.evaluator.proofs.TasksKept.{node-kept, statements-kept, round-kept}
use Rattle.evaluator.proofs.WordsKept.{later-charged, object-stays, value-stays, values-stay}
use Rattle.es_serve.specs.Lines.{line_bytes}
use Rattle.es_serve.specs.Serve.{method_of, define_of, method_program, is_counted, noting, builtin_called, call_of, call_program, construct_of, request_program, program_of}

-- what is entered goes on after a turn, and below it is the test of the nested calls
entered-kept : (q : Request) (w : World) (body : Program) → IsSound w → ((v : World) → IsSound v → IsLater w v → IsKept (FitsTask (Of q)) body v) → IsKept (FitsTask (Of q)) (entering body) w
entered-kept q w body s f =
    let s1 = sound-charged w 1 s in (s.intact, (f (charged w 1) s1 (later-charged w), error-kept (Of q) (charged w 1) error.RangeError (codes "too many nested calls") s1 (omega arith)))

entering-kept : (q : Request) (w : World) → IsSound w → IsKept (FitsTask (Of q)) (entering unwritten) w
entering-kept q w s = entered-kept q w unwritten s (λ v sv l. (sv, tt))

no_function-kept : (q : Request) (w : World) → IsSound w → IsKept (FitsTask (Of q)) not_a_function w
no_function-kept q w s = error-kept (Of q) w error.TypeError (codes "not a function") s (omega arith)

no_constructor-kept : (q : Request) (w : World) → IsSound w → IsKept (FitsTask (Of q)) not_a_constructor w
no_constructor-kept q w s = error-kept (Of q) w error.TypeError (codes "not a constructor") s (omega arith)

-- the method of an object of a kind, where the ordinary methods are kept for the kinds that have them
method-kept : (q : Request) (w : World) (k : ObjectKind) → IsSound w → (is_ordinary k ≡ true → IsKept (FitsTask (Of q)) (ordinary_program q) w) → IsKept (FitsTask (Of q)) (method_of k q) w
method-kept q w kind_of.Ordinary s h = h refl
method-kept q w (kind_of.Function function constructor strict) s h = h refl
method-kept q w (kind_of.Builtin row constructor proxy) s h = h refl
method-kept q w kind_of.Array s h = h refl
method-kept q w (kind_of.Text t) s h = h refl
method-kept q w (kind_of.Wrapper v) s h = h refl
method-kept q w (kind_of.Arguments cells) s h = (s, tt)
method-kept q w kind_of.Error s h = h refl
method-kept q w (kind_of.Proxy target handler callable constructor) s h = entering-kept q w s

-- the same of [[DefineOwnProperty]], which an Array object has of its own
define-kept : (o : ObjectId) (key : PropKey) (d : Descriptor) (w : World) (k : ObjectKind) → IsSound w →
    (has_ordinary_method k (Define o key d) ≡ true → IsKept (FitsTask (Of (Define o key d))) (ordinary_program (Define o key d)) w) → IsKept (FitsTask (Of (Define o key d))) (define_of k (Define o key d)) w
define-kept o key d w kind_of.Ordinary s h = h refl
define-kept o key d w (kind_of.Function function constructor strict) s h = h refl
define-kept o key d w (kind_of.Builtin row constructor proxy) s h = h refl
define-kept o key d w kind_of.Array s h = (s, tt)
define-kept o key d w (kind_of.Text t) s h = h refl
define-kept o key d w (kind_of.Wrapper v) s h = h refl
define-kept o key d w (kind_of.Arguments cells) s h = (s, tt)
define-kept o key d w kind_of.Error s h = h refl
define-kept o key d w (kind_of.Proxy target handler callable constructor) s h = entering-kept (Define o key d) w s

noting-kept : (q : Request) (w : World) (site : Option SiteId) (way : Way) (o : ObjectId) (k : PropKey) (r : Value) (p : Program) → IsSound w →
    ((v : World) → IsSound v → Grows w.lists v.lists → IsKept (FitsTask (Of q)) p v) → IsKept (FitsTask (Of q)) (noting site way o k r p) w
noting-kept q w None way o k r p s f = f w s (grows_none w.lists)
noting-kept q w (Some site) way o k r p s f =
    kept-if (FitsTask (Of q)) w (is_counted (kind w.lists o) o k r) (change (Accessing site way o k) p) p
    (f (changed (Accessing site way o k) w) (sound-accessing w site way o k s) (grows-changed (Accessing site way o k) w)) (f w s (grows_none w.lists))

-- a built-in function is entered
row_entered-kept : (g this : Value) (arguments : List Value) (row : ℕ) (f : ObjectId) (w : World) → IsSound w → IsObject w.lists f → IsKnown w.lists this → AreKnown w.lists arguments →
    IsKept (FitsTask (Of (Call g this arguments))) (entering (builtin_called row f this arguments)) w
row_entered-kept g this arguments row f w s there receiver known =
    entered-kept (Call g this arguments) w (builtin_called row f this arguments) s (λ v sv l.
    kept-if (FitsTask (Of (Call g this arguments))) v (nat_eq row print_row) (row_program row arguments) (row_called row f this arguments)
    (row-kept g this arguments row v sv (values-stay w v l arguments known))
    (row_called-kept g this arguments row f v sv (object-stays w v l f there) (value-stays w v l this receiver) (values-stay w v l arguments known)))

constructed-kept : (f : ObjectId) (arguments : List Value) (target : ObjectId) (row : ℕ) (w : World) → IsSound w → AreKnown w.lists arguments → IsObject w.lists target →
    IsKept (FitsTask (Of (Construct f arguments target))) (entering (row_constructed row arguments target)) w
constructed-kept f arguments target row w s known there =
    entered-kept (Construct f arguments target) w (row_constructed row arguments target) s (λ v sv l.
    row_constructed-kept f arguments target row v sv (values-stay w v l arguments known) (object-stays w v l target there))

-- the cells of the top scope stay
top-stays : (script : Tree) (w v : World) → IsLater w v → top_names script ≤ length w.lists.cells → top_names script ≤ length v.lists.cells
top-stays script w v l top = let more = l.lists.cells in omega arith

-- a function of the script is entered
function_entered-kept : (g : Value) (w : World) (function : FunctionNo) (f : ObjectId) (this : Value) (arguments : List Value) → IsSound w → top_names w.script ≤ length w.lists.cells → IsObject w.lists f → IsKnown w.lists this →
    AreKnown w.lists arguments → IsKept (FitsTask (Of (Call g this arguments))) (entering (functions.call_program w.script function f this arguments)) w
function_entered-kept g w function f this arguments s top there known all =
    entered-kept (Call g this arguments) w (functions.call_program w.script function f this arguments) s (λ v sv l.
    call_program_kept (Of (Call g this arguments)) w.script v function f this arguments (call_fits g this arguments) l.script sv (top-stays w.script w v l top) (object-stays w v l f there) (value-stays w v l this known) (values-stay w v l arguments all))

call_of-kept : (g : Value) (w : World) (k : ObjectKind) (f : ObjectId) (this : Value) (arguments : List Value) → IsSound w → IsRightKind w.script w.lists f k → IsObject w.lists f → IsKnown w.lists this → AreKnown w.lists arguments →
    IsKept (FitsTask (Of (Call g this arguments))) (call_of w.script k f this arguments) w
call_of-kept g w kind_of.Ordinary f this arguments s right there this-known known = no_function-kept (Call g this arguments) w s
call_of-kept g w (kind_of.Function function constructor strict) f this arguments s right there this-known known =
    function_entered-kept g w function f this arguments s right.1 there this-known known
call_of-kept g w (kind_of.Builtin row constructor proxy) f this arguments s right there this-known known = row_entered-kept g this arguments row f w s there this-known known
call_of-kept g w kind_of.Array f this arguments s right there this-known known = no_function-kept (Call g this arguments) w s
call_of-kept g w (kind_of.Text t) f this arguments s right there this-known known = no_function-kept (Call g this arguments) w s
call_of-kept g w (kind_of.Wrapper v) f this arguments s right there this-known known = no_function-kept (Call g this arguments) w s
call_of-kept g w (kind_of.Arguments cells) f this arguments s right there this-known known = no_function-kept (Call g this arguments) w s
call_of-kept g w kind_of.Error f this arguments s right there this-known known = no_function-kept (Call g this arguments) w s
call_of-kept g w (kind_of.Proxy target handler callable constructor) f this arguments s right there this-known known =
    kept-if (FitsTask (Of (Call g this arguments))) w callable _ _ (entering-kept (Call g this arguments) w s) (no_function-kept (Call g this arguments) w s)

call-kept : (w : World) (f this : Value) (arguments : List Value) → IsSound w → IsKnown w.lists f → IsKnown w.lists this → AreKnown w.lists arguments → IsKept (FitsTask (Of (Call f this arguments))) (call_program w.script f this arguments) w
call-kept w (value.Object o) this arguments s there this-known known = call_of-kept (value.Object o) w (kind w.lists o) o this arguments s (s.kinds o there) there this-known known
call-kept w value.Undefined this arguments s there this-known known = no_function-kept (Call value.Undefined this arguments) w s
call-kept w value.Null this arguments s there this-known known = no_function-kept (Call value.Null this arguments) w s
call-kept w (value.Bool b) this arguments s there this-known known = no_function-kept (Call (value.Bool b) this arguments) w s
call-kept w (value.Whole n) this arguments s there this-known known = no_function-kept (Call (value.Whole n) this arguments) w s
call-kept w (value.Text t) this arguments s there this-known known = no_function-kept (Call (value.Text t) this arguments) w s
call-kept w (value.Symbol y) this arguments s there this-known known = no_function-kept (Call (value.Symbol y) this arguments) w s

constructor_entered-kept : (q : Request) (w : World) (function : FunctionNo) (f : ObjectId) (arguments : List Value) (target : ObjectId) → FitsAs (Of q) true → IsSound w → top_names w.script ≤ length w.lists.cells → IsObject w.lists f →
    AreKnown w.lists arguments → IsObject w.lists target → IsKept (FitsTask (Of q)) (entering (functions.construct_program w.script function f arguments target)) w
constructor_entered-kept q w function f arguments target fits s top there known new =
    entered-kept q w (functions.construct_program w.script function f arguments target) s (λ v sv l.
    construct_program_kept (Of q) w.script v function f arguments target fits l.script sv (top-stays w.script w v l top) (object-stays w v l f there) (values-stay w v l arguments known) (object-stays w v l target new))

construct_of-kept : (w : World) (k : ObjectKind) (f : ObjectId) (arguments : List Value) (target : ObjectId) → IsSound w → IsRightKind w.script w.lists f k → IsObject w.lists f →
    AreKnown w.lists arguments → IsObject w.lists target → IsKept (FitsTask (Of (Construct f arguments target))) (construct_of w.script k f arguments target) w
construct_of-kept w kind_of.Ordinary f arguments target s right there known new = no_constructor-kept (Construct f arguments target) w s
construct_of-kept w (kind_of.Function function constructor strict) f arguments target s right there known new =
    kept-if (FitsTask (Of (Construct f arguments target))) w constructor _ _ (constructor_entered-kept (Construct f arguments target) w function f arguments target (construct_fits f arguments target) s right.1 there known new) (no_constructor-kept (Construct f arguments target) w s)
construct_of-kept w (kind_of.Builtin row constructor proxy) f arguments target s right there known new =
    kept-if (FitsTask (Of (Construct f arguments target))) w constructor _ _ (constructed-kept f arguments target row w s known new) (no_constructor-kept (Construct f arguments target) w s)
construct_of-kept w kind_of.Array f arguments target s right there known new = no_constructor-kept (Construct f arguments target) w s
construct_of-kept w (kind_of.Text t) f arguments target s right there known new = no_constructor-kept (Construct f arguments target) w s
construct_of-kept w (kind_of.Wrapper v) f arguments target s right there known new = no_constructor-kept (Construct f arguments target) w s
construct_of-kept w (kind_of.Arguments cells) f arguments target s right there known new = no_constructor-kept (Construct f arguments target) w s
construct_of-kept w kind_of.Error f arguments target s right there known new = no_constructor-kept (Construct f arguments target) w s
construct_of-kept w (kind_of.Proxy t handler callable constructor) f arguments target s right there known new = kept-if (FitsTask (Of (Construct f arguments target))) w constructor _ _ (entering-kept (Construct f arguments target) w s) (no_constructor-kept (Construct f arguments target) w s)

-- ---- every request

-- what was printed is no matter of soundness
sound-printed : (w : World) (bytes : List ℕ) → IsSound w → IsSound (printed_more w bytes)
unfolding printed_more
sound-printed w bytes s = record { intact = s.intact; kinds = s.kinds; arrays = s.arrays }

-- of a request whose methods are those of ordinary objects where the object's kind has them
object-kept : (q : Request) (w : World) (o : ObjectId) → IsSound w → IsKnownRequest w.lists q → object_in q ≡ Some o → ((k : ObjectKind) → has_ordinary_method k q ≡ is_ordinary k) → IsKept (FitsTask (Of q)) (method_program o q) w
object-kept q w o s h e same =
    method-kept q w (kind w.lists o) s (λ ordinary. ordinary_kept q w s h (subst (λ x. IfThere (λ (a : ObjectId). has_ordinary_method (kind w.lists a) q ≡ true) x) (sym e) (same (kind w.lists o) ∙ ordinary)))

request-kept : (q : Request) (w : World) → IsSound w → IsKnownRequest w.lists q → IsKept (FitsTask (Of q)) (request_program w.script q) w
request-kept (GetOwn o k) w s h = object-kept (GetOwn o k) w o s h refl (λ k. refl)
request-kept (Define o k d) w s h = define-kept o k d w (kind w.lists o) s (λ ordinary. ordinary_kept (Define o k d) w s h ordinary)
request-kept (Has o k) w s h = object-kept (Has o k) w o s h refl (λ k. refl)
request-kept (Read o k r site) w s h =
    noting-kept (Read o k r site) w site Reads o k r _ s (λ v sv g.
    object-kept (Read o k r site) v o sv (object-later w.lists v.lists g o h.0, key-later w.lists v.lists g k h.1, known-later w.lists v.lists g r h.2) refl (λ k. refl))
request-kept (Write o k x r site) w s h =
    noting-kept (Write o k x r site) w site (Writes (class_of x)) o k r _ s (λ v sv g.
    object-kept (Write o k x r site) v o sv (object-later w.lists v.lists g o h.0, key-later w.lists v.lists g k h.1, known-later w.lists v.lists g x h.2, known-later w.lists v.lists g r h.3) refl (λ k. refl))
request-kept (Delete o k) w s h = object-kept (Delete o k) w o s h refl (λ k. refl)
request-kept (Keys o) w s h = object-kept (Keys o) w o s h refl (λ k. refl)
request-kept (Proto o) w s h = object-kept (Proto o) w o s h refl (λ k. refl)
request-kept (SetProto o p) w s h = object-kept (SetProto o p) w o s h refl (λ k. refl)
request-kept (Extensible o) w s h = object-kept (Extensible o) w o s h refl (λ k. refl)
request-kept (Prevent o) w s h = object-kept (Prevent o) w o s h refl (λ k. refl)
request-kept (Call f this arguments) w s h = call-kept w f this arguments s h.0 h.1 h.2
request-kept (Construct f arguments target) w s h =
    construct_of-kept w (kind w.lists f) f arguments target s (s.kinds f h.0) h.0 h.1 h.2
request-kept (Work operation operands) w s h = work-kept operation operands w s h.1
request-kept (Print line) w s h = (sound-printed w (line_bytes w.lists line) s, (tt, tt))

-- ---- every task, one line for each crate

pub each-kept : KeepsEachBy program_of
each-kept (Of q) w s h = request-kept q w s h
each-kept (Evaluating body cells name n) w s h = node-kept w body cells name n s h
each-kept (Statements body cells list i) w s h = statements-kept w body cells list i s h
each-kept (Round body cells n) w s h = round-kept w body cells n s h
