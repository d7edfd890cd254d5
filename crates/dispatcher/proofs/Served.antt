-- The table is the model's.
use Rattle.std.proofs.Common.{◌≡◌, ℕ, suc, Bool, true, false, cond, Option, Some, None, List, refl, sym, ◌∙◌, ap, nat_eq, nat_le, nat_lt}
use Rattle.property_keys.specs.declared.identifiers.ObjectId.{ObjectId}
use Rattle.property_keys.specs.declared.keys.PropKey.{PropKey}
use Rattle.property_keys.specs.declared.values.Value.{Value}
use Rattle.property_keys.specs.declared.values.Value.TheVariants as value
use Rattle.es_tree.specs.declared.numbers.SiteId.{SiteId}
use Rattle.es_tree.specs.Tree.{Tree}
use Rattle.es_model.specs.declared.kinds.ObjectKind.{ObjectKind}
use Rattle.es_model.specs.declared.kinds.ObjectKind.TheVariants as kind_of
use Rattle.es_model.specs.declared.requests.Request.{Request}
use Rattle.es_model.specs.declared.requests.Request.TheVariants.{GetOwn, Define, Has, Read, Write, Delete, Keys, Proto, SetProto, Extensible, Prevent, Call, Construct, Work, Print}
use Rattle.es_model.specs.Changes.{Accessing, changed, charged}
use Rattle.es_model.specs.Events.{Way, Reads, Writes, class_of}
use Rattle.es_model.specs.Program.{Program, change, Outcome, Halt, Server, run, nested_limit}
use Rattle.es_model.specs.Unwinding.{Stays}
use Rattle.es_model.specs.World.{World, kind}
use Rattle.es_model.specs.programs.Errors.{entering, unwritten, not_a_constructor, too_many_calls}
use Rattle.es_model.specs.programs.Testing.{is_constructor_kind}
use Rattle.es_model.proofs.Rests.{leaves-changed}
use Rattle.es_model.proofs.Unwound.{stays_none}
use Rattle.core_builtins.specs.Core.{call_of as core_call, construct_of as core_construct, core_program, row_called, row_of}
use Rattle.plain_builtins.specs.Plain.{call_by, callee_of, plain_program, print_row, row_program}
use Rattle.es_serve.specs.Serve.{call_of, call_program, construct_of, define_of, is_counted, method_of, method_program, noting}
use Rattle.dispatcher.specs.declared.table.Provider.TheVariants.{Core, Plain}
use Rattle.dispatcher.specs.Table.{begin_program, call_service, callee_service, construct_service, define_service, method_service, noted_at, noted_for, service_program, TableServes}

-- ---- the note of a site

run-if : (S : Server) (n : ℕ) (b : Bool) (p : Program) (w v : World) → cond b (run S p n v) (run S p n w) ≡ run S p n (cond b v w)
run-if S n true p w v = refl
run-if S n false p w v = refl

run-cond : (S : Server) (n : ℕ) (b : Bool) (p q : Program) (w : World) → run S (cond b p q) n w ≡ cond b (run S p n w) (run S q n w)
run-cond S n true p q w = refl
run-cond S n false p q w = refl

run-noting : (S : Server) (n : ℕ) (site : Option SiteId) (way : Way) (o : ObjectId) (k : PropKey) (receiver : Value) (p : Program) (w : World) →
    run S (noting site way o k receiver p) n w ≡ run S p n (noted_at site way o k receiver w)
run-noting S n None way o k receiver p w = refl
run-noting S n (Some site) way o k receiver p w =
    run-cond S n (is_counted (kind w.lists o) o k receiver) (change (Accessing site way o k) p) p w ∙ run-if S n (is_counted (kind w.lists o) o k receiver) p w (changed (Accessing site way o k) w)

stays-if : (w v : World) (b : Bool) → Stays w v → Stays w (cond b v w)
stays-if w v true h = h
stays-if w v false h = stays_none w

stays-noted_at : (site : Option SiteId) (way : Way) (o : ObjectId) (k : PropKey) (receiver : Value) (w : World) → Stays w (noted_at site way o k receiver w)
stays-noted_at None way o k receiver w = stays_none w
stays-noted_at (Some site) way o k receiver w =
    let l = leaves-changed (Accessing site way o k) w in
    stays-if w (changed (Accessing site way o k) w) (is_counted (kind w.lists o) o k receiver) (record { script = l.script; printed = l.printed })

pub stays_noted : (q : Request) (w : World) → Stays w (noted_for q w)
stays_noted (Read o k receiver site) w = stays-noted_at site Reads o k receiver w
stays_noted (Write o k v receiver site) w = stays-noted_at site (Writes (class_of v)) o k receiver w
stays_noted (GetOwn o k) w = stays_none w
stays_noted (Define o k wanted) w = stays_none w
stays_noted (Has o k) w = stays_none w
stays_noted (Delete o k) w = stays_none w
stays_noted (Keys o) w = stays_none w
stays_noted (Proto o) w = stays_none w
stays_noted (SetProto o p) w = stays_none w
stays_noted (Extensible o) w = stays_none w
stays_noted (Prevent o) w = stays_none w
stays_noted (Call f this arguments) w = stays_none w
stays_noted (Construct f arguments target) w = stays_none w
stays_noted (Work op operands) w = stays_none w
stays_noted (Print line) w = stays_none w

-- ---- internal methods

method-served : (S : Server) (n : ℕ) (script : Tree) (k : ObjectKind) (q : Request) (w : World) → run S (method_of k q) n w ≡ run S (service_program script (method_service k) q) n w
method-served S n script kind_of.Ordinary q w = refl
method-served S n script (kind_of.Function function constructor strict) q w = refl
method-served S n script (kind_of.Builtin row constructor proxy) q w = refl
method-served S n script kind_of.Array q w = refl
method-served S n script (kind_of.Text t) q w = refl
method-served S n script (kind_of.Wrapper v) q w = refl
method-served S n script (kind_of.Arguments cells) q w = refl
method-served S n script kind_of.Error q w = refl
method-served S n script (kind_of.Proxy target handler callable constructor) q w = refl

define-served : (S : Server) (n : ℕ) (script : Tree) (k : ObjectKind) (q : Request) (w : World) → run S (define_of k q) n w ≡ run S (service_program script (define_service k) q) n w
define-served S n script kind_of.Ordinary q w = refl
define-served S n script (kind_of.Function function constructor strict) q w = refl
define-served S n script (kind_of.Builtin row constructor proxy) q w = refl
define-served S n script kind_of.Array q w = refl
define-served S n script (kind_of.Text t) q w = refl
define-served S n script (kind_of.Wrapper v) q w = refl
define-served S n script (kind_of.Arguments cells) q w = refl
define-served S n script kind_of.Error q w = refl
define-served S n script (kind_of.Proxy target handler callable constructor) q w = refl

-- ---- calls

charged-kind : (w : World) (f : ObjectId) → kind (charged w 1).lists f ≡ kind w.lists f
unfolding charged
charged-kind w f = refl

plain-called : (S : Server) (n : ℕ) (k : ObjectKind) (f : ObjectId) (this : Value) (arguments : List Value) (w : World) → kind w.lists f ≡ k →
    run S (call_by (callee_of k) arguments) n w ≡ run S (plain_program (Call (value.Object f) this arguments)) n w
plain-called S n k f this arguments w e = ap (λ x. run S (call_by (callee_of x) arguments) n w) (sym e)

-- what comes to the same behind the charge comes to the same where it is entered
entered-same : (S : Server) (n : ℕ) (p q : Program) (w : World) → run S p (suc n) (charged w 1) ≡ run S q (suc n) (charged w 1) → run S (entering p) n w ≡ run S (entering q) n w
entered-same S n p q w e = ap (λ (o : Outcome). cond (nat_le 1 w.turns) (cond (nat_lt n nested_limit) o (run S too_many_calls n (charged w 1))) (Halt w 0)) e

-- a built-in function is entered, and its kind is the same then
plain-entered : (S : Server) (n : ℕ) (k : ObjectKind) (f : ObjectId) (this : Value) (arguments : List Value) (w : World) → kind w.lists f ≡ k →
    run S (entering (call_by (callee_of k) arguments)) n w ≡ run S (entering (plain_program (Call (value.Object f) this arguments))) n w
plain-entered S n k f this arguments w e =
    ap (λ (o : Outcome). cond (nat_le 1 w.turns) (cond (nat_lt n nested_limit) o (run S too_many_calls n (charged w 1))) (Halt w 0))
    (plain-called S (suc n) k f this arguments (charged w 1) (charged-kind w f ∙ e))

core-entered : (S : Server) (n : ℕ) (k : ObjectKind) (f : ObjectId) (this : Value) (arguments : List Value) (w : World) → kind w.lists f ≡ k →
    run S (entering (core_call (row_of k) f this arguments)) n w ≡ run S (entering (core_program (Call (value.Object f) this arguments))) n w
core-entered S n k f this arguments w e =
    entered-same S n (core_call (row_of k) f this arguments) (core_program (Call (value.Object f) this arguments)) w
    (ap (λ x. run S (core_call (row_of x) f this arguments) (suc n) (charged w 1)) (sym (charged-kind w f ∙ e)))

core-constructed : (S : Server) (n : ℕ) (k : ObjectKind) (f : ObjectId) (arguments : List Value) (target : ObjectId) (w : World) → kind w.lists f ≡ k →
    run S (entering (core_construct (row_of k) arguments target)) n w ≡ run S (entering (core_program (Construct f arguments target))) n w
core-constructed S n k f arguments target w e =
    entered-same S n (core_construct (row_of k) arguments target) (core_program (Construct f arguments target)) w
    (ap (λ x. run S (core_construct (row_of x) arguments target) (suc n) (charged w 1)) (sym (charged-kind w f ∙ e)))

-- the row of print stands elsewhere
builtin-served : (S : Server) (n : ℕ) (script : Tree) (row : ℕ) (constructor : Bool) (proxy : Option ObjectId) (f : ObjectId) (this : Value) (arguments : List Value) (w : World) (b : Bool) →
    kind w.lists f ≡ kind_of.Builtin row constructor proxy →
    run S (entering (cond b (row_program row arguments) (row_called row f this arguments))) n w
    ≡ run S (entering (begin_program script (cond b Plain Core) (Call (value.Object f) this arguments))) n w
builtin-served S n script row constructor proxy f this arguments w true e = plain-entered S n (kind_of.Builtin row constructor proxy) f this arguments w e
builtin-served S n script row constructor proxy f this arguments w false e = core-entered S n (kind_of.Builtin row constructor proxy) f this arguments w e

call-served : (S : Server) (n : ℕ) (script : Tree) (k : ObjectKind) (f : ObjectId) (this : Value) (arguments : List Value) (w : World) → kind w.lists f ≡ k →
    run S (call_of script k f this arguments) n w ≡ run S (service_program script (call_service k) (Call (value.Object f) this arguments)) n w
call-served S n script kind_of.Ordinary f this arguments w e = plain-called S n kind_of.Ordinary f this arguments w e
call-served S n script (kind_of.Function function constructor strict) f this arguments w e = refl
call-served S n script (kind_of.Builtin row constructor proxy) f this arguments w e = builtin-served S n script row constructor proxy f this arguments w (nat_eq row print_row) e
call-served S n script kind_of.Array f this arguments w e = plain-called S n kind_of.Array f this arguments w e
call-served S n script (kind_of.Text t) f this arguments w e = plain-called S n (kind_of.Text t) f this arguments w e
call-served S n script (kind_of.Wrapper v) f this arguments w e = plain-called S n (kind_of.Wrapper v) f this arguments w e
call-served S n script (kind_of.Arguments cells) f this arguments w e = plain-called S n (kind_of.Arguments cells) f this arguments w e
call-served S n script kind_of.Error f this arguments w e = plain-called S n kind_of.Error f this arguments w e
call-served S n script (kind_of.Proxy target handler true constructor) f this arguments w e = refl
call-served S n script (kind_of.Proxy target handler false constructor) f this arguments w e = plain-called S n (kind_of.Proxy target handler false constructor) f this arguments w e

callee-served : (S : Server) (n : ℕ) (script : Tree) (f this : Value) (arguments : List Value) (w : World) →
    run S (call_program script f this arguments) n w ≡ run S (service_program script (callee_service w.lists f) (Call f this arguments)) n w
callee-served S n script (value.Object f) this arguments w = call-served S n script (kind w.lists f) f this arguments w refl
callee-served S n script value.Undefined this arguments w = refl
callee-served S n script value.Null this arguments w = refl
callee-served S n script (value.Bool b) this arguments w = refl
callee-served S n script (value.Whole i) this arguments w = refl
callee-served S n script (value.Text t) this arguments w = refl
callee-served S n script (value.Symbol s) this arguments w = refl

-- ---- constructions

plain-constructed : (S : Server) (n : ℕ) (k : ObjectKind) (f : ObjectId) (arguments : List Value) (target : ObjectId) (w : World) → kind w.lists f ≡ k →
    run S (cond (is_constructor_kind k) unwritten not_a_constructor) n w ≡ run S (plain_program (Construct f arguments target)) n w
plain-constructed S n k f arguments target w e = ap (λ x. run S (cond (is_constructor_kind x) unwritten not_a_constructor) n w) (sym e)

construct-served : (S : Server) (n : ℕ) (script : Tree) (k : ObjectKind) (f : ObjectId) (arguments : List Value) (target : ObjectId) (w : World) → kind w.lists f ≡ k →
    run S (construct_of script k f arguments target) n w ≡ run S (service_program script (construct_service k) (Construct f arguments target)) n w
construct-served S n script kind_of.Ordinary f arguments target w e = plain-constructed S n kind_of.Ordinary f arguments target w e
construct-served S n script (kind_of.Function function true strict) f arguments target w e = refl
construct-served S n script (kind_of.Function function false strict) f arguments target w e = plain-constructed S n (kind_of.Function function false strict) f arguments target w e
construct-served S n script (kind_of.Builtin row true proxy) f arguments target w e = core-constructed S n (kind_of.Builtin row true proxy) f arguments target w e
construct-served S n script (kind_of.Builtin row false proxy) f arguments target w e = plain-constructed S n (kind_of.Builtin row false proxy) f arguments target w e
construct-served S n script kind_of.Array f arguments target w e = plain-constructed S n kind_of.Array f arguments target w e
construct-served S n script (kind_of.Text t) f arguments target w e = plain-constructed S n (kind_of.Text t) f arguments target w e
construct-served S n script (kind_of.Wrapper v) f arguments target w e = plain-constructed S n (kind_of.Wrapper v) f arguments target w e
construct-served S n script (kind_of.Arguments cells) f arguments target w e = plain-constructed S n (kind_of.Arguments cells) f arguments target w e
construct-served S n script kind_of.Error f arguments target w e = plain-constructed S n kind_of.Error f arguments target w e
construct-served S n script (kind_of.Proxy t handler callable true) f arguments target w e = refl
construct-served S n script (kind_of.Proxy t handler callable false) f arguments target w e = plain-constructed S n (kind_of.Proxy t handler callable false) f arguments target w e

-- ---- every request

pub table : TableServes
table S n (GetOwn o k) w = method-served S n w.script (kind w.lists o) (GetOwn o k) w
table S n (Define o k wanted) w = define-served S n w.script (kind w.lists o) (Define o k wanted) w
table S n (Has o k) w = method-served S n w.script (kind w.lists o) (Has o k) w
table S n (Read o k receiver site) w =
    let v : World = noted_at site Reads o k receiver w in
    run-noting S n site Reads o k receiver (method_program o (Read o k receiver site)) w ∙ method-served S n w.script (kind v.lists o) (Read o k receiver site) v
table S n (Write o k x receiver site) w =
    let v : World = noted_at site (Writes (class_of x)) o k receiver w in
    run-noting S n site (Writes (class_of x)) o k receiver (method_program o (Write o k x receiver site)) w ∙ method-served S n w.script (kind v.lists o) (Write o k x receiver site) v
table S n (Delete o k) w = method-served S n w.script (kind w.lists o) (Delete o k) w
table S n (Keys o) w = method-served S n w.script (kind w.lists o) (Keys o) w
table S n (Proto o) w = method-served S n w.script (kind w.lists o) (Proto o) w
table S n (SetProto o p) w = method-served S n w.script (kind w.lists o) (SetProto o p) w
table S n (Extensible o) w = method-served S n w.script (kind w.lists o) (Extensible o) w
table S n (Prevent o) w = method-served S n w.script (kind w.lists o) (Prevent o) w
table S n (Call f this arguments) w = callee-served S n w.script f this arguments w
table S n (Construct f arguments target) w = construct-served S n w.script (kind w.lists f) f arguments target w refl
table S n (Work op operands) w = refl
table S n (Print line) w = refl
