-- References keep worlds sound.
use Rattle.std.proofs.Common.{ℕ, Bool, true, false, Option, Some, None, List, [], ◌∷◌, pos, length, get_or, arith}
use Rattle.std.specs.Prelude.{zero, suc, codes, slice_get}
use Rattle.std.specs.List.{AllByRecursion}
use Rattle.property_keys.specs.declared.identifiers.TextId.{TextId}
use Rattle.property_keys.specs.declared.keys.PropKey.{PropKey}
use Rattle.property_keys.specs.declared.keys.PropKey.TheVariants.{Index, Name, Sym}
use Rattle.property_keys.specs.declared.values.Value.{Value}
use Rattle.property_keys.specs.declared.values.Value.TheVariants as value
use Rattle.es_tree.specs.declared.names.Binding.{Binding}
use Rattle.es_tree.specs.declared.names.Binding.TheVariants as binding
use Rattle.es_tree.specs.declared.names.Named.{Named}
use Rattle.es_tree.specs.declared.numbers.SiteId.{SiteId}
use Rattle.es_model.specs.declared.intrinsics.Class.{Class}
use Rattle.es_model.specs.declared.intrinsics.Class.TheVariants as class
use Rattle.es_model.specs.declared.intrinsics.Intrinsic.TheVariants as intrinsic
use Rattle.es_model.specs.declared.kinds.CellNo.{CellNo}
use Rattle.es_model.specs.declared.kinds.ErrorKind.TheVariants as error
use Rattle.es_model.specs.declared.requests.Request.TheVariants.{Has, Read, Write, Delete}
use Rattle.es_model.specs.Completions.{Completion}
use Rattle.es_model.specs.World.{Lists, World, cell, cell_in, units_of}
use Rattle.es_model.specs.Changes.{SettingCell, changed}
use Rattle.es_model.specs.Program.{Program}
use Rattle.es_model.specs.Known.{IsObject, IsText, IfThere, IsKnown, IsKnownKey}
use Rattle.es_model.specs.Fits.{IsKnownCompletion}
use Rattle.es_model.specs.Sound.{IsShort, IsSound}
use Rattle.es_model.specs.Kept.{IsKnownName, IsLater}
use Rattle.es_model.proofs.Keeping.{later_none, later_then}
use Rattle.es_model.proofs.SharedKept.{later-changed, whole-of}
use Rattle.es_model.proofs.SoundChanges.{sound-cell_set}
use Rattle.evaluator.specs.declared.references.Reference.{Reference}
use Rattle.evaluator.specs.declared.references.Reference.TheVariants as reference
use Rattle.evaluator.specs.Contexts.{Context, normal}
use Rattle.evaluator.specs.Errors.{is_constant, not_an_object, not_defined, not_initialised, refused}
use Rattle.evaluator.specs.References.{cell_put, cell_value, delete_answered, delete_of, delete_reference, get_above, get_in_text, get_named, get_of, get_unit, get_value, global, got_again, looked, looked_again, name_of, prototype_of, put_above, put_again, put_answered, put_global, put_looked, put_of, put_value, resolve, resolve_bound, unless_refused}
use Rattle.evaluator.specs.Values.{key_of_text}
use Rattle.evaluator.proofs.WordsKept.{Keeps, done-kept, look-kept, change-kept, IsHere, OnEnd, asked-kept, charged-kept, end-stays, error-known, flag-kept, global-there, here-stays, interned-kept, kept-if, key-stays, named_error-kept, object_or-known, text-kept, text-key, text-stays, value-stays}

-- what a reference names is there
abbrev pub IsKnownReference : Lists → Reference → Type 0
IsKnownReference l (reference.Cell name c constant) = IsText l name
IsKnownReference l (reference.Global name k present) = IsText l name × IsKnownKey l k
IsKnownReference l (reference.Arguments v) = IsKnown l v
IsKnownReference l (reference.Callee name v) = IsText l name × IsKnown l v
IsKnownReference l (reference.Property base k read write) = IsKnown l base × IsKnownKey l k

-- what is done with a reference in every later world
abbrev pub OnReference : World → (Reference → Program) → Type 0
OnReference w next = (ref : Reference) (v : World) → IsSound v → IsLater w v → IsKnownReference v.lists ref → Keeps (next ref) v

pub reference-stays : (w v : World) → IsLater w v → (ref : Reference) → IsKnownReference w.lists ref → IsKnownReference v.lists ref
reference-stays w v l (reference.Cell name c constant) h = text-stays w v l name h
reference-stays w v l (reference.Global name k present) h = (text-stays w v l name h.0, key-stays w v l k h.1)
reference-stays w v l (reference.Arguments x) h = value-stays w v l x h
reference-stays w v l (reference.Callee name x) h = (text-stays w v l name h.0, value-stays w v l x h.1)
reference-stays w v l (reference.Property base k read write) h = (value-stays w v l base h.0, key-stays w v l k h.1)

pub references-stay : (w v : World) → IsLater w v → (next : Reference → Program) → OnReference w next → OnReference v next
references-stay w v l next f = λ ref u s later known. f ref u s (later_then w v u l later) known

pub name-known : (w : World) (ref : Reference) → IsKnownReference w.lists ref → IfThere (IsKnownName w.lists) (name_of ref)
name-known w (reference.Cell name c constant) h = h
name-known w (reference.Global name k present) h = h.0
name-known w (reference.Arguments x) h = tt
name-known w (reference.Callee name x) h = h.0
name-known w (reference.Property base k read write) h = tt

-- ---- errors

pub not_object-kept : (w : World) → IsSound w → Keeps not_an_object w
not_object-kept w s = error-known w error.TypeError (codes "not an object") s (omega arith)

refused-kept : (w : World) → IsSound w → Keeps refused w
refused-kept w s = error-known w error.TypeError (codes "refused") s (omega arith)

not_defined-kept : (w : World) (name : TextId) → IsSound w → Keeps (not_defined name) w
not_defined-kept w name s = named_error-kept w error.ReferenceError (codes " is not defined") name s (omega arith)

not_initialised-kept : (w : World) (name : TextId) → IsSound w → Keeps (not_initialised name) w
not_initialised-kept w name s = named_error-kept w error.ReferenceError (codes " is not initialised") name s (omega arith)

is_constant-kept : (w : World) (name : TextId) → IsSound w → Keeps (is_constant name) w
is_constant-kept w name s = named_error-kept w error.TypeError (codes " is constant") name s (omega arith)

-- ---- names

pub looked-kept : (w : World) (name : TextId) (k : PropKey) (next : Reference → Program) (c : Completion) → IsSound w → IsText w.lists name → IsKnownKey w.lists k → IsKnownCompletion w.lists c → OnReference w next → Keeps (looked name k next c) w
looked-kept w name k next c s named key known f = flag-kept w _ c s known (λ present. f (reference.Global name k present) w s (later_none w) (named, key))

pub resolve_bound-kept : (w : World) (here : Context) (name : TextId) (bound : Binding) (next : Reference → Program) → IsSound w → IsHere w here → IsText w.lists name → OnReference w next → Keeps (resolve_bound here name bound next) w
resolve_bound-kept w here name binding.Global next s h named f =
    let k : PropKey = key_of_text w.lists name in
    let key : IsKnownKey w.lists k = text-key w.lists name named in
    look-kept w _ (asked-kept w (Has global k) (looked name k next) s (global-there w s, key) (λ c v sv l known.
    looked-kept v name k next c sv (text-stays w v l name named) (key-stays w v l k key) known (references-stay w v l next f)))
resolve_bound-kept w here name (binding.Top c constant) next s h named f = f (reference.Cell name (record { 0 = c }) constant) w s (later_none w) named
resolve_bound-kept w here name (binding.Own place constant) next s h named f = f (reference.Cell name _ constant) w s (later_none w) named
resolve_bound-kept w here name binding.Arguments next s h named f = f (reference.Arguments _) w s (later_none w) (object_or-known w here.body.arguments h.0.arguments)
resolve_bound-kept w here name binding.Callee next s h named f = f (reference.Callee name _) w s (later_none w) (named, object_or-known w here.body.callee h.0.callee)

pub resolve-kept : (w : World) (here : Context) (named : Named) (next : Reference → Program) → IsSound w → IsHere w here → OnReference w next → Keeps (resolve here named next) w
resolve-kept w here named next s h f = text-kept w named.name _ s (λ t v sv l known.
    resolve_bound-kept v here t named.binding next sv (here-stays w v l here h) known (references-stay w v l next f))

-- ---- the properties of a value

proto-there : (w : World) (c : Class) → IsSound w → IsObject w.lists (prototype_of c)
proto-there w c s = (s.intact.start (intrinsic.Prototype c)).0

get_above-kept : (w : World) (c : Class) (base : Value) (k : PropKey) (site : Option SiteId) (next : Completion → Program) → IsSound w → IsKnown w.lists base → IsKnownKey w.lists k → OnEnd w next → Keeps (get_above c base k site next) w
get_above-kept w c base k site next s known key f = charged-kept w _ s (λ v sv l.
    asked-kept v (Read (prototype_of c) k base site) next sv (proto-there v c sv, key-stays w v l k key, value-stays w v l base known) (end-stays w v l next f))

get_unit-kept : (w : World) (t : TextId) (k : PropKey) (site : Option SiteId) (next : Completion → Program) (unit : Option ℕ) → IsSound w → IsText w.lists t → IsKnownKey w.lists k → OnEnd w next → Keeps (get_unit t k site next unit) w
get_unit-kept w t k site next None s known key f = get_above-kept w class.String (value.Text t) k site next s known key f
get_unit-kept w t k site next (Some unit) s known key f = interned-kept w (unit ∷ []) _ s (omega arith) (λ u v sv l there. f (normal (value.Text u)) v sv l there)

short-at : (ts : List (List ℕ)) (i : ℕ) → AllByRecursion IsShort ts → IsShort (get_or ts i [])
short-at [] i h = omega arith
short-at (t ∷ ts) zero h = h.0
short-at (t ∷ ts) (suc i) h = short-at ts i h.1

length-known : (w : World) (t : TextId) → IsSound w → IsKnown w.lists (value.Whole (pos (length (units_of w.lists t))))
length-known w t s = let short : IsShort (units_of w.lists t) = short-at w.lists.texts t.0 s.intact.lengths in whole-of (length (units_of w.lists t)) (omega arith)

get_named-kept : (w : World) (t n : TextId) (site : Option SiteId) (next : Completion → Program) → IsSound w → IsText w.lists t → IsKnownKey w.lists (Name n) → OnEnd w next → Keeps (get_named t n site next) w
get_named-kept w t n site next s known key f =
    look-kept w _ (kept-if w _ _ _ (f _ w s (later_none w) (length-known w t s)) (get_above-kept w class.String (value.Text t) (Name n) site next s known key f))

get_in_text-kept : (w : World) (t : TextId) (k : PropKey) (site : Option SiteId) (next : Completion → Program) → IsSound w → IsText w.lists t → IsKnownKey w.lists k → OnEnd w next → Keeps (get_in_text t k site next) w
get_in_text-kept w t (Index i) site next s known key f = look-kept w _ (get_unit-kept w t (Index i) site next (slice_get (units_of w.lists t) i) s known key f)
get_in_text-kept w t (Name n) site next s known key f = get_named-kept w t n site next s known key f
get_in_text-kept w t (Sym y) site next s known key f = get_above-kept w class.String (value.Text t) (Sym y) site next s known key f

get_of-kept : (w : World) (base : Value) (k : PropKey) (site : Option SiteId) (next : Completion → Program) → IsSound w → IsKnown w.lists base → IsKnownKey w.lists k → OnEnd w next → Keeps (get_of base k site next) w
get_of-kept w value.Undefined k site next s known key f = not_object-kept w s
get_of-kept w value.Null k site next s known key f = not_object-kept w s
get_of-kept w (value.Bool x) k site next s known key f = get_above-kept w class.Boolean (value.Bool x) k site next s known key f
get_of-kept w (value.Whole n) k site next s known key f = get_above-kept w class.Number (value.Whole n) k site next s known key f
get_of-kept w (value.Text t) k site next s known key f = get_in_text-kept w t k site next s known key f
get_of-kept w (value.Symbol y) k site next s known key f = get_above-kept w class.Symbol (value.Symbol y) k site next s known key f
get_of-kept w (value.Object o) k site next s known key f = asked-kept w (Read o k (value.Object o) site) next s (known, key, known) f

pub unless_refused-kept : (w : World) (here : Context) (succeeded : Bool) (v : Value) → IsSound w → IsKnown w.lists v → Keeps (unless_refused here succeeded v) w
unless_refused-kept w here succeeded v s known = kept-if w _ _ _ (done-kept w _ s known) (refused-kept w s)

put_answered-kept : (w : World) (here : Context) (result : Value) → IsKnown w.lists result → OnEnd w (put_answered here result)
put_answered-kept w here result known = λ c v sv l k. flag-kept v _ c sv k (λ succeeded. unless_refused-kept v here succeeded result sv (value-stays w v l result known))

put_above-kept : (w : World) (here : Context) (c : Class) (base : Value) (k : PropKey) (site : Option SiteId) (x result : Value) → IsSound w → IsKnown w.lists base → IsKnownKey w.lists k → IsKnown w.lists x → IsKnown w.lists result →
    Keeps (put_above here c base k site x result) w
put_above-kept w here c base k site x result s known key there given = charged-kept w _ s (λ v sv l.
    asked-kept v (Write (prototype_of c) k x base site) (put_answered here result) sv
    (proto-there v c sv, key-stays w v l k key, value-stays w v l x there, value-stays w v l base known) (put_answered-kept v here result (value-stays w v l result given)))

put_of-kept : (w : World) (here : Context) (base : Value) (k : PropKey) (site : Option SiteId) (x result : Value) → IsSound w → IsKnown w.lists base → IsKnownKey w.lists k → IsKnown w.lists x → IsKnown w.lists result →
    Keeps (put_of here base k site x result) w
put_of-kept w here value.Undefined k site x result s known key there given = not_object-kept w s
put_of-kept w here value.Null k site x result s known key there given = not_object-kept w s
put_of-kept w here (value.Bool b) k site x result s known key there given = put_above-kept w here class.Boolean (value.Bool b) k site x result s known key there given
put_of-kept w here (value.Whole n) k site x result s known key there given = put_above-kept w here class.Number (value.Whole n) k site x result s known key there given
put_of-kept w here (value.Text t) k site x result s known key there given =
    look-kept w _ (kept-if w _ _ _ (unless_refused-kept w here false result s given) (put_above-kept w here class.String (value.Text t) k site x result s known key there given))
put_of-kept w here (value.Symbol y) k site x result s known key there given = put_above-kept w here class.Symbol (value.Symbol y) k site x result s known key there given
put_of-kept w here (value.Object o) k site x result s known key there given =
    asked-kept w (Write o k x (value.Object o) site) (put_answered here result) s (known, key, there, known) (put_answered-kept w here result given)

-- ---- GetValue

pub cell_in-known : (l : Lists) (cs : List (Option Value)) (i : ℕ) → AllByRecursion (IfThere (IsKnown l)) cs → IfThere (IsKnown l) (cell_in (slice_get cs i))
cell_in-known l [] i h = tt
cell_in-known l (c ∷ cs) zero h = h.0
cell_in-known l (c ∷ cs) (suc i) h = cell_in-known l cs i h.1

cell_value-kept : (w : World) (name : TextId) (next : Completion → Program) (v : Option Value) → IsSound w → IfThere (IsKnown w.lists) v → OnEnd w next → Keeps (cell_value name next v) w
cell_value-kept w name next None s known f = not_initialised-kept w name s
cell_value-kept w name next (Some v) s known f = f _ w s (later_none w) known

pub got_again-kept : (w : World) (here : Context) (name : TextId) (k : PropKey) (next : Completion → Program) (present : Bool) → IsSound w → IsKnownKey w.lists k → OnEnd w next → Keeps (got_again here name k next present) w
got_again-kept w here name k next true s key f = let there = global-there w s in asked-kept w (Read global k (value.Object global) None) next s (there, key, there) f
got_again-kept w here name k next false s key f = kept-if w _ _ _ (not_defined-kept w name s) (f _ w s (later_none w) tt)

looked_again-kept : (w : World) (here : Context) (name : TextId) (k : PropKey) (next : Completion → Program) → IsKnownKey w.lists k → OnEnd w next → OnEnd w (looked_again here name k next)
looked_again-kept w here name k next key f = λ c v sv l known. flag-kept v _ c sv known (λ present. got_again-kept v here name k next present sv (key-stays w v l k key) (end-stays w v l next f))

pub get_value-kept : (w : World) (here : Context) (ref : Reference) (next : Completion → Program) → IsSound w → IsKnownReference w.lists ref → OnEnd w next → Keeps (get_value here ref next) w
get_value-kept w here (reference.Cell name c constant) next s known f = look-kept w _ (cell_value-kept w name next (cell w.lists c) s (cell_in-known w.lists w.lists.cells c.0 s.intact.cells) f)
get_value-kept w here (reference.Global name k false) next s known f = not_defined-kept w name s
get_value-kept w here (reference.Global name k true) next s known f =
    asked-kept w (Has global k) (looked_again here name k next) s (global-there w s, known.1) (looked_again-kept w here name k next known.1 f)
get_value-kept w here (reference.Arguments x) next s known f = f _ w s (later_none w) known
get_value-kept w here (reference.Callee name x) next s known f = f _ w s (later_none w) known.1
get_value-kept w here (reference.Property base k read write) next s known f = get_of-kept w base k read next s known.0 known.1 f

-- ---- PutValue

cell_put-kept : (w : World) (name : TextId) (c : CellNo) (constant : Bool) (x result : Value) (old : Option Value) → IsSound w → IsKnown w.lists x → IsKnown w.lists result → Keeps (cell_put name c constant x result old) w
cell_put-kept w name c constant x result None s there given = not_initialised-kept w name s
cell_put-kept w name c true x result (Some old) s there given = is_constant-kept w name s
cell_put-kept w name c false x result (Some old) s there given = change-kept w _ _ (done-kept _ _ (sound-cell_set w c x s there) (value-stays w (changed (SettingCell c x) w) (later-changed (SettingCell c x) w) result given))

put_global-kept : (w : World) (here : Context) (k : PropKey) (x result : Value) → IsSound w → IsKnownKey w.lists k → IsKnown w.lists x → IsKnown w.lists result → Keeps (put_global here k x result) w
put_global-kept w here k x result s key there given =
    let known = global-there w s in asked-kept w (Write global k x (value.Object global) None) (put_answered here result) s (known, key, there, known) (put_answered-kept w here result given)

pub put_again-kept : (w : World) (here : Context) (name : TextId) (k : PropKey) (x result : Value) (present : Bool) → IsSound w → IsKnownKey w.lists k → IsKnown w.lists x → IsKnown w.lists result → Keeps (put_again here name k x result present) w
put_again-kept w here name k x result present s key there given = kept-if w _ _ _ (put_global-kept w here k x result s key there given) (not_defined-kept w name s)

put_looked-kept : (w : World) (here : Context) (name : TextId) (k : PropKey) (x result : Value) → IsKnownKey w.lists k → IsKnown w.lists x → IsKnown w.lists result → OnEnd w (put_looked here name k x result)
put_looked-kept w here name k x result key there given = λ c v sv l known.
    flag-kept v _ c sv known (λ present. put_again-kept v here name k x result present sv (key-stays w v l k key) (value-stays w v l x there) (value-stays w v l result given))

pub put_value-kept : (w : World) (here : Context) (ref : Reference) (x result : Value) → IsSound w → IsKnownReference w.lists ref → IsKnown w.lists x → IsKnown w.lists result → Keeps (put_value here ref x result) w
put_value-kept w here (reference.Cell name c constant) x result s known there given = look-kept w _ (cell_put-kept w name c constant x result (cell w.lists c) s there given)
put_value-kept w here (reference.Global name k false) x result s known there given = kept-if w _ _ _ (not_defined-kept w name s) (put_global-kept w here k x result s known.1 there given)
put_value-kept w here (reference.Global name k true) x result s known there given =
    asked-kept w (Has global k) (put_looked here name k x result) s (global-there w s, known.1) (put_looked-kept w here name k x result known.1 there given)
put_value-kept w here (reference.Arguments y) x result s known there given = done-kept w _ s given
put_value-kept w here (reference.Callee name y) x result s known there given = kept-if w _ _ _ (is_constant-kept w name s) (done-kept w _ s given)
put_value-kept w here (reference.Property base k read write) x result s known there given = put_of-kept w here base k write x result s known.0 known.1 there given

-- ---- delete

delete_answered-kept : (w : World) (here : Context) → OnEnd w (delete_answered here)
delete_answered-kept w here = λ c v sv l known. flag-kept v _ c sv known (λ succeeded. unless_refused-kept v here succeeded (value.Bool succeeded) sv tt)

delete_of-kept : (w : World) (here : Context) (base : Value) (k : PropKey) → IsSound w → IsKnown w.lists base → IsKnownKey w.lists k → Keeps (delete_of here base k) w
delete_of-kept w here value.Undefined k s known key = not_object-kept w s
delete_of-kept w here value.Null k s known key = not_object-kept w s
delete_of-kept w here (value.Object o) k s known key = asked-kept w (Delete o k) (delete_answered here) s (known, key) (delete_answered-kept w here)
delete_of-kept w here (value.Text t) k s known key = look-kept w _ (kept-if w _ _ _ (unless_refused-kept w here false (value.Bool false) s tt) (done-kept w _ s tt))
delete_of-kept w here (value.Bool x) k s known key = done-kept w _ s tt
delete_of-kept w here (value.Whole n) k s known key = done-kept w _ s tt
delete_of-kept w here (value.Symbol y) k s known key = done-kept w _ s tt

pub delete_reference-kept : (w : World) (here : Context) (ref : Reference) → IsSound w → IsKnownReference w.lists ref → Keeps (delete_reference here ref) w
delete_reference-kept w here (reference.Cell name c constant) s known = done-kept w _ s tt
delete_reference-kept w here (reference.Global name k present) s known = done-kept w _ s tt
delete_reference-kept w here (reference.Arguments x) s known = done-kept w _ s tt
delete_reference-kept w here (reference.Callee name x) s known = done-kept w _ s tt
delete_reference-kept w here (reference.Property base k read write) s known = delete_of-kept w here base k s known.0 known.1
