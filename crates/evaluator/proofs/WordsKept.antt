-- What goes on after a question, a part or one of the words of evaluation keeps worlds sound.
use Rattle.std.proofs.Common.{◌≡◌, ◌≤◌, ◌<◌, ◌+◌, ◌++◌, ℕ, ℤ, Bool, true, false, cond, Option, Some, None, List, [], ◌∷◌, length, refl, sym, ◌∙◌, subst, arith}
use Rattle.std.specs.Prelude.{codes, nat_le}
use Rattle.std.specs.Option.{option_map_or}
use Rattle.std.proofs.lemmas.Bool.{and_parts, leb-true}
use Rattle.std.proofs.lemmas.Float.{T_from_true}
use Rattle.std.proofs.lemmas.List.{length-append}
use Rattle.property_keys.specs.declared.identifiers.ObjectId.{ObjectId}
use Rattle.property_keys.specs.declared.identifiers.TextId.{TextId}
use Rattle.property_keys.specs.declared.keys.PropKey.{PropKey}
use Rattle.property_keys.specs.declared.keys.PropKey.TheVariants.{Index, Name}
use Rattle.property_keys.specs.declared.values.Value.{Value}
use Rattle.property_keys.specs.declared.values.Value.TheVariants as value
use Rattle.property_keys.specs.Keys.{array_index_of}
use Rattle.property_keys.specs.Limits.{most_units}
use Rattle.property_keys.specs.Numbers.{natural_of}
use Rattle.property_keys.specs.Wholes.{IsWhole}
use Rattle.property_keys.proofs.KeyLaws.{IsGoodKey-key_of}
use Rattle.descriptors.specs.declared.fields.Descriptor.{Descriptor}
use Rattle.es_tree.specs.declared.numbers.FunctionNo.{FunctionNo}
use Rattle.es_tree.specs.declared.numbers.NodeId.{NodeId}
use Rattle.es_tree.specs.Tree.{Tree, top_names}
use Rattle.es_model.specs.declared.intrinsics.Class.TheVariants as class
use Rattle.es_model.specs.declared.intrinsics.Intrinsic.TheVariants as intrinsic
use Rattle.es_model.specs.declared.kinds.CellNo.{CellNo}
use Rattle.es_model.specs.declared.kinds.ErrorKind.{ErrorKind}
use Rattle.es_model.specs.declared.kinds.ErrorKind.TheVariants as error
use Rattle.es_model.specs.declared.kinds.ObjectKind.TheVariants as kind_of
use Rattle.es_model.specs.declared.requests.Request.{Request}
use Rattle.es_model.specs.declared.running.FunctionName.{FunctionName}
use Rattle.es_model.specs.declared.running.FunctionName.TheVariants as given_name
use Rattle.es_model.specs.declared.running.Running.{Running}
use Rattle.es_model.specs.declared.start_texts.StartText.TheVariants as start_text
use Rattle.es_model.specs.StartTexts.{units_of_start}
use Rattle.es_model.specs.Completions.{Completion, Normal, Break, Continue, Return, Throw}
use Rattle.es_model.specs.Events.{OfError}
use Rattle.es_model.specs.Objects.{new_object_of}
use Rattle.es_model.specs.World.{Lists, World, new_object, number_of, units_of}
use Rattle.es_model.specs.Changes.{Change, Defining, Interning, Making, changed, charged, made, with_objects}
use Rattle.es_model.specs.Program.{Program, Task, done, look, change, ask, charge, part, intern, Round}
use Rattle.es_model.specs.Known.{IsObject, IsText, IsCell, IfThere, IsKnown, IsKnownKey, IsSymbolKey, AreKnown}
use Rattle.es_model.specs.Fits.{Fits, IsKnownCompletion, IsKnownRequest}
use Rattle.es_model.specs.Sound.{IsShort, IsSound}
use Rattle.es_model.specs.Kept.{AreCells, FitsTask, IsKept, IsKnownName, IsKnownRunning, IsKnownTask, IsLater}
use Rattle.es_model.specs.programs.Abrupt.{flag_in, key_in, value_in, then_flag, then_key, then_value}
use Rattle.es_model.specs.programs.Errors.{error_proto, hidden, make_error, throw_error}
use Rattle.es_model.proofs.Abrupt.{key-there, part-kept, value-there}
use Rattle.es_model.proofs.Belonging.{reply-later}
use Rattle.es_model.proofs.Growing.{grows-changed, grows-charged}
use Rattle.es_model.proofs.Keeping.{later_then}
use Rattle.es_model.proofs.KnownLater.{all-map, there-map, cell-later, key-later, known-later, object-later, text-later}
use Rattle.es_model.proofs.Rests.{charged-script}
use Rattle.es_model.proofs.SharedKept.{later-changed, name-known}
use Rattle.es_model.proofs.ArrayLengths.{IsNoArray, no_array-leaves, start-no_array}
use Rattle.es_model.proofs.SoundArrays.{made-no_array}
use Rattle.es_model.proofs.SoundChanges.{sound-defining, sound-interning, sound-making}
use Rattle.es_model.proofs.SoundErrors.{error-kept, interned-known, noted-objects}
use Rattle.es_model.proofs.SoundReads.{sound-charged}
use Rattle.evaluator.specs.Contexts.{Context, evaluate_named}
use Rattle.evaluator.specs.Errors.{join, make_text, out_of_profile, text_too_long, throw_named}
use Rattle.evaluator.specs.References.{global, object_or_undefined}
use Rattle.evaluator.specs.Values.{is_in_profile, key_of_text, or_out, whole_of, with_key}

-- a part of a running body ends with any completion whose names are there. It does not unfold, so that a program is found from what is to be proved of it
pub Keeps : Program → World → Type 0
Keeps p w = IsKept IsKnownCompletion p w

-- what a context names is there, and its script is that of the world
abbrev pub IsHere : World → Context → Type 0
IsHere w here = IsKnownRunning w.script w.lists here.body × AreCells w.lists here.cells × (here.script ≡ w.script)

-- ---- what goes on in every later world

abbrev pub OnEnd : World → (Completion → Program) → Type 0
OnEnd w next = (c : Completion) (v : World) → IsSound v → IsLater w v → IsKnownCompletion v.lists c → Keeps (next c) v

abbrev pub OnText : World → (TextId → Program) → Type 0
OnText w next = (t : TextId) (v : World) → IsSound v → IsLater w v → IsText v.lists t → Keeps (next t) v

abbrev pub OnKey : World → (PropKey → Program) → Type 0
OnKey w next = (k : PropKey) (v : World) → IsSound v → IsLater w v → IsKnownKey v.lists k → Keeps (next k) v

abbrev pub Onward : World → Program → Type 0
Onward w p = (v : World) → IsSound v → IsLater w v → Keeps p v

-- ---- each form of a program

pub kept-whole : (p : Program) (w : World) → Keeps p w → IsKept IsKnownCompletion p w
unfolding Keeps
kept-whole p w h = h

pub kept-of : (p : Program) (w : World) → IsKept IsKnownCompletion p w → Keeps p w
unfolding Keeps
kept-of p w h = h

pub done-kept : (w : World) (c : Completion) → IsSound w → IsKnownCompletion w.lists c → Keeps (done c) w
unfolding Keeps
done-kept w c s known = (s, known)

pub look-kept : (w : World) (f : Lists → Program) → Keeps (f w.lists) w → Keeps (look f) w
unfolding Keeps
look-kept w f h = h

pub change-kept : (w : World) (op : Change) (p : Program) → Keeps p (changed op w) → Keeps (change op p) w
unfolding Keeps
change-kept w op p h = h

-- ---- what is known stays known

pub value-stays : (w v : World) → IsLater w v → (x : Value) → IsKnown w.lists x → IsKnown v.lists x
value-stays w v l x h = known-later w.lists v.lists l.lists x h

pub values-stay : (w v : World) → IsLater w v → (xs : List Value) → AreKnown w.lists xs → AreKnown v.lists xs
values-stay w v l xs h = all-map (IsKnown w.lists) (IsKnown v.lists) (known-later w.lists v.lists l.lists) xs h

pub key-stays : (w v : World) → IsLater w v → (k : PropKey) → IsKnownKey w.lists k → IsKnownKey v.lists k
key-stays w v l k h = key-later w.lists v.lists l.lists k h

pub text-stays : (w v : World) → IsLater w v → (t : TextId) → IsText w.lists t → IsText v.lists t
text-stays w v l t h = text-later w.lists v.lists l.lists t h

pub name-stays : (w v : World) → IsLater w v → (n : FunctionName) → IsKnownName w.lists n → IsKnownName v.lists n
name-stays w v l (given_name.Text t) h = text-stays w v l t h
name-stays w v l (given_name.Key before k) h = key-stays w v l k h

pub object-stays : (w v : World) → IsLater w v → (o : ObjectId) → IsObject w.lists o → IsObject v.lists o
object-stays w v l o h = object-later w.lists v.lists l.lists o h

pub cells-stay : (w v : World) → IsLater w v → (cells : List CellNo) → AreCells w.lists cells → AreCells v.lists cells
cells-stay w v l cells h = all-map (IsCell w.lists) (IsCell v.lists) (cell-later w.lists v.lists l.lists) cells h

pub completion-stays : (w v : World) → IsLater w v → (c : Completion) → IsKnownCompletion w.lists c → IsKnownCompletion v.lists c
completion-stays w v l (Normal r) h = reply-later w.lists v.lists l.lists r h
completion-stays w v l Break h = tt
completion-stays w v l Continue h = tt
completion-stays w v l (Return x) h = value-stays w v l x h
completion-stays w v l (Throw x) h = value-stays w v l x h

pub top-stays : (w v : World) → IsLater w v → top_names w.script ≤ length w.lists.cells → top_names v.script ≤ length v.lists.cells
top-stays w v l h = let g = l.lists.cells in subst (λ (script : Tree). top_names script ≤ length v.lists.cells) (sym l.script) (omega arith)

pub running-stays : (w v : World) → IsLater w v → (body : Running) → IsKnownRunning w.script w.lists body → IsKnownRunning v.script v.lists body
running-stays w v l body h = record {
  function = subst (λ (script : Tree). IfThere (λ (f : FunctionNo). f.0 < length script.functions) body.function) (sym l.script) h.function;
  callee = there-map (IsObject w.lists) (IsObject v.lists) (object-later w.lists v.lists l.lists) body.callee h.callee;
  arguments = there-map (IsObject w.lists) (IsObject v.lists) (object-later w.lists v.lists l.lists) body.arguments h.arguments;
  this = value-stays w v l body.this h.this;
  constructs = there-map (IsObject w.lists) (IsObject v.lists) (object-later w.lists v.lists l.lists) body.constructs h.constructs;
  top = top-stays w v l h.top;
}

pub here-stays : (w v : World) → IsLater w v → (here : Context) → IsHere w here → IsHere v here
here-stays w v l here h = (running-stays w v l here.body h.0, cells-stay w v l here.cells h.1, h.2 ∙ sym l.script)

pub end-stays : (w v : World) → IsLater w v → (next : Completion → Program) → OnEnd w next → OnEnd v next
end-stays w v l next f = λ c u s later known. f c u s (later_then w v u l later) known

pub onward-stays : (w v : World) → IsLater w v → (p : Program) → Onward w p → Onward v p
onward-stays w v l p f = λ u s later. f u s (later_then w v u l later)

-- ---- start objects

pub global-there : (w : World) → IsSound w → IsObject w.lists global
global-there w s = (s.intact.start intrinsic.Global).0

pub global-other : (w : World) → IsSound w → IsNoArray w.lists global
global-other w s = start-no_array w.lists s.intact intrinsic.Global refl

pub object_or-known : (w : World) (o : Option ObjectId) → IfThere (IsObject w.lists) o → IsKnown w.lists (object_or_undefined o)
object_or-known w None h = tt
object_or-known w (Some o) h = h

-- ---- ReturnIfAbrupt

pub value-kept : (w : World) (next : Value → Program) (c : Completion) → IsSound w → IsKnownCompletion w.lists c → ((v : Value) → IsKnown w.lists v → Keeps (next v) w) → Keeps (then_value next c) w
unfolding Keeps
value-kept w next c s known h = part-kept IsKnownCompletion w value_in next c (λ d k. k) s known (λ r v e k. h v (subst (IfThere (IsKnown w.lists)) e (value-there w.lists r k)))

pub flag-kept : (w : World) (next : Bool → Program) (c : Completion) → IsSound w → IsKnownCompletion w.lists c → ((b : Bool) → Keeps (next b) w) → Keeps (then_flag next c) w
unfolding Keeps
flag-kept w next c s known h = part-kept IsKnownCompletion w flag_in next c (λ d k. k) s known (λ r b e k. h b)

pub key-kept : (w : World) (next : PropKey → Program) (c : Completion) → IsSound w → IsKnownCompletion w.lists c → ((k : PropKey) → IsKnownKey w.lists k → Keeps (next k) w) → Keeps (then_key next c) w
unfolding Keeps
key-kept w next c s known h = part-kept IsKnownCompletion w key_in next c (λ d k. k) s known (λ r x e k. h x (subst (IfThere (IsKnownKey w.lists)) e (key-there w.lists r k)))

-- ---- questions, parts and turns

pub fits-known : (l : Lists) (q : Request) (c : Completion) → Fits l q c → IsKnownCompletion l c
fits-known l q (Normal r) fit = fit.1
fits-known l q Break fit = absurd fit
fits-known l q Continue fit = absurd fit
fits-known l q (Return v) fit = absurd fit
fits-known l q (Throw v) fit = fit

pub asked-kept : (w : World) (q : Request) (next : Completion → Program) → IsSound w → IsKnownRequest w.lists q → OnEnd w next → Keeps (ask q next) w
unfolding Keeps
asked-kept w q next s known f = (s, known, λ c v sv l fit. f c v sv l (fits-known v.lists q c fit))

pub evaluated-kept : (w : World) (here : Context) (name : Option FunctionName) (n : NodeId) (next : Completion → Program) → IsSound w → IsHere w here → IfThere (IsKnownName w.lists) name → OnEnd w next → Keeps (evaluate_named here name n next) w
unfolding Keeps
evaluated-kept w here name n next s h known f = (s, (h.0, h.1, known), λ c v sv l k. f c v sv l k)

-- a part of the body
pub task-kept : (w : World) (t : Task) (next : Completion → Program) → IsSound w → IsKnownTask w.script w.lists t →
    ((c : Completion) (v : World) → IsSound v → IsLater w v → FitsTask t v.lists c → Keeps (next c) v) → Keeps (part t next) w
unfolding Keeps
task-kept w t next s known f = (s, known, f)

pub later-charged : (w : World) → IsLater w (charged w 1)
later-charged w = record { lists = grows-charged w 1; script = charged-script w 1 }

pub charged-kept : (w : World) (p : Program) → IsSound w → Onward w p → Keeps (charge 1 p) w
unfolding Keeps
charged-kept w p s f = (s.intact, f (charged w 1) (sound-charged w 1 s) (later-charged w))

-- ---- choices

pub kept-if : (w : World) (b : Bool) (p q : Program) → Keeps p w → Keeps q w → Keeps (cond b p q) w
kept-if w true p q h h' = h
kept-if w false p q h h' = h'

pub kept-le : (n m : ℕ) (w : World) (p q : Program) (b : Bool) → nat_le n m ≡ b → (n ≤ m → Keeps p w) → Keeps q w → Keeps (cond b p q) w
kept-le n m w p q true e f h = f (leb-true n m e)
kept-le n m w p q false e f h = h

-- ---- errors

no_body : Running
no_body = record { function = None; callee = None; arguments = None; this = value.Undefined; constructs = None; strict = false }

pub error-known : (w : World) (k : ErrorKind) (text : List ℕ) → IsSound w → IsShort text → Keeps (throw_error k text) w
unfolding Keeps
error-known w k text s short = error-kept (Round no_body [] (record { 0 = 0 })) w k text s short

message-short : IsShort (units_of_start start_text.Message)
message-short = omega arith

message-plain : natural_of 10 (units_of_start start_text.Message) ≡ None
message-plain = refl

-- an error with a text that is there
thrown-kept : (w : World) (k : ErrorKind) (t : TextId) → IsSound w → IsText w.lists t → Keeps (make_error k t (λ o. done (Throw (value.Object o)))) w
unfolding Keeps
thrown-kept w k t s known =
    let b : World = changed (Interning (units_of_start start_text.Message)) w in
    let name : TextId = number_of w.lists (units_of_start start_text.Message) in
    let c : World = changed (Making kind_of.Error OfError (error_proto k)) b in
    let e : ObjectId = new_object b.lists in
    let sb : IsSound b = sound-interning w (units_of_start start_text.Message) s message-short in
    let sc : IsSound c = sound-making b kind_of.Error OfError (error_proto k) sb tt tt (sb.intact.start (intrinsic.Prototype (class.Error k))).0 refl in
    let g = grows-changed (Making kind_of.Error OfError (error_proto k)) b in
    let t-known : IsText c.lists t = text-later b.lists c.lists g t (text-later w.lists b.lists (grows-changed (Interning (units_of_start start_text.Message)) w) t known) in
    let plain : IsNoArray c.lists e = made-no_array b kind_of.Error OfError (error_proto k) refl in
    let d : Descriptor = hidden (value.Text t) in (
      sound-defining c e (Name name) d sc plain.there (key-later b.lists c.lists g (Name name) (name-known w (units_of_start start_text.Message) message-plain)) (record { value = t-known; get = tt; set = tt; sound = refl })
          (no_array-leaves c.lists e (Name name) d.value plain.other),
      object-later c.lists (changed (Defining e (Name name) d) c).lists (grows-changed (Defining e (Name name) d) c) e plain.there,
    )

-- ---- texts and keys

pub interned-kept : (w : World) (units : List ℕ) (next : TextId → Program) → IsSound w → IsShort units → OnText w next → Keeps (intern units next) w
unfolding Keeps
interned-kept w units next s short f = f (number_of w.lists units) (changed (Interning units) w) (sound-interning w units s short) (later-changed (Interning units) w) (interned-known w units)

pub text-kept : (w : World) (units : List ℕ) (next : TextId → Program) → IsSound w → OnText w next → Keeps (make_text units next) w
text-kept w units next s f =
    kept-le (length units) most_units w (intern units next) text_too_long (nat_le (length units) most_units) refl (λ short. interned-kept w units next s short f)
    (error-known w error.RangeError (codes "text too long") s (omega arith))

pub join-kept : (w : World) (a b : TextId) (next : TextId → Program) → IsSound w → OnText w next → Keeps (join a b next) w
join-kept w a b next s f =
    let x : List ℕ = units_of w.lists a in
    let y : List ℕ = units_of w.lists b in
    look-kept w _ (kept-le (length x + length y) most_units w (intern (x ++ y) next) text_too_long (nat_le (length x + length y) most_units) refl
    (λ le. let both = length-append x y in interned-kept w (x ++ y) next s (omega arith) f) (error-known w error.RangeError (codes "text too long") s (omega arith)))

pub named_error-kept : (w : World) (k : ErrorKind) (ending : List ℕ) (name : TextId) → IsSound w → IsShort ending → Keeps (throw_named k ending name) w
named_error-kept w k ending name s short = interned-kept w ending _ s short (λ e v sv l known. join-kept v name e _ sv (λ t u su later there. thrown-kept u k t su there))

no-symbol : (l : Lists) (i : Option ℕ) (t : TextId) → IsSymbolKey l (option_map_or Index i (Name t))
no-symbol l (Some i) t = tt
no-symbol l None t = tt

-- the key of a text that is there
pub text-key : (l : Lists) (t : TextId) → IsText l t → IsKnownKey l (key_of_text l t)
text-key l t known = (IsGoodKey-key_of l.texts t known, no-symbol l (array_index_of (units_of l t)) t)

pub with_key-kept : (w : World) (units : List ℕ) (next : PropKey → Program) → IsSound w → OnKey w next → Keeps (with_key units next) w
with_key-kept w units next s f = text-kept w units _ s (λ t v sv l known. look-kept v _ (f (key_of_text v.lists t) v sv l (text-key v.lists t known)))

-- ---- whole numbers

in_profile-whole : (n : ℤ) → is_in_profile n ≡ true → IsWhole n
in_profile-whole n e = let both = and_parts _ _ e in (record { le = T_from_true _ both.0 }, record { le = T_from_true _ both.1 })

out-kept : (w : World) → IsSound w → Keeps out_of_profile w
out-kept w s = error-known w error.RangeError (codes "number outside the profile") s (omega arith)

pub or_out-kept : (w : World) (n : Option ℤ) (next : ℤ → Program) → IsSound w → IfThere IsWhole n → ((m : ℤ) → IsWhole m → Keeps (next m) w) → Keeps (or_out n next) w
or_out-kept w None next s known f = out-kept w s
or_out-kept w (Some n) next s known f = f n known

whole-cond : (n : ℤ) (b : Bool) → is_in_profile n ≡ b → IfThere IsWhole (cond b (Some n) None)
whole-cond n true e = in_profile-whole n e
whole-cond n false e = tt

pub whole-known : (n : ℤ) → IfThere IsWhole (whole_of n)
whole-known n = whole-cond n (is_in_profile n) refl
