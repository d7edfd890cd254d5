-- What plans and frames keep is there, over plain variables.
use Rattle.std.proofs.Common.{◌≡◌, ◌≤◌, ◌<◌, ℕ, ℤ, zero, suc, Option, Some, None, List, [], ◌∷◌, ◌++◌, length, take, map, slice_get, Result, Ok, Err, IfOk, OnOk, refl, sym, ◌∙◌, ap, subst, arith}
use Rattle.std.specs.List.{AllByRecursion}
use Rattle.std.specs.Prelude.{Bool, false, if◌then◌else◌, nat_le, true}
use Rattle.std.proofs.lemmas.Bool.{leb-true}
use Rattle.property_keys.specs.declared.identifiers.ObjectId.{ObjectId}
use Rattle.property_keys.specs.declared.identifiers.TextId.{TextId}
use Rattle.property_keys.specs.declared.keys.PropKey.{PropKey}
use Rattle.property_keys.specs.declared.values.Value.{Value}
use Rattle.property_keys.specs.declared.values.Value.TheVariants as value
use Rattle.property_keys.specs.Limits.{most_units}
use Rattle.property_keys.specs.Wholes.{IsWhole}
use Rattle.es_tree.specs.declared.numbers.FunctionNo.{FunctionNo}
use Rattle.es_tree.specs.declared.numbers.SiteId.{SiteId}
use Rattle.es_tree.specs.Tree.{Tree, IsSite, top_names}
use Rattle.es_model.specs.declared.answers.Reply.TheVariants as reply
use Rattle.es_model.specs.declared.answers.Stop.{Stop}
use Rattle.es_model.specs.declared.answers.Turn.{Turn}
use Rattle.es_model.specs.declared.answers.Turn.TheVariants.{Ask, Done}
use Rattle.es_model.specs.declared.kinds.CellNo.{CellNo}
use Rattle.es_model.specs.declared.kinds.ObjectKind.TheVariants.{Ordinary}
use Rattle.es_model.specs.declared.requests.Request.{Request}
use Rattle.es_model.specs.declared.requests.Request.TheVariants.{GetOwn, Define, Has, Read, Write, Delete, Keys, Proto, SetProto, Extensible, Prevent, Call, Construct, Work, Print}
use Rattle.es_model.specs.declared.running.Running.{Running}
use Rattle.es_model.specs.Belongs.{Belongs, FrameName, NamesObject, NamesCell, NamesCompletion, NamesFunction, HasName, HasNames}
use Rattle.es_model.specs.Changes.{Interning, Making, MakingCell, changed}
use Rattle.es_model.specs.Completions.{Completion, Normal, Throw}
use Rattle.es_model.specs.Events.{Origin}
use Rattle.es_model.specs.Fits.{IsKnownCompletion}
use Rattle.es_model.specs.Grows.{Grows, fixed_kind}
use Rattle.es_model.specs.Kept.{AreCells, IsKnownRunning, IsLater}
use Rattle.es_model.specs.Known.{AreKnown, IfThere, IsCell, IsKnown, IsKnownKey, IsObject, IsText}
use Rattle.es_model.specs.Sound.{IsSound}
use Rattle.es_model.specs.World.{Lists, World, cell, new_cell, new_object, number_of}
use Rattle.es_model.specs.programs.Abrupt.{fitting, key_in, or_throw, taken, value_in}
use Rattle.es_model.proofs.Belonging.{names-stay}
use Rattle.es_model.proofs.Keeping.{later_none, later_then}
use Rattle.es_model.proofs.KnownLater.{all-map, there-map, cell-later, key-later, known-later, object-later, text-later}
use Rattle.es_model.proofs.SharedKept.{later-changed}
use Rattle.es_model.proofs.SoundChanges.{sound-interning}
use Rattle.es_model.proofs.SoundErrors.{interned-known}
use Rattle.es_model.proofs.SoundProperties.{all-append}
use Rattle.object_heap.specs.Retains.{KeepsAll, Retains}
use Rattle.object_heap.specs.Stands.{HeapView, Goes, StandsFor}
use Rattle.object_heap.specs.Turns.{IsKnownSite, KeepsNamed}
use Rattle.object_heap.proofs.Retaining.{retains_none}
use Rattle.object_heap.proofs.Standing.{cells-stand, count-stands, kind-stands, symbols-stand, texts-stand}
use Rattle.array_objects.specs.Making.{made_world, new_array}
use Rattle.array_objects.proofs.Made.{made_there}
use Rattle.evaluator.specs.declared.frames.Current.{Current}
use Rattle.evaluator.specs.declared.frames.Current.TheVariants.{At, EndedBy}
use Rattle.evaluator.specs.declared.frames.Construction.{Construction}
use Rattle.evaluator.specs.declared.frames.EvalFrame.{EvalFrame}
use Rattle.evaluator.specs.declared.frames.EvalFrame.TheVariants as frame
use Rattle.evaluator.specs.declared.frames.Next.{Next}
use Rattle.evaluator.specs.declared.frames.Next.TheVariants.{GoOn, Asks}
use Rattle.evaluator.specs.declared.frames.Pending.{Pending}
use Rattle.evaluator.specs.declared.items.Asked.{Asked}
use Rattle.evaluator.specs.declared.items.Job.TheVariants as job
use Rattle.es_model.specs.declared.running.Part.{Part}
use Rattle.evaluator.specs.declared.references.Arithmetic.{Arithmetic}
use Rattle.evaluator.specs.declared.references.Reference.{Reference}
use Rattle.evaluator.specs.declared.references.Reference.TheVariants as reference
use Rattle.evaluator.specs.Contexts.{Context, context}
use Rattle.evaluator.specs.Frames.{Waiting}
use Rattle.evaluator.specs.Names.{HasSite, IsHereNamed, IsHereNext, IsKnownCurrent, NamesItems, NamesNext, NamesTurn, names_of, names_of_asked, names_of_body, names_of_construction, names_of_item, names_of_items, names_of_reference, names_of_sites, names_of_waiting, optional_names}
use Rattle.evaluator.specs.Plans.{ended}
use Rattle.evaluator.specs.References.{base_of, object_or_undefined}
use Rattle.evaluator.specs.Scopes.{fresh_cells, world_with}
use Rattle.evaluator.specs.Soundness.{KeepsCurrent, StaysSoundNext}
use Rattle.evaluator.specs.Assignments.{stepped}
use Rattle.evaluator.specs.Values.{calculate, key_of_text, whole_of}
use Rattle.evaluator.proofs.LiteralsKept.{object-there}
use Rattle.evaluator.proofs.OperatorsKept.{calculate-whole}
use Rattle.evaluator.proofs.ReferencesKept.{cell_in-known}
use Rattle.evaluator.proofs.StatementsKept.{cell-there}
use Rattle.evaluator.proofs.WordsKept.{text-key, whole-known}

-- ---- lists

all_both : {X : Type 0} (P : X → Type 0) (xs ys : List X) → AllByRecursion P xs → AllByRecursion P ys → AllByRecursion P (xs ++ ys)
all_both P [] ys h k = k
all_both P (x ∷ xs) ys h k = (h.0, all_both P xs ys h.1 k)

all_first : {X : Type 0} (P : X → Type 0) (xs ys : List X) → AllByRecursion P (xs ++ ys) → AllByRecursion P xs
all_first P [] ys h = tt
all_first P (x ∷ xs) ys h = (h.0, all_first P xs ys h.1)

all_last : {X : Type 0} (P : X → Type 0) (xs ys : List X) → AllByRecursion P (xs ++ ys) → AllByRecursion P ys
all_last P [] ys h = h
all_last P (x ∷ xs) ys h = all_last P xs ys h.1

all_take : {X : Type 0} (P : X → Type 0) (n : ℕ) (xs : List X) → AllByRecursion P xs → AllByRecursion P (take n xs)
all_take P zero xs h = tt
all_take P (suc n) [] h = tt
all_take P (suc n) (x ∷ xs) h = (h.0, all_take P n xs h.1)

-- where each item stays, a list is no shorter
no-shorter : {A : Type 0} (xs ys : List A) → ((i : ℕ) (x : A) → slice_get xs i ≡ Some x → slice_get ys i ≡ Some x) → length xs ≤ length ys
no-shorter [] ys f = omega arith
no-shorter (x ∷ xs) [] f = absurd (let n : None ≡ Some x = f zero x refl in cc)
no-shorter (x ∷ xs) (y ∷ ys) f = let rest = no-shorter xs ys (λ i z e. f (suc i) z e) in omega arith

-- ---- later heaps

-- what one heap stands for is there in what a later one stands for
pub heap_later : (a b : HeapView) (w v : World) → Retains a b → StandsFor a w → StandsFor b v → Grows w.lists v.lists
unfolding KeepsAll
heap_later a b w v r h k = let all = r.all in record {
  objects = (let n = count-stands a w h in let m = count-stands b v k in let x = all.objects in omega arith);
  kinds = λ o there.
      let within : o.0 < length a.objects = (let n = count-stands a w h in omega arith) in
      ap fixed_kind (sym (kind-stands b v o k)) ∙ all.kinds o within ∙ ap fixed_kind (kind-stands a w o h);
  texts = λ i x e.
      subst (λ (ts : List (List ℕ)). slice_get ts i ≡ Some x) (texts-stand b v k)
      (all.texts i x (subst (λ (ts : List (List ℕ)). slice_get ts i ≡ Some x) (sym (texts-stand a w h)) e));
  symbols = (let n = ap length (symbols-stand a w h) in let m = ap length (symbols-stand b v k) in let x = no-shorter a.symbols b.symbols all.symbols in omega arith);
  cells = (let n = ap length (cells-stand a w h) in let m = ap length (cells-stand b v k) in let x = all.cells in omega arith);
}

pub running_later : (script : Tree) (l m : Lists) (body : Running) → Grows l m → IsKnownRunning script l body → IsKnownRunning script m body
running_later script l m body g h = record {
  function = h.function;
  callee = there-map (IsObject l) (IsObject m) (object-later l m g) body.callee h.callee;
  arguments = there-map (IsObject l) (IsObject m) (object-later l m g) body.arguments h.arguments;
  this = known-later l m g body.this h.this;
  constructs = there-map (IsObject l) (IsObject m) (object-later l m g) body.constructs h.constructs;
  top = (let x = g.cells in let y = h.top in omega arith);
}

pub cells_later : (l m : Lists) (cells : List CellNo) → Grows l m → AreCells l cells → AreCells m cells
cells_later l m cells g h = all-map (IsCell l) (IsCell m) (cell-later l m g) cells h

pub items_kept : (script : Tree) (l m : Lists) (ps : List Pending) → Grows l m → NamesItems script l ps → NamesItems script m ps
items_kept script l m ps g h =
    all-map (λ (p : Pending). HasNames script l (names_of_item p.item)) (λ (p : Pending). HasNames script m (names_of_item p.item)) (λ p k. names-stay script (names_of_item p.item) l m g k) ps h

pub completion_later : (script : Tree) (l m : Lists) (c : Completion) → Grows l m → IsKnownCompletion l c → IsKnownCompletion m c
completion_later script l m c g h = (names-stay script (NamesCompletion c ∷ []) l m g (h, tt)).0

pub current_later : (script : Tree) (l m : Lists) (now : Current) → Grows l m → IsKnownCurrent l now → IsKnownCurrent m now
current_later script l m (At j) g h = tt
current_later script l m (EndedBy e) g h = completion_later script l m (ended e) g h

-- ---- what a call makes is there in each world that a later heap stands for

pub sound_interned : (w : World) (units : List ℕ) → nat_le (length units) most_units ≡ true → IsSound w → IsSound (changed (Interning units) w)
sound_interned w units short sound = sound-interning w units sound (leb-true (length units) most_units short)

pub text_there : (units : List ℕ) (a b c : HeapView) (w v : World) (id : TextId) → id ≡ number_of w.lists units → Goes a b w (changed (Interning units) w) → Retains b c → StandsFor c v → IsText v.lists id
text_there units a b c w v id number goes r h =
    let u : World = changed (Interning units) w in
    subst (λ (t : TextId). IsText v.lists t) (sym number) (text-later u.lists v.lists (heap_later b c u v r goes.stands h) (number_of w.lists units) (interned-known w units))

pub key_there : (b c : HeapView) (u v : World) (t : TextId) (k : PropKey) → k ≡ key_of_text u.lists t → IsText u.lists t → StandsFor b u → Retains b c → StandsFor c v → IsKnownKey v.lists k
key_there b c u v t k is there h r hv =
    subst (λ (x : PropKey). IsKnownKey v.lists x) (sym is) (key-later u.lists v.lists (heap_later b c u v r h hv) (key_of_text u.lists t) (text-key u.lists t there))

-- the text of a name, and its key
pub named_key : (units : List ℕ) (a b c : HeapView) (w v : World) (id : TextId) (k : PropKey) → id ≡ number_of w.lists units → Goes a b w (changed (Interning units) w) →
    ((u : World) → StandsFor b u → k ≡ key_of_text u.lists id) → Retains b c → StandsFor c v → IsKnownKey v.lists k
named_key units a b c w v id k number goes key r h =
    let u : World = changed (Interning units) w in
    key_there b c u v id k (key u goes.stands) (subst (λ (t : TextId). IsText u.lists t) (sym number) (interned-known w units)) goes.stands r h

pub cell_there : (a c : HeapView) (w v : World) (n : CellNo) (o : Option Value) (x : Value) → o ≡ cell w.lists n → o ≡ Some x → IsSound w → StandsFor a w → Retains a c → StandsFor c v → IsKnown v.lists x
cell_there a c w v n o x is found s h r hv =
    let there : IfThere (IsKnown w.lists) (Some x) = subst (λ (y : Option Value). IfThere (IsKnown w.lists) y) (sym is ∙ found) (cell_in-known w.lists w.lists.cells n.0 s.intact.cells) in
    known-later w.lists v.lists (heap_later a c w v r h hv) x there

pub object_there : (b c : HeapView) (w v : World) (origin : Origin) (p : Option ObjectId) (o : ObjectId) → o ≡ new_object w.lists → StandsFor b (changed (Making Ordinary origin p) w) → Retains b c → StandsFor c v → IsObject v.lists o
object_there b c w v origin p o is h r hv =
    let u : World = changed (Making Ordinary origin p) w in
    subst (λ (x : ObjectId). IsObject v.lists x) (sym is) (object-later u.lists v.lists (heap_later b c u v r h hv) (new_object w.lists) (object-there w origin p))

pub array_there : (b c : HeapView) (w v : World) (n : ℕ) (p a : ObjectId) → a ≡ new_array w → StandsFor b (made_world n p w) → Retains b c → StandsFor c v → IsObject v.lists a
array_there b c w v n p a is h r hv =
    let u : World = made_world n p w in subst (λ (x : ObjectId). IsObject v.lists x) (sym is) (object-later u.lists v.lists (heap_later b c u v r h hv) (new_array w) (made_there n p w))

pub new_cell_there : (b c : HeapView) (w v : World) (x : Option Value) (n : CellNo) → n ≡ new_cell w.lists → StandsFor b (changed (MakingCell x) w) → Retains b c → StandsFor c v → IsCell v.lists n
new_cell_there b c w v x n is h r hv =
    let u : World = changed (MakingCell x) w in
    subst (λ (y : CellNo). IsCell v.lists y) (sym is) (cell-later u.lists v.lists (heap_later b c u v r h hv) (new_cell w.lists) (cell-there w x))

later_with : (n : ℕ) (w : World) → IsLater w (world_with n w)
unfolding world_with
later_with zero w = later_none w
later_with (suc n) w = let u : World = changed (MakingCell None) w in later_then w u (world_with n u) (later-changed (MakingCell None) w) (later_with n u)

fresh_there : (n : ℕ) (w : World) → AreCells (world_with n w).lists (fresh_cells n w)
unfolding world_with fresh_cells
fresh_there zero w = tt
fresh_there (suc n) w = let u : World = changed (MakingCell None) w in (cell-later u.lists (world_with n u).lists (later_with n u).lists (new_cell w.lists) (cell-there w None), fresh_there n u)

-- the cells of a scope that is entered
pub scope_there : (a b : HeapView) (w v : World) (n : ℕ) (cells new : List CellNo) → Goes a b w (world_with n w) → new ≡ cells ++ fresh_cells n w → StandsFor b v → AreCells v.lists cells → AreCells v.lists new
scope_there a b w v n cells new g is h known =
    let u : World = world_with n w in
    subst (λ (cs : List CellNo). AreCells v.lists cs) (sym is)
    (all_both (IsCell v.lists) cells (fresh_cells n w) known (cells_later u.lists v.lists (fresh_cells n w) (heap_later b b u v (retains_none b) g.stands h) (fresh_there n w)))

pub pushed_there : (l : Lists) (cells new : List CellNo) (n : CellNo) → new ≡ cells ++ n ∷ [] → IsCell l n → AreCells l cells → AreCells l new
pushed_there l cells new n is there known = subst (λ (cs : List CellNo). AreCells l cs) (sym is) (all-append (IsCell l) cells n there known)

pub cut_there : (l : Lists) (cells new : List CellNo) (depth : ℕ) → new ≡ take depth cells → AreCells l cells → AreCells l new
cut_there l cells new depth is known = subst (λ (cs : List CellNo). AreCells l cs) (sym is) (all_take (IsCell l) depth cells known)

-- ---- parts of what is kept

pub read_site : (script : Tree) (l : Lists) (read write : Option SiteId) → HasNames script l (names_of_sites read write) → IsSite script read
read_site script l None write h = tt
read_site script l (Some read) None h = h.0
read_site script l (Some read) (Some write) h = h.0

pub write_site : (script : Tree) (l : Lists) (read write : Option SiteId) → HasNames script l (names_of_sites read write) → IsSite script write
write_site script l None None h = tt
write_site script l None (Some write) h = h.0
write_site script l (Some read) None h = tt
write_site script l (Some read) (Some write) h = h.1.0

pub sites_named : (script : Tree) (l : Lists) (read write : Option SiteId) → IsSite script read → IsSite script write → HasNames script l (names_of_sites read write)
sites_named script l None None h k = tt
sites_named script l None (Some write) h k = (k, tt)
sites_named script l (Some read) None h k = (h, tt)
sites_named script l (Some read) (Some write) h k = (h, (k, tt))

pub base_known : (script : Tree) (l : Lists) (r : Reference) → HasNames script l (names_of_reference r) → IsKnown l (base_of r)
base_known script l (reference.Cell name c constant) h = tt
base_known script l (reference.Global name k present) h = tt
base_known script l (reference.Arguments v) h = tt
base_known script l (reference.Callee name v) h = tt
base_known script l (reference.Property base k read write) h = h.0

pub or_undefined_known : (l : Lists) (o : Option ObjectId) → IfThere (IsObject l) o → IsKnown l (object_or_undefined o)
or_undefined_known l None h = tt
or_undefined_known l (Some o) h = h

pub values_more : (l : Lists) (vs : List Value) (v : Value) → AreKnown l vs → IsKnown l v → AreKnown l (vs ++ v ∷ [])
values_more l vs v h k = all-append (IsKnown l) vs v k h

whole_some : (o : Option ℤ) (r : Option ℤ) (n : ℤ) → r ≡ o → r ≡ Some n → IfThere IsWhole o → IsWhole n
whole_some o r n is found h = subst (λ (x : Option ℤ). IfThere IsWhole x) (sym is ∙ found) h

pub calculated_whole : (op : Arithmetic) (a b : ℤ) (r : Option ℤ) (n : ℤ) → r ≡ calculate op a b → r ≡ Some n → IsWhole n
calculated_whole op a b r n is found = whole_some (calculate op a b) r n is found (calculate-whole op a b)

pub stepped_whole : (increment : Bool) (a : ℤ) (r : Option ℤ) (n : ℤ) → r ≡ whole_of (stepped increment a) → r ≡ Some n → IsWhole n
stepped_whole increment a r n is found = whole_some (whole_of (stepped increment a)) r n is found (whole-known (stepped increment a))

pub either_whole : (first : Bool) (a b : ℤ) → IsWhole a → IsWhole b → IsWhole (if first then a else b)
either_whole true a b h k = h
either_whole false a b h k = k

-- ---- frames

option_named : {A : Type 0} (script : Tree) (l : Lists) (name : A → FrameName) (P : A → Type 0) → ((x : A) → P x → HasName script l (name x)) → (o : Option A) → IfThere P o → HasNames script l (optional_names name o)
option_named script l name P f None h = tt
option_named script l name P f (Some x) h = (f x h, tt)

option_there : {A : Type 0} (script : Tree) (l : Lists) (name : A → FrameName) (P : A → Type 0) → ((x : A) → HasName script l (name x) → P x) → (o : Option A) → HasNames script l (optional_names name o) → IfThere P o
option_there script l name P f None h = tt
option_there script l name P f (Some x) h = f x h.0

objects_named : (script : Tree) (l : Lists) (o : Option ObjectId) → IfThere (IsObject l) o → HasNames script l (optional_names NamesObject o)
objects_named script l o h = option_named script l NamesObject (IsObject l) (λ o k. k) o h

objects_there : (script : Tree) (l : Lists) (o : Option ObjectId) → HasNames script l (optional_names NamesObject o) → IfThere (IsObject l) o
objects_there script l o h = option_there script l NamesObject (IsObject l) (λ o k. k) o h

body-named : (script : Tree) (l : Lists) (body : Running) → IsKnownRunning script l body → HasNames script l (names_of_body body)
body-named script l body h =
    let P : FrameName → Type 0 = HasName script l in
    let one : List FrameName = optional_names NamesObject body.constructs in
    let two : List FrameName = optional_names NamesObject body.arguments ++ one in
    let three : List FrameName = optional_names NamesObject body.callee ++ two in (
      h.top,
      (
        h.this,
        all_both P (optional_names NamesFunction body.function) three (option_named script l NamesFunction (λ (f : FunctionNo). f.0 < length script.functions) (λ f k. k) body.function h.function)
            (all_both P (optional_names NamesObject body.callee) two (objects_named script l body.callee h.callee)
            (all_both P (optional_names NamesObject body.arguments) one (objects_named script l body.arguments h.arguments) (objects_named script l body.constructs h.constructs))),
      ),
    )

body-there : (script : Tree) (l : Lists) (body : Running) → HasNames script l (names_of_body body) → IsKnownRunning script l body
body-there script l body h =
    let P : FrameName → Type 0 = HasName script l in
    let one : List FrameName = optional_names NamesObject body.constructs in
    let two : List FrameName = optional_names NamesObject body.arguments ++ one in
    let three : List FrameName = optional_names NamesObject body.callee ++ two in
    let behind = all_last P (optional_names NamesFunction body.function) three h.1.1 in
    let last = all_last P (optional_names NamesObject body.callee) two behind in record {
      function = option_there script l NamesFunction (λ (f : FunctionNo). f.0 < length script.functions) (λ f k. k) body.function (all_first P (optional_names NamesFunction body.function) three h.1.1);
      callee = objects_there script l body.callee (all_first P (optional_names NamesObject body.callee) two behind);
      arguments = objects_there script l body.arguments (all_first P (optional_names NamesObject body.arguments) one last);
      this = h.1.0;
      constructs = objects_there script l body.constructs (all_last P (optional_names NamesObject body.arguments) one last);
      top = h.0;
    }

cells-named : (script : Tree) (l : Lists) (cells : List CellNo) → AreCells l cells → HasNames script l (map NamesCell cells)
cells-named script l [] h = tt
cells-named script l (c ∷ cells) h = (h.0, cells-named script l cells h.1)

cells-there : (script : Tree) (l : Lists) (cells : List CellNo) → HasNames script l (map NamesCell cells) → AreCells l cells
cells-there script l [] h = tt
cells-there script l (c ∷ cells) h = (h.0, cells-there script l cells h.1)

items-named : (script : Tree) (l : Lists) (ps : List Pending) → NamesItems script l ps → HasNames script l (names_of_items ps)
items-named script l [] h = tt
items-named script l (p ∷ ps) h = all_both (HasName script l) (names_of_item p.item) (names_of_items ps) h.0 (items-named script l ps h.1)

items-there : (script : Tree) (l : Lists) (ps : List Pending) → HasNames script l (names_of_items ps) → NamesItems script l ps
items-there script l [] h = tt
items-there script l (p ∷ ps) h =
    (all_first (HasName script l) (names_of_item p.item) (names_of_items ps) h, items-there script l ps (all_last (HasName script l) (names_of_item p.item) (names_of_items ps) h))

-- a body that waits
pub frame_named : (script : Tree) (l : Lists) (body : Running) (cells : List CellNo) (ps : List Pending) (i : Asked) (f : Waiting) → f ≡ record { body = body; cells = cells; pending = ps; asked = i } →
    IsKnownRunning script l body → AreCells l cells → NamesItems script l ps → HasNames script l (names_of_asked i) → HasNames script l (names_of_waiting f)
frame_named script l body cells ps i f is running there items asks =
    let P : FrameName → Type 0 = HasName script l in
    subst (λ (x : Waiting). HasNames script l (names_of_waiting x)) (sym is)
    (all_both P (names_of_body body) (map NamesCell cells ++ (names_of_items ps ++ names_of_asked i)) (body-named script l body running)
    (all_both P (map NamesCell cells) (names_of_items ps ++ names_of_asked i) (cells-named script l cells there)
    (all_both P (names_of_items ps) (names_of_asked i) (items-named script l ps items) asks)))

pub frame_here : (script : Tree) (l : Lists) (f : Waiting) → HasNames script l (names_of_waiting f) → IsHereNamed script l f.body f.cells f.pending
frame_here script l f h =
    let P : FrameName → Type 0 = HasName script l in
    let three : List FrameName = map NamesCell f.cells ++ (names_of_items f.pending ++ names_of_asked f.asked) in
    let two : List FrameName = names_of_items f.pending ++ names_of_asked f.asked in
    let rest = all_last P (names_of_body f.body) three h in
    let last = all_last P (map NamesCell f.cells) two rest in record {
      running = body-there script l f.body (all_first P (names_of_body f.body) three h);
      there = cells-there script l f.cells (all_first P (map NamesCell f.cells) two rest);
      items = items-there script l f.pending (all_first P (names_of_items f.pending) (names_of_asked f.asked) last);
    }

pub frame_asked : (script : Tree) (l : Lists) (f : Waiting) → HasNames script l (names_of_waiting f) → HasNames script l (names_of_asked f.asked)
frame_asked script l f h =
    let P : FrameName → Type 0 = HasName script l in
    let three : List FrameName = map NamesCell f.cells ++ (names_of_items f.pending ++ names_of_asked f.asked) in
    let two : List FrameName = names_of_items f.pending ++ names_of_asked f.asked in
    all_last P (names_of_items f.pending) (names_of_asked f.asked) (all_last P (map NamesCell f.cells) two (all_last P (names_of_body f.body) three h))

site-there : (script : Tree) (q : Request) → HasSite script q → IsKnownSite script q
site-there script (Read o k receiver None) h = tt
site-there script (Read o k receiver (Some site)) h = h
site-there script (Write o k v receiver None) h = tt
site-there script (Write o k v receiver (Some site)) h = h
site-there script (GetOwn o k) h = tt
site-there script (Define o k wanted) h = tt
site-there script (Has o k) h = tt
site-there script (Delete o k) h = tt
site-there script (Keys o) h = tt
site-there script (Proto o) h = tt
site-there script (SetProto o p) h = tt
site-there script (Extensible o) h = tt
site-there script (Prevent o) h = tt
site-there script (Call f this arguments) h = tt
site-there script (Construct f arguments target) h = tt
site-there script (Work op operands) h = tt
site-there script (Print line) h = tt

-- what a turn keeps, in a world of the script
pub turn_named : (script : Tree) (v : World) (r : Result (Turn EvalFrame) Stop) → v.script ≡ script → NamesTurn script v.lists r → KeepsNamed names_of v r
unfolding KeepsNamed
turn_named script v (Ok (Ask q f)) same h =
    (subst (λ (s : Tree). HasNames s v.lists (names_of f)) (sym same) h.1, subst (λ (s : Tree). IsKnownSite s q) (sym same) (site-there script q h.0))
turn_named script v (Ok (Done c)) same h = tt
turn_named script v (Err stop) same h = tt

-- ---- what an answer gives

fitting-known : {A : Type 0} (P : A → Type 0) (o : Option A) (r : Result A Value) → fitting o ≡ or_throw r → IfThere P o → IfOk r P
fitting-known P (Some y) (Ok x) e h = let same : y ≡ x = cc in subst P same h
fitting-known P (Some y) (Err v) e h = tt
fitting-known P None (Ok x) e h = absurd (let n : Err (Throw value.Undefined) ≡ Ok x = e in cc)
fitting-known P None (Err v) e h = tt

abrupt-known : {A : Type 0} (P : A → Type 0) (c : Completion) (r : Result A Value) → Err c ≡ or_throw r → IfOk r P
abrupt-known P c (Ok x) e = absurd (let n : Err c ≡ Ok x = e in cc)
abrupt-known P c (Err v) e = tt

pub value_known : (l : Lists) (c : Completion) (r : Result Value Value) → taken value_in c ≡ or_throw r → IsKnownCompletion l c → IfOk r (IsKnown l)
value_known l (Normal (reply.Value v)) r e h = fitting-known (IsKnown l) (Some v) r e h
value_known l (Normal other) r e h = fitting-known (IsKnown l) None r e tt
value_known l abrupt r e h = abrupt-known (IsKnown l) abrupt r e

pub key_known : (l : Lists) (c : Completion) (r : Result PropKey Value) → taken key_in c ≡ or_throw r → IsKnownCompletion l c → IfOk r (IsKnownKey l)
key_known l (Normal (reply.Key k)) r e h = fitting-known (IsKnownKey l) (Some k) r e h
key_known l (Normal other) r e h = fitting-known (IsKnownKey l) None r e tt
key_known l abrupt r e h = abrupt-known (IsKnownKey l) abrupt r e

-- ---- the machine

-- an item more
pub items_more : (script : Tree) (l : Lists) (ps qs : List Pending) (p : Pending) → qs ≡ ps ++ p ∷ [] → NamesItems script l ps → HasNames script l (names_of_item p.item) → NamesItems script l qs
items_more script l ps qs p is h k =
    subst (λ (xs : List Pending). NamesItems script l xs) (sym is) (all-append (λ (x : Pending). HasNames script l (names_of_item x.item)) ps p k h)

-- the last item, and those below
pub items_apart : (script : Tree) (l : Lists) (ps qs : List Pending) (p : Pending) → ps ≡ qs ++ p ∷ [] → NamesItems script l ps → NamesItems script l qs × HasNames script l (names_of_item p.item)
items_apart script l ps qs p is h =
    let Q : Pending → Type 0 = λ (x : Pending). HasNames script l (names_of_item x.item) in
    let both : NamesItems script l (qs ++ p ∷ []) = subst (λ (xs : List Pending). NamesItems script l xs) is h in (all_first Q qs (p ∷ []) both, (all_last Q qs (p ∷ []) both).0)

-- what is here, in a world that a later heap stands for
pub here_later : (script : Tree) (a b : HeapView) (w v : World) (body : Running) (cells : List CellNo) (ps : List Pending) → Retains a b → StandsFor a w → StandsFor b v → IsHereNamed script w.lists body cells ps → IsHereNamed script v.lists body cells ps
here_later script a b w v body cells ps r h k n =
    let g = heap_later a b w v r h k in record {
      running = running_later script w.lists v.lists body g n.running;
      there = cells_later w.lists v.lists cells g n.there;
      items = items_kept script w.lists v.lists ps g n.items;
    }

-- what is in hand is there
current-known : (here : Context) (w : World) (now : Current) → KeepsCurrent here w now → IsKnownCurrent w.lists now
current-known here w (At j) h = tt
current-known here w (EndedBy e) h = h.1

sound-now : (here : Context) (w : World) (now : Current) → KeepsCurrent here w now → IsSound w
sound-now here w (At j) h = h.0
sound-now here w (EndedBy e) h = h.0

-- a step from what the loop has come to, in a world that the heap stands for behind it
pub step_named : (script : Tree) (body : Running) (a b c : HeapView) (w u : World) (cells1 cells2 : List CellNo) (ps1 ps2 : List Pending) (now : Current) (result : Result Next Stop) (next : Next) → w.script ≡ script →
    StaysSoundNext (context script body cells1) a b w ps1 (Ok (GoOn now)) → ((x : World) → StandsFor b x → IsHereNamed script x.lists body cells1 ps1) → Retains b c → StandsFor c u → result ≡ Ok next →
    ((x y : World) → x.script ≡ script → StandsFor b x → IsSound x → StandsFor c y → IsKnownRunning script y.lists body → IsKnownCurrent y.lists now → NamesItems script y.lists ps1 → NamesNext script y.lists ps2 result) →
    ((x y : World) → StandsFor b x → StandsFor c y → AreCells y.lists cells1 → OnOk result (AreCells y.lists cells2)) → IsHereNext script u.lists body cells2 ps2 (Ok next)
step_named script body a b c w u cells1 cells2 ps1 ps2 now result next same (x, goes, later, k, items) here r h is step cells =
    let there = here x goes.stands in
    let n = here_later script b c x u body cells1 ps1 r goes.stands h there in
    let sound = sound-now (context script body cells1) x now k in
    let known = current_later script x.lists u.lists now (heap_later b c x u r goes.stands h) (current-known (context script body cells1) x now k) in (
      n.running,
      subst (λ (y : Result Next Stop). OnOk y (AreCells u.lists cells2)) is (cells x u goes.stands h n.there),
      subst (λ (y : Result Next Stop). NamesNext script u.lists ps2 y) is (step x u (later.script ∙ same) goes.stands sound h n.running known n.items),
    )

-- a step that goes on
pub goes_named : (script : Tree) (l : Lists) (body : Running) (cells : List CellNo) (ps : List Pending) (now : Current) → IsHereNext script l body cells ps (Ok (GoOn now)) → IsHereNamed script l body cells ps
goes_named script l body cells ps now h = record { running = h.0; there = h.1; items = h.2 }

-- a step that asks
pub asks_named : (script : Tree) (l : Lists) (body : Running) (cells : List CellNo) (ps : List Pending) (q : Request) (i : Asked) (f : Waiting) → f ≡ record { body = body; cells = cells; pending = ps; asked = i } →
    IsHereNext script l body cells ps (Ok (Asks q i)) → NamesTurn script l (Ok (Ask q (frame.Body f)))
asks_named script l body cells ps q i f is h = (h.2.0, frame_named script l body cells ps i f is h.0 h.1 h.2.2 h.2.1)

-- what is there stays there, whatever is answered
pub on_ok : {A E : Type 0} (r : Result A E) (X : Type 0) → X → OnOk r X
on_ok (Ok y) X x = x
on_ok (Err e) X x = tt

-- ---- the calls of the crate

-- the statements of a part, with no items
pub begins_named : (script : Tree) (w : World) (body : Running) (cells : List CellNo) (list : Part) (ps : List Pending) → w.script ≡ script →
    KeepsCurrent (context script body cells) w (At (job.Statements list 0)) → ps ≡ [] → IsHereNamed script w.lists body cells ps
begins_named script w body cells list ps same (sound, known) empty = record {
  running = subst (λ (s : Tree). IsKnownRunning s w.lists body) same known.0;
  there = known.1;
  items = subst (λ (xs : List Pending). NamesItems script w.lists xs) (sym empty) tt;
}

-- a body that waits and belongs
pub resume_named : (script : Tree) (w : World) (x f : Waiting) → x ≡ f → w.script ≡ script → Belongs names_of w (frame.Body f) →
    IsHereNamed script w.lists x.body x.cells x.pending × HasNames script w.lists (names_of_asked x.asked)
resume_named script w x f is same h =
    let there : HasNames script w.lists (names_of_waiting x) = subst (λ (s : Tree). HasNames s w.lists (names_of_waiting x)) same (subst (λ (y : Waiting). HasNames w.script w.lists (names_of_waiting y)) (sym is) h) in
    (frame_here script w.lists x there, frame_asked script w.lists x there)

-- a construction that waits names what it was begun with
pub construction_named : (script : Tree) (l : Lists) (k : Construction) → top_names script ≤ length l.cells → k.function.0 < length script.functions → IsObject l k.callee → AreKnown l k.arguments → IsObject l k.target →
    HasNames script l (names_of_construction k)
construction_named script l k top function callee arguments target = (top, (function, (callee, (arguments, (target, tt)))))

-- what was asked, in a world that a later heap stands for
pub asked_later : (script : Tree) (a b : HeapView) (w v : World) (i : Asked) → Retains a b → StandsFor a w → StandsFor b v → HasNames script w.lists (names_of_asked i) → HasNames script v.lists (names_of_asked i)
asked_later script a b w v i r h k n = names-stay script (names_of_asked i) w.lists v.lists (heap_later a b w v r h k) n

pub answer_later : (script : Tree) (a b : HeapView) (w v : World) (c : Completion) → Retains a b → StandsFor a w → StandsFor b v → IsKnownCompletion w.lists c → IsKnownCompletion v.lists c
answer_later script a b w v c r h k n = completion_later script w.lists v.lists c (heap_later a b w v r h k) n
