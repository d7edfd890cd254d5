-- Where a body waits, what is left of it keeps worlds sound.
use Rattle.std.specs.Prelude.{◌≡◌, Bool, true, false, is_some, List, [], ◌∷◌, Result, Ok, Err}
use Rattle.property_keys.specs.declared.values.Value.TheVariants as value
use Rattle.es_tree.specs.Tree.{Tree}
use Rattle.es_model.specs.declared.answers.Stop.{Stop}
use Rattle.es_model.specs.declared.answers.Stop.TheVariants.{Halted, NoMemory}
use Rattle.es_model.specs.declared.answers.Turn.{Turn}
use Rattle.es_model.specs.declared.answers.Turn.TheVariants.{Ask, Done}
use Rattle.es_model.specs.declared.requests.Request.{Request}
use Rattle.es_model.specs.declared.requests.Request.TheVariants.{Construct}
use Rattle.es_model.specs.declared.answers.Reply.TheVariants as reply
use Rattle.es_model.specs.Completions.{Completion, Normal, Throw, answered}
use Rattle.es_model.specs.Fits.{Fits, IsKnownCompletion, IsKnownRequest}
use Rattle.es_model.specs.Kept.{FitsTask, IsKept, IsKnownTask, IsLater}
use Rattle.es_model.specs.Known.{IfThere, IsKnown, IsObject}
use Rattle.es_model.specs.Program.{Program, Of, Task}
use Rattle.es_model.specs.Sound.{IsIntact, IsSound}
use Rattle.es_model.specs.Stages.{stage_of}
use Rattle.es_model.specs.World.{Lists, World}
use Rattle.object_heap.specs.Stands.{HeapView, Goes, Halts}
use Rattle.evaluator.specs.declared.frames.Current.{Current}
use Rattle.evaluator.specs.declared.frames.Current.TheVariants.{At, EndedBy}
use Rattle.evaluator.specs.declared.frames.Construction.{Construction}
use Rattle.evaluator.specs.declared.frames.EvalFrame.{EvalFrame}
use Rattle.evaluator.specs.declared.frames.EvalFrame.TheVariants as frame
use Rattle.evaluator.specs.declared.frames.Next.{Next}
use Rattle.evaluator.specs.declared.frames.Next.TheVariants.{GoOn, Asks, Ends}
use Rattle.evaluator.specs.declared.frames.Pending.{Pending}
use Rattle.evaluator.specs.declared.items.Asked.{Asked}
use Rattle.evaluator.specs.Contexts.{Context, context}
use Rattle.evaluator.specs.Functions.{construct_answered}
use Rattle.evaluator.specs.Machine.{within}
use Rattle.evaluator.specs.Plans.{asked_program, ended, item_program, task_of}

-- an item keeps worlds sound, in each later sound world and with each end that names what is there
abbrev pub KeepsItem : Context → World → Pending → Type 0
KeepsItem here v p =
    (c : Completion) (u : World) → IsSound u → IsLater v u → IsKnownCompletion u.lists c
    → IsKept IsKnownCompletion (item_program (within here p.depth) p.item c) u

-- the items that wait, and below them the end of the body: what a constructor makes is there
abbrev pub KeepsItems : Context → World → List Pending → Type 0
KeepsItems here v [] = IfThere (IsObject v.lists) here.body.constructs
KeepsItems here v (p ∷ ps) = KeepsItem here v p × KeepsItems here v ps

-- what was asked keeps worlds sound, with each answer that fits
abbrev pub KeepsAsked : Context → World → Request → Asked → Type 0
KeepsAsked here v q i =
    (c : Completion) (u : World) → IsSound u → IsLater v u → Fits u.lists q c → IsKept IsKnownCompletion (asked_program here i c) u

-- an answer of a call: a value that is there, or a throw of one
abbrev pub IsKnownEnd : Lists → Completion → Type 0
IsKnownEnd l (Normal (reply.Value v)) = IsKnown l v
IsKnownEnd l (Throw v) = IsKnown l v
IsKnownEnd l other = ⊥

-- an answer of a construction: an Object that is there, or a throw
abbrev pub IsKnownNew : Lists → Completion → Type 0
IsKnownNew l (Normal (reply.Value (value.Object o))) = IsObject l o
IsKnownNew l (Throw v) = IsKnown l v
IsKnownNew l other = ⊥

-- how a body ends, which constructs or does not
abbrev pub FitsEnd : (constructs : Bool) → Lists → Completion → Type 0
FitsEnd true l c = IsKnownNew l c
FitsEnd false l c = IsKnownEnd l c

-- the world is sound, and what is in hand names what is there
abbrev pub KeepsCurrent : Context → World → Current → Type 0
KeepsCurrent here v (At j) = IsSound v × IsKnownTask v.script v.lists (task_of here j)
KeepsCurrent here v (EndedBy e) = IsSound v × IsKnownCompletion v.lists (ended e)

-- a step of the machine
abbrev pub StaysSoundNext : Context → HeapView → HeapView → World → List Pending → Result Next Stop → Type 0
StaysSoundNext here old new w ps (Ok (GoOn now)) = (v : World) × Goes old new w v × IsLater w v × KeepsCurrent here v now × KeepsItems here v ps
StaysSoundNext here old new w ps (Ok (Asks q i)) =
    (v : World) × Goes old new w v × IsLater w v × IsSound v × IsKnownRequest v.lists q × KeepsAsked here v q i × KeepsItems here v ps
StaysSoundNext here old new w ps (Ok (Ends c)) =
    (v : World) × Goes old new w v × IsLater w v × IsSound v × FitsEnd (is_some here.body.constructs) v.lists (answered c)
StaysSoundNext here old new w ps (Err Halted) = (v : World) × Halts old new w v × IsLater w v × IsIntact v.lists
StaysSoundNext here old new w ps (Err NoMemory) = Unit {0}

-- whether what waits constructs
abbrev pub does_construct : EvalFrame → Bool
does_construct (frame.Body f) = is_some f.body.constructs
does_construct (frame.Constructing k) = true

-- a construction from where it goes on with the prototype keeps worlds sound
abbrev pub KeepsConstruction : Tree → World → Construction → Completion → Type 0
KeepsConstruction script w k c =
    IsKept (FitsTask (Of (Construct k.callee k.arguments k.target))) (construct_answered script k.function k.callee k.arguments k.target c) w

-- What is left where a frame waits keeps worlds sound, with each answer that fits the request. It goes on doing so in later worlds
abbrev pub KeepsFrame : Tree → World → Request → EvalFrame → Type 0
KeepsFrame script v q (frame.Body f) = let here : Context = context script f.body f.cells in KeepsAsked here v q f.asked × KeepsItems here v f.pending
KeepsFrame script v q (frame.Constructing k) =
    (c : Completion) (u : World) → IsSound u → IsLater v u → Fits u.lists q c → KeepsConstruction script u k c

-- what is left where a frame waits keeps worlds sound, from this world on and with this answer
abbrev pub KeepsRest : Tree → World → EvalFrame → Completion → Type 0
KeepsRest script w (frame.Body f) c =
    let here : Context = context script f.body f.cells in IsKept IsKnownCompletion (asked_program here f.asked c) w × KeepsItems here w f.pending
KeepsRest script w (frame.Constructing k) c = KeepsConstruction script w k c

-- From a sound world a turn leads to one that is sound, and at a halt intact; at Done the answer is how a body ends, at an Ask the request names what is there,
-- the rest keeps worlds sound, and it constructs or does not, as the whole
abbrev pub StaysSoundTurn : (constructs : Bool) → Tree → HeapView → HeapView → World → Result (Turn EvalFrame) Stop → Type 0
StaysSoundTurn constructs script old new w (Ok (Done c)) =
    (v : World) × Goes old new w v × IsLater w v × IsSound v × FitsEnd constructs v.lists (answered c)
StaysSoundTurn constructs script old new w (Ok (Ask q f)) =
    (v : World) × Goes old new w v × IsLater w v × IsSound v × IsKnownRequest v.lists q × KeepsFrame script v q f × (does_construct f ≡ constructs)
StaysSoundTurn constructs script old new w (Err Halted) = (v : World) × Halts old new w v × IsLater w v × IsIntact v.lists
StaysSoundTurn constructs script old new w (Err NoMemory) = Unit {0}

-- a program stops where one does that keeps worlds sound
abbrev pub StopsKept : Program → World → Type 0
StopsKept p w = (t : Task) × (q : Program) × (u : World) × IsKept (FitsTask t) q u × (stage_of q u ≡ stage_of p w)
