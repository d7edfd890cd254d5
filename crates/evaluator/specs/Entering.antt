-- What is done before the statements of a body and behind them: the heap goes to a world in which what comes next goes on.
use Rattle.std.specs.Prelude.{◌≡◌, Option, Some, None, List, Result, Ok, Err}
use Rattle.property_keys.specs.declared.identifiers.TextId.{TextId}
use Rattle.es_tree.specs.declared.body.DeclaredFunction.{DeclaredFunction}
use Rattle.es_model.specs.declared.answers.Completion.{Completion as Answer}
use Rattle.es_model.specs.declared.answers.Stop.{Stop}
use Rattle.es_model.specs.declared.answers.Stop.TheVariants.{Halted, NoMemory}
use Rattle.es_model.specs.Completions.{answered}
use Rattle.es_model.specs.World.{World}
use Rattle.es_model.specs.Program.{Program}
use Rattle.es_model.specs.Stages.{AtEnd, AtHalt, stage_of}
use Rattle.object_heap.specs.Stands.{HeapView, Goes, Halts}
use Rattle.evaluator.specs.Contexts.{Context}
use Rattle.evaluator.specs.Errors.{text_too_long}
use Rattle.evaluator.specs.Functions.{declare_functions}

-- a part of an algorithm gives this, and what comes next goes on with it
abbrev pub Brings : {A : Type 0} → HeapView → HeapView → World → ((A → Program) → Program) → A → Type 0
Brings {A} old new w p x = (v : World) × Goes old new w v × ((next : A → Program) → stage_of (p next) w ≡ stage_of (next x) v)

-- the same with the context in which what comes next goes on; or there is no turn for it
abbrev pub Enters : HeapView → HeapView → World → ((Context → Program) → Program) → Context → Result Unit Stop → Type 0
Enters old new w p inner (Ok x) = Brings old new w p inner
Enters old new w p inner (Err Halted) = (v : World) × Halts old new w v × ((next : Context → Program) → stage_of (p next) w ≡ AtHalt v)
Enters old new w p inner (Err NoMemory) = Unit {0}

-- declared functions are made
abbrev pub Declares : Context → List DeclaredFunction → HeapView → HeapView → World → Result Unit Stop → Type 0
Declares here ds old new w result = Enters old new w (λ next. declare_functions here ds (next here)) here result

-- a text is made, and what comes next goes on with it; or it would have too many code units
abbrev pub Makes : HeapView → HeapView → World → ((TextId → Program) → Program) → Option TextId → Type 0
Makes old new w p (Some t) = Brings old new w p t
Makes old new w p None = Goes old new w w × ((next : TextId → Program) → stage_of (p next) w ≡ stage_of text_too_long w)

-- an algorithm goes on behind a part of it
abbrev pub Passes : HeapView → HeapView → World → (Program → Program) → Type 0
Passes old new w p = (v : World) × Goes old new w v × ((next : Program) → stage_of (p next) w ≡ stage_of next v)

-- a program ends by itself, with this answer
abbrev pub Answers : HeapView → HeapView → World → Program → Answer → Type 0
Answers old new w p answer = (v : World) × Goes old new w v × (stage_of p w ≡ AtEnd (answered answer) v)
