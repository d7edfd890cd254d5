-- How bodies end, over plain variables.
use Rattle.std.proofs.Common.{◌≡◌, ℕ, Option, Some, None, List, Result, Ok, Err, OnOk, slice_get, sym, ◌∙◌, ap, subst}
use Rattle.property_keys.specs.declared.identifiers.ObjectId.{ObjectId}
use Rattle.es_tree.specs.declared.facts.FunctionFacts.{FunctionFacts}
use Rattle.es_tree.specs.declared.numbers.FunctionNo.{FunctionNo}
use Rattle.es_tree.specs.Tree.{Tree}
use Rattle.es_model.specs.declared.answers.Completion.{Completion as Answer}
use Rattle.es_model.specs.declared.kinds.CellNo.{CellNo}
use Rattle.es_model.specs.declared.running.Running.{Running}
use Rattle.es_model.specs.Completions.{answered}
use Rattle.es_model.specs.Program.{done}
use Rattle.es_model.specs.Stages.{AtEnd, stage_of}
use Rattle.es_model.specs.World.{World}
use Rattle.object_heap.specs.Stands.{HeapView, StandsFor, Goes, goes_none}
use Rattle.function_objects.specs.Constructing.{noted_world}
use Rattle.function_objects.proofs.Constructed.{noted_stage}
use Rattle.evaluator.specs.declared.items.Ending.{Ending}
use Rattle.evaluator.specs.Contexts.{context}
use Rattle.evaluator.specs.Entering.{Answers, Passes}
use Rattle.evaluator.specs.Functions.{body_ended, constructed_end, ended_by, facts_of, note_by}
use Rattle.evaluator.specs.Plans.{ended}

-- no function is there
pub notes_none : (script : Tree) (function : Option FunctionNo) (a : HeapView) (w : World) → StandsFor a w → None ≡ facts_of script function → Passes a a w (note_by script (facts_of script function))
notes_none script function a w h none = (w, goes_none a w h, λ next. ap (λ (x : Option FunctionFacts). stage_of (note_by script x next) w) (sym none))

notes-one : (script : Tree) (function : Option FunctionNo) (facts : FunctionFacts) (a b : HeapView) (w : World) → w.script ≡ script → Some facts ≡ facts_of script function →
    ((f : ℕ) → slice_get w.script.functions f ≡ Some facts → Goes a b w (noted_world facts w)) → Passes a b w (note_by script (facts_of script function))
notes-one script None facts a b w same found goes = absurd (let n : Some facts ≡ None = found in cc)
notes-one script (Some f) facts a b w same found goes = (
  noted_world facts w,
  goes f.0 (subst (λ (s : Tree). slice_get s.functions f.0 ≡ Some facts) (sym same) (sym found)),
  λ next. ap (λ (x : Option FunctionFacts). stage_of (note_by script x next) w) (sym found) ∙ noted_stage script facts next w same,
)

-- the event, unless there is no memory for it
pub notes_some : {A E : Type 0} (script : Tree) (function : Option FunctionNo) (facts : FunctionFacts) (a b : HeapView) (r : Result A E) → Some facts ≡ facts_of script function →
    OnOk r ((w : World) (f : ℕ) → slice_get w.script.functions f ≡ Some facts → StandsFor a w → Goes a b w (noted_world facts w)) →
    OnOk r ((w : World) → w.script ≡ script → StandsFor a w → Passes a b w (note_by script (facts_of script function)))
notes_some script function facts a b (Err e) found goes = tt
notes_some script function facts a b (Ok x) found goes = λ w same h. notes-one script function facts a b w same found (λ f is. goes w f is h)

pub construction_ends : (script : Tree) (body : Running) (o : ObjectId) (e : Ending) (answer : Answer) (cells : List CellNo) (a b : HeapView) (w : World) → body.constructs ≡ Some o → answered answer ≡ constructed_end o (ended e) →
    Passes a b w (note_by script (facts_of script body.function)) → Answers a b w (body_ended (context script body cells) (ended e)) answer
construction_ends script body o e answer cells a b w made is (v, g, at) = (
  v,
  g,
  ap (λ (x : Option ObjectId). stage_of (ended_by script body x (ended e)) w) made ∙ at (done (constructed_end o (ended e))) ∙ ap (λ c. AtEnd c v) (sym is),
)
