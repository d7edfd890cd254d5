-- How much an algorithm may ask before its next charge. Each request and each part has a weight, and a charge gives a new budget: so the turns that
-- are left bound what a task comes to.
use Rattle.std.specs.Prelude.{ℕ, zero, suc, ◌+◌, ◌*◌, ◌<◌, Bool, true, false}
use Rattle.es_tree.specs.Definitions.{most_definitions}
use Rattle.es_tree.specs.Tree.{Tree}
use Rattle.es_model.specs.declared.requests.Operation.{Operation}
use Rattle.es_model.specs.declared.requests.Operation.TheVariants as operation
use Rattle.es_model.specs.declared.requests.Request.{Request}
use Rattle.es_model.specs.declared.requests.Request.TheVariants.{GetOwn, Define, Has, Read, Write, Delete, Keys, Proto}
use Rattle.es_model.specs.declared.requests.Request.TheVariants.{SetProto, Extensible, Prevent, Call, Construct, Work, Print}
use Rattle.es_model.specs.Completions.{Completion}
use Rattle.es_model.specs.World.{Lists}
use Rattle.es_model.specs.Program.{Program, done, look, change, charge, ask, part, nest, print, Task, Of, Evaluating, Statements, Round}

-- ---- weights

abbrev pub operation_weight : Operation → ℕ
operation_weight operation.ToPrimitiveDefault = 10
operation_weight operation.ToPrimitiveNumber = 10
operation_weight operation.ToPrimitiveText = 10
operation_weight operation.ToText = 12
operation_weight operation.ToWhole = 12
operation_weight operation.ToKey = 14
operation_weight operation.ToWanted = 30
operation_weight operation.ListFromArrayLike = 20
operation_weight operation.KeysFromArrayLike = 20
operation_weight operation.InstanceOf = 20
operation_weight operation.OrdinaryHasInstance = 20
operation_weight operation.LooselyEqual = 60
operation_weight operation.LessThan = 40

abbrev pub request_weight : Request → ℕ
request_weight (GetOwn o k) = 0
request_weight (Define o k wanted) = 30
request_weight (Has o k) = 1
request_weight (Read o k receiver site) = 1
request_weight (Write o k v receiver site) = 32
request_weight (Delete o k) = 0
request_weight (Keys o) = 0
request_weight (Proto o) = 0
request_weight (SetProto o p) = 0
request_weight (Extensible o) = 0
request_weight (Prevent o) = 0
request_weight (Call f this arguments) = 0
request_weight (Construct f arguments target) = 0
request_weight (Work op operands) = operation_weight op
request_weight (Print line) = 0

abbrev pub weight : Task → ℕ
weight (Of q) = request_weight q
weight (Evaluating body cells name n) = 0
weight (Statements body cells list i) = 1
weight (Round body cells n) = 1

-- whether a task takes a turn before anything else
abbrev pub charges : Task → Bool
charges (Of q) = false
charges (Evaluating body cells name n) = true
charges (Statements body cells list i) = false
charges (Round body cells n) = false

-- ---- the budget after a charge

-- A property definition that is a name alone takes no turn, and may ask for a global name. All else that an algorithm asks for between two charges is
-- bounded by a number.
unfoldable pub renewed : Tree → ℕ
renewed script = 200 + 40 * most_definitions script.nodes

-- the budget after a charge of so many turns, where a charge gives r
abbrev pub renewed_by : ℕ → ℕ → ℕ → ℕ
renewed_by r zero b = b
renewed_by r (suc t) b = r

-- the budget after a part, which may have taken a turn
abbrev pub renewed_if : ℕ → Bool → ℕ → ℕ
renewed_if r true b = r
renewed_if r false b = b

-- Where each charge gives r, the program keeps within its budget: each request and each part leaves less of it, by more than it weighs.
abbrev pub IsWithin : ℕ → ℕ → Program → Type 0
IsWithin r b (done c) = Unit {0}
IsWithin r b (look f) = (l : Lists) → IsWithin r b (f l)
IsWithin r b (change op p) = IsWithin r b p
IsWithin r b (charge t p) = IsWithin r (renewed_by r t b) p
IsWithin r b (ask q k) = (left : ℕ) × (request_weight q + left < b) × ((c : Completion) → IsWithin r left (k c))
IsWithin r b (part t k) = (left : ℕ) × (weight t + left < b) × ((c : Completion) → IsWithin r (renewed_if r (charges t) left) (k c))
IsWithin r b (nest p q) = IsWithin r b p × IsWithin r b q
IsWithin r b (print bytes p) = IsWithin r b p
