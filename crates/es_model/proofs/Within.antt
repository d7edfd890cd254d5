-- Budgets: more is enough too, and each is below a new one.
use Rattle.std.proofs.Common.{ℕ, zero, suc, ◌<◌, ◌≤◌, Bool, true, false, cond, Result, Ok, Err, lit<, arith}
use Rattle.es_tree.specs.Tree.{Tree}
use Rattle.es_model.specs.declared.requests.Operation.{Operation}
use Rattle.es_model.specs.declared.requests.Operation.TheVariants as operation
use Rattle.es_model.specs.declared.requests.Request.{Request}
use Rattle.es_model.specs.declared.requests.Request.TheVariants.{GetOwn, Define, Has, Read, Write, Delete, Keys, Proto, SetProto, Extensible, Prevent, Call, Construct, Work, Print}
use Rattle.es_model.specs.Completions.{Completion}
use Rattle.es_model.specs.Program.{Program, done, look, change, charge, ask, part, nest, print, Task, Of, Evaluating, Statements, Round}
use Rattle.es_model.specs.Weights.{operation_weight, request_weight, weight, renewed, renewed_by, IsWithin}
use Rattle.es_model.specs.programs.Abrupt.{go_on}

pub within-cond : (r b : ℕ) (x : Bool) (p q : Program) → IsWithin r b p → IsWithin r b q → IsWithin r b (cond x p q)
within-cond r b true p q h h' = h
within-cond r b false p q h h' = h'

-- after a question, by one of the words of ReturnIfAbrupt
pub go_on-within : {A : Type 0} (r b : ℕ) (next : A → Program) (t : Result A Completion) → ((x : A) → IsWithin r b (next x)) → IsWithin r b (go_on next t)
go_on-within r b next (Ok x) h = h x
go_on-within r b next (Err c) h = tt

renewed-more : (r t b b' : ℕ) → b ≤ b' → renewed_by r t b ≤ renewed_by r t b'
renewed-more r zero b b' le = le
renewed-more r (suc t) b b' le = omega arith

-- what keeps within a budget keeps within a greater one
pub within-more : (r b b' : ℕ) (p : Program) → b ≤ b' → IsWithin r b p → IsWithin r b' p
within-more r b b' (done c) le h = tt
within-more r b b' (look f) le h = λ l. within-more r b b' (f l) le (h l)
within-more r b b' (change op p) le h = within-more r b b' p le h
within-more r b b' (charge t p) le h = within-more r (renewed_by r t b) (renewed_by r t b') p (renewed-more r t b b' le) h
within-more r b b' (ask q k) le (left, below, h) = (left, omega arith, h)
within-more r b b' (part t k) le (left, below, h) = (left, omega arith, h)
within-more r b b' (nest p q) le h = (within-more r b b' p le h.0, within-more r b b' q le h.1)
within-more r b b' (print bytes p) le h = within-more r b b' p le h

-- a charge gives this much, whatever the script
pub renewed-enough : (script : Tree) → 200 ≤ renewed script
unfolding renewed
renewed-enough script = omega arith

-- ---- a new budget is enough for every task

operation-below : (op : Operation) → operation_weight op < 200
operation-below operation.ToPrimitiveDefault = lit< tt
operation-below operation.ToPrimitiveNumber = lit< tt
operation-below operation.ToPrimitiveText = lit< tt
operation-below operation.ToText = lit< tt
operation-below operation.ToWhole = lit< tt
operation-below operation.ToKey = lit< tt
operation-below operation.ToWanted = lit< tt
operation-below operation.ListFromArrayLike = lit< tt
operation-below operation.KeysFromArrayLike = lit< tt
operation-below operation.InstanceOf = lit< tt
operation-below operation.OrdinaryHasInstance = lit< tt
operation-below operation.LooselyEqual = lit< tt
operation-below operation.LessThan = lit< tt

request-below : (q : Request) → request_weight q < 200
request-below (GetOwn o k) = lit< tt
request-below (Define o k wanted) = lit< tt
request-below (Has o k) = lit< tt
request-below (Read o k r site) = lit< tt
request-below (Write o k v r site) = lit< tt
request-below (Delete o k) = lit< tt
request-below (Keys o) = lit< tt
request-below (Proto o) = lit< tt
request-below (SetProto o p) = lit< tt
request-below (Extensible o) = lit< tt
request-below (Prevent o) = lit< tt
request-below (Call f this arguments) = lit< tt
request-below (Construct f arguments target) = lit< tt
request-below (Work op operands) = operation-below op
request-below (Print line) = lit< tt

weight-low : (t : Task) → weight t < 200
weight-low (Of q) = request-below q
weight-low (Evaluating body cells name n) = lit< tt
weight-low (Statements body cells list i) = lit< tt
weight-low (Round body cells n) = lit< tt

pub weight-below : (script : Tree) (t : Task) → weight t < renewed script
weight-below script t = let low = weight-low t in let enough = renewed-enough script in omega arith
