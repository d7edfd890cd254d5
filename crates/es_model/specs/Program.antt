-- Algorithms as programs, and what a program comes to. Each numbered algorithm of the standard is one program, in the standard's order.
use Rattle.std.specs.Prelude.{ℕ, zero, suc, List, Bool, Option, nat_le, nat_lt, if◌then◌else◌}
use Rattle.property_keys.specs.declared.identifiers.ObjectId.{ObjectId}
use Rattle.property_keys.specs.declared.identifiers.SymbolId.{SymbolId}
use Rattle.property_keys.specs.declared.identifiers.TextId.{TextId}
use Rattle.property_keys.specs.declared.keys.PropKey.{PropKey}
use Rattle.property_keys.specs.declared.values.Value.{Value}
use Rattle.descriptors.specs.declared.fields.Descriptor.{Descriptor}
use Rattle.es_tree.specs.declared.numbers.NodeId.{NodeId}
use Rattle.es_model.specs.declared.running.FunctionName.{FunctionName}
use Rattle.es_model.specs.declared.running.Part.{Part}
use Rattle.es_model.specs.declared.running.Running.{Running}
use Rattle.es_model.specs.declared.kinds.CellNo.{CellNo}
use Rattle.es_model.specs.declared.kinds.ObjectKind.{ObjectKind}
use Rattle.es_model.specs.declared.requests.Request.{Request}
use Rattle.es_model.specs.Completions.{Completion}
use Rattle.es_model.specs.Events.{Origin}
use Rattle.es_model.specs.World.{Lists, World, allows, deletes, new_object, new_cell, new_symbol, number_of}
use Rattle.es_model.specs.Changes.{Change, Defining, Deleting, Making, Interning, MakingCell, MakingSymbol, changed, charged, printed_more}

-- what is served
pub data Task : Type 0 where
  -- a request of an algorithm
  Of : Request → Task
  -- a node of a running body, with the cells of the names that are in force, and the name that an anonymous function gets there
  Evaluating : Running → List CellNo → Option FunctionName → NodeId → Task
  -- the statements of a part of the tree from a number on
  Statements : Running → List CellNo → Part → ℕ → Task
  -- a round of the loop that is this node
  Round : Running → List CellNo → NodeId → Task

-- an algorithm, up to the answers that it gets
pub data Program : Type 0 where
  done : Completion → Program
  -- reads the lists, and nothing else
  look : (Lists → Program) → Program
  -- changes the world
  change : Change → Program → Program
  -- takes so many turns, or halts
  charge : ℕ → Program → Program
  -- asks the dispatcher
  ask : Request → (Completion → Program) → Program
  -- goes on to a part of itself
  part : Task → (Completion → Program) → Program
  -- one nested call more where there is room, and else the other program
  nest : Program → Program → Program
  -- prints these bytes
  print : List ℕ → Program → Program

-- ---- changes that give something: the lists before say what

abbrev pub define : ObjectId → PropKey → Descriptor → (Bool → Program) → Program
define o k d next = look (λ l. change (Defining o k d) (next (allows l o k d)))

abbrev pub delete : ObjectId → PropKey → (Bool → Program) → Program
delete o k next = look (λ l. change (Deleting o k) (next (deletes l o k)))

abbrev pub make : ObjectKind → Origin → Option ObjectId → (ObjectId → Program) → Program
make kind origin p next = look (λ l. change (Making kind origin p) (next (new_object l)))

abbrev pub intern : List ℕ → (TextId → Program) → Program
intern text next = look (λ l. change (Interning text) (next (number_of l text)))

abbrev pub make_cell : Option Value → (CellNo → Program) → Program
make_cell v next = look (λ l. change (MakingCell v) (next (new_cell l)))

abbrev pub make_symbol : Option TextId → (SymbolId → Program) → Program
make_symbol d next = look (λ l. change (MakingSymbol d) (next (new_symbol l)))

-- ---- what a program comes to

-- a completion with the world after, or a halt with the world at the halt. The number is that of the requests and parts
pub data Outcome : Type 0 where
  Ended : Completion → World → ℕ → Outcome
  Halt : World → ℕ → Outcome

-- who serves, while so many calls are running
abbrev pub Server : Type 0
Server = ℕ → Task → World → Outcome

abbrev pub one_more : Outcome → Outcome
one_more (Ended c w n) = Ended c w (suc n)
one_more (Halt w n) = Halt w (suc n)

abbrev pub plus : ℕ → Outcome → Outcome
plus zero o = o
plus (suc n) o = one_more (plus n o)

-- what comes after an outcome, unless that is a halt
abbrev pub after : Outcome → (Completion → World → Outcome) → Outcome
after (Ended c w n) next = plus n (next c w)
after (Halt w n) next = Halt w n

-- so many calls may run at once
abbrev pub nested_limit : ℕ
nested_limit = 2000

-- what a program comes to: the server answers, and n calls are running
abbrev pub run : Server → Program → ℕ → World → Outcome
run S (done c) n w = Ended c w 0
run S (look f) n w = run S (f w.lists) n w
run S (change op p) n w = run S p n (changed op w)
run S (charge t p) n w = if nat_le t w.turns then run S p n (charged w t) else Halt w 0
run S (ask q k) n w = one_more (after (S n (Of q) w) (λ c w'. run S (k c) n w'))
run S (part t k) n w = one_more (after (S n t w) (λ c w'. run S (k c) n w'))
run S (nest p q) n w = if nat_lt n nested_limit then run S p (suc n) w else run S q n w
run S (print bytes p) n w = run S p n (printed_more w bytes)
