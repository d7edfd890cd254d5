-- What goes on after a question, a part or one of the words of evaluation keeps within its budget.
use Rattle.std.proofs.Common.{arith, cond, ℕ, ℤ, ◌+◌, ◌<◌, ◌≤◌, ◌++◌, Bool, Option, Some, None, List, length}
use Rattle.std.specs.Prelude.{nat_le}
use Rattle.property_keys.specs.declared.identifiers.TextId.{TextId}
use Rattle.property_keys.specs.declared.keys.PropKey.{PropKey}
use Rattle.property_keys.specs.declared.values.Value.{Value}
use Rattle.property_keys.specs.Limits.{most_units}
use Rattle.es_tree.specs.declared.numbers.NodeId.{NodeId}
use Rattle.es_model.specs.declared.kinds.ErrorKind.{ErrorKind}
use Rattle.es_model.specs.declared.requests.Request.{Request}
use Rattle.es_model.specs.declared.kinds.ErrorKind.TheVariants as error
use Rattle.es_model.specs.Completions.{Completion, Throw}
use Rattle.es_model.specs.World.{Lists, number_of, units_of}
use Rattle.es_model.specs.Changes.{Change}
use Rattle.es_model.specs.Program.{Program, Evaluating, Round, Statements, Task, ask, change, charge, done, intern, look, part}
use Rattle.es_model.specs.Weights.{request_weight, weight, IsWithin}
use Rattle.es_model.specs.programs.Abrupt.{flag_in, key_in, value_in, taken, then_flag, then_key, then_value}
use Rattle.es_model.specs.programs.Converting.{to_number}
use Rattle.es_model.specs.programs.Errors.{make_error, throw_error}
use Rattle.es_model.specs.programs.Texts.{to_string}
use Rattle.es_model.proofs.SharedWithin.{error-within}
use Rattle.es_model.proofs.Within.{go_on-within, within-cond, within-more}
use Rattle.es_model.specs.declared.kinds.CellNo.{CellNo}
use Rattle.es_model.specs.declared.running.FunctionName.{FunctionName}
use Rattle.es_model.specs.declared.running.Part.{Part}
use Rattle.es_model.specs.declared.running.Running.{Running}
use Rattle.property_keys.specs.declared.values.Value.TheVariants as value
use Rattle.evaluator.specs.Contexts.{Context, evaluate_last, evaluate_named, normal}
use Rattle.evaluator.specs.Errors.{join, make_text, text_too_long, throw_named}
use Rattle.evaluator.specs.Operators.{to_primitive}
use Rattle.evaluator.specs.Statements.{round, statements}
use Rattle.evaluator.specs.Values.{key_of_text, or_out, with_key}

-- It does not unfold, so that a program is found from what is to be proved of it.
pub Within : ℕ → ℕ → Program → Type 0
Within r b p = IsWithin r b p

pub within-whole : (r b : ℕ) (p : Program) → Within r b p → IsWithin r b p
unfolding Within
within-whole r b p h = h

pub within-of : (r b : ℕ) (p : Program) → IsWithin r b p → Within r b p
unfolding Within
within-of r b p h = h

-- what goes on from every completion
abbrev pub On : ℕ → ℕ → (Completion → Program) → Type 0
On r b next = (c : Completion) → Within r b (next c)

-- ---- each form of a program

pub done-within : (r b : ℕ) (c : Completion) → Within r b (done c)
unfolding Within
done-within r b c = tt

pub look-within : (r b : ℕ) (f : Lists → Program) → ((l : Lists) → Within r b (f l)) → Within r b (look f)
unfolding Within
look-within r b f h = λ l. h l

pub change-within : (r b : ℕ) (op : Change) (p : Program) → Within r b p → Within r b (change op p)
unfolding Within
change-within r b op p h = h

pub charged-within : (r b : ℕ) (p : Program) → Within r r p → Within r b (charge 1 p)
unfolding Within
charged-within r b p h = h

pub asked-within : (r b left : ℕ) (q : Request) (next : Completion → Program) → request_weight q + left < b → On r left next → Within r b (ask q next)
unfolding Within
asked-within r b left q next less h = (left, less, h)

-- a node takes a turn, so whatever is left before
pub evaluated-within : (r b : ℕ) (here : Context) (name : Option FunctionName) (n : NodeId) (next : Completion → Program) → 1 ≤ b → On r r next → Within r b (evaluate_named here name n next)
unfolding Within
evaluated-within r b here name n next some h = (0, some, h)

pub listed-within : (r b left : ℕ) (body : Running) (cells : List CellNo) (list : Part) (i : ℕ) (next : Completion → Program) → left + 2 ≤ b → On r left next → Within r b (part (Statements body cells list i) next)
unfolding Within
listed-within r b left body cells list i next some h = (left, omega arith, h)

-- a part whose end is the end
last-within : (r b : ℕ) (t : Task) → weight t + 0 < b → Within r b (part t done)
unfolding Within
last-within r b t less = (0, less, λ c. tt)

pub last_node-within : (r b : ℕ) (here : Context) (n : NodeId) → 1 ≤ b → Within r b (evaluate_last here n)
last_node-within r b here n some = last-within r b (Evaluating here.body here.cells None n) some

pub last_list-within : (r b : ℕ) (here : Context) (list : Part) (i : ℕ) → 2 ≤ b → Within r b (statements here list i)
last_list-within r b here list i some = last-within r b (Statements here.body here.cells list i) some

pub last_round-within : (r b : ℕ) (here : Context) (n : NodeId) → 2 ≤ b → Within r b (round here n)
last_round-within r b here n some = last-within r b (Round here.body here.cells n) some

pub more-within : (r b b' : ℕ) (p : Program) → b ≤ b' → Within r b p → Within r b' p
unfolding Within
more-within r b b' p le h = within-more r b b' p le h

pub cond-within : (r b : ℕ) (x : Bool) (p q : Program) → Within r b p → Within r b q → Within r b (cond x p q)
unfolding Within
cond-within r b x p q h h' = within-cond r b x p q h h'

-- ---- ReturnIfAbrupt

pub value-within : (r b : ℕ) (next : Value → Program) (c : Completion) → ((v : Value) → Within r b (next v)) → Within r b (then_value next c)
unfolding Within
value-within r b next c h = go_on-within r b next (taken value_in c) h

pub flag-within : (r b : ℕ) (next : Bool → Program) (c : Completion) → ((x : Bool) → Within r b (next x)) → Within r b (then_flag next c)
unfolding Within
flag-within r b next c h = go_on-within r b next (taken flag_in c) h

pub key-within : (r b : ℕ) (next : PropKey → Program) (c : Completion) → ((k : PropKey) → Within r b (next k)) → Within r b (then_key next c)
unfolding Within
key-within r b next c h = go_on-within r b next (taken key_in c) h

-- ---- errors, texts, keys and numbers

pub error_thrown : (r b : ℕ) (k : ErrorKind) (text : List ℕ) → Within r b (throw_error k text)
unfolding Within
error_thrown r b k text = error-within r b k text

-- an error with a text that is there
made_thrown : (r b : ℕ) (k : ErrorKind) (t : TextId) → Within r b (make_error k t (λ o. done (Throw (value.Object o))))
unfolding Within
made_thrown r b k t = λ l m n. tt

pub interned-within : (r b : ℕ) (units : List ℕ) (next : TextId → Program) → ((t : TextId) → Within r b (next t)) → Within r b (intern units next)
unfolding Within
interned-within r b units next h = λ l. h (number_of l units)

pub text-within : (r b : ℕ) (units : List ℕ) (next : TextId → Program) → ((t : TextId) → Within r b (next t)) → Within r b (make_text units next)
text-within r b units next h = cond-within r b (nat_le (length units) most_units) (intern units next) text_too_long (interned-within r b units next h) (error_thrown _ _ error.RangeError _)

pub join-within : (r b : ℕ) (a c : TextId) (next : TextId → Program) → ((t : TextId) → Within r b (next t)) → Within r b (join a c next)
join-within r b a c next h = look-within _ _ _ (λ l.
    cond-within r b (nat_le (length (units_of l a) + length (units_of l c)) most_units) (intern (units_of l a ++ units_of l c) next) text_too_long
    (interned-within r b (units_of l a ++ units_of l c) next h) (error_thrown _ _ error.RangeError _))

pub named_error-within : (r b : ℕ) (kind : ErrorKind) (ending : List ℕ) (name : TextId) → Within r b (throw_named kind ending name)
named_error-within r b kind ending name = interned-within r b ending _ (λ e. join-within r b name e _ (λ t. made_thrown r b kind t))

pub with_key-within : (r b : ℕ) (units : List ℕ) (next : PropKey → Program) → ((k : PropKey) → Within r b (next k)) → Within r b (with_key units next)
with_key-within r b units next h = text-within r b units _ (λ t. look-within _ _ _ (λ l. h (key_of_text l t)))

pub or_out-within : (r b : ℕ) (n : Option ℤ) (next : ℤ → Program) → ((m : ℤ) → Within r b (next m)) → Within r b (or_out n next)
or_out-within r b None next h = error_thrown _ _ error.RangeError _
or_out-within r b (Some n) next h = h n

-- ---- conversions, which ask where there is something to convert

pub number-within : (r b left : ℕ) (v : Value) (next : Completion → Program) → left + 13 ≤ b → On r left next → Within r b (to_number v next)
number-within r b left (value.Whole n) next some h = more-within r left b _ (omega arith) (h (normal (value.Whole n)))
number-within r b left value.Undefined next some h = asked-within _ _ left _ _ (omega arith) h
number-within r b left value.Null next some h = asked-within _ _ left _ _ (omega arith) h
number-within r b left (value.Bool x) next some h = asked-within _ _ left _ _ (omega arith) h
number-within r b left (value.Text t) next some h = asked-within _ _ left _ _ (omega arith) h
number-within r b left (value.Symbol y) next some h = asked-within _ _ left _ _ (omega arith) h
number-within r b left (value.Object o) next some h = asked-within _ _ left _ _ (omega arith) h

pub string-within : (r b left : ℕ) (v : Value) (next : Completion → Program) → left + 13 ≤ b → On r left next → Within r b (to_string v next)
string-within r b left (value.Text t) next some h = more-within r left b _ (omega arith) (h (normal (value.Text t)))
string-within r b left value.Undefined next some h = asked-within _ _ left _ _ (omega arith) h
string-within r b left value.Null next some h = asked-within _ _ left _ _ (omega arith) h
string-within r b left (value.Bool x) next some h = asked-within _ _ left _ _ (omega arith) h
string-within r b left (value.Whole n) next some h = asked-within _ _ left _ _ (omega arith) h
string-within r b left (value.Symbol y) next some h = asked-within _ _ left _ _ (omega arith) h
string-within r b left (value.Object o) next some h = asked-within _ _ left _ _ (omega arith) h

pub primitive-within : (r b left : ℕ) (v : Value) (next : Completion → Program) → left + 11 ≤ b → On r left next → Within r b (to_primitive v next)
primitive-within r b left (value.Object o) next some h = asked-within _ _ left _ _ (omega arith) h
primitive-within r b left value.Undefined next some h = more-within r left b _ (omega arith) (h (normal value.Undefined))
primitive-within r b left value.Null next some h = more-within r left b _ (omega arith) (h (normal value.Null))
primitive-within r b left (value.Bool x) next some h = more-within r left b _ (omega arith) (h (normal (value.Bool x)))
primitive-within r b left (value.Whole n) next some h = more-within r left b _ (omega arith) (h (normal (value.Whole n)))
primitive-within r b left (value.Text t) next some h = more-within r left b _ (omega arith) (h (normal (value.Text t)))
primitive-within r b left (value.Symbol y) next some h = more-within r left b _ (omega arith) (h (normal (value.Symbol y)))
