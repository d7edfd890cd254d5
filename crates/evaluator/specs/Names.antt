-- What a frame of evaluation keeps. Of a cell that a reference names only the name is kept: the cells of a running body are named once, beside its items.
use Rattle.std.specs.Prelude.{⊤, Option, Some, None, List, [], ◌∷◌, ◌++◌, map, flat_map, Result, Ok, Err}
use Rattle.std.specs.List.{AllByRecursion}
use Rattle.property_keys.specs.declared.values.Value.{Value}
use Rattle.es_tree.specs.declared.numbers.FunctionNo.{FunctionNo}
use Rattle.es_tree.specs.declared.numbers.SiteId.{SiteId}
use Rattle.es_tree.specs.Tree.{Tree, IsSite}
use Rattle.es_model.specs.declared.answers.Reply.TheVariants as reply
use Rattle.es_model.specs.declared.answers.Stop.{Stop}
use Rattle.es_model.specs.declared.answers.Turn.{Turn}
use Rattle.es_model.specs.declared.answers.Turn.TheVariants.{Ask, Done}
use Rattle.es_model.specs.declared.kinds.CellNo.{CellNo}
use Rattle.es_model.specs.declared.requests.Request.{Request}
use Rattle.es_model.specs.declared.requests.Request.TheVariants.{Read, Write}
use Rattle.es_model.specs.declared.running.Running.{Running}
use Rattle.property_keys.specs.declared.identifiers.ObjectId.{ObjectId}
use Rattle.es_model.specs.Belongs.{FrameName, NamesObject, NamesValue, NamesKey, NamesCompletion, NamesText, NamesCell, NamesFunction, NamesSite, NamesTop, HasNames}
use Rattle.es_model.specs.Completions.{Normal}
use Rattle.es_model.specs.Fits.{IsKnownCompletion}
use Rattle.es_model.specs.Kept.{AreCells, IsKnownRunning}
use Rattle.es_model.specs.World.{Lists}
use Rattle.evaluator.specs.declared.frames.Current.{Current}
use Rattle.evaluator.specs.declared.frames.Current.TheVariants.{At, EndedBy}
use Rattle.evaluator.specs.declared.frames.Construction.{Construction}
use Rattle.evaluator.specs.declared.frames.EvalFrame.{EvalFrame}
use Rattle.evaluator.specs.declared.frames.EvalFrame.TheVariants as frame
use Rattle.evaluator.specs.declared.frames.Next.{Next}
use Rattle.evaluator.specs.declared.frames.Next.TheVariants.{GoOn, Asks, Ends}
use Rattle.evaluator.specs.declared.frames.Pending.{Pending}
use Rattle.evaluator.specs.declared.items.AccessItem.{AccessItem}
use Rattle.evaluator.specs.declared.items.AccessItem.TheVariants as access
use Rattle.evaluator.specs.declared.items.Asked.{Asked}
use Rattle.evaluator.specs.declared.items.Asked.TheVariants as asked
use Rattle.evaluator.specs.declared.items.FlagAsked.{FlagAsked}
use Rattle.evaluator.specs.declared.items.FlagAsked.TheVariants as flag_asked
use Rattle.evaluator.specs.declared.items.Item.{Item}
use Rattle.evaluator.specs.declared.items.Item.TheVariants as item
use Rattle.evaluator.specs.declared.items.KeyAsked.{KeyAsked}
use Rattle.evaluator.specs.declared.items.KeyAsked.TheVariants as key_asked
use Rattle.evaluator.specs.declared.items.LiteralItem.{LiteralItem}
use Rattle.evaluator.specs.declared.items.LiteralItem.TheVariants as literal
use Rattle.evaluator.specs.declared.items.OperatorItem.{OperatorItem}
use Rattle.evaluator.specs.declared.items.OperatorItem.TheVariants as operator
use Rattle.evaluator.specs.declared.items.Plan.{Plan}
use Rattle.evaluator.specs.declared.items.Plan.TheVariants as plan
use Rattle.evaluator.specs.declared.items.Reading.{Reading}
use Rattle.evaluator.specs.declared.items.Reading.TheVariants as reading
use Rattle.evaluator.specs.declared.items.StatementItem.{StatementItem}
use Rattle.evaluator.specs.declared.items.StatementItem.TheVariants as statement
use Rattle.evaluator.specs.declared.items.ValueAsked.{ValueAsked}
use Rattle.evaluator.specs.declared.items.ValueAsked.TheVariants as value_asked
use Rattle.evaluator.specs.declared.references.Finish.{Finish}
use Rattle.evaluator.specs.declared.references.Finish.TheVariants as finish
use Rattle.evaluator.specs.declared.references.Invocation.{Invocation}
use Rattle.evaluator.specs.declared.references.Invocation.TheVariants as invocation
use Rattle.evaluator.specs.declared.references.Reference.{Reference}
use Rattle.evaluator.specs.declared.references.Reference.TheVariants as reference
use Rattle.evaluator.specs.Frames.{Waiting}
use Rattle.evaluator.specs.Plans.{ended}

-- ---- what waits

abbrev pub names_of_sites : Option SiteId → Option SiteId → List FrameName
names_of_sites None None = []
names_of_sites None (Some write) = NamesSite write ∷ []
names_of_sites (Some read) None = NamesSite read ∷ []
names_of_sites (Some read) (Some write) = NamesSite read ∷ NamesSite write ∷ []

abbrev pub names_of_reference : Reference → List FrameName
names_of_reference (reference.Cell name c constant) = NamesText name ∷ []
names_of_reference (reference.Global name k present) = NamesText name ∷ NamesKey k ∷ []
names_of_reference (reference.Arguments v) = NamesValue v ∷ []
names_of_reference (reference.Callee name v) = NamesText name ∷ NamesValue v ∷ []
names_of_reference (reference.Property base k read write) = NamesValue base ∷ NamesKey k ∷ names_of_sites read write

abbrev pub names_of_finish : Finish → List FrameName
names_of_finish finish.Give = []
names_of_finish (finish.Put r) = names_of_reference r

abbrev pub names_of_invocation : Invocation → List FrameName
names_of_invocation (invocation.Call f this) = NamesValue f ∷ NamesValue this ∷ []
names_of_invocation (invocation.Construct f) = NamesValue f ∷ []

abbrev pub names_of_reading : Reading → List FrameName
names_of_reading reading.Give = []
names_of_reading (reading.Callee n this) = NamesValue this ∷ []
names_of_reading reading.Typeof = []
names_of_reading (reading.Compound op x r) = names_of_reference r
names_of_reading (reading.Update increment prefix r) = names_of_reference r
names_of_reading (reading.Shorthand n next o k) = NamesObject o ∷ NamesKey k ∷ []

abbrev pub names_of_access : AccessItem → List FrameName
names_of_access (access.MemberBased k read write aim) = NamesKey k ∷ names_of_sites read write
names_of_access (access.IndexBased k read write aim) = names_of_sites read write
names_of_access (access.KeyValued base read write aim) = NamesValue base ∷ names_of_sites read write

abbrev pub names_of_operator : OperatorItem → List FrameName
names_of_operator (operator.RightValued op left) = NamesValue left ∷ []
names_of_operator (operator.AssignValued r) = names_of_reference r
names_of_operator (operator.CompoundValued op r left) = NamesValue left ∷ names_of_reference r
names_of_operator other = []

abbrev pub names_of_literal : LiteralItem → List FrameName
names_of_literal (literal.PropertyValued n next o k made) = NamesObject o ∷ NamesKey k ∷ []
names_of_literal (literal.KeyValued n at o) = NamesObject o ∷ []
names_of_literal (literal.ProtoValued n next o) = NamesObject o ∷ []
names_of_literal (literal.ElementValued n i a) = NamesObject a ∷ []

abbrev pub names_of_statement : StatementItem → List FrameName
names_of_statement (statement.LastEnded before) = NamesCompletion (ended before) ∷ []
names_of_statement other = []

abbrev pub names_of_item : Item → List FrameName
names_of_item (item.Read r) = names_of_reading r
names_of_item (item.Access i) = names_of_access i
names_of_item (item.Operator i) = names_of_operator i
names_of_item (item.Literal i) = names_of_literal i
names_of_item (item.Statement i) = names_of_statement i
names_of_item (item.Argument n next i given) = NamesCompletion (Normal (reply.List given)) ∷ names_of_invocation i
names_of_item (item.Constructor n) = []

-- ---- what was asked

abbrev pub names_of_value_asked : ValueAsked → List FrameName
names_of_value_asked (value_asked.Read r) = names_of_reading r
names_of_value_asked value_asked.MinusConverted = []
names_of_value_asked (value_asked.LeftPrimitive end right) = NamesValue right ∷ names_of_finish end
names_of_value_asked (value_asked.RightPrimitive end left) = NamesValue left ∷ names_of_finish end
names_of_value_asked (value_asked.LeftText end right) = NamesValue right ∷ names_of_finish end
names_of_value_asked (value_asked.RightText end left) = NamesValue left ∷ names_of_finish end
names_of_value_asked (value_asked.LeftNumber op end right) = NamesValue right ∷ names_of_finish end
names_of_value_asked (value_asked.RightNumber op end left) = NamesValue left ∷ names_of_finish end
names_of_value_asked (value_asked.UpdateConverted increment prefix r) = names_of_reference r

abbrev pub names_of_flag_asked : FlagAsked → List FrameName
names_of_flag_asked (flag_asked.Looked name k aim) = NamesText name ∷ NamesKey k ∷ []
names_of_flag_asked (flag_asked.LookedAgain name k r) = NamesText name ∷ NamesKey k ∷ names_of_reading r
names_of_flag_asked (flag_asked.PutLooked name k v given) = NamesText name ∷ NamesKey k ∷ NamesValue v ∷ NamesValue given ∷ []
names_of_flag_asked (flag_asked.PutAnswered given) = NamesValue given ∷ []
names_of_flag_asked flag_asked.DeleteAnswered = []
names_of_flag_asked flag_asked.FlagGiven = []
names_of_flag_asked flag_asked.FlagDenied = []
names_of_flag_asked (flag_asked.ReadLooked name k r) = NamesText name ∷ NamesKey k ∷ names_of_reading r
names_of_flag_asked (flag_asked.ProtoAnswered n next o) = NamesObject o ∷ []

abbrev pub names_of_key_asked : KeyAsked → List FrameName
names_of_key_asked (key_asked.KeyConverted base read write aim) = NamesValue base ∷ names_of_sites read write
names_of_key_asked (key_asked.InKeyed o) = NamesObject o ∷ []
names_of_key_asked (key_asked.PropertyKey n at o) = NamesObject o ∷ []

abbrev pub names_of_asked : Asked → List FrameName
names_of_asked (asked.Value i) = names_of_value_asked i
names_of_asked (asked.Flag i) = names_of_flag_asked i
names_of_asked (asked.Key i) = names_of_key_asked i

-- ---- a frame

abbrev pub optional_names : {A : Type 0} → (A → FrameName) → Option A → List FrameName
optional_names name None = []
optional_names name (Some x) = name x ∷ []

abbrev pub names_of_body : Running → List FrameName
names_of_body body =
    NamesTop ∷ NamesValue body.this ∷ (optional_names NamesFunction body.function
    ++ (optional_names NamesObject body.callee ++ (optional_names NamesObject body.arguments ++ optional_names NamesObject body.constructs)))

abbrev pub names_of_items : List Pending → List FrameName
names_of_items ps = flat_map (λ (p : Pending). names_of_item p.item) ps

abbrev pub names_of_waiting : Waiting → List FrameName
names_of_waiting f = names_of_body f.body ++ (map NamesCell f.cells ++ (names_of_items f.pending ++ names_of_asked f.asked))

abbrev pub names_of_construction : Construction → List FrameName
names_of_construction k =
    NamesTop ∷ NamesFunction k.function ∷ NamesObject k.callee ∷ NamesCompletion (Normal (reply.List k.arguments)) ∷ NamesObject k.target ∷ []

abbrev pub names_of : EvalFrame → List FrameName
names_of (frame.Body f) = names_of_waiting f
names_of (frame.Constructing k) = names_of_construction k

-- ---- what a plan keeps

-- the site that a request carries is one of the script's
abbrev pub HasSite : Tree → Request → Type 0
HasSite script (Read o k receiver site) = IsSite script site
HasSite script (Write o k v receiver site) = IsSite script site
HasSite script other = ⊤

-- what a plan lets wait is there, and the site of its request. It is opaque: what a function passes on of a callee's plan it does not look into
unfoldable pub NamesPlan : Tree → Lists → Result Plan Stop → Type 0
NamesPlan script l (Ok (plan.Wait j i)) = HasNames script l (names_of_item i)
NamesPlan script l (Ok (plan.Enter j i depth)) = HasNames script l (names_of_statement i)
NamesPlan script l (Ok (plan.Ask q i)) = HasSite script q × HasNames script l (names_of_asked i)
NamesPlan script l (Ok (plan.Last j)) = ⊤
NamesPlan script l (Ok (plan.Ends e)) = ⊤
NamesPlan script l (Err stop) = ⊤

-- the same of a property definition
unfoldable pub NamesDefined : Tree → Lists → Result (Option Plan) Stop → Type 0
NamesDefined script l (Ok (Some p)) = NamesPlan script l (Ok p)
NamesDefined script l (Ok None) = ⊤
NamesDefined script l (Err stop) = ⊤

-- ---- the machine

abbrev pub NamesItems : Tree → Lists → List Pending → Type 0
NamesItems script l ps = AllByRecursion (λ (p : Pending). HasNames script l (names_of_item p.item)) ps

-- a part that ended gave what is there
abbrev pub IsKnownCurrent : Lists → Current → Type 0
IsKnownCurrent l (At j) = ⊤
IsKnownCurrent l (EndedBy e) = IsKnownCompletion l (ended e)

abbrev pub NamesNext : Tree → Lists → List Pending → Result Next Stop → Type 0
NamesNext script l ps (Ok (GoOn now)) = NamesItems script l ps
NamesNext script l ps (Ok (Asks q i)) = HasSite script q × HasNames script l (names_of_asked i) × NamesItems script l ps
NamesNext script l ps (Ok (Ends c)) = ⊤
NamesNext script l ps (Err stop) = ⊤

-- a body, the cells that are in force, and the items that wait
pub record IsHereNamed (script : Tree) (l : Lists) (body : Running) (cells : List CellNo) (ps : List Pending) : Type 0 where
  pub running : IsKnownRunning script l body
  pub there : AreCells l cells
  pub items : NamesItems script l ps

-- the same behind a step
abbrev pub IsHereNext : Tree → Lists → Running → List CellNo → List Pending → Result Next Stop → Type 0
IsHereNext script l body cells ps r = IsKnownRunning script l body × AreCells l cells × NamesNext script l ps r

-- the frame of an Ask belongs, and the site of its request is there
abbrev pub NamesTurn : Tree → Lists → Result (Turn EvalFrame) Stop → Type 0
NamesTurn script l (Ok (Ask q f)) = HasSite script q × HasNames script l (names_of f)
NamesTurn script l (Ok (Done c)) = ⊤
NamesTurn script l (Err stop) = ⊤
