-- Statements keep worlds sound.
use Rattle.std.proofs.Common.{◌≡◌, ◌≤◌, ◌+◌, ℕ, ◌++◌, Option, Some, None, List, [], ◌∷◌, length, sym, ◌∙◌, arith}
use Rattle.std.specs.Prelude.{zero, suc}
use Rattle.std.proofs.lemmas.List.{length-append}
use Rattle.property_keys.specs.declared.values.Value.{Value}
use Rattle.property_keys.specs.declared.values.Value.TheVariants as value
use Rattle.es_tree.specs.declared.names.Binding.{Binding}
use Rattle.es_tree.specs.declared.names.Named.{Named}
use Rattle.es_tree.specs.declared.node.Node.{Node}
use Rattle.es_tree.specs.declared.node.Node.TheVariants as node
use Rattle.es_tree.specs.declared.numbers.NodeId.{NodeId}
use Rattle.es_tree.specs.declared.statements.Block.{Block}
use Rattle.es_tree.specs.declared.statements.Catch.{Catch}
use Rattle.es_tree.specs.declared.statements.Declared.{Declared}
use Rattle.es_tree.specs.declared.statements.Statement.{Statement}
use Rattle.es_tree.specs.declared.statements.Statement.TheVariants as statement
use Rattle.es_model.specs.declared.running.FunctionName.TheVariants as given_name
use Rattle.es_model.specs.declared.kinds.CellNo.{CellNo}
use Rattle.es_model.specs.declared.running.Part.{Part}
use Rattle.es_model.specs.declared.running.Part.TheVariants as part_of
use Rattle.es_model.specs.Completions.{Completion, Normal, Break, Continue, Return, Throw}
use Rattle.es_model.specs.World.{Lists, World, new_cell}
use Rattle.es_model.specs.Changes.{MakingCell, SettingCell, cell_made, changed}
use Rattle.es_model.specs.Program.{Program, Statements}
use Rattle.es_model.specs.Fits.{IsKnownCompletion}
use Rattle.es_model.specs.Known.{IsCell, IsKnown}
use Rattle.es_model.specs.Sound.{IsSound}
use Rattle.es_model.specs.Kept.{AreCells, IsKept, IsLater}
use Rattle.es_model.proofs.Keeping.{later_none, later_then}
use Rattle.es_model.proofs.SharedKept.{later-changed}
use Rattle.es_model.proofs.SoundChanges.{sound-cell, sound-cell_set}
use Rattle.es_model.proofs.SoundProperties.{all-append}
use Rattle.evaluator.specs.Contexts.{Context, node_at, with_cells}
use Rattle.evaluator.specs.Scopes.{bound_cell, enter_scope, enter_with, initialise, make_cells}
use Rattle.evaluator.specs.Statements.{after_statement, block_last, block_then, catch_in, catch_of, declare_all, declare_first, declared_valued, finally_in, finish_try, for_again, for_begun, for_first, for_round, for_step, for_stepped, for_valued, if_valued, last_ended, last_of, otherwise, return_statement, return_valued, round, round_of, statement_at, statement_program, statements, throw_valued, tried_ended, while_again, while_valued}
use Rattle.evaluator.proofs.OperatorsKept.{last-kept}
use Rattle.evaluator.proofs.WordsKept.{Keeps, kept-of, kept-whole, done-kept, look-kept, change-kept, task-kept, IsHere, OnEnd, Onward, cells-stay, completion-stays, evaluated-kept, here-stays, kept-if, onward-stays, running-stays, text-kept, value-kept}

-- ---- scopes

pub cell-there : (w : World) (x : Option Value) → IsCell (changed (MakingCell x) w).lists (new_cell w.lists)
unfolding changed cell_made
cell-there w x = let n = length-append w.lists.cells (x ∷ []) in omega arith

-- these cells, and a new one
pub cells-more : (w : World) (x : Option Value) (cells : List CellNo) → AreCells w.lists cells → AreCells (changed (MakingCell x) w).lists (cells ++ new_cell w.lists ∷ [])
cells-more w x cells h =
    let v : World = changed (MakingCell x) w in all-append (IsCell v.lists) cells (new_cell w.lists) (cell-there w x) (cells-stay w v (later-changed (MakingCell x) w) cells h)

more-cells : (w : World) (x : Option Value) → length (changed (MakingCell x) w).lists.cells ≡ length w.lists.cells + 1
unfolding changed cell_made
more-cells w x = length-append w.lists.cells (x ∷ [])

-- so many cells behind these, and the world has so many more
pub cells_kept : (P : Lists → Completion → Type 0) (w : World) (n : ℕ) (cells : List CellNo) (next : List CellNo → Program) → IsSound w → AreCells w.lists cells →
    ((all : List CellNo) (v : World) → IsSound v → IsLater w v → n + length w.lists.cells ≤ length v.lists.cells → AreCells v.lists all → IsKept P (next all) v) → IsKept P (make_cells n cells next) w
cells_kept P w zero cells next s h f = f cells w s (later_none w) (omega arith) h
cells_kept P w (suc n) cells next s h f =
    let v : World = changed (MakingCell None) w in
    let one = more-cells w None in
    cells_kept P v n (cells ++ new_cell w.lists ∷ []) next (sound-cell w None s tt) (cells-more w None cells h)
    (λ all u su l more there. f all u su (later_then w v u (later-changed (MakingCell None) w) l) (omega arith) there)

make_cells-kept : (w : World) (n : ℕ) (cells : List CellNo) (next : List CellNo → Program) → IsSound w → AreCells w.lists cells →
    ((all : List CellNo) (v : World) → IsSound v → IsLater w v → AreCells v.lists all → Keeps (next all) v) → Keeps (make_cells n cells next) w
make_cells-kept w n cells next s h f =
    kept-of (make_cells n cells next) w (cells_kept IsKnownCompletion w n cells next s h (λ all v sv l more there. kept-whole (next all) v (f all v sv l there)))

-- what goes on in an inner scope
abbrev pub OnScope : World → (Context → Program) → Type 0
OnScope w next = (inner : Context) (v : World) → IsSound v → IsLater w v → IsHere v inner → Keeps (next inner) v

pub scope-kept : (w : World) (here : Context) (names : ℕ) (next : Context → Program) → IsSound w → IsHere w here → OnScope w next → Keeps (enter_scope here names next) w
scope-kept w here names next s h f = make_cells-kept w names here.cells _ s h.1 (λ all v sv l there. f (with_cells here all) v sv l (running-stays w v l here.body h.0, there, h.2 ∙ sym l.script))

enter_with-kept : (w : World) (here : Context) (named : Option Named) (x : Value) (next : Context → Program) → IsSound w → IsHere w here → IsKnown w.lists x → OnScope w next → Keeps (enter_with here named x next) w
enter_with-kept w here None x next s h known f = f here w s (later_none w) h
enter_with-kept w here (Some named) x next s h known f =
    let v : World = changed (MakingCell (Some x)) w in
    let l : IsLater w v = later-changed (MakingCell (Some x)) w in
    look-kept w _ (change-kept w _ _ (f (with_cells here (here.cells ++ new_cell w.lists ∷ [])) v (sound-cell w (Some x) s known) l (running-stays w v l here.body h.0, cells-more w (Some x) here.cells h.1, h.2 ∙ sym l.script)))

initialise-kept : (w : World) (here : Context) (bound : Binding) (x : Value) (next : Program) → IsSound w → IsKnown w.lists x → Onward w next → Keeps (initialise here bound x next) w
initialise-kept w here bound x next s known f =
    change-kept w _ _ (f (changed (SettingCell (bound_cell here bound) x) w) (sound-cell_set w (bound_cell here bound) x s known) (later-changed (SettingCell (bound_cell here bound) x) w))

-- ---- statements one after another

statements-kept : (w : World) (here : Context) (list : Part) (i : ℕ) → IsSound w → IsHere w here → Keeps (statements here list i) w
statements-kept w here list i s h = task-kept w _ _ s (h.0, h.1) (λ c v sv l known. (done-kept v _ sv known))

pub after_statement-kept : (w : World) (here : Context) (list : Part) (i : ℕ) (c : Completion) → IsSound w → IsHere w here → IsKnownCompletion w.lists c → Keeps (after_statement here list i c) w
after_statement-kept w here list i (Normal reply) s h known = statements-kept w here list i s h
after_statement-kept w here list i Break s h known = done-kept w _ s tt
after_statement-kept w here list i Continue s h known = done-kept w _ s tt
after_statement-kept w here list i (Return x) s h known = done-kept w _ s known
after_statement-kept w here list i (Throw x) s h known = done-kept w _ s known

pub statement_at-kept : (w : World) (here : Context) (list : Part) (i : ℕ) (found : Option NodeId) → IsSound w → IsHere w here → Keeps (statement_at here list i found) w
statement_at-kept w here list i None s h = done-kept w _ s tt
statement_at-kept w here list i (Some n) s h = evaluated-kept w here None n (after_statement here list (suc i)) s h tt (λ c v sv l known. after_statement-kept v here list (suc i) c sv (here-stays w v l here h) known)

block_then-kept : (w : World) (here : Context) (block : Block) (list : Part) (next : Completion → Program) → IsSound w → IsHere w here → OnEnd w next → Keeps (block_then here block list next) w
block_then-kept w here block list next s h f = scope-kept w here block.names _ s h (λ inner v sv l there. task-kept v (Statements inner.body inner.cells list zero) _ sv (there.0, there.1) (λ c u su later known. f c u su (later_then w v u l later) known))

block_last-kept : (w : World) (here : Context) (block : Block) (list : Part) → IsSound w → IsHere w here → Keeps (block_last here block list) w
block_last-kept w here block list s h = scope-kept w here block.names _ s h (λ inner v sv l there. statements-kept v inner list zero sv there)

-- ---- let and const

declare_first-kept : (w : World) (here : Context) (d : Declared) (n : Option NodeId) (next : Program) → IsSound w → IsHere w here → Onward w next → Keeps (declare_first here d n next) w
declare_first-kept w here d None next s h f = initialise-kept w here d.named.binding value.Undefined next s tt f
declare_first-kept w here d (Some n) next s h f = text-kept w d.named.name _ s (λ name v sv l known.
    evaluated-kept v here (Some (given_name.Text name)) n _ sv (here-stays w v l here h) known (λ c u su later k.
    value-kept u _ c su k (λ x there. initialise-kept u here d.named.binding x next su there (onward-stays w u (later_then w v u l later) next f))))

pub declare_all-kept : (w : World) (here : Context) (ds : List Declared) → IsSound w → IsHere w here → Keeps (declare_all here ds) w
declare_all-kept w here [] s h = done-kept w _ s tt
declare_all-kept w here (d ∷ ds) s h = declare_first-kept w here d d.value (declare_all here ds) s h (λ v sv l. declare_all-kept v here ds sv (here-stays w v l here h))

pub declared_valued-kept : (w : World) (here : Context) (ds : List Declared) (c : Completion) → IsSound w → IsHere w here → IsKnownCompletion w.lists c → Keeps (declared_valued here ds c) w
declared_valued-kept w here [] c s h known = done-kept w _ s tt
declared_valued-kept w here (d ∷ ds) c s h known = value-kept w _ c s known (λ x there.
    initialise-kept w here d.named.binding x (declare_all here ds) s there (λ v sv l. declare_all-kept v here ds sv (here-stays w v l here h)))

-- ---- if

otherwise-kept : (w : World) (here : Context) (other : Option NodeId) → IsSound w → IsHere w here → Keeps (otherwise here other) w
otherwise-kept w here None s h = done-kept w _ s tt
otherwise-kept w here (Some n) s h = last-kept w here n s h

pub if_valued-kept : (w : World) (here : Context) (first : NodeId) (other : Option NodeId) → IsHere w here → OnEnd w (if_valued here first other)
if_valued-kept w here first other h = λ c v sv l known. value-kept v _ c sv known (λ x k.
    look-kept v _ (kept-if v _ _ _ (last-kept v here first sv (here-stays w v l here h)) (otherwise-kept v here other sv (here-stays w v l here h))))

-- ---- loops

round-again : (w : World) (here : Context) (n : NodeId) → IsSound w → IsHere w here → Keeps (round here n) w
round-again w here n s h = task-kept w _ _ s (h.0, h.1) (λ c v sv l known. (done-kept v _ sv known))

while_again-here : (w : World) (here : Context) (n : NodeId) (c : Completion) → IsSound w → IsHere w here → IsKnownCompletion w.lists c → Keeps (while_again here n c) w
while_again-here w here n (Normal reply) s h known = round-again w here n s h
while_again-here w here n Continue s h known = round-again w here n s h
while_again-here w here n Break s h known = done-kept w _ s tt
while_again-here w here n (Return x) s h known = done-kept w _ s known
while_again-here w here n (Throw x) s h known = done-kept w _ s known

pub while_again-kept : (w : World) (here : Context) (n : NodeId) → IsHere w here → OnEnd w (while_again here n)
while_again-kept w here n h = λ c v sv l known. while_again-here v here n c sv (here-stays w v l here h) known

pub while_valued-kept : (w : World) (here : Context) (n body : NodeId) → IsHere w here → OnEnd w (while_valued here n body)
while_valued-kept w here n body h = λ c v sv l known. value-kept v _ c sv known (λ x k.
    look-kept v _ (kept-if v _ _ _ (evaluated-kept v here None body (while_again here n) sv (here-stays w v l here h) tt (while_again-kept v here n (here-stays w v l here h))) (done-kept v _ sv tt)))

pub for_stepped-kept : (w : World) (here : Context) (n : NodeId) → IsHere w here → OnEnd w (for_stepped here n)
for_stepped-kept w here n h = λ c v sv l known. value-kept v _ c sv known (λ x k. round-again v here n sv (here-stays w v l here h))

for_step-kept : (w : World) (here : Context) (n : NodeId) (step : Option NodeId) → IsSound w → IsHere w here → Keeps (for_step here n step) w
for_step-kept w here n None s h = round-again w here n s h
for_step-kept w here n (Some step) s h = evaluated-kept w here None step (for_stepped here n) s h tt (for_stepped-kept w here n h)

for_again-here : (w : World) (here : Context) (n : NodeId) (step : Option NodeId) (c : Completion) → IsSound w → IsHere w here → IsKnownCompletion w.lists c → Keeps (for_again here n step c) w
for_again-here w here n step (Normal reply) s h known = for_step-kept w here n step s h
for_again-here w here n step Continue s h known = for_step-kept w here n step s h
for_again-here w here n step Break s h known = done-kept w _ s tt
for_again-here w here n step (Return x) s h known = done-kept w _ s known
for_again-here w here n step (Throw x) s h known = done-kept w _ s known

pub for_again-kept : (w : World) (here : Context) (n : NodeId) (step : Option NodeId) → IsHere w here → OnEnd w (for_again here n step)
for_again-kept w here n step h = λ c v sv l known. for_again-here v here n step c sv (here-stays w v l here h) known

pub for_valued-kept : (w : World) (here : Context) (n : NodeId) (step : Option NodeId) (body : NodeId) → IsHere w here → OnEnd w (for_valued here n step body)
for_valued-kept w here n step body h = λ c v sv l known. value-kept v _ c sv known (λ x k.
    look-kept v _ (kept-if v _ _ _ (evaluated-kept v here None body (for_again here n step) sv (here-stays w v l here h) tt (for_again-kept v here n step (here-stays w v l here h))) (done-kept v _ sv tt)))

for_round-kept : (w : World) (here : Context) (n : NodeId) (test step : Option NodeId) (body : NodeId) → IsSound w → IsHere w here → Keeps (for_round here n test step body) w
for_round-kept w here n None step body s h = evaluated-kept w here None body (for_again here n step) s h tt (for_again-kept w here n step h)
for_round-kept w here n (Some test) step body s h = evaluated-kept w here None test (for_valued here n step body) s h tt (for_valued-kept w here n step body h)

pub round_of-kept : (w : World) (here : Context) (n : NodeId) (found : Option Node) → IsSound w → IsHere w here → Keeps (round_of here n found) w
round_of-kept w here n (Some (node.Statement (statement.While test body))) s h = evaluated-kept w here None test (while_valued here n body) s h tt (while_valued-kept w here n body h)
round_of-kept w here n (Some (node.Statement (statement.For names first test step body))) s h = for_round-kept w here n test step body s h
round_of-kept w here n other s h = done-kept w _ s tt

for_begun-here : (w : World) (here : Context) (n : NodeId) (c : Completion) → IsSound w → IsHere w here → IsKnownCompletion w.lists c → Keeps (for_begun here n c) w
for_begun-here w here n (Normal reply) s h known = round-again w here n s h
for_begun-here w here n Break s h known = done-kept w _ s tt
for_begun-here w here n Continue s h known = done-kept w _ s tt
for_begun-here w here n (Return x) s h known = done-kept w _ s known
for_begun-here w here n (Throw x) s h known = done-kept w _ s known

pub for_begun-kept : (w : World) (here : Context) (n : NodeId) → IsHere w here → OnEnd w (for_begun here n)
for_begun-kept w here n h = λ c v sv l known. for_begun-here v here n c sv (here-stays w v l here h) known

for_first-kept : (w : World) (here : Context) (n : NodeId) (first : Option NodeId) → IsSound w → IsHere w here → Keeps (for_first here n first) w
for_first-kept w here n None s h = round-again w here n s h
for_first-kept w here n (Some first) s h = evaluated-kept w here None first (for_begun here n) s h tt (for_begun-kept w here n h)

-- ---- return, throw and try

pub return_valued-kept : (w : World) → OnEnd w return_valued
return_valued-kept w = λ c v sv l known. value-kept v _ c sv known (λ x k. (done-kept v _ sv k))

return-kept : (w : World) (here : Context) (n : Option NodeId) → IsSound w → IsHere w here → Keeps (return_statement here n) w
return-kept w here None s h = done-kept w _ s tt
return-kept w here (Some n) s h = evaluated-kept w here None n return_valued s h tt (return_valued-kept w)

pub throw_valued-kept : (w : World) → OnEnd w throw_valued
throw_valued-kept w = λ c v sv l known. value-kept v _ c sv known (λ x k. (done-kept v _ sv k))

last_ended-here : (w : World) (before c : Completion) → IsSound w → IsKnownCompletion w.lists before → IsKnownCompletion w.lists c → Keeps (last_ended before c) w
last_ended-here w before (Normal reply) s h known = done-kept w _ s h
last_ended-here w before Break s h known = done-kept w _ s tt
last_ended-here w before Continue s h known = done-kept w _ s tt
last_ended-here w before (Return x) s h known = done-kept w _ s known
last_ended-here w before (Throw x) s h known = done-kept w _ s known

pub last_ended-kept : (w : World) (before : Completion) → IsKnownCompletion w.lists before → OnEnd w (last_ended before)
last_ended-kept w before h = λ c v sv l known. last_ended-here v before c sv (completion-stays w v l before h) known

last_of-kept : (w : World) (here : Context) (n : NodeId) (finally : Option Block) (before : Completion) → IsSound w → IsHere w here → IsKnownCompletion w.lists before → Keeps (last_of here n finally before) w
last_of-kept w here n None before s h known = done-kept w _ s known
last_of-kept w here n (Some block) before s h known = block_then-kept w here block (part_of.Finally n) (last_ended before) s h (last_ended-kept w before known)

pub finish_try-kept : (w : World) (here : Context) (n : NodeId) → IsHere w here → OnEnd w (finish_try here n)
finish_try-kept w here n h = λ c v sv l known. last_of-kept v here n (finally_in (node_at here n)) c sv (here-stays w v l here h) known

catch_of-kept : (w : World) (here : Context) (n : NodeId) (catch : Option Catch) (thrown : Value) → IsSound w → IsHere w here → IsKnown w.lists thrown → Keeps (catch_of here n catch thrown) w
catch_of-kept w here n None thrown s h known = finish_try-kept w here n h (Throw thrown) w s (later_none w) known
catch_of-kept w here n (Some catch) thrown s h known = enter_with-kept w here catch.parameter thrown _ s h known (λ inner v sv l there.
    block_then-kept v inner catch.block (part_of.Caught n) (finish_try here n) sv there (finish_try-kept v here n (here-stays w v l here h)))

tried_ended-here : (w : World) (here : Context) (n : NodeId) (c : Completion) → IsSound w → IsHere w here → IsKnownCompletion w.lists c → Keeps (tried_ended here n c) w
tried_ended-here w here n (Throw thrown) s h known = catch_of-kept w here n (catch_in (node_at here n)) thrown s h known
tried_ended-here w here n (Normal reply) s h known = finish_try-kept w here n h (Normal reply) w s (later_none w) known
tried_ended-here w here n Break s h known = finish_try-kept w here n h Break w s (later_none w) known
tried_ended-here w here n Continue s h known = finish_try-kept w here n h Continue w s (later_none w) known
tried_ended-here w here n (Return x) s h known = finish_try-kept w here n h (Return x) w s (later_none w) known

pub tried_ended-kept : (w : World) (here : Context) (n : NodeId) → IsHere w here → OnEnd w (tried_ended here n)
tried_ended-kept w here n h = λ c v sv l known. tried_ended-here v here n c sv (here-stays w v l here h) known

-- ---- each statement

pub statement-kept : (w : World) (here : Context) (n : NodeId) (p : Statement) → IsSound w → IsHere w here → Keeps (statement_program here n p) w
statement-kept w here n (statement.Block block) s h = block_last-kept w here block (part_of.Block n) s h
statement-kept w here n (statement.Lexical constant names) s h = declare_all-kept w here names s h
statement-kept w here n statement.Empty s h = done-kept w _ s tt
statement-kept w here n (statement.Expression child) s h = last-kept w here child s h
statement-kept w here n (statement.If test first other) s h = evaluated-kept w here None test (if_valued here first other) s h tt (if_valued-kept w here first other h)
statement-kept w here n (statement.While test body) s h = round-again w here n s h
statement-kept w here n (statement.For names first test step body) s h = scope-kept w here names _ s h (λ inner v sv l there. for_first-kept v inner n first sv there)
statement-kept w here n statement.Break s h = done-kept w _ s tt
statement-kept w here n statement.Continue s h = done-kept w _ s tt
statement-kept w here n (statement.Return v) s h = return-kept w here v s h
statement-kept w here n (statement.Throw v) s h = evaluated-kept w here None v throw_valued s h tt (throw_valued-kept w)
statement-kept w here n (statement.Try block catch finally) s h = block_then-kept w here block (part_of.Tried n) (tried_ended here n) s h (tried_ended-kept w here n h)
