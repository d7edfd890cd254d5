-- What the machine has read, and what may follow.
use Rattle.std.specs.Prelude.{suc, zero, ◌≡◌, ℕ, Bool, true, false, Some, List, [], ◌∷◌, ◌++◌}
use Rattle.script_grammar.specs.declared.sign.Sign.{Sign}
use Rattle.script_grammar.specs.declared.sign.Sign.TheVariants.{Token as of}
use Rattle.script_grammar.specs.declared.kinds.NameRole.{NameRole}
use Rattle.script_grammar.specs.declared.kinds.Word.TheVariants as words
use Rattle.script_grammar.specs.declared.kinds.Bracket.TheVariants as brackets
use Rattle.script_grammar.specs.declared.kinds.Mark.TheVariants as marks
use Rattle.script_grammar.specs.declared.kinds.Kind.{Kind}
use Rattle.script_grammar.specs.declared.kinds.Kind.TheVariants as kinds
use Rattle.script_grammar.specs.declared.labels.Atom.TheVariants as atom
use Rattle.script_grammar.specs.declared.labels.Wrap.TheVariants as wrap
use Rattle.script_grammar.specs.declared.labels.Pair.TheVariants as pair
use Rattle.script_grammar.specs.declared.labels.Triple.TheVariants as triple
use Rattle.script_grammar.specs.declared.symbol.Terminal.TheVariants as terminals
use Rattle.script_grammar.specs.declared.symbol.Listing.{Listing}
use Rattle.script_grammar.specs.declared.symbol.Listing.TheVariants as listings
use Rattle.script_grammar.specs.declared.symbol.Expected.{Expected}
use Rattle.script_grammar.specs.declared.symbol.Expected.TheVariants as expectation
use Rattle.script_grammar.specs.declared.symbol.Tail.{Tail}
use Rattle.script_grammar.specs.declared.symbol.Tail.TheVariants as tails
use Rattle.script_grammar.specs.declared.symbol.Loose.{Loose}
use Rattle.script_grammar.specs.declared.symbol.Loose.TheVariants as loose_kind
use Rattle.script_grammar.specs.declared.symbol.Stage.{Stage}
use Rattle.script_grammar.specs.declared.symbol.Stage.TheVariants as stages
use Rattle.script_grammar.specs.declared.symbol.Symbol.{Symbol}
use Rattle.script_grammar.specs.declared.symbol.Symbol.TheVariants as symbols
use Rattle.script_grammar.specs.Tree.{ParseTree, is_target}
use Rattle.script_grammar.specs.Tree.{ParseTree as parse_tree}
use Rattle.script_grammar.specs.Kinds.{is_word}
use Rattle.script_grammar.specs.Grammar.{Read, read, word, bracket, mark, Spells, NoElse, NoFinally, NoMore, SameLine, is_end, operand, nothing, Plain}
use Rattle.script_grammar.specs.Grammar.{Nonterminal as nonterminal}
use Rattle.script_grammar.specs.Machine.{Outcome, Fail, Next, fits, closing}
use Rattle.script_grammar.specs.Trees.{act, step, finish}

-- What comes behind the word or the point that names it. e is the tree of the whole.

-- behind `new`
pub data NewEnd (i d : ℕ) : ParseTree → List Read → List Read → Type 0 where
  bare : {l : ParseTree} {ts rs : List Read} → Spells nonterminal.callee d l ts rs → NoMore rs → NewEnd i d (parse_tree.Pair (pair.New i) l nothing) ts rs
  given : {l xs : ParseTree} {ts ms rs : List Read}
      → Spells nonterminal.callee d l ts ms
      → Spells nonterminal.args d xs ms rs
      → NewEnd i d (parse_tree.Pair (pair.New i) l xs) ts rs

-- behind `throw`
pub data ThrowEnd (i d : ℕ) : ParseTree → List Read → List Read → Type 0 where
  thrown : {e : ParseTree} {ts rs : List Read} {x : Sign}
      → SameLine ts
      → Spells (nonterminal.expr false) d e ts (read x d ∷ rs)
      → is_end false x ≡ true
      → ThrowEnd i d (parse_tree.Wrap (wrap.Throw i) e) ts rs

-- behind the block of a `try`
pub data TryEnd (i d : ℕ) (x : ParseTree) : ParseTree → List Read → List Read → Type 0 where
  caught : {y : ParseTree} {ts rs : List Read}
      → Spells nonterminal.catch d y ts rs
      → NoFinally rs
      → TryEnd i d x (parse_tree.Triple (triple.Try i) x y nothing) ts rs
  both : {j : ℕ} {y z : ParseTree} {ts us rs : List Read} {c : Bool}
      → Spells nonterminal.catch d y ts (word words.Finally j c d ∷ us)
      → Spells nonterminal.block d z us rs
      → TryEnd i d x (parse_tree.Triple (triple.Try i) x y z) ts rs
  lastly : {j : ℕ} {z : ParseTree} {us rs : List Read} {c : Bool}
      → Spells nonterminal.block d z us rs
      → TryEnd i d x (parse_tree.Triple (triple.Try i) x nothing z) (word words.Finally j c d ∷ us) rs

-- behind the `function` of a declaration, and of an expression
pub data DeclaredEnd (i d : ℕ) : ParseTree → List Read → List Read → Type 0 where
  declared : {j : ℕ} {r : NameRole} {ps xs : ParseTree} {ts ms rs : List Read} {c : Bool}
      → Spells nonterminal.params d ps ts ms
      → Spells nonterminal.body d xs ms rs
      → DeclaredEnd i d (parse_tree.Pair (pair.DeclaredFunction i j) ps xs) (read (of (kinds.Name r) j c) d ∷ ts) rs

pub data FunctionEnd (i d : ℕ) : ParseTree → List Read → List Read → Type 0 where
  unnamed : {ps xs : ParseTree} {ts ms rs : List Read}
      → Spells nonterminal.params d ps ts ms
      → Spells nonterminal.body d xs ms rs
      → FunctionEnd i d (parse_tree.Pair (pair.Function i) ps xs) ts rs
  named : {j : ℕ} {r : NameRole} {ps xs : ParseTree} {ts ms rs : List Read} {c : Bool}
      → Spells nonterminal.params d ps ts ms
      → Spells nonterminal.body d xs ms rs
      → FunctionEnd i d (parse_tree.Pair (pair.NamedFunction i j) ps xs) (read (of (kinds.Name r) j c) d ∷ ts) rs

-- behind the `(` of a setter
pub data SetterEnd (i d : ℕ) (x : ParseTree) : ParseTree → List Read → List Read → Type 0 where
  setter : {j o : ℕ} {r : NameRole} {xs : ParseTree} {ms rs : List Read} {c f : Bool}
      → Spells nonterminal.body d xs ms rs
      → SetterEnd i d x (parse_tree.Pair (pair.Setter i o) x xs) (read (of (kinds.Name r) o f) d ∷ bracket brackets.Close j c d ∷ ms) rs

-- behind `let` or `const`
abbrev pub LexicalEnd : Bool → Bool → ℕ → ParseTree → List Read → List Read → Type 0
LexicalEnd c h d xs ts rs = (x : Sign) × Spells (nonterminal.binds c h) d xs ts (read x d ∷ rs) × (is_end h x ≡ true)

-- behind `catch`, and behind the `(` after it
abbrev pub CatchEnd : ℕ → ParseTree → List Read → List Read → Type 0
CatchEnd d e ts rs = (i : ℕ) (a : Bool) → Spells nonterminal.catch d e (word words.Catch i a d ∷ ts) rs

abbrev pub CatchNameEnd : ℕ → ParseTree → List Read → List Read → Type 0
CatchNameEnd d e ts rs = (i j : ℕ) (a c : Bool) → Spells nonterminal.catch d e (word words.Catch i a d ∷ bracket brackets.Open j c d ∷ ts) rs

-- behind a lexical name
abbrev pub BindEnd : Bool → Bool → ℕ → ℕ → ParseTree → List Read → List Read → Type 0
BindEnd c h i d e ts rs = (r : NameRole) (a : Bool) → Spells (nonterminal.bind c h) d e (read (of (kinds.Name r) i a) d ∷ ts) rs

-- behind the `[` of an array literal: the list
abbrev pub ArrayEnd : ℕ → ParseTree → List Read → List Read → Type 0
ArrayEnd d xs ts rs = (i : ℕ) (a : Bool) → Spells nonterminal.primary d (parse_tree.Wrap (wrap.Array i) xs) (bracket brackets.SquareOpen i a d ∷ ts) rs

-- behind the bracket of a list: the list
abbrev pub ListEnd : Listing → ℕ → ParseTree → List Read → List Read → Type 0
ListEnd listings.Arguments d xs ts rs = (i : ℕ) (a : Bool) → Spells nonterminal.args d xs (bracket brackets.Open i a d ∷ ts) rs
ListEnd listings.Parameters d xs ts rs = (i : ℕ) (a : Bool) → Spells nonterminal.params d xs (bracket brackets.Open i a d ∷ ts) rs
ListEnd listings.Properties d xs ts rs =
    (i : ℕ) (a : Bool)
    → Spells nonterminal.primary d (parse_tree.Wrap (wrap.Object i) xs) (bracket brackets.BraceOpen i a d ∷ ts) rs

abbrev pub Member : Listing → ℕ → ParseTree → List Read → List Read → Type 0
Member listings.Arguments d e ts rs = Spells (nonterminal.assign false) d e ts rs
Member listings.Parameters d e ts rs = Spells nonterminal.param d e ts rs
Member listings.Properties d e ts rs = Spells nonterminal.prop d e ts rs

abbrev pub Members : Listing → ℕ → ParseTree → List Read → List Read → Type 0
Members listings.Arguments d xs ts rs = Spells nonterminal.arguments d xs ts rs
Members listings.Parameters d xs ts rs = Spells nonterminal.names d xs ts rs
Members listings.Properties d xs ts rs = Spells nonterminal.props d xs ts rs

-- What a part that must come is.
abbrev pub GivesNonterminal : Expected → ℕ → ParseTree → List Read → List Read → Type 0
GivesNonterminal expectation.Statement d x ts rs = Spells nonterminal.statement d x ts rs
GivesNonterminal expectation.Block d x ts rs = Spells nonterminal.block d x ts rs
GivesNonterminal expectation.Body d x ts rs = Spells nonterminal.body d x ts rs
GivesNonterminal expectation.Parameters d x ts rs = Spells nonterminal.params d x ts rs
GivesNonterminal (expectation.Expression n) d x ts rs = Spells (nonterminal.expr n) d x ts rs
GivesNonterminal (expectation.Assign n) d x ts rs = Spells (nonterminal.assign n) d x ts rs
GivesNonterminal expectation.Unary d x ts rs = Spells nonterminal.unary d x ts rs
GivesNonterminal (expectation.Operand v n) d x ts rs = Spells (operand v n) d x ts rs
GivesNonterminal (expectation.Callee i) d x ts rs = NewEnd i d x ts rs
GivesNonterminal expectation.Target d x ts rs = Spells nonterminal.left d x ts rs × (is_target x ≡ true)
GivesNonterminal (expectation.Binding c h) d x ts rs = Spells (nonterminal.bind c h) d x ts rs
GivesNonterminal expectation.First d x ts rs = Spells nonterminal.first d x ts rs
GivesNonterminal (expectation.Maybe n z) d x ts rs = (s : Sign) × Spells (nonterminal.maybe n) d x ts (read s d ∷ rs) × (fits z s ≡ true)
GivesNonterminal (expectation.Thrown i) d x ts rs = ThrowEnd i d x ts rs

-- What the value on the stack is before a tail, and what it may become.
abbrev pub Sofar : Tail → ℕ → ParseTree → List Read → List Read → Type 0
Sofar tails.Left d e ts rs = Spells nonterminal.left d e ts rs
Sofar tails.Update d e ts rs = Spells nonterminal.left d e ts rs
Sofar (tails.Level v n) d e ts rs = Spells (nonterminal.level v n) d e ts rs
Sofar (tails.Short n) d e ts rs = Spells (nonterminal.short n) d e ts rs
Sofar (tails.Conditional n) d e ts rs = Spells (nonterminal.short n) d e ts rs
Sofar (tails.Assign n) (suc d) e ts rs = Spells (nonterminal.cond n) (suc d) e ts rs
Sofar (tails.Assign n) zero e ts rs = ⊥
Sofar (tails.Expression n) d e ts rs = Spells (nonterminal.expr n) d e ts rs

abbrev pub Whole : Tail → ℕ → ParseTree → List Read → List Read → Type 0
Whole tails.Left d e ts rs = Spells nonterminal.left d e ts rs
Whole tails.Update d e ts rs = Spells nonterminal.unary d e ts rs
Whole (tails.Level v n) d e ts rs = Spells (nonterminal.level v n) d e ts rs
Whole (tails.Short n) d e ts rs = Spells (nonterminal.short n) d e ts rs
Whole (tails.Conditional n) d e ts rs = Spells (nonterminal.cond n) d e ts rs
Whole (tails.Assign n) (suc d) e ts rs = Spells (nonterminal.assign n) d e ts rs
Whole (tails.Assign n) zero e ts rs = ⊥
Whole (tails.Expression n) d e ts rs = Spells (nonterminal.expr n) d e ts rs

-- The stages and what may go on, where D says what is done with the values and the tokens behind.
abbrev pub LooseStands : Loose → ℕ → (List ParseTree → List Read → Type 0) → List ParseTree → List Read → Type 0
LooseStands (loose_kind.Items h) d D (xs ∷ vs) m =
    (c : List Read) × Spells (nonterminal.items h) d xs c m
    × ((ys : ParseTree) (r : List Read) → Spells (nonterminal.items h) d ys c r → D (ys ∷ vs) r)
LooseStands (loose_kind.Else n) d D (x ∷ e ∷ vs) m =
    (NoElse m → D (parse_tree.Pair (pair.If n) e x ∷ vs) m)
    × ((i : ℕ) (f : Bool) (us : List Read) → m ≡ word words.Else i f d ∷ us → (z : ParseTree) (r : List Read)
    → Spells nonterminal.statement d z us r → D (parse_tree.Triple (triple.IfElse n) e x z ∷ vs) r)
LooseStands (loose_kind.Finally i) d D (y ∷ x ∷ vs) m =
    (c : List Read) × Spells nonterminal.catch d y c m
    × ((e : ParseTree) (r : List Read) → TryEnd i d x e c r → D (e ∷ vs) r)
LooseStands (loose_kind.Callee i) d D (l ∷ vs) m =
    (c : List Read) × Spells nonterminal.callee d l c m
    × ((e : ParseTree) (r : List Read) → NewEnd i d e c r → D (e ∷ vs) r)
LooseStands loose_kind.Target d D (l ∷ vs) m =
    (c : List Read) × Spells nonterminal.left d l c m
    × ((e : ParseTree) (r : List Read) → Spells nonterminal.left d e c r → is_target e ≡ true → D (e ∷ vs) r)
LooseStands (loose_kind.Binding c h i) d D vs m = (e : ParseTree) (r : List Read) → BindEnd c h i d e m r → D (e ∷ vs) r
LooseStands (loose_kind.Property role i) d D vs m =
    (a : Bool) × ((e : ParseTree) (r : List Read) → Spells nonterminal.prop d e (read (of (kinds.Name role) i a) d ∷ m) r → D (e ∷ vs) r)
LooseStands _ d D vs m = ⊥

abbrev pub Waits : Stage → ℕ → (List ParseTree → List Read → Type 0) → List ParseTree → List Read → Type 0
Waits (stages.Word dot) d D (l ∷ vs) m =
    (kind : Kind) (i : ℕ) (a : Bool) (us : List Read)
    → m ≡ read (of kind i a) d ∷ us
    → is_word kind ≡ true
    → D (parse_tree.Wrap (wrap.Member dot i) l ∷ vs) us
Waits (stages.Listed q) d D (xs ∷ vs) m =
    (c : List Read)
    × ((x : Sign) (us : List Read) → m ≡ read x d ∷ us → fits (closing q) x ≡ true → ListEnd q d xs c us)
    × ((e : ParseTree) (r : List Read) → Member q d e m r → Members q d (parse_tree.Pair pair.And xs e) c r)
    × ((ys : ParseTree) (r : List Read) → ListEnd q d ys c r → D (ys ∷ vs) r)
Waits (stages.Rest q) d D (xs ∷ vs) m = (c : List Read) × Members q d xs c m × ((ys : ParseTree) (r : List Read) → ListEnd q d ys c r → D (ys ∷ vs) r)
Waits stages.Elements d D (xs ∷ vs) m =
    (c : List Read) × Spells nonterminal.elements d xs c m
    × ((ys : ParseTree) (r : List Read) → ArrayEnd d ys c r → D (ys ∷ vs) r)
Waits stages.AfterElement d D (xs ∷ vs) m =
    (c : List Read)
    × ((x : Sign) (us : List Read) → m ≡ read x d ∷ us → fits terminals.SquareClose x ≡ true → ArrayEnd d xs c us)
    × ((i : ℕ) (a : Bool) (us : List Read) → m ≡ mark marks.Comma i a d ∷ us → Spells nonterminal.elements d xs c us)
    × ((ys : ParseTree) (r : List Read) → ArrayEnd d ys c r → D (ys ∷ vs) r)
Waits (stages.AfterReturn i) d D vs m =
    ((x : Sign) (us : List Read) → m ≡ read x d ∷ us → is_end false x ≡ true → D (parse_tree.Atom (atom.Return i) ∷ vs) us)
    × ((e : ParseTree) (x : Sign) (us : List Read) → SameLine m → Spells (nonterminal.expr false) d e m (read x d ∷ us)
    → is_end false x ≡ true → D (parse_tree.Wrap (wrap.Return i) e ∷ vs) us)
Waits (stages.AfterTry i) d D (x ∷ vs) m = (e : ParseTree) (r : List Read) → TryEnd i d x e m r → D (e ∷ vs) r
Waits stages.AfterCatch d D vs m = (e : ParseTree) (r : List Read) → CatchEnd d e m r → D (e ∷ vs) r
Waits stages.CatchName d D vs m = (e : ParseTree) (r : List Read) → CatchNameEnd d e m r → D (e ∷ vs) r
Waits (stages.MoreBindings c h i) d D (xs ∷ vs) m =
    (f : List Read) × Spells (nonterminal.binds c h) d xs f m
    × ((ys : ParseTree) (r : List Read) → LexicalEnd c h d ys f r → D (parse_tree.Wrap (wrap.Lexical c i) ys ∷ vs) r)
Waits (stages.FunctionName i) d D vs m = (e : ParseTree) (r : List Read) → DeclaredEnd i d e m r → D (e ∷ vs) r
Waits (stages.AfterFunction i) d D vs m = (e : ParseTree) (r : List Read) → FunctionEnd i d e m r → D (e ∷ vs) r
Waits stages.AfterKey d D (x ∷ vs) m =
    (c : List Read) × Spells nonterminal.key d x c m
    × ((e : ParseTree) (r : List Read) → Spells nonterminal.prop d e c r → D (e ∷ vs) r)
Waits (stages.SetterName i) d D (x ∷ vs) m = (e : ParseTree) (r : List Read) → SetterEnd i d x e m r → D (e ∷ vs) r
Waits _ d D vs m = ⊥

abbrev pub GoesOn : Tail → ℕ → (List ParseTree → List Read → Type 0) → List ParseTree → List Read → Type 0
GoesOn n d D (l ∷ vs) m = (c : List Read) × Sofar n d l c m × ((e : ParseTree) (r : List Read) → Whole n d e c r → D (e ∷ vs) r)
GoesOn n d D [] m = ⊥

-- `Done T γ vs m`: T was read up to m. Whatever is put for what γ expects, T is a script.
abbrev pub Done : List Read → List Symbol → List ParseTree → List Read → Type 0
Done T [] vs m = (s : ParseTree) × (vs ≡ s ∷ []) × Spells (nonterminal.items true) 0 s T m
Done T (symbols.Part n d ∷ γ) vs m = (e : ParseTree) (r : List Read) → GivesNonterminal n d e m r → Done T γ (e ∷ vs) r
Done T (symbols.Tail n d ∷ γ) vs m = GoesOn n d (Done T γ) vs m
Done T (symbols.Loose n d ∷ γ) vs m = LooseStands n d (Done T γ) vs m
Done T (symbols.Stage n d ∷ γ) vs m = Waits n d (Done T γ) vs m
Done T (symbols.Take n d ∷ γ) vs m = (x : Sign) (us : List Read) → m ≡ read x d ∷ us → fits n x ≡ true → Done T γ vs us
Done T (symbols.Do f ∷ γ) vs m = Done T γ (act f vs) m

-- The machine goes on so after a step.
abbrev pub Then : Outcome (List ParseTree) → ℕ → (List Symbol → List ParseTree → Type 0) → Type 0
Then Fail n R = ⊥
Then (Next γ vs m) n R = (m ≡ n) × R γ vs

-- The machine reads ts and ends with s.
abbrev pub Takes : List Read → ParseTree → List Symbol → List ParseTree → Type 0
Takes [] s γ vs = finish γ vs ≡ Some s
Takes (read x n ∷ ts) s γ vs = Then (step γ vs x) n (Takes ts s)

abbrev pub start : List Symbol
start = symbols.Loose (loose_kind.Items true) 0 ∷ []

abbrev pub begun : List ParseTree
begun = nothing ∷ []

-- The machine stands at γ and vs behind the tokens done.
pub record Reached (done : List Read) (γ : List Symbol) (vs : List ParseTree) : Type 0 where
  pub onward : (u : List Read) (s : ParseTree) → Plain (done ++ u) s → Takes u s γ vs
  pub back : (u : List Read) → Done (done ++ u) γ vs u
