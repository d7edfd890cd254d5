-- What the machine has read can be gone on with, to a script that the grammar has.
use Rattle.std.proofs.Common.{suc, zero, ◌≡◌, ℕ, ◌==◌, ◌&&◌, not, Bool, true, false, cond, Option, Some, None, List, [], ◌∷◌, refl, subst, ap, sym, ◌∙◌, ◌⊎◌, inl, inr}
use Rattle.es_tree.specs.declared.expressions.AssignOperator.{AssignOperator}
use Rattle.es_tree.specs.declared.expressions.AssignOperator.TheVariants as assign_operator
use Rattle.es_tree.specs.declared.expressions.BinaryOperator.TheVariants as binary_operator
use Rattle.es_tree.specs.declared.expressions.ShortOperator.TheVariants as short_operator
use Rattle.es_tree.specs.declared.expressions.UnaryOperator.{UnaryOperator}
use Rattle.script_grammar.specs.declared.sign.Sign.{Sign}
use Rattle.script_grammar.specs.declared.sign.Sign.TheVariants.{Token as of, Inserted as put}
use Rattle.script_grammar.specs.declared.kinds.NameRole.{NameRole}
use Rattle.script_grammar.specs.declared.kinds.NameRole.TheVariants as role
use Rattle.script_grammar.specs.declared.kinds.Word.TheVariants as words
use Rattle.script_grammar.specs.declared.kinds.Bracket.TheVariants as brackets
use Rattle.script_grammar.specs.declared.kinds.Mark.TheVariants as marks
use Rattle.script_grammar.specs.declared.kinds.Kind.{Kind}
use Rattle.script_grammar.specs.declared.kinds.Kind.TheVariants as kinds
use Rattle.script_grammar.specs.declared.kinds.Level.{Level}
use Rattle.script_grammar.specs.declared.kinds.Level.TheVariants as levels
use Rattle.script_grammar.specs.declared.labels.Atom.TheVariants as atom
use Rattle.script_grammar.specs.declared.labels.Wrap.TheVariants as wrap
use Rattle.script_grammar.specs.declared.labels.Pair.{Pair}
use Rattle.script_grammar.specs.declared.labels.Pair.TheVariants as pair
use Rattle.script_grammar.specs.declared.labels.Triple.TheVariants as triple
use Rattle.script_grammar.specs.declared.labels.Quad.TheVariants as quad
use Rattle.script_grammar.specs.declared.act.Act.TheVariants as act_kinds
use Rattle.script_grammar.specs.declared.symbol.Terminal.{Terminal}
use Rattle.script_grammar.specs.declared.symbol.Terminal.TheVariants as terminals
use Rattle.script_grammar.specs.declared.symbol.Listing.{Listing}
use Rattle.script_grammar.specs.declared.symbol.Listing.TheVariants as listings
use Rattle.script_grammar.specs.declared.symbol.Expected.TheVariants as expectation
use Rattle.script_grammar.specs.declared.symbol.Expected.{Expected}
use Rattle.script_grammar.specs.declared.symbol.Tail.{Tail}
use Rattle.script_grammar.specs.declared.symbol.Tail.TheVariants as tails
use Rattle.script_grammar.specs.declared.symbol.Loose.{Loose}
use Rattle.script_grammar.specs.declared.symbol.Loose.TheVariants as loose_kind
use Rattle.script_grammar.specs.declared.symbol.Stage.{Stage}
use Rattle.script_grammar.specs.declared.symbol.Stage.TheVariants as stages
use Rattle.script_grammar.specs.declared.symbol.Symbol.{Symbol}
use Rattle.script_grammar.specs.declared.symbol.Symbol.TheVariants as symbols
use Rattle.script_grammar.specs.Tree.{ParseTree, is_target, is_plain, is_and_or, indexes}
use Rattle.script_grammar.specs.Tree.{ParseTree as parse_tree}
use Rattle.script_grammar.specs.Kinds.{is_word, is_key, is_in, prefix_of, infix_of, level_of}
use Rattle.script_grammar.specs.Grammar.{Read, read, word, bracket, mark, Spells, NoElse, NoFinally, NoMore, SameLine, is_end, operand, nothing}
use Rattle.script_grammar.specs.Grammar.{Nonterminal}
use Rattle.script_grammar.specs.Grammar.{Nonterminal as nonterminal}
use Rattle.script_grammar.specs.Grammar.{Spells as spells}
use Rattle.script_grammar.specs.Machine.{Outcome, Fail, Next, fits, closing, same_line, below}
use Rattle.script_grammar.specs.Machine as grammar_machine
use Rattle.script_grammar.specs.Trees.{act, trees, step, leave, may_leave}
use Rattle.script_grammar.specs.Progress.{Done, GivesNonterminal, Sofar, Whole, NewEnd, bare, given, ThrowEnd, thrown, TryEnd, caught, both, lastly, DeclaredEnd, declared, FunctionEnd, unnamed, named, SetterEnd, setter, ListEnd, Member, Members}

abbrev pub Kept : (ℕ → List Read) → List Read → Outcome (List ParseTree) → Type 0
Kept T u Fail = Unit {0}
Kept T u (Next γ vs n) = Done (T n) γ vs u

-- the tokens behind a part, and those from which it begins, rewritten
pub seen : {q : Nonterminal} {d n : ℕ} {e : ParseTree} {ts r us : List Read} {x x' : Sign} → Spells q d e ts r → r ≡ read x n ∷ us → x ≡ x' → Spells q d e ts (read x' n ∷ us)
seen {q = q} {d = d} {n = n} {e = e} {ts = ts} {us = us} h eq same = subst (λ (r : List Read). Spells q d e ts r) (eq ∙ ap (λ (x : Sign). read x n ∷ us) same) h

start : {q : Nonterminal} {d n j : ℕ} {e : ParseTree} {s x x' : Sign} {m m' r : List Read} → m ≡ read x n ∷ m' → x ≡ x' → Spells q d e (read s j ∷ read x' n ∷ m') r → Spells q d e (read s j ∷ m) r
start {q = q} {d = d} {n = n} {j = j} {e = e} {s = s} {m' = m'} {r = r} eq same h =
    subst (λ (m : List Read). Spells q d e (read s j ∷ m) r) (sym (eq ∙ ap (λ (x : Sign). read x n ∷ m') same)) h

-- what fits a terminal
is_open : (x : Sign) → fits terminals.Open x ≡ true → (j : ℕ) × (c : Bool) × (x ≡ of (kinds.Bracket brackets.Open) j c)
is_open (of (kinds.Bracket brackets.Open) j c) f = (j, c, refl)
is_open _ f = absurd (cc (f))

is_close : (x : Sign) → fits terminals.Close x ≡ true → (j : ℕ) × (c : Bool) × (x ≡ of (kinds.Bracket brackets.Close) j c)
is_close (of (kinds.Bracket brackets.Close) j c) f = (j, c, refl)
is_close _ f = absurd (cc (f))

is_brace_close : (x : Sign) → fits terminals.BraceClose x ≡ true → (j : ℕ) × (c : Bool) × (x ≡ of (kinds.Bracket brackets.BraceClose) j c)
is_brace_close (of (kinds.Bracket brackets.BraceClose) j c) f = (j, c, refl)
is_brace_close _ f = absurd (cc (f))

is_square_close : (x : Sign) → fits terminals.SquareClose x ≡ true → (j : ℕ) × (c : Bool) × (x ≡ of (kinds.Bracket brackets.SquareClose) j c)
is_square_close (of (kinds.Bracket brackets.SquareClose) j c) f = (j, c, refl)
is_square_close _ f = absurd (cc (f))

is_colon : (x : Sign) → fits terminals.Colon x ≡ true → (j : ℕ) × (c : Bool) × (x ≡ of (kinds.Mark marks.Colon) j c)
is_colon (of (kinds.Mark marks.Colon) j c) f = (j, c, refl)
is_colon _ f = absurd (cc (f))

is_semicolon : (x : Sign) → is_end true x ≡ true → (j : ℕ) × (c : Bool) × (x ≡ of (kinds.Mark marks.Semicolon) j c)
is_semicolon (of (kinds.Mark marks.Semicolon) j c) f = (j, c, refl)
is_semicolon _ f = absurd (cc (f))

-- a test of the machine, with both ways
pub either_way : (T : ℕ → List Read) (u : List Read) (c : Bool) (x o : Outcome (List ParseTree)) → (c ≡ true → Kept T u x) → (c ≡ false → Kept T u o) → Kept T u (cond c x o)
either_way T u true x o f h = f refl
either_way T u false x o f h = h refl

new_of : {d i : ℕ} {e : ParseTree} {ts r : List Read} {a : Bool} → NewEnd i (suc d) e ts r → Spells nonterminal.new d e (word words.New i a (suc d) ∷ ts) r
new_of (bare h alone) = spells.new-bare h alone
new_of (given h i) = spells.new-args h i

function_of : {d i : ℕ} {e : ParseTree} {ts r : List Read} {a : Bool} → FunctionEnd i (suc d) e ts r → Spells nonterminal.primary d e (word words.Function i a (suc d) ∷ ts) r
function_of (unnamed h i) = spells.function h i
function_of (named h i) = spells.function-name h i

list_none : (q : Listing) (d : ℕ) (m us : List Read) (x : Sign) → m ≡ read x d ∷ us → fits (closing q) x ≡ true → ListEnd q d nothing m us
list_none listings.Arguments d m us x eq f = let c = is_close x f in λ i a. start eq c.2 spells.args-none
list_none listings.Parameters d m us x eq f = let c = is_close x f in λ i a. start eq c.2 spells.params-none
list_none listings.Properties d m us x eq f = let c = is_brace_close x f in λ i a. start eq c.2 spells.object-none

list_one : (q : Listing) (d : ℕ) (m r : List Read) (e : ParseTree) → Member q d e m r → Members q d (parse_tree.Pair pair.And nothing e) m r
list_one listings.Arguments d m r e s = spells.arguments-one s
list_one listings.Parameters d m r e s = spells.names-one s
list_one listings.Properties d m r e s = spells.props-one s

sound_primary : (T : ℕ → List Read) (u : List Read) (d : ℕ) (γ : List Symbol) (vs : List ParseTree) (x : Sign) → ((n : ℕ) (e : ParseTree) (r : List Read) → Spells nonterminal.primary d e (read x n ∷ u) r → Done (T n) γ (e ∷ vs) r) → ((n : ℕ) (e : ParseTree) (r : List Read) → Spells nonterminal.new d e (read x n ∷ u) r → Done (T n) γ (e ∷ vs) r) → Kept T u (grammar_machine.at_primary (List ParseTree) trees d γ vs x)
sound_primary T u d γ vs (of (kinds.Name r) i a) h j = h d (parse_tree.Atom (atom.Name i)) u spells.name
sound_primary T u d γ vs (of kinds.Number i a) h j = h d (parse_tree.Atom (atom.Number i)) u spells.number
sound_primary T u d γ vs (of kinds.Text i a) h j = h d (parse_tree.Atom (atom.Text i)) u spells.text
sound_primary T u d γ vs (of (kinds.Word words.This) i a) h j = h d (parse_tree.Atom (atom.This i)) u spells.this
sound_primary T u d γ vs (of (kinds.Word words.Null) i a) h j = h d (parse_tree.Atom (atom.Null i)) u spells.null
sound_primary T u d γ vs (of (kinds.Word words.True) i a) h j = h d (parse_tree.Atom (atom.Bool true i)) u spells.truth
sound_primary T u d γ vs (of (kinds.Word words.False) i a) h j = h d (parse_tree.Atom (atom.Bool false i)) u spells.falsity
sound_primary T u d γ vs (of (kinds.Bracket brackets.Open) i a) h j = λ e r s x us eq f. h d (parse_tree.Wrap (wrap.Parenthesis i) e) us (spells.parenthesis (seen s eq (is_close x f).2))
sound_primary T u d γ vs (of (kinds.Bracket brackets.SquareOpen) i a) h j = (u, spells.elements-none, λ ys r s. h d (parse_tree.Wrap (wrap.Array i) ys) r (s i a))
sound_primary T u d γ vs (of (kinds.Bracket brackets.BraceOpen) i a) h j = (u, λ x us eq f. list_none listings.Properties d u us x eq f, λ e r s. spells.props-one s, λ ys r s. h d (parse_tree.Wrap (wrap.Object i) ys) r (s i a))
sound_primary T u d γ vs (of (kinds.Word words.Function) i a) h j = λ e r s. h (suc d) e r (function_of s)
sound_primary T u d γ vs (of (kinds.Word words.New) i a) h j = λ e r s. j (suc d) e r (new_of s)
sound_primary T u d γ vs _ h j = tt

sound_left : (T : ℕ → List Read) (u : List Read) (d : ℕ) (γ : List Symbol) (vs : List ParseTree) (x : Sign) → ((n : ℕ) (e : ParseTree) (r : List Read) → Spells nonterminal.unary d e (read x n ∷ u) r → Done (T n) γ (e ∷ vs) r) → Kept T u (grammar_machine.at_left (List ParseTree) trees d γ vs x)
sound_left T u d γ vs x h =
    sound_primary T u d (symbols.Tail tails.Left d ∷ symbols.Tail tails.Update d ∷ γ) vs x
    (λ n e r s. (read x n ∷ u, spells.left-primary s, λ e' r' s'. (read x n ∷ u, s', λ e2 r2 s2. h n e2 r2 s2)))
    (λ n e r s. (read x n ∷ u, spells.left-new s, λ e' r' s'. (read x n ∷ u, s', λ e2 r2 s2. h n e2 r2 s2)))

sound_prefixed : (T : ℕ → List Read) (u : List Read) (d : ℕ) (γ : List Symbol) (vs : List ParseTree) (kind : Kind) (i : ℕ) (a : Bool) (o : Option UnaryOperator) → prefix_of kind ≡ o → ((n : ℕ) (e : ParseTree) (r : List Read) → Spells nonterminal.unary d e (read (of kind i a) n ∷ u) r → Done (T n) γ (e ∷ vs) r) → Kept T u (grammar_machine.prefixed (List ParseTree) trees d γ vs (of kind i a) i o)
sound_prefixed T u d γ vs kind i a (Some op) eq h = λ e r s. h (suc d) (parse_tree.Wrap (wrap.Unary op i) e) r (spells.unary-prefix eq s)
sound_prefixed T u d γ vs kind i a None eq h = sound_left T u d γ vs (of kind i a) h

sound_unary : (T : ℕ → List Read) (u : List Read) (d : ℕ) (γ : List Symbol) (vs : List ParseTree) (x : Sign) → ((n : ℕ) (e : ParseTree) (r : List Read) → Spells nonterminal.unary d e (read x n ∷ u) r → Done (T n) γ (e ∷ vs) r) → Kept T u (grammar_machine.at_unary (List ParseTree) trees d γ vs x)
sound_unary T u d γ vs (of (kinds.Update up) i a) h = λ e r s. h (suc d) (parse_tree.Wrap (wrap.Update up true i) e) r (spells.unary-before s.0 s.1)
sound_unary T u d γ vs put h = tt
sound_unary T u d γ vs (of kind i a) h = sound_prefixed T u d γ vs kind i a (prefix_of kind) refl h

sound_operand : (T : ℕ → List Read) (u : List Read) (v : Level) (n : Bool) (d : ℕ) (γ : List Symbol) (vs : List ParseTree) (x : Sign) → ((m : ℕ) (e : ParseTree) (r : List Read) → Spells (operand v n) d e (read x m ∷ u) r → Done (T m) γ (e ∷ vs) r) → Kept T u (grammar_machine.at_operand (List ParseTree) trees v n d γ vs x)
sound_operand T u levels.Multiply n d γ vs x h = sound_unary T u d γ vs x h
sound_operand T u levels.Add n d γ vs x h =
    sound_unary T u d (below levels.Add n d γ) vs x (λ m e r s. (read x m ∷ u, spells.level-one s, λ e1 r1 s1. h m e1 r1 s1))
sound_operand T u levels.Relation n d γ vs x h =
    sound_unary T u d (below levels.Relation n d γ) vs x (λ m e r s. (read x m ∷ u, spells.level-one s, λ e1 r1 s1. (read x m ∷ u, spells.level-one s1, λ e2 r2 s2. h m e2 r2 s2)))
sound_operand T u levels.Equal n d γ vs x h =
    sound_unary T u d (below levels.Equal n d γ) vs x
    (λ m e r s. (read x m ∷ u, spells.level-one s, λ e1 r1 s1. (read x m ∷ u, spells.level-one s1, λ e2 r2 s2. (read x m ∷ u, spells.level-one s2, λ e3 r3 s3. h m e3 r3 s3))))
sound_operand T u levels.And n d γ vs x h =
    sound_unary T u d (below levels.And n d γ) vs x
    (λ m e r s. (read x m ∷ u, spells.level-one s, λ e1 r1 s1. (read x m ∷ u, spells.level-one s1, λ e2 r2 s2. (read x m ∷ u, spells.level-one s2, λ e3 r3 s3. (read x m ∷ u, spells.level-one s3, λ e4 r4 s4. h m e4 r4 s4)))))
sound_operand T u levels.Or n d γ vs x h =
    sound_unary T u d (below levels.Or n d γ) vs x
    (λ m e r s. (read x m ∷ u, spells.level-one s, λ e1 r1 s1. (read x m ∷ u, spells.level-one s1, λ e2 r2 s2. (read x m ∷ u, spells.level-one s2, λ e3 r3 s3. (read x m ∷ u, spells.level-one s3, λ e4 r4 s4. (read x m ∷ u, spells.level-one s4, λ e5 r5 s5. h m e5 r5 s5))))))

sound_assign : (T : ℕ → List Read) (u : List Read) (n : Bool) (d : ℕ) (γ : List Symbol) (vs : List ParseTree) (x : Sign) → ((m : ℕ) (e : ParseTree) (r : List Read) → Spells (nonterminal.assign n) d e (read x m ∷ u) r → Done (T m) γ (e ∷ vs) r) → Kept T u (grammar_machine.at_assign (List ParseTree) trees n d γ vs x)
sound_assign T u n d γ vs x h =
    sound_operand T u levels.Or n (suc d) (symbols.Tail (tails.Level levels.Or n) (suc d) ∷ symbols.Tail (tails.Short n) (suc d) ∷ symbols.Tail (tails.Conditional n) (suc d) ∷ symbols.Tail (tails.Assign n) (suc d) ∷ γ) vs x
    (λ m e r s. (read x m ∷ u, spells.level-one s, λ e1 r1 s1. (read x m ∷ u, spells.short-or s1, λ e2 r2 s2. (read x m ∷ u, s2, λ e3 r3 s3. (read x m ∷ u, s3, λ e4 r4 s4. h m e4 r4 s4)))))

sound_expr : (T : ℕ → List Read) (u : List Read) (n : Bool) (d : ℕ) (γ : List Symbol) (vs : List ParseTree) (x : Sign) → ((m : ℕ) (e : ParseTree) (r : List Read) → Spells (nonterminal.expr n) d e (read x m ∷ u) r → Done (T m) γ (e ∷ vs) r) → Kept T u (grammar_machine.at_expr (List ParseTree) trees n d γ vs x)
sound_expr T u n d γ vs x h =
    sound_assign T u n d (symbols.Tail (tails.Expression n) d ∷ γ) vs x (λ m e r s. (read x m ∷ u, spells.expr-one s, λ e1 r1 s1. h m e1 r1 s1))

sound_block : (T : ℕ → List Read) (u : List Read) (d : ℕ) (γ : List Symbol) (vs : List ParseTree) (x : Sign) → ((n : ℕ) (e : ParseTree) (r : List Read) → Spells nonterminal.block d e (read x n ∷ u) r → Done (T n) γ (e ∷ vs) r) → Kept T u (grammar_machine.at_block (List ParseTree) trees d γ vs x)
sound_block T u d γ vs (of (kinds.Bracket brackets.BraceOpen) i a) h = (u, spells.items-none, λ xs r s x us eq f. h d (parse_tree.Wrap (wrap.Block i) xs) us (spells.block-items (seen s eq (is_brace_close x f).2)))
sound_block T u d γ vs _ h = tt

sound_body : (T : ℕ → List Read) (u : List Read) (d : ℕ) (γ : List Symbol) (vs : List ParseTree) (x : Sign) → ((n : ℕ) (e : ParseTree) (r : List Read) → Spells nonterminal.body d e (read x n ∷ u) r → Done (T n) γ (e ∷ vs) r) → Kept T u (grammar_machine.at_body (List ParseTree) trees d γ vs x)
sound_body T u d γ vs (of (kinds.Bracket brackets.BraceOpen) i a) h = (u, spells.items-none, λ xs r s x us eq f. h d xs us (spells.body-items (seen s eq (is_brace_close x f).2)))
sound_body T u d γ vs _ h = tt

sound_params : (T : ℕ → List Read) (u : List Read) (d : ℕ) (γ : List Symbol) (vs : List ParseTree) (x : Sign) → ((n : ℕ) (e : ParseTree) (r : List Read) → Spells nonterminal.params d e (read x n ∷ u) r → Done (T n) γ (e ∷ vs) r) → Kept T u (grammar_machine.at_params (List ParseTree) trees d γ vs x)
sound_params T u d γ vs (of (kinds.Bracket brackets.Open) i a) h = (u, λ x us eq f. list_none listings.Parameters d u us x eq f, λ e r s. spells.names-one s, λ ys r s. h d ys r (s i a))
sound_params T u d γ vs _ h = tt

pub cast : {q : Nonterminal} {d : ℕ} {e : ParseTree} {m r r' : List Read} → Spells q d e m r → r ≡ r' → Spells q d e m r'
cast {q = q} {d = d} {e = e} {m = m} h eq = subst (λ (r : List Read). Spells q d e m r) eq h

on_line : (x : Sign) (n : ℕ) (u : List Read) → same_line x ≡ true → SameLine (read x n ∷ u)
on_line (of kind i true) n u e = absurd (cc (e))
on_line (of kind i false) n u e = tt
on_line put n u e = tt

throw_of : {d i : ℕ} {e : ParseTree} {ts r : List Read} {a : Bool} → ThrowEnd i (suc d) e ts r → Spells nonterminal.statement d e (word words.Throw i a (suc d) ∷ ts) r
throw_of (thrown same h f) = spells.throw same h f

try_of : {d i : ℕ} {x e : ParseTree} {ts ms r : List Read} {a : Bool} → Spells nonterminal.block (suc d) x ts ms → TryEnd i (suc d) x e ms r → Spells nonterminal.statement d e (word words.Try i a (suc d) ∷ ts) r
try_of h (caught i alone) = spells.try-catch h i alone
try_of h (both i j) = spells.try-both h i j
try_of h (lastly j) = spells.try-finally h j

sound_statement : (T : ℕ → List Read) (u : List Read) (d : ℕ) (γ : List Symbol) (vs : List ParseTree) (x : Sign) → ((n : ℕ) (e : ParseTree) (r : List Read) → Spells nonterminal.statement d e (read x n ∷ u) r → Done (T n) γ (e ∷ vs) r) → Kept T u (grammar_machine.at_statement (List ParseTree) trees d γ vs x)
sound_statement T u d γ vs (of (kinds.Bracket brackets.BraceOpen) i a) h = sound_block T u (suc d) γ vs (of (kinds.Bracket brackets.BraceOpen) i a) (λ n e r s. h n e r (spells.statement-block s))
sound_statement T u d γ vs (of (kinds.Mark marks.Semicolon) i a) h = h (suc d) (parse_tree.Atom (atom.Empty i)) u spells.empty
sound_statement T u d γ vs (of (kinds.Word words.If) i a) h =
    λ x1 us1 eq1 f1 e r s x2 us2 eq2 f2 x3 r3 s3. (
      λ alone. h (suc d) (parse_tree.Pair (pair.If i) e x3) r3 (start eq1 (is_open x1 f1).2 (spells.if (seen s eq2 (is_close x2 f2).2) s3 alone)),
      λ i4 f4 us4 eq4 z r5 s5. h (suc d) (parse_tree.Triple (triple.IfElse i) e x3 z) r5 (start eq1 (is_open x1 f1).2 (spells.if-else (seen s eq2 (is_close x2 f2).2) (cast s3 eq4) s5)),
    )
sound_statement T u d γ vs (of (kinds.Word words.While) i a) h =
    λ x1 us1 eq1 f1 e r s x2 us2 eq2 f2 x3 r3 s3. h (suc d) (parse_tree.Pair (pair.While i) e x3) r3 (start eq1 (is_open x1 f1).2 (spells.while (seen s eq2 (is_close x2 f2).2) s3))
sound_statement T u d γ vs (of (kinds.Word words.For) i a) h =
    λ x1 us1 eq1 f1 e1 r1 s1 e2 r2 s2 e3 r3 s3 e4 r4 s4.
    h (suc d) (parse_tree.Quad (quad.For i) e1 e2 e3 e4) r4 (start eq1 (is_open x1 f1).2 (spells.for s1 (seen s2.1 refl (is_semicolon s2.0 s2.2).2) (seen s3.1 refl (is_close s3.0 s3.2).2) s4))
sound_statement T u d γ vs (of (kinds.Word words.Break) i a) h = λ x us eq f. h (suc d) (parse_tree.Atom (atom.Break i)) us (start eq refl (spells.break f))
sound_statement T u d γ vs (of (kinds.Word words.Continue) i a) h = λ x us eq f. h (suc d) (parse_tree.Atom (atom.Continue i)) us (start eq refl (spells.continue f))
sound_statement T u d γ vs (of (kinds.Word words.Return) i a) h = (
  λ x us eq f. h (suc d) (parse_tree.Atom (atom.Return i)) us (start eq refl (spells.return f)),
  λ e x us same s f. h (suc d) (parse_tree.Wrap (wrap.Return i) e) us (spells.return-value same s f),
)
sound_statement T u d γ vs (of (kinds.Word words.Throw) i a) h = λ e r s. h (suc d) e r (throw_of s)
sound_statement T u d γ vs (of (kinds.Word words.Try) i a) h = λ x r s e r2 s2. h (suc d) e r2 (try_of s s2)
sound_statement T u d γ vs (of (kinds.Word words.Function) i a) h = tt
sound_statement T u d γ vs x h =
    sound_expr T u false (suc d) (symbols.Take (terminals.Semicolon false) (suc d) ∷ symbols.Do (act_kinds.Wrap wrap.Evaluate) ∷ γ) vs x
    (λ n e r s x2 us eq f. h n (parse_tree.Wrap wrap.Evaluate e) us (spells.evaluate tt (cast s eq) f))

declared_of : {d i : ℕ} {e : ParseTree} {ts r : List Read} {a : Bool} → DeclaredEnd i (suc d) e ts r → Spells (nonterminal.item true) d e (word words.Function i a (suc d) ∷ ts) r
declared_of (declared h i) = spells.item-function h i

sound_item : (T : ℕ → List Read) (u : List Read) (c : Bool) (d : ℕ) (γ : List Symbol) (vs : List ParseTree) (x : Sign) → ((n : ℕ) (e : ParseTree) (r : List Read) → Spells (nonterminal.item c) d e (read x n ∷ u) r → Done (T n) γ (e ∷ vs) r) → Kept T u (grammar_machine.at_item (List ParseTree) trees c d γ vs x)
sound_item T u true d γ vs (of (kinds.Word words.Function) i a) h = λ e r s. h (suc d) e r (declared_of s)
sound_item T u c d γ vs (of (kinds.Word words.Let) i a) h = λ x r s. (u, spells.binds-one s, λ ys r2 s2. h d (parse_tree.Wrap (wrap.Lexical false i) ys) r2 (spells.item-lexical (spells.lexical-let s2.1 s2.2)))
sound_item T u c d γ vs (of (kinds.Word words.Const) i a) h = λ x r s. (u, spells.binds-one s, λ ys r2 s2. h d (parse_tree.Wrap (wrap.Lexical true i) ys) r2 (spells.item-lexical (spells.lexical-const s2.1 s2.2)))
sound_item T u c d γ vs x h = sound_statement T u d γ vs x (λ n e r s. h n e r (spells.item-statement s))

sound_maybe : (T : ℕ → List Read) (u : List Read) (n : Bool) (z : Terminal) (d : ℕ) (γ : List Symbol) (vs : List ParseTree) (x : Sign) → ((m : ℕ) (e : ParseTree) (r : List Read) → GivesNonterminal (expectation.Maybe n z) d e (read x m ∷ u) r → Done (T m) γ (e ∷ vs) r) → Kept T u (grammar_machine.at_maybe (List ParseTree) trees n z d γ vs x)
sound_maybe T u n z d γ vs x h =
    either_way T u (fits z x) (Next γ (nothing ∷ vs) d) (grammar_machine.at_expr (List ParseTree) trees n d (symbols.Take z d ∷ γ) vs x)
    (λ f. h d nothing u (x, spells.maybe-none, f))
    (λ _. sound_expr T u n d (symbols.Take z d ∷ γ) vs x (λ m e r s x2 us eq f. h m e us (x2, spells.maybe-some (cast s eq), f)))

sound_first : (T : ℕ → List Read) (u : List Read) (d : ℕ) (γ : List Symbol) (vs : List ParseTree) (x : Sign) → ((n : ℕ) (e : ParseTree) (r : List Read) → Spells nonterminal.first d e (read x n ∷ u) r → Done (T n) γ (e ∷ vs) r) → Kept T u (grammar_machine.at_first (List ParseTree) trees d γ vs x)
sound_first T u d γ vs (of (kinds.Word words.Let) i a) h = λ x r s. (u, spells.binds-one s, λ ys r2 s2. h d (parse_tree.Wrap (wrap.Lexical false i) ys) r2 (spells.first-lexical (spells.lexical-let s2.1 s2.2)))
sound_first T u d γ vs (of (kinds.Word words.Const) i a) h = λ x r s. (u, spells.binds-one s, λ ys r2 s2. h d (parse_tree.Wrap (wrap.Lexical true i) ys) r2 (spells.first-lexical (spells.lexical-const s2.1 s2.2)))
sound_first T u d γ vs x h = sound_maybe T u true (terminals.Semicolon true) d γ vs x (λ n e r s. h n e r (spells.first-expr (seen s.1 refl (is_semicolon s.0 s.2).2)))

sound_bind : (T : ℕ → List Read) (u : List Read) (c b : Bool) (d : ℕ) (γ : List Symbol) (vs : List ParseTree) (x : Sign) → ((n : ℕ) (e : ParseTree) (r : List Read) → Spells (nonterminal.bind c b) d e (read x n ∷ u) r → Done (T n) γ (e ∷ vs) r) → Kept T u (grammar_machine.at_bind (List ParseTree) trees c b d γ vs x)
sound_bind T u c b d γ vs (of (kinds.Name role) i a) h = λ e r s. h d e r (s role a)
sound_bind T u c b d γ vs _ h = tt

sound_part : (T : ℕ → List Read) (u : List Read) (q : Expected) (d : ℕ) (γ : List Symbol) (vs : List ParseTree) (x : Sign) → ((n : ℕ) (e : ParseTree) (r : List Read) → GivesNonterminal q d e (read x n ∷ u) r → Done (T n) γ (e ∷ vs) r) → Kept T u (grammar_machine.at_part (List ParseTree) trees q d γ vs x)
sound_part T u expectation.Statement d γ vs x h = sound_statement T u d γ vs x h
sound_part T u expectation.Block d γ vs x h = sound_block T u d γ vs x h
sound_part T u expectation.Body d γ vs x h = sound_body T u d γ vs x h
sound_part T u expectation.Parameters d γ vs x h = sound_params T u d γ vs x h
sound_part T u (expectation.Expression n) d γ vs x h = sound_expr T u n d γ vs x h
sound_part T u (expectation.Assign n) d γ vs x h = sound_assign T u n d γ vs x h
sound_part T u expectation.Unary d γ vs x h = sound_unary T u d γ vs x h
sound_part T u (expectation.Operand v n) d γ vs x h = sound_operand T u v n d γ vs x h
sound_part T u (expectation.Callee i) d γ vs x h =
    sound_primary T u d (symbols.Loose (loose_kind.Callee i) d ∷ γ) vs x
    (λ n e r s. (read x n ∷ u, spells.callee-primary s, λ e1 r1 s1. h n e1 r1 s1))
    (λ n e r s. (read x n ∷ u, spells.callee-new s, λ e1 r1 s1. h n e1 r1 s1))
sound_part T u expectation.Target d γ vs x h =
    sound_primary T u d (symbols.Loose loose_kind.Target d ∷ γ) vs x
    (λ n e r s. (read x n ∷ u, spells.left-primary s, λ e1 r1 s1 i. h n e1 r1 (s1, i)))
    (λ n e r s. (read x n ∷ u, spells.left-new s, λ e1 r1 s1 i. h n e1 r1 (s1, i)))
sound_part T u (expectation.Binding c b) d γ vs x h = sound_bind T u c b d γ vs x h
sound_part T u expectation.First d γ vs x h = sound_first T u d γ vs x h
sound_part T u (expectation.Maybe n z) d γ vs x h = sound_maybe T u n z d γ vs x h
sound_part T u (expectation.Thrown j) d γ vs x h =
    either_way T u (same_line x) (grammar_machine.at_expr (List ParseTree) trees false d (symbols.Take (terminals.Semicolon false) d ∷ symbols.Do (act_kinds.Wrap (wrap.Throw j)) ∷ γ) vs x) Fail
    (λ i. sound_expr T u false d (symbols.Take (terminals.Semicolon false) d ∷ symbols.Do (act_kinds.Wrap (wrap.Throw j)) ∷ γ) vs x
    (λ n e r s x2 us eq f. h n (parse_tree.Wrap (wrap.Throw j) e) us (thrown (on_line x n u i) (cast s eq) f)))
    (λ _. tt)

-- TAILS

-- a part of one of these levels that is a target is a Left
abbrev LeftIf : Nonterminal → ℕ → ParseTree → List Read → List Read → Type 0
LeftIf (nonterminal.cond n) d e b m = is_target e ≡ true → Spells nonterminal.left d e b m
LeftIf (nonterminal.short n) d e b m = is_target e ≡ true → Spells nonterminal.left d e b m
LeftIf (nonterminal.coalesce n) d e b m = is_target e ≡ true → Spells nonterminal.left d e b m
LeftIf (nonterminal.level v n) d e b m = is_target e ≡ true → Spells nonterminal.left d e b m
LeftIf nonterminal.unary d e b m = is_target e ≡ true → Spells nonterminal.left d e b m
LeftIf _ d e b m = Unit {0}

clash : (c : Bool) → c ≡ true → c ≡ false → ⊥
clash true a b = absurd (cc (b))
clash false a b = absurd (cc (a))

-- the label of an operator is no index, and that of `||` or `&&` is that of no other level
abbrev indexed : Option (Level × Pair) → Bool
indexed (Some q) = indexes q.1
indexed None = false

not_indexed : (kind : Kind) → indexed (infix_of kind) ≡ false
not_indexed (kinds.Infix op) = refl
not_indexed (kinds.Short short_operator.And) = refl
not_indexed (kinds.Short short_operator.Or) = refl
not_indexed (kinds.Short short_operator.Coalesce) = refl
not_indexed _ = refl

no_index : (kind : Kind) (v : Level) (f : Pair) (l e : ParseTree) → infix_of kind ≡ Some (v, f) → is_target (parse_tree.Pair f l e) ≡ true → ⊥
no_index kind v f l e eq i = clash (indexes f) i (sym (ap indexed eq) ∙ not_indexed kind)

abbrev fit : Level → Bool → Bool
fit levels.Or c = c
fit levels.And c = c
fit _ c = true

abbrev labelled : Option (Level × Pair) → Bool
labelled (Some q) = fit q.0 (is_and_or q.1)
labelled None = true

all_labelled : (kind : Kind) → labelled (infix_of kind) ≡ true
all_labelled (kinds.Infix binary_operator.Equal) = refl
all_labelled (kinds.Infix _) = refl
all_labelled (kinds.Short short_operator.And) = refl
all_labelled (kinds.Short short_operator.Or) = refl
all_labelled (kinds.Short short_operator.Coalesce) = refl
all_labelled _ = refl

or_label : (kind : Kind) (f : Pair) → infix_of kind ≡ Some (levels.Or, f) → is_and_or f ≡ true
or_label kind f eq = sym (ap labelled eq) ∙ all_labelled kind

and_label : (kind : Kind) (f : Pair) → infix_of kind ≡ Some (levels.And, f) → is_and_or f ≡ true
and_label kind f eq = sym (ap labelled eq) ∙ all_labelled kind

not_true : (c : Bool) → not c ≡ true → c ≡ false
not_true true e = absurd (cc (e))
not_true false e = refl

target : {q : Nonterminal} {d : ℕ} {e : ParseTree} {b m : List Read} → Spells q d e b m → LeftIf q d e b m
target (spells.cond-short h) = target h
target (spells.cond-choice h i j) = λ e. cc
target (spells.short-or h) = target h
target (spells.short-coalesce h) = target h
target (spells.coalesce-two h i) = λ e. cc
target (spells.coalesce-more h i) = λ e. cc
target (spells.level-one {v = levels.Multiply} h) = target h
target (spells.level-one {v = levels.Add} h) = target h
target (spells.level-one {v = levels.Relation} h) = target h
target (spells.level-one {v = levels.Equal} h) = target h
target (spells.level-one {v = levels.And} h) = target h
target (spells.level-one {v = levels.Or} h) = target h
target (spells.level-more {v = v} {kind = kind} {f = f} {l = l} {e = e} h eq bar i) = λ j. absurd (no_index kind v f l e eq j)
target (spells.unary-prefix eq h) = λ e. cc
target (spells.unary-before h i) = λ e. cc
target (spells.unary-after h i) = λ e. cc
target (spells.unary-left h) = λ _. h
target _ = tt

-- what may stand beside `??`
abbrev PlainIf : Nonterminal → ℕ → ParseTree → List Read → List Read → Type 0
PlainIf (nonterminal.short n) d e b m = is_plain e ≡ true → (Spells (nonterminal.level levels.Equal n) d e b m) ⊎ (Spells (nonterminal.coalesce n) d e b m)
PlainIf (nonterminal.level levels.Or n) d e b m = is_plain e ≡ true → Spells (nonterminal.level levels.Equal n) d e b m
PlainIf (nonterminal.level levels.And n) d e b m = is_plain e ≡ true → Spells (nonterminal.level levels.Equal n) d e b m
PlainIf _ d e b m = Unit {0}

plain : {q : Nonterminal} {d : ℕ} {e : ParseTree} {b m : List Read} → Spells q d e b m → PlainIf q d e b m
plain (spells.short-or h) = λ i. inl (plain h i)
plain (spells.short-coalesce h) = λ i. inr h
plain (spells.level-one {v = levels.Or} h) = plain h
plain (spells.level-one {v = levels.And} h) = λ _. h
plain (spells.level-more {v = levels.Or} {kind = kind} {f = f} {l = l} {e = e} h eq bar i) = λ j. absurd (clash (is_and_or f) (or_label kind f eq) (not_true (is_and_or f) j))
plain (spells.level-more {v = levels.And} {kind = kind} {f = f} {l = l} {e = e} h eq bar i) = λ j. absurd (clash (is_and_or f) (and_label kind f eq) (not_true (is_and_or f) j))
plain _ = tt

after_left_sound : (T : ℕ → List Read) (u : List Read) (again : Symbol) (P : ℕ → List Read → Type 0) (d : ℕ) (γ : List Symbol) (l : ParseTree) (vs : List ParseTree) (x : Sign) → ((n : ℕ) (c : List Read) (e : ParseTree) (m : List Read) → Spells nonterminal.left d e c m → P n c → Done (T n) (again ∷ γ) (e ∷ vs) m) → ((n : ℕ) → (c : List Read) × Spells nonterminal.left d l c (read x n ∷ u) × P n c) → Kept T u (grammar_machine.after_left (List ParseTree) trees again d γ (l ∷ vs) x)
after_left_sound T u again P d γ l vs (of (kinds.Mark marks.Dot) i a) into h =
    let s = h d in
    λ kind j f us eq wd. into d s.0 (parse_tree.Wrap (wrap.Member i j) l) us (spells.left-member (cast s.1 (ap (λ (r : List Read). mark marks.Dot i a d ∷ r) eq)) wd) s.2
after_left_sound T u again P d γ l vs (of (kinds.Bracket brackets.SquareOpen) i a) into h =
    let s = h d in
    λ e r s1 x2 us eq f. into d s.0 (parse_tree.Pair (pair.Index i) l e) us (spells.left-index s.1 (seen s1 eq (is_square_close x2 f).2)) s.2
after_left_sound T u again P d γ l vs (of (kinds.Bracket brackets.Open) i a) into h =
    let s = h d in
    (u, λ x2 us eq f. list_none listings.Arguments d u us x2 eq f, λ e r s1. spells.arguments-one s1, λ ys r s1. into d s.0 (parse_tree.Pair pair.Call l ys) r (spells.left-call s.1 (s1 i a)) s.2)
after_left_sound T u again P d γ l vs _ into h = tt

after_callee_sound : (T : ℕ → List Read) (u : List Read) (o d : ℕ) (γ : List Symbol) (vs : List ParseTree) (x : Sign) → ((n : ℕ) → Done (T n) (symbols.Loose (loose_kind.Callee o) d ∷ γ) vs (read x n ∷ u)) → Kept T u (grammar_machine.after_callee (List ParseTree) trees o d γ vs x)
after_callee_sound T u o d γ (l ∷ vs) (of (kinds.Mark marks.Dot) i a) h =
    let s = h d in
    λ kind j f us eq wd. (s.0, spells.callee-member (cast s.1 (ap (λ (r : List Read). mark marks.Dot i a d ∷ r) eq)) wd, λ e r s2. s.2 e r s2)
after_callee_sound T u o d γ (l ∷ vs) (of (kinds.Bracket brackets.SquareOpen) i a) h =
    let s = h d in
    λ e r s1 x2 us eq f. (s.0, spells.callee-index s.1 (seen s1 eq (is_square_close x2 f).2), λ e r s2. s.2 e r s2)
after_callee_sound T u o d γ (l ∷ vs) (of (kinds.Bracket brackets.Open) i a) h =
    let s = h d in
    (u, λ x2 us eq f. list_none listings.Arguments d u us x2 eq f, λ e r s1. spells.arguments-one s1, λ ys r s1. s.2 (parse_tree.Pair (pair.New o) l ys) r (given s.1 (s1 i a)))
after_callee_sound T u o d γ [] x h = absurd (h 0)
after_callee_sound T u o d γ vs _ h = tt

after_update_sound : (T : ℕ → List Read) (u : List Read) (d : ℕ) (γ : List Symbol) (vs : List ParseTree) (x : Sign) → ((n : ℕ) → Done (T n) (symbols.Tail tails.Update d ∷ γ) vs (read x n ∷ u)) → Kept T u (grammar_machine.after_update (List ParseTree) trees d γ vs x)
after_update_sound T u d γ (l ∷ vs) (of (kinds.Update up) j false) h =
    let s = h d in
    either_way T u (is_target l) (Next γ (parse_tree.Wrap (wrap.Update up false j) l ∷ vs) d) Fail (λ i. s.2 (parse_tree.Wrap (wrap.Update up false j) l) u (spells.unary-after s.1 i)) (λ i. tt)
after_update_sound T u d γ [] x h = absurd (h 0)
after_update_sound T u d γ vs _ h = tt

rank_same : (v v' : Level) → grammar_machine.level_rank v == grammar_machine.level_rank v' ≡ true → v ≡ v'
rank_same levels.Or levels.Or e = refl
rank_same levels.And levels.And e = refl
rank_same levels.Equal levels.Equal e = refl
rank_same levels.Relation levels.Relation e = refl
rank_same levels.Add levels.Add e = refl
rank_same levels.Multiply levels.Multiply e = refl
rank_same _ _ e = absurd (cc (e))

and_parts : (a b : Bool) → (a && b) ≡ true → (a ≡ true) × (b ≡ true)
and_parts true true e = (refl, refl)
and_parts true false e = absurd (cc (e))
and_parts false b e = absurd (cc (e))

abbrev level_in : Option (Level × Pair) → Level
level_in (Some q) = q.0
level_in None = levels.Or

-- A token that a level's tail takes is an operator of that level.
same_level : (kind : Kind) (i : ℕ) (a : Bool) (v v' : Level) (n : Bool) (f : Pair) → infix_of kind ≡ Some (v', f) → grammar_machine.takes (tails.Level v n) (of kind i a) ≡ true → v' ≡ v
same_level (kinds.Infix op) i a v v' n f eq e = sym (ap level_in eq) ∙ rank_same (level_of op) v (and_parts (grammar_machine.level_rank (level_of op) == grammar_machine.level_rank v) (not (n && is_in (kinds.Infix op))) e).0
same_level (kinds.Short short_operator.And) i a v v' n f eq e = sym (ap level_in eq) ∙ rank_same levels.And v (and_parts (7 == grammar_machine.level_rank v) (not (n && false)) e).0
same_level (kinds.Short short_operator.Or) i a v v' n f eq e = sym (ap level_in eq) ∙ rank_same levels.Or v (and_parts (8 == grammar_machine.level_rank v) (not (n && false)) e).0
same_level _ i a v v' n f eq e = absurd (cc (eq))

joined_sound : (T : ℕ → List Read) (u : List Read) (v : Level) (n : Bool) (d : ℕ) (γ : List Symbol) (l : ParseTree) (vs : List ParseTree) (kind : Kind) (i : ℕ) (a : Bool) (o : Option (Level × Pair)) → infix_of kind ≡ o → grammar_machine.takes (tails.Level v n) (of kind i a) ≡ true → ((m : ℕ) → Done (T m) (symbols.Tail (tails.Level v n) d ∷ γ) (l ∷ vs) (read (of kind i a) m ∷ u)) → Kept T u (grammar_machine.joined (List ParseTree) trees v n d γ (l ∷ vs) o)
joined_sound T u v n d γ l vs kind i a (Some (v', f)) eq e h =
    let s = h d in
    λ x r s1. (s.0, spells.level-more s.1 (eq ∙ ap (λ (v : Level). Some (v, f)) (same_level kind i a v v' n f eq e)) (not_true (n && is_in kind) (and_parts (grammar_machine.reach (of kind i a) == grammar_machine.level_rank v) (not (n && is_in kind)) e).1) s1, λ x2 r2 s2. s.2 x2 r2 s2)
joined_sound T u v n d γ l vs kind i a None eq e h = tt

after_level_sound : (T : ℕ → List Read) (u : List Read) (v : Level) (n : Bool) (d : ℕ) (γ : List Symbol) (vs : List ParseTree) (x : Sign) → grammar_machine.takes (tails.Level v n) x ≡ true → ((m : ℕ) → Done (T m) (symbols.Tail (tails.Level v n) d ∷ γ) vs (read x m ∷ u)) → Kept T u (grammar_machine.after_level (List ParseTree) trees v n d γ vs x)
after_level_sound T u v n d γ (l ∷ vs) (of kind i a) e h = joined_sound T u v n d γ l vs kind i a (infix_of kind) refl e h
after_level_sound T u v n d γ (l ∷ vs) put e h = tt
after_level_sound T u v n d γ [] x e h = absurd (h 0)

coalesce_on : {n : Bool} {d i : ℕ} {l e : ParseTree} {ts ms rs : List Read} {a : Bool} → (Spells (nonterminal.level levels.Equal n) d l ts (read (of (kinds.Short short_operator.Coalesce) i a) d ∷ ms)) ⊎ (Spells (nonterminal.coalesce n) d l ts (read (of (kinds.Short short_operator.Coalesce) i a) d ∷ ms)) → Spells (nonterminal.level levels.Equal n) d e ms rs → Spells (nonterminal.short n) d (parse_tree.Pair (pair.Short short_operator.Coalesce) l e) ts rs
coalesce_on (inl h) i = spells.short-coalesce (spells.coalesce-two h i)
coalesce_on (inr h) i = spells.short-coalesce (spells.coalesce-more h i)

after_short_sound : (T : ℕ → List Read) (u : List Read) (n : Bool) (d : ℕ) (γ : List Symbol) (vs : List ParseTree) (x : Sign) → ((m : ℕ) → Done (T m) (symbols.Tail (tails.Short n) d ∷ γ) vs (read x m ∷ u)) → Kept T u (grammar_machine.after_short (List ParseTree) trees n d γ vs x)
after_short_sound T u n d γ (l ∷ vs) (of (kinds.Short short_operator.Coalesce) j a) h =
    let s = h d in
    either_way T u (is_plain l) (Next (symbols.Part (expectation.Operand levels.And n) d ∷ symbols.Do (act_kinds.Pair (pair.Short short_operator.Coalesce)) ∷ symbols.Tail (tails.Short n) d ∷ γ) (l ∷ vs) d) Fail
    (λ i. λ e r s1. (s.0, coalesce_on (plain s.1 i) s1, λ e r s2. s.2 e r s2)) (λ i. tt)
after_short_sound T u n d γ [] x h = absurd (h 0)
after_short_sound T u n d γ vs _ h = tt

after_cond_sound : (T : ℕ → List Read) (u : List Read) (n : Bool) (d : ℕ) (γ : List Symbol) (vs : List ParseTree) (x : Sign) → ((m : ℕ) → Done (T m) (symbols.Tail (tails.Conditional n) d ∷ γ) vs (read x m ∷ u)) → Kept T u (grammar_machine.after_cond (List ParseTree) trees n d γ vs x)
after_cond_sound T u n d γ (l ∷ vs) (of (kinds.Mark marks.Question) i a) h =
    let s = h d in λ e r s1 x2 us eq f e2 r2 s2. s.2 (parse_tree.Triple triple.Conditional l e e2) r2 (spells.cond-choice s.1 (seen s1 eq (is_colon x2 f).2) s2)
after_cond_sound T u n d γ [] x h = absurd (h 0)
after_cond_sound T u n d γ vs _ h = tt

-- the tail of an Assign stands one deeper than the Assign
assign_to : (T : ℕ → List Read) (u : List Read) (n : Bool) (d : ℕ) (γ : List Symbol) (l : ParseTree) (vs : List ParseTree) (op : AssignOperator) (j : ℕ) (a : Bool) → is_target l ≡ true → Done (T d) (symbols.Tail (tails.Assign n) d ∷ γ) (l ∷ vs) (read (of (kinds.Assign op) j a) d ∷ u) → Done (T d) (symbols.Part (expectation.Assign n) d ∷ symbols.Do (act_kinds.Pair (pair.Assign op)) ∷ γ) (l ∷ vs) u
assign_to T u n (suc d) γ l vs op j a i s = λ e r s1. s.2 (parse_tree.Pair (pair.Assign op) l e) r (spells.assign-to (target s.1 i) i s1)
assign_to T u n zero γ l vs op j a i s = absurd s.1

after_assign_sound : (T : ℕ → List Read) (u : List Read) (n : Bool) (d : ℕ) (γ : List Symbol) (vs : List ParseTree) (x : Sign) → ((m : ℕ) → Done (T m) (symbols.Tail (tails.Assign n) d ∷ γ) vs (read x m ∷ u)) → Kept T u (grammar_machine.after_assign (List ParseTree) trees n d γ vs x)
after_assign_sound T u n d γ (l ∷ vs) (of (kinds.Assign op) j a) h =
    either_way T u (is_target l) (Next (symbols.Part (expectation.Assign n) d ∷ symbols.Do (act_kinds.Pair (pair.Assign op)) ∷ γ) (l ∷ vs) d) Fail (λ i. assign_to T u n d γ l vs op j a i (h d)) (λ i. tt)
after_assign_sound T u n d γ [] x h = absurd (h 0)
after_assign_sound T u n d γ vs _ h = tt

after_expr_sound : (T : ℕ → List Read) (u : List Read) (n : Bool) (d : ℕ) (γ : List Symbol) (vs : List ParseTree) (x : Sign) → ((m : ℕ) → Done (T m) (symbols.Tail (tails.Expression n) d ∷ γ) vs (read x m ∷ u)) → Kept T u (grammar_machine.after_expr (List ParseTree) trees n d γ vs x)
after_expr_sound T u n d γ (l ∷ vs) (of (kinds.Mark marks.Comma) i a) h =
    let s = h d in λ e r s1. (s.0, spells.expr-more s.1 s1, λ e r s2. s.2 e r s2)
after_expr_sound T u n d γ [] x h = absurd (h 0)
after_expr_sound T u n d γ vs _ h = tt

left_goes_on : (T : ℕ → List Read) (u : List Read) (d : ℕ) (γ : List Symbol) (vs : List ParseTree) (x : Sign) → ((m : ℕ) → Done (T m) (symbols.Tail tails.Left d ∷ γ) vs (read x m ∷ u)) → Kept T u (grammar_machine.after_left (List ParseTree) trees (symbols.Tail tails.Left d) d γ vs x)
left_goes_on T u d γ (l ∷ vs) x h =
    after_left_sound T u (symbols.Tail tails.Left d) (λ n c. (e : ParseTree) (r : List Read) → Spells nonterminal.left d e c r → Done (T n) γ (e ∷ vs) r) d γ l vs x
    (λ n c e m s f. (c, s, f)) (λ n. let s = h n in (s.0, s.1, λ e r q. s.2 e r q))
left_goes_on T u d γ [] x h = absurd (h 0)

continue_sound : (T : ℕ → List Read) (u : List Read) (q : Tail) (d : ℕ) (γ : List Symbol) (vs : List ParseTree) (x : Sign) → grammar_machine.takes q x ≡ true → ((m : ℕ) → Done (T m) (symbols.Tail q d ∷ γ) vs (read x m ∷ u)) → Kept T u (grammar_machine.continue (List ParseTree) trees q d γ vs x)
continue_sound T u tails.Left d γ vs x e h = left_goes_on T u d γ vs x h
continue_sound T u tails.Update d γ vs x e h = after_update_sound T u d γ vs x h
continue_sound T u (tails.Level v n) d γ vs x e h = after_level_sound T u v n d γ vs x e h
continue_sound T u (tails.Short n) d γ vs x e h = after_short_sound T u n d γ vs x h
continue_sound T u (tails.Conditional n) d γ vs x e h = after_cond_sound T u n d γ vs x h
continue_sound T u (tails.Assign n) d γ vs x e h = after_assign_sound T u n d γ vs x h
continue_sound T u (tails.Expression n) d γ vs x e h = after_expr_sound T u n d γ vs x h

whole_of : (q : Tail) (d : ℕ) (l : ParseTree) (b m : List Read) → Sofar q d l b m → Whole q d l b m
whole_of tails.Left d l b m s = s
whole_of tails.Update d l b m s = spells.unary-left s
whole_of (tails.Level v n) d l b m s = s
whole_of (tails.Short n) d l b m s = s
whole_of (tails.Conditional n) d l b m s = spells.cond-short s
whole_of (tails.Assign n) (suc d) l b m s = spells.assign-cond s
whole_of (tails.Assign n) zero l b m s = s
whole_of (tails.Expression n) d l b m s = s

-- a tail that is left alone
pub pop : (T m : List Read) (q : Tail) (d : ℕ) (γ : List Symbol) (vs : List ParseTree) → Done T (symbols.Tail q d ∷ γ) vs m → Done T γ vs m
pop T m q d γ (l ∷ vs) s = s.2 l m (whole_of q d l s.0 m s.1)
pop T m q d γ [] s = absurd s

-- STAGES

is_comma : (x : Sign) → grammar_machine.is_comma x ≡ true → (j : ℕ) × (c : Bool) × (x ≡ of (kinds.Mark marks.Comma) j c)
is_comma (of (kinds.Mark marks.Comma) j c) f = (j, c, refl)
is_comma _ f = absurd (cc (f))

list_some : (q : Listing) (d : ℕ) (xs : ParseTree) (c us : List Read) (x : Sign) → Members q d xs c (read x d ∷ us) → fits (closing q) x ≡ true → ListEnd q d xs c us
list_some listings.Arguments d xs c us x s f = λ i a. spells.args-some (seen s refl (is_close x f).2)
list_some listings.Parameters d xs c us x s f = λ i a. spells.params-some (seen s refl (is_close x f).2)
list_some listings.Properties d xs c us x s f = λ i a. spells.object-some (seen s refl (is_brace_close x f).2)

two_seen : {q : Nonterminal} {d n n' j : ℕ} {a : Bool} {kind : Kind} {e : ParseTree} {ts m us : List Read} {x x' x2 : Sign} → Spells q d e ts (read x n ∷ m) → x ≡ of kind j a → m ≡ read x2 n' ∷ us → x2 ≡ x' → Spells q d e ts (read (of kind j a) n ∷ read x' n' ∷ us)
two_seen {n = n} {n' = n'} {j = j} {a = a} {kind = kind} {us = us} s c eq f = cast (seen s refl c) (ap (λ (r : List Read). read (of kind j a) n ∷ r) (eq ∙ ap (λ (x : Sign). read x n' ∷ us) f))

list_comma : (q : Listing) (d : ℕ) (xs : ParseTree) (c m us : List Read) (x x2 : Sign) → Members q d xs c (read x d ∷ m) → grammar_machine.is_comma x ≡ true → m ≡ read x2 d ∷ us → fits (closing q) x2 ≡ true → ListEnd q d xs c us
list_comma listings.Arguments d xs c m us x x2 s f eq f2 = λ i a. spells.args-comma (two_seen s (is_comma x f).2 eq (is_close x2 f2).2)
list_comma listings.Parameters d xs c m us x x2 s f eq f2 = λ i a. spells.params-comma (two_seen s (is_comma x f).2 eq (is_close x2 f2).2)
list_comma listings.Properties d xs c m us x x2 s f eq f2 = λ i a. spells.object-comma (two_seen s (is_comma x f).2 eq (is_brace_close x2 f2).2)

list_more : (q : Listing) (d : ℕ) (xs e : ParseTree) (c m r : List Read) (x : Sign) → Members q d xs c (read x d ∷ m) → grammar_machine.is_comma x ≡ true → Member q d e m r → Members q d (parse_tree.Pair pair.And xs e) c r
list_more listings.Arguments d xs e c m r x s f i = spells.arguments-more (seen s refl (is_comma x f).2) i
list_more listings.Parameters d xs e c m r x s f i = spells.names-more (seen s refl (is_comma x f).2) i
list_more listings.Properties d xs e c m r x s f i = spells.props-more (seen s refl (is_comma x f).2) i

sound_key : (T : ℕ → List Read) (u : List Read) (d : ℕ) (γ : List Symbol) (vs : List ParseTree) (x : Sign) → ((n : ℕ) (e : ParseTree) (r : List Read) → Spells nonterminal.key d e (read x n ∷ u) r → Done (T n) γ (e ∷ vs) r) → Kept T u (grammar_machine.at_key (List ParseTree) trees d γ vs x)
sound_key T u d γ vs (of (kinds.Bracket brackets.SquareOpen) i a) h = λ e r s x2 us eq f. h d (parse_tree.Wrap (wrap.Computed i) e) us (spells.key-computed (seen s eq (is_square_close x2 f).2))
sound_key T u d γ vs put h = tt
sound_key T u d γ vs (of kind i a) h = either_way T u (is_key kind) (Next γ (parse_tree.Atom (atom.Key i) ∷ vs) d) Fail (λ e. h d (parse_tree.Atom (atom.Key i)) u (spells.key-token e)) (λ _. tt)

after_key_sound : (T : ℕ → List Read) (u : List Read) (d : ℕ) (γ : List Symbol) (l : ParseTree) (vs : List ParseTree) (x : Sign) → ((n : ℕ) → (c : List Read) × Spells nonterminal.key d l c (read x n ∷ u) × ((e : ParseTree) (r : List Read) → Spells nonterminal.prop d e c r → Done (T n) γ (e ∷ vs) r)) → Kept T u (grammar_machine.after_key (List ParseTree) trees d γ (l ∷ vs) x)
after_key_sound T u d γ l vs (of (kinds.Mark marks.Colon) i a) h = let s = h d in λ e r s1. s.2 (parse_tree.Pair pair.Property l e) r (spells.prop-value s.1 s1)
after_key_sound T u d γ l vs (of (kinds.Bracket brackets.Open) i a) h =
    let s = h (suc d) in
    (u, λ x2 us eq f. list_none listings.Parameters (suc d) u us x2 eq f, λ e r s1. spells.names-one s1, λ ys r s1 xs r2 s2. s.2 (parse_tree.Triple triple.Method l ys xs) r2 (spells.prop-method s.1 (s1 i a) s2))
after_key_sound T u d γ l vs _ h = tt

sound_prop : (T : ℕ → List Read) (u : List Read) (d : ℕ) (γ : List Symbol) (vs : List ParseTree) (x : Sign) → ((n : ℕ) (e : ParseTree) (r : List Read) → Spells nonterminal.prop d e (read x n ∷ u) r → Done (T n) γ (e ∷ vs) r) → Kept T u (grammar_machine.at_prop (List ParseTree) trees d γ vs x)
sound_prop T u d γ vs (of (kinds.Name r) i a) h = (a, λ e r s. h d e r s)
sound_prop T u d γ vs x h = sound_key T u d (symbols.Stage stages.AfterKey d ∷ γ) vs x (λ n e r s. (read x n ∷ u, s, λ e2 r2 s2. h n e2 r2 s2))

set_of : {d i j : ℕ} {x e : ParseTree} {ts ms r : List Read} {a c : Bool} → Spells nonterminal.key d x ts (bracket brackets.Open j c (suc d) ∷ ms) → SetterEnd i (suc d) x e ms r → Spells nonterminal.prop d e (read (of (kinds.Name role.Set) i a) d ∷ ts) r
set_of h (setter s) = spells.prop-set h s

accessor_sound : (T : ℕ → List Read) (u : List Read) (r : NameRole) (i d : ℕ) (γ : List Symbol) (vs : List ParseTree) (x : Sign) → ((n : ℕ) → Done (T n) (symbols.Loose (loose_kind.Property r i) d ∷ γ) vs (read x n ∷ u)) → Kept T u (grammar_machine.at_accessor (List ParseTree) trees r i d γ vs x)
accessor_sound T u role.Get i d γ vs x h =
    sound_key T u d (symbols.Take terminals.Open (suc d) ∷ symbols.Take terminals.Close (suc d) ∷ symbols.Part expectation.Body (suc d) ∷ symbols.Do (act_kinds.Pair (pair.Getter i)) ∷ γ) vs x
    (λ n e r s x1 us1 eq1 f1 x2 us2 eq2 f2 xs r3 s3. (h n).1 (parse_tree.Pair (pair.Getter i) e xs) r3 (spells.prop-get (two_seen (cast s eq1) (is_open x1 f1).2 eq2 (is_close x2 f2).2) s3))
accessor_sound T u role.Set i d γ vs x h =
    sound_key T u d (symbols.Take terminals.Open (suc d) ∷ symbols.Stage (stages.SetterName i) (suc d) ∷ γ) vs x
    (λ n e r s x1 us1 eq1 f1 e2 r2 s2. (h n).1 e2 r2 (set_of (seen s eq1 (is_open x1 f1).2) s2))
accessor_sound T u role.Plain i d γ vs x h = tt

sound_param : (T : ℕ → List Read) (u : List Read) (d : ℕ) (γ : List Symbol) (vs : List ParseTree) (x : Sign) → ((n : ℕ) (e : ParseTree) (r : List Read) → Spells nonterminal.param d e (read x n ∷ u) r → Done (T n) γ (e ∷ vs) r) → Kept T u (grammar_machine.at_param (List ParseTree) trees d γ vs x)
sound_param T u d γ vs (of (kinds.Name r) i a) h = h d (parse_tree.Atom (atom.Binding i)) u spells.param-name
sound_param T u d γ vs _ h = tt

sound_member : (T : ℕ → List Read) (u : List Read) (q : Listing) (d : ℕ) (γ : List Symbol) (vs : List ParseTree) (x : Sign) → ((n : ℕ) (e : ParseTree) (r : List Read) → Member q d e (read x n ∷ u) r → Done (T n) γ (e ∷ vs) r) → Kept T u (grammar_machine.at_member (List ParseTree) trees q d γ vs x)
sound_member T u listings.Arguments d γ vs x h = sound_assign T u false d γ vs x h
sound_member T u listings.Parameters d γ vs x h = sound_param T u d γ vs x h
sound_member T u listings.Properties d γ vs x h = sound_prop T u d γ vs x h

word_sound : (T : ℕ → List Read) (u : List Read) (dot d : ℕ) (γ : List Symbol) (vs : List ParseTree) (x : Sign) → ((n : ℕ) → Done (T n) (symbols.Stage (stages.Word dot) d ∷ γ) vs (read x n ∷ u)) → Kept T u (grammar_machine.on_word (List ParseTree) trees dot d γ vs x)
word_sound T u dot d γ (l ∷ vs) (of kind i a) h = either_way T u (is_word kind) (Next γ (parse_tree.Wrap (wrap.Member dot i) l ∷ vs) d) Fail (λ e. h d kind i a u refl e) (λ _. tt)
word_sound T u dot d γ (l ∷ vs) put h = tt
word_sound T u dot d γ [] x h = absurd (h 0)

listed_sound : (T : ℕ → List Read) (u : List Read) (q : Listing) (d : ℕ) (γ : List Symbol) (vs : List ParseTree) (x : Sign) → ((n : ℕ) → Done (T n) (symbols.Stage (stages.Listed q) d ∷ γ) vs (read x n ∷ u)) → Kept T u (grammar_machine.at_stage (List ParseTree) trees (stages.Listed q) d γ vs x)
listed_sound T u q d γ (xs ∷ vs) x h =
    either_way T u (fits (closing q) x) (Next γ (xs ∷ vs) d) (grammar_machine.at_member (List ParseTree) trees q d (symbols.Do (act_kinds.Pair pair.And) ∷ symbols.Stage (stages.Rest q) d ∷ γ) (xs ∷ vs) x)
    (λ f. let s = h d in s.3 xs u (s.1 x u refl f))
    (λ _. sound_member T u q d (symbols.Do (act_kinds.Pair pair.And) ∷ symbols.Stage (stages.Rest q) d ∷ γ) (xs ∷ vs) x (λ n e r sm. let s = h n in (s.0, s.2 e r sm, λ ys r2 s2. s.3 ys r2 s2)))
listed_sound T u q d γ [] x h = absurd (h 0)

rest_sound : (T : ℕ → List Read) (u : List Read) (q : Listing) (d : ℕ) (γ : List Symbol) (vs : List ParseTree) (x : Sign) → ((n : ℕ) → Done (T n) (symbols.Stage (stages.Rest q) d ∷ γ) vs (read x n ∷ u)) → Kept T u (grammar_machine.at_stage (List ParseTree) trees (stages.Rest q) d γ vs x)
rest_sound T u q d γ (xs ∷ vs) x h =
    either_way T u (fits (closing q) x) (Next γ (xs ∷ vs) d) (cond (grammar_machine.is_comma x) (Next (symbols.Stage (stages.Listed q) d ∷ γ) (xs ∷ vs) d) Fail)
    (λ f. let s = h d in s.2 xs u (list_some q d xs s.0 u x s.1 f))
    (λ _. either_way T u (grammar_machine.is_comma x) (Next (symbols.Stage (stages.Listed q) d ∷ γ) (xs ∷ vs) d) Fail
    (λ f. let s = h d in (s.0, λ x2 us eq f2. list_comma q d xs s.0 u us x x2 s.1 f eq f2, λ e r i. list_more q d xs e s.0 u r x s.1 f i, λ ys r2 s2. s.2 ys r2 s2)) (λ _. tt))
rest_sound T u q d γ [] x h = absurd (h 0)

elements_sound : (T : ℕ → List Read) (u : List Read) (d : ℕ) (γ : List Symbol) (vs : List ParseTree) (x : Sign) → ((n : ℕ) → Done (T n) (symbols.Stage stages.Elements d ∷ γ) vs (read x n ∷ u)) → Kept T u (grammar_machine.more_elements (List ParseTree) trees d γ vs x)
elements_sound T u d γ (xs ∷ vs) x h =
    either_way T u (fits terminals.SquareClose x) (Next γ (xs ∷ vs) d)
    (cond (grammar_machine.is_comma x) (Next (symbols.Stage stages.Elements d ∷ γ) (parse_tree.Pair pair.And xs (parse_tree.Atom atom.Hole) ∷ vs) d) (grammar_machine.at_assign (List ParseTree) trees false d (symbols.Do (act_kinds.Pair pair.And) ∷ symbols.Stage stages.AfterElement d ∷ γ) (xs ∷ vs) x))
    (λ f. let s = h d in s.2 xs u (λ i a. spells.array (seen s.1 refl (is_square_close x f).2)))
    (λ _. either_way T u (grammar_machine.is_comma x) (Next (symbols.Stage stages.Elements d ∷ γ) (parse_tree.Pair pair.And xs (parse_tree.Atom atom.Hole) ∷ vs) d) (grammar_machine.at_assign (List ParseTree) trees false d (symbols.Do (act_kinds.Pair pair.And) ∷ symbols.Stage stages.AfterElement d ∷ γ) (xs ∷ vs) x)
    (λ f. let s = h d in (s.0, spells.elements-hole (seen s.1 refl (is_comma x f).2), λ ys r2 s2. s.2 ys r2 s2))
    (λ _. sound_assign T u false d (symbols.Do (act_kinds.Pair pair.And) ∷ symbols.Stage stages.AfterElement d ∷ γ) (xs ∷ vs) x
    (λ n e r sa. let s = h n in (
      s.0,
      λ x2 us eq f i a. spells.array-last s.1 (seen sa eq (is_square_close x2 f).2),
      λ j f us eq. spells.elements-more s.1 (cast sa eq),
      λ ys r2 s2. s.2 ys r2 s2,
    ))))
elements_sound T u d γ [] x h = absurd (h 0)

element_sound : (T : ℕ → List Read) (u : List Read) (d : ℕ) (γ : List Symbol) (vs : List ParseTree) (x : Sign) → ((n : ℕ) → Done (T n) (symbols.Stage stages.AfterElement d ∷ γ) vs (read x n ∷ u)) → Kept T u (grammar_machine.at_stage (List ParseTree) trees stages.AfterElement d γ vs x)
element_sound T u d γ (xs ∷ vs) x h =
    either_way T u (fits terminals.SquareClose x) (Next γ (xs ∷ vs) d) (cond (grammar_machine.is_comma x) (Next (symbols.Stage stages.Elements d ∷ γ) (xs ∷ vs) d) Fail)
    (λ f. let s = h d in s.3 xs u (s.1 x u refl f))
    (λ _. either_way T u (grammar_machine.is_comma x) (Next (symbols.Stage stages.Elements d ∷ γ) (xs ∷ vs) d) Fail
    (λ f. let s = h d in let c = is_comma x f in (s.0, s.2 c.0 c.1 u (ap (λ (x : Sign). read x d ∷ u) c.2), λ ys r2 s2. s.3 ys r2 s2)) (λ _. tt))
element_sound T u d γ [] x h = absurd (h 0)

return_sound : (T : ℕ → List Read) (u : List Read) (i d : ℕ) (γ : List Symbol) (vs : List ParseTree) (x : Sign) → ((n : ℕ) → Done (T n) (symbols.Stage (stages.AfterReturn i) d ∷ γ) vs (read x n ∷ u)) → Kept T u (grammar_machine.at_stage (List ParseTree) trees (stages.AfterReturn i) d γ vs x)
return_sound T u i d γ vs x h =
    either_way T u (is_end false x) (Next γ (parse_tree.Atom (atom.Return i) ∷ vs) d) (cond (same_line x) (grammar_machine.at_expr (List ParseTree) trees false d (symbols.Take (terminals.Semicolon false) d ∷ symbols.Do (act_kinds.Wrap (wrap.Return i)) ∷ γ) vs x) Fail)
    (λ f. (h d).0 x u refl f)
    (λ _. either_way T u (same_line x) (grammar_machine.at_expr (List ParseTree) trees false d (symbols.Take (terminals.Semicolon false) d ∷ symbols.Do (act_kinds.Wrap (wrap.Return i)) ∷ γ) vs x) Fail
    (λ same. sound_expr T u false d (symbols.Take (terminals.Semicolon false) d ∷ symbols.Do (act_kinds.Wrap (wrap.Return i)) ∷ γ) vs x (λ n e r s x2 us eq f. (h n).1 e x2 us (on_line x n u same) (cast s eq) f))
    (λ _. tt))

try_sound : (T : ℕ → List Read) (u : List Read) (o d : ℕ) (γ : List Symbol) (vs : List ParseTree) (x : Sign) → ((n : ℕ) → Done (T n) (symbols.Stage (stages.AfterTry o) d ∷ γ) vs (read x n ∷ u)) → Kept T u (grammar_machine.after_try (List ParseTree) trees o d γ vs x)
try_sound T u o d γ (l ∷ vs) (of (kinds.Word words.Catch) i a) h = λ e r s. (word words.Catch i a d ∷ u, s i a, λ e2 r2 s2. h d e2 r2 s2)
try_sound T u o d γ (l ∷ vs) (of (kinds.Word words.Finally) i a) h = λ z r s. h d (parse_tree.Triple (triple.Try o) l nothing z) r (lastly s)
try_sound T u o d γ [] x h = absurd (h 0)
try_sound T u o d γ vs _ h = tt

catch_sound : (T : ℕ → List Read) (u : List Read) (d : ℕ) (γ : List Symbol) (vs : List ParseTree) (x : Sign) → ((n : ℕ) → Done (T n) (symbols.Stage stages.AfterCatch d ∷ γ) vs (read x n ∷ u)) → Kept T u (grammar_machine.after_catch (List ParseTree) trees d γ vs x)
catch_sound T u d γ vs (of (kinds.Bracket brackets.Open) j c) h = λ e r s. h d e r (λ i a. s i j a c)
catch_sound T u d γ vs x h = sound_block T u d (symbols.Do (act_kinds.Wrap wrap.Catch) ∷ γ) vs x (λ n e r s. h n (parse_tree.Wrap wrap.Catch e) r (λ i a. spells.catch-block s))

catch_name_sound : (T : ℕ → List Read) (u : List Read) (d : ℕ) (γ : List Symbol) (vs : List ParseTree) (x : Sign) → ((n : ℕ) → Done (T n) (symbols.Stage stages.CatchName d ∷ γ) vs (read x n ∷ u)) → Kept T u (grammar_machine.catch_name (List ParseTree) trees d γ vs x)
catch_name_sound T u d γ vs (of (kinds.Name role) o f) h = λ x1 us eq f1 e r s. h d (parse_tree.Wrap (wrap.CatchName o) e) r
    (λ i j a c. subst (λ (m : List Read). Spells nonterminal.catch d (parse_tree.Wrap (wrap.CatchName o) e) (word words.Catch i a d ∷ bracket brackets.Open j c d ∷ read (of (kinds.Name role) o f) d ∷ m) r)
    (sym (eq ∙ ap (λ (x : Sign). read x d ∷ us) (is_close x1 f1).2)) (spells.catch-name s))
catch_name_sound T u d γ vs _ h = tt

bindings_sound : (T : ℕ → List Read) (u : List Read) (c b : Bool) (i d : ℕ) (γ : List Symbol) (vs : List ParseTree) (x : Sign) → ((n : ℕ) → Done (T n) (symbols.Stage (stages.MoreBindings c b i) d ∷ γ) vs (read x n ∷ u)) → Kept T u (grammar_machine.at_stage (List ParseTree) trees (stages.MoreBindings c b i) d γ vs x)
bindings_sound T u c b i d γ (xs ∷ vs) x h =
    either_way T u (is_end b x) (Next γ (parse_tree.Wrap (wrap.Lexical c i) xs ∷ vs) d) (cond (grammar_machine.is_comma x) (Next (symbols.Part (expectation.Binding c b) d ∷ symbols.Do (act_kinds.Pair pair.And) ∷ symbols.Stage (stages.MoreBindings c b i) d ∷ γ) (xs ∷ vs) d) Fail)
    (λ f. let s = h d in s.2 xs u (x, s.1, f))
    (λ _. either_way T u (grammar_machine.is_comma x) (Next (symbols.Part (expectation.Binding c b) d ∷ symbols.Do (act_kinds.Pair pair.And) ∷ symbols.Stage (stages.MoreBindings c b i) d ∷ γ) (xs ∷ vs) d) Fail
    (λ f. let s = h d in λ e r se. (s.0, spells.binds-more (seen s.1 refl (is_comma x f).2) se, λ ys r2 s2. s.2 ys r2 s2)) (λ _. tt))
bindings_sound T u c b i d γ [] x h = absurd (h 0)

function_name_sound : (T : ℕ → List Read) (u : List Read) (i d : ℕ) (γ : List Symbol) (vs : List ParseTree) (x : Sign) → ((n : ℕ) → Done (T n) (symbols.Stage (stages.FunctionName i) d ∷ γ) vs (read x n ∷ u)) → Kept T u (grammar_machine.function_name (List ParseTree) trees i d γ vs x)
function_name_sound T u i d γ vs (of (kinds.Name role) j c) h = λ ps r1 s1 xs r2 s2. h d (parse_tree.Pair (pair.DeclaredFunction i j) ps xs) r2 (declared s1 s2)
function_name_sound T u i d γ vs _ h = tt

after_function_sound : (T : ℕ → List Read) (u : List Read) (i d : ℕ) (γ : List Symbol) (vs : List ParseTree) (x : Sign) → ((n : ℕ) → Done (T n) (symbols.Stage (stages.AfterFunction i) d ∷ γ) vs (read x n ∷ u)) → Kept T u (grammar_machine.after_function (List ParseTree) trees i d γ vs x)
after_function_sound T u i d γ vs (of (kinds.Name role) j c) h = λ ps r1 s1 xs r2 s2. h d (parse_tree.Pair (pair.NamedFunction i j) ps xs) r2 (named s1 s2)
after_function_sound T u i d γ vs x h = sound_params T u d (symbols.Part expectation.Body d ∷ symbols.Do (act_kinds.Pair (pair.Function i)) ∷ γ) vs x (λ n ps r1 s1 xs r2 s2. h n (parse_tree.Pair (pair.Function i) ps xs) r2 (unnamed s1 s2))

key_stage_sound : (T : ℕ → List Read) (u : List Read) (d : ℕ) (γ : List Symbol) (vs : List ParseTree) (x : Sign) → ((n : ℕ) → Done (T n) (symbols.Stage stages.AfterKey d ∷ γ) vs (read x n ∷ u)) → Kept T u (grammar_machine.after_key (List ParseTree) trees d γ vs x)
key_stage_sound T u d γ (l ∷ vs) x h = after_key_sound T u d γ l vs x (λ n. let s = h n in (s.0, s.1, λ e r i. s.2 e r i))
key_stage_sound T u d γ [] x h = absurd (h 0)

setter_sound : (T : ℕ → List Read) (u : List Read) (i d : ℕ) (γ : List Symbol) (vs : List ParseTree) (x : Sign) → ((n : ℕ) → Done (T n) (symbols.Stage (stages.SetterName i) d ∷ γ) vs (read x n ∷ u)) → Kept T u (grammar_machine.setter_name (List ParseTree) trees i d γ vs x)
setter_sound T u i d γ (l ∷ vs) (of (kinds.Name role) o f) h = λ x1 us eq f1 xs r s. h d (parse_tree.Pair (pair.Setter i o) l xs) r
    (subst (λ (m : List Read). SetterEnd i d l (parse_tree.Pair (pair.Setter i o) l xs) (read (of (kinds.Name role) o f) d ∷ m) r)
    (sym (eq ∙ ap (λ (x : Sign). read x d ∷ us) (is_close x1 f1).2)) (setter s))
setter_sound T u i d γ [] x h = absurd (h 0)
setter_sound T u i d γ vs _ h = tt

sound_stage : (T : ℕ → List Read) (u : List Read) (q : Stage) (d : ℕ) (γ : List Symbol) (vs : List ParseTree) (x : Sign) → ((n : ℕ) → Done (T n) (symbols.Stage q d ∷ γ) vs (read x n ∷ u)) → Kept T u (grammar_machine.at_stage (List ParseTree) trees q d γ vs x)
sound_stage T u (stages.Word i) d γ vs x h = word_sound T u i d γ vs x h
sound_stage T u (stages.Listed q) d γ vs x h = listed_sound T u q d γ vs x h
sound_stage T u (stages.Rest q) d γ vs x h = rest_sound T u q d γ vs x h
sound_stage T u stages.Elements d γ vs x h = elements_sound T u d γ vs x h
sound_stage T u stages.AfterElement d γ vs x h = element_sound T u d γ vs x h
sound_stage T u (stages.AfterReturn i) d γ vs x h = return_sound T u i d γ vs x h
sound_stage T u (stages.AfterTry i) d γ vs x h = try_sound T u i d γ vs x h
sound_stage T u stages.AfterCatch d γ vs x h = catch_sound T u d γ vs x h
sound_stage T u stages.CatchName d γ vs x h = catch_name_sound T u d γ vs x h
sound_stage T u (stages.MoreBindings c b i) d γ vs x h = bindings_sound T u c b i d γ vs x h
sound_stage T u (stages.FunctionName i) d γ vs x h = function_name_sound T u i d γ vs x h
sound_stage T u (stages.AfterFunction i) d γ vs x h = after_function_sound T u i d γ vs x h
sound_stage T u stages.AfterKey d γ vs x h = key_stage_sound T u d γ vs x h
sound_stage T u (stages.SetterName i) d γ vs x h = setter_sound T u i d γ vs x h

-- WHAT MAY GO ON

items_more : (T : List Read) (c : Bool) (d : ℕ) (γ : List Symbol) (vs : List ParseTree) (m : List Read) → Done T (symbols.Loose (loose_kind.Items c) d ∷ γ) vs m → (e : ParseTree) (r : List Read) → Spells (nonterminal.item c) d e m r → Done T (symbols.Do (act_kinds.Pair pair.And) ∷ symbols.Loose (loose_kind.Items c) d ∷ γ) (e ∷ vs) r
items_more T c d γ (xs ∷ vs) m s e r h = (s.0, spells.items-more s.1 h, λ ys r2 s2. s.2 ys r2 s2)
items_more T c d γ [] m s e r h = absurd s

on_else : (T : ℕ → List Read) (u : List Read) (o d : ℕ) (γ : List Symbol) (vs : List ParseTree) (x : Sign) → grammar_machine.is_word_sign words.Else x ≡ true → ((n : ℕ) → Done (T n) (symbols.Loose (loose_kind.Else o) d ∷ γ) vs (read x n ∷ u)) → Kept T u (Next (symbols.Part expectation.Statement d ∷ symbols.Do (act_kinds.Triple (triple.IfElse o)) ∷ γ) vs d)
on_else T u o d γ (z ∷ e ∷ vs) (of (kinds.Word words.Else) i f) eq h = λ e2 r s. (h d).1 i f u refl e2 r s
on_else T u o d γ (z ∷ []) (of (kinds.Word words.Else) i f) eq h = absurd (h 0)
on_else T u o d γ [] (of (kinds.Word words.Else) i f) eq h = absurd (h 0)
on_else T u o d γ vs _ eq h = absurd (cc (eq))

on_finally : (T : ℕ → List Read) (u : List Read) (o d : ℕ) (γ : List Symbol) (vs : List ParseTree) (x : Sign) → grammar_machine.is_word_sign words.Finally x ≡ true → ((n : ℕ) → Done (T n) (symbols.Loose (loose_kind.Finally o) d ∷ γ) vs (read x n ∷ u)) → Kept T u (Next (symbols.Part expectation.Block d ∷ symbols.Do (act_kinds.Triple (triple.Try o)) ∷ γ) vs d)
on_finally T u o d γ (z ∷ e ∷ vs) (of (kinds.Word words.Finally) i f) eq h = let s = h d in λ e2 r s2. s.2 (parse_tree.Triple (triple.Try o) e z e2) r (both s.1 s2)
on_finally T u o d γ (z ∷ []) (of (kinds.Word words.Finally) i f) eq h = absurd (h 0)
on_finally T u o d γ [] (of (kinds.Word words.Finally) i f) eq h = absurd (h 0)
on_finally T u o d γ vs _ eq h = absurd (cc (eq))

on_equals : (T : ℕ → List Read) (u : List Read) (c b : Bool) (i d : ℕ) (γ : List Symbol) (vs : List ParseTree) (x : Sign) → grammar_machine.is_equals x ≡ true → ((n : ℕ) → Done (T n) (symbols.Loose (loose_kind.Binding c b i) d ∷ γ) vs (read x n ∷ u)) → Kept T u (Next (symbols.Part (expectation.Assign b) d ∷ symbols.Do (act_kinds.Wrap (wrap.Binding i)) ∷ γ) vs d)
on_equals T u c b i d γ vs (of (kinds.Assign assign_operator.Plain) j a) eq h = λ e r s. h d (parse_tree.Wrap (wrap.Binding i) e) r (λ role a2. spells.bind-value s)
on_equals T u c b i d γ vs _ eq h = absurd (cc (eq))

target_goes_on : (T : ℕ → List Read) (u : List Read) (d : ℕ) (γ : List Symbol) (vs : List ParseTree) (x : Sign) → ((m : ℕ) → Done (T m) (symbols.Loose loose_kind.Target d ∷ γ) vs (read x m ∷ u)) → Kept T u (grammar_machine.after_left (List ParseTree) trees (symbols.Loose loose_kind.Target d) d γ vs x)
target_goes_on T u d γ (l ∷ vs) x h =
    after_left_sound T u (symbols.Loose loose_kind.Target d) (λ n c. (e : ParseTree) (r : List Read) → Spells nonterminal.left d e c r → is_target e ≡ true → Done (T n) γ (e ∷ vs) r) d γ l vs x
    (λ n c e m s f. (c, s, f)) (λ n. let s = h n in (s.0, s.1, λ e r q i. s.2 e r q i))
target_goes_on T u d γ [] x h = absurd (h 0)

prop_goes_on : (T : ℕ → List Read) (u : List Read) (r : NameRole) (i d : ℕ) (γ : List Symbol) (vs : List ParseTree) (x : Sign) → ((n : ℕ) → Done (T n) (symbols.Loose (loose_kind.Property r i) d ∷ γ) vs (read x n ∷ u)) → Kept T u (grammar_machine.after_prop (List ParseTree) trees r i d γ vs x)
prop_goes_on T u role i d γ vs x h =
    either_way T u (grammar_machine.ends_key x) (grammar_machine.after_key (List ParseTree) trees d γ (parse_tree.Atom (atom.Key i) ∷ vs) x) (grammar_machine.at_accessor (List ParseTree) trees role i d γ vs x)
    (λ _. after_key_sound T u d γ (parse_tree.Atom (atom.Key i)) vs x (λ n. let s = h n in (read (of (kinds.Name role) i s.0) d ∷ read x n ∷ u, spells.key-token refl, λ e r s2. s.1 e r s2)))
    (λ _. accessor_sound T u role i d γ vs x h)

sound_go_on : (T : ℕ → List Read) (u : List Read) (q : Loose) (d : ℕ) (γ : List Symbol) (vs : List ParseTree) (x : Sign) → grammar_machine.keeps q x ≡ true → ((n : ℕ) → Done (T n) (symbols.Loose q d ∷ γ) vs (read x n ∷ u)) → Kept T u (grammar_machine.go_on (List ParseTree) trees q d γ vs x)
sound_go_on T u (loose_kind.Items c) d γ vs x e h = sound_item T u c d (symbols.Do (act_kinds.Pair pair.And) ∷ symbols.Loose (loose_kind.Items c) d ∷ γ) vs x (λ n e r s. items_more (T n) c d γ vs (read x n ∷ u) (h n) e r s)
sound_go_on T u (loose_kind.Else i) d γ vs x e h = on_else T u i d γ vs x e h
sound_go_on T u (loose_kind.Finally i) d γ vs x e h = on_finally T u i d γ vs x e h
sound_go_on T u (loose_kind.Callee i) d γ vs x e h = after_callee_sound T u i d γ vs x h
sound_go_on T u loose_kind.Target d γ vs x e h = target_goes_on T u d γ vs x h
sound_go_on T u (loose_kind.Binding c b i) d γ vs x e h = on_equals T u c b i d γ vs x e h
sound_go_on T u (loose_kind.Property r i) d γ vs x e h = prop_goes_on T u r i d γ vs x h

-- what must not follow where it is left alone
abbrev pub Alone : Loose → List Read → Type 0
Alone (loose_kind.Else i) m = NoElse m
Alone (loose_kind.Finally i) m = NoFinally m
Alone (loose_kind.Callee i) m = NoMore m
Alone _ m = Unit {0}

alone : (q : Loose) (x : Sign) (n : ℕ) (u : List Read) → grammar_machine.keeps q x ≡ false → Alone q (read x n ∷ u)
alone (loose_kind.Else o) (of (kinds.Word words.Else) i a) n u e = absurd (cc (e))
alone (loose_kind.Else o) _ n u e = tt
alone (loose_kind.Callee o) (of (kinds.Mark marks.Dot) i a) n u e = absurd (cc (e))
alone (loose_kind.Callee o) (of (kinds.Bracket brackets.Open) i a) n u e = absurd (cc (e))
alone (loose_kind.Callee o) (of (kinds.Bracket brackets.SquareOpen) i a) n u e = absurd (cc (e))
alone (loose_kind.Callee o) _ n u e = tt
alone (loose_kind.Items c) x n u e = tt
alone (loose_kind.Finally o) (of (kinds.Word words.Finally) i a) n u e = absurd (cc (e))
alone (loose_kind.Finally o) _ n u e = tt
alone loose_kind.Target x n u e = tt
alone (loose_kind.Binding c b i) x n u e = tt
alone (loose_kind.Property r i) x n u e = tt

pub let_go : (T m : List Read) (q : Loose) (d : ℕ) (γ : List Symbol) (vs : List ParseTree) → Alone q m → may_leave q vs ≡ true → Done T (symbols.Loose q d ∷ γ) vs m → Done T γ (leave q vs) m
let_go T m (loose_kind.Items c) d γ (xs ∷ vs) a i s = s.2 xs m s.1
let_go T m (loose_kind.Items c) d γ [] a i s = absurd s
let_go T m (loose_kind.Else o) d γ (x ∷ e ∷ vs) a i s = s.0 a
let_go T m (loose_kind.Else o) d γ (x ∷ []) a i s = absurd s
let_go T m (loose_kind.Else o) d γ [] a i s = absurd s
let_go T m (loose_kind.Finally o) d γ (z ∷ x ∷ vs) a i s = s.2 (parse_tree.Triple (triple.Try o) x z nothing) m (caught s.1 a)
let_go T m (loose_kind.Finally o) d γ (z ∷ []) a i s = absurd s
let_go T m (loose_kind.Finally o) d γ [] a i s = absurd s
let_go T m (loose_kind.Callee o) d γ (l ∷ vs) a i s = s.2 (parse_tree.Pair (pair.New o) l nothing) m (bare s.1 a)
let_go T m (loose_kind.Callee o) d γ [] a i s = absurd s
let_go T m loose_kind.Target d γ (l ∷ vs) a i s = s.2 l m s.1 i
let_go T m loose_kind.Target d γ [] a i s = absurd s
let_go T m (loose_kind.Binding true b j) d γ vs a i s = absurd (cc (i))
let_go T m (loose_kind.Binding false b j) d γ vs a i s = s (parse_tree.Atom (atom.Binding j)) m (λ role f. spells.bind-name)
let_go T m (loose_kind.Property r j) d γ vs a i s = s.1 (parse_tree.Atom (atom.Shorthand j)) m spells.prop-name

-- A step keeps it: whatever follows, at the nesting that the step gives.
pub step_sound : (T : ℕ → List Read) (u : List Read) (γ : List Symbol) (vs : List ParseTree) (x : Sign) → ((n : ℕ) → Done (T n) γ vs (read x n ∷ u)) → Kept T u (step γ vs x)
step_sound T u [] vs x h = tt
step_sound T u (symbols.Part q d ∷ γ) vs x h = sound_part T u q d γ vs x h
step_sound T u (symbols.Stage q d ∷ γ) vs x h = sound_stage T u q d γ vs x h
step_sound T u (symbols.Take z d ∷ γ) vs x h = either_way T u (fits z x) (Next γ vs d) Fail (λ f. h d x u refl f) (λ _. tt)
step_sound T u (symbols.Tail q d ∷ γ) vs x h =
    either_way T u (grammar_machine.takes q x) (grammar_machine.continue (List ParseTree) trees q d γ vs x) (step γ vs x)
    (λ e. continue_sound T u q d γ vs x e h)
    (λ _. step_sound T u γ vs x (λ n. pop (T n) (read x n ∷ u) q d γ vs (h n)))
step_sound T u (symbols.Loose q d ∷ γ) vs x h =
    either_way T u (grammar_machine.keeps q x) (grammar_machine.go_on (List ParseTree) trees q d γ vs x) (cond (may_leave q vs) (step γ (leave q vs) x) Fail)
    (λ e. sound_go_on T u q d γ vs x e h)
    (λ e. either_way T u (may_leave q vs) (step γ (leave q vs) x) Fail
    (λ i. step_sound T u γ (leave q vs) x (λ n. let_go (T n) (read x n ∷ u) q d γ vs (alone q x n u e) i (h n))) (λ _. tt))
step_sound T u (symbols.Do f ∷ γ) vs x h = step_sound T u γ (act f vs) x h
