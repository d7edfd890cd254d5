-- Whatever the machine expects can be given, so what it has read begins some script; and where it ends, the grammar has the script.
use Rattle.std.proofs.Common.{suc, ◌≡◌, ℕ, Bool, true, false, cond, Option, Some, None, List, [], ◌∷◌, refl, subst}
use Rattle.es_tree.specs.declared.expressions.AssignOperator.TheVariants as assign_operator
use Rattle.script_grammar.specs.declared.sign.Sign.{Sign}
use Rattle.script_grammar.specs.declared.sign.Sign.TheVariants.{Token as of}
use Rattle.script_grammar.specs.declared.kinds.NameRole.TheVariants as role
use Rattle.script_grammar.specs.declared.kinds.Word.TheVariants as words
use Rattle.script_grammar.specs.declared.kinds.Bracket.{Bracket}
use Rattle.script_grammar.specs.declared.kinds.Bracket.TheVariants as brackets
use Rattle.script_grammar.specs.declared.kinds.Mark.TheVariants as marks
use Rattle.script_grammar.specs.declared.kinds.Kind.{Kind}
use Rattle.script_grammar.specs.declared.kinds.Kind.TheVariants as kinds
use Rattle.script_grammar.specs.declared.kinds.Level.{Level}
use Rattle.script_grammar.specs.declared.kinds.Level.TheVariants as levels
use Rattle.script_grammar.specs.declared.labels.Atom.TheVariants as atom
use Rattle.script_grammar.specs.declared.labels.Wrap.TheVariants as wrap
use Rattle.script_grammar.specs.declared.labels.Pair.TheVariants as pair
use Rattle.script_grammar.specs.declared.labels.Triple.TheVariants as triple
use Rattle.script_grammar.specs.declared.symbol.Terminal.{Terminal}
use Rattle.script_grammar.specs.declared.symbol.Terminal.TheVariants as terminals
use Rattle.script_grammar.specs.declared.symbol.Listing.{Listing}
use Rattle.script_grammar.specs.declared.symbol.Listing.TheVariants as listings
use Rattle.script_grammar.specs.declared.symbol.Expected.TheVariants as expectation
use Rattle.script_grammar.specs.declared.symbol.Expected.{Expected}
use Rattle.script_grammar.specs.declared.symbol.Loose.{Loose}
use Rattle.script_grammar.specs.declared.symbol.Loose.TheVariants as loose_kind
use Rattle.script_grammar.specs.declared.symbol.Stage.{Stage}
use Rattle.script_grammar.specs.declared.symbol.Stage.TheVariants as stages
use Rattle.script_grammar.specs.declared.symbol.Symbol.{Symbol}
use Rattle.script_grammar.specs.declared.symbol.Symbol.TheVariants as symbols
use Rattle.script_grammar.specs.Tree.{ParseTree}
use Rattle.script_grammar.specs.Tree.{ParseTree as parse_tree}
use Rattle.script_grammar.specs.Grammar.{Read, read, word, bracket, mark, Spells, operand, nothing, Plain}
use Rattle.script_grammar.specs.Grammar.{Nonterminal as nonterminal}
use Rattle.script_grammar.specs.Grammar.{Spells as spells}
use Rattle.script_grammar.specs.Machine.{fits, closing}
use Rattle.script_grammar.specs.Trees.{act, finish, leave, may_leave}
use Rattle.script_grammar.specs.Progress.{Done, GivesNonterminal, ListEnd, Members, given, thrown, lastly, both, declared, unnamed, setter}
use Rattle.script_grammar.proofs.Sound.{pop, let_go, Alone}

-- tokens
abbrev tok : Kind → ℕ → Read
tok kind d = read (of kind 0 false) d

abbrev a_name : ℕ → Read
a_name d = tok (kinds.Name role.Plain) d

abbrev a_bracket : Bracket → ℕ → Read
a_bracket x d = bracket x 0 false d

abbrev sample : Terminal → Sign
sample terminals.Open = of (kinds.Bracket brackets.Open) 0 false
sample terminals.Close = of (kinds.Bracket brackets.Close) 0 false
sample terminals.BraceClose = of (kinds.Bracket brackets.BraceClose) 0 false
sample terminals.SquareClose = of (kinds.Bracket brackets.SquareClose) 0 false
sample terminals.Colon = of (kinds.Mark marks.Colon) 0 false
sample (terminals.Semicolon h) = of (kinds.Mark marks.Semicolon) 0 false

sample_fits : (z : Terminal) → fits z (sample z) ≡ true
sample_fits terminals.Open = refl
sample_fits terminals.Close = refl
sample_fits terminals.BraceClose = refl
sample_fits terminals.SquareClose = refl
sample_fits terminals.Colon = refl
sample_fits (terminals.Semicolon h) = refl

-- the shortest tokens of a part that must come, before others
abbrev lead : Expected → ℕ → List Read → List Read
lead expectation.Statement d r = mark marks.Semicolon 0 false (suc d) ∷ r
lead expectation.Block d r = a_bracket brackets.BraceOpen d ∷ a_bracket brackets.BraceClose d ∷ r
lead expectation.Body d r = a_bracket brackets.BraceOpen d ∷ a_bracket brackets.BraceClose d ∷ r
lead expectation.Parameters d r = a_bracket brackets.Open d ∷ a_bracket brackets.Close d ∷ r
lead (expectation.Expression n) d r = a_name (suc d) ∷ r
lead (expectation.Assign n) d r = a_name (suc d) ∷ r
lead expectation.Unary d r = a_name d ∷ r
lead (expectation.Operand v n) d r = a_name d ∷ r
lead (expectation.Callee i) d r = a_name d ∷ a_bracket brackets.Open d ∷ a_bracket brackets.Close d ∷ r
lead expectation.Target d r = a_name d ∷ r
lead (expectation.Binding c h) d r = a_name d ∷ tok (kinds.Assign assign_operator.Plain) d ∷ a_name (suc d) ∷ r
lead expectation.First d r = mark marks.Semicolon 0 false d ∷ r
lead (expectation.Maybe n z) d r = read (sample z) d ∷ r
lead (expectation.Thrown i) d r = a_name (suc d) ∷ mark marks.Semicolon 0 false d ∷ r

abbrev name_tree : ParseTree
name_tree = parse_tree.Atom (atom.Name 0)

name_left : {d : ℕ} {r : List Read} → Spells nonterminal.left d name_tree (a_name d ∷ r) r
name_left = spells.left-primary spells.name

name_unary : {d : ℕ} {r : List Read} → Spells nonterminal.unary d name_tree (a_name d ∷ r) r
name_unary = spells.unary-left name_left

name_operand : (v : Level) (n : Bool) {d : ℕ} {r : List Read} → Spells (operand v n) d name_tree (a_name d ∷ r) r
name_operand levels.Multiply n = name_unary
name_operand levels.Add n = spells.level-one name_unary
name_operand levels.Relation n = spells.level-one (spells.level-one name_unary)
name_operand levels.Equal n = spells.level-one (spells.level-one (spells.level-one name_unary))
name_operand levels.And n = spells.level-one (spells.level-one (spells.level-one (spells.level-one name_unary)))
name_operand levels.Or n = spells.level-one (spells.level-one (spells.level-one (spells.level-one (spells.level-one name_unary))))

name_assign : (n : Bool) {d : ℕ} {r : List Read} → Spells (nonterminal.assign n) d name_tree (a_name (suc d) ∷ r) r
name_assign n = spells.assign-cond (spells.cond-short (spells.short-or (spells.level-one (name_operand levels.Or n))))

empty_block : {d : ℕ} {r : List Read} → Spells nonterminal.block d (parse_tree.Wrap (wrap.Block 0) nothing) (a_bracket brackets.BraceOpen d ∷ a_bracket brackets.BraceClose d ∷ r) r
empty_block = spells.block-items spells.items-none

empty_body : {d : ℕ} {r : List Read} → Spells nonterminal.body d nothing (a_bracket brackets.BraceOpen d ∷ a_bracket brackets.BraceClose d ∷ r) r
empty_body = spells.body-items spells.items-none

led : (q : Expected) (d : ℕ) (r : List Read) → (e : ParseTree) × GivesNonterminal q d e (lead q d r) r
led expectation.Statement d r = (parse_tree.Atom (atom.Empty 0), spells.empty)
led expectation.Block d r = (parse_tree.Wrap (wrap.Block 0) nothing, empty_block)
led expectation.Body d r = (nothing, empty_body)
led expectation.Parameters d r = (nothing, spells.params-none)
led (expectation.Expression n) d r = (name_tree, spells.expr-one (name_assign n))
led (expectation.Assign n) d r = (name_tree, name_assign n)
led expectation.Unary d r = (name_tree, name_unary)
led (expectation.Operand v n) d r = (name_tree, name_operand v n)
led (expectation.Callee i) d r = (parse_tree.Pair (pair.New i) name_tree nothing, given (spells.callee-primary spells.name) spells.args-none)
led expectation.Target d r = (name_tree, (name_left, refl))
led (expectation.Binding c h) d r = (parse_tree.Wrap (wrap.Binding 0) name_tree, spells.bind-value (name_assign h))
led expectation.First d r = (nothing, spells.first-expr spells.maybe-none)
led (expectation.Maybe n z) d r = (nothing, (sample z, spells.maybe-none, sample_fits z))
led (expectation.Thrown i) d r = (parse_tree.Wrap (wrap.Throw i) name_tree, thrown tt (spells.expr-one (name_assign false)) refl)

-- the shortest tokens that end what may go on, and a stage
abbrev let_end : Loose → ℕ → List Read → List Read
let_end (loose_kind.Else i) d r = word words.Else 0 false d ∷ mark marks.Semicolon 0 false (suc d) ∷ r
let_end (loose_kind.Finally i) d r = word words.Finally 0 false d ∷ a_bracket brackets.BraceOpen d ∷ a_bracket brackets.BraceClose d ∷ r
let_end (loose_kind.Callee i) d r = a_bracket brackets.Open d ∷ a_bracket brackets.Close d ∷ r
let_end loose_kind.Target d r = mark marks.Dot 0 false d ∷ a_name d ∷ r
let_end (loose_kind.Binding c h i) d r = tok (kinds.Assign assign_operator.Plain) d ∷ a_name (suc d) ∷ r
let_end _ d r = r

abbrev stage_end : Stage → ℕ → List Read → List Read
stage_end (stages.Word i) d r = a_name d ∷ r
stage_end (stages.Listed q) d r = read (sample (closing q)) d ∷ r
stage_end (stages.Rest q) d r = read (sample (closing q)) d ∷ r
stage_end stages.Elements d r = a_bracket brackets.SquareClose d ∷ r
stage_end stages.AfterElement d r = a_bracket brackets.SquareClose d ∷ r
stage_end (stages.AfterReturn i) d r = mark marks.Semicolon 0 false d ∷ r
stage_end (stages.AfterTry i) d r = word words.Finally 0 false d ∷ a_bracket brackets.BraceOpen d ∷ a_bracket brackets.BraceClose d ∷ r
stage_end stages.AfterCatch d r = a_bracket brackets.BraceOpen d ∷ a_bracket brackets.BraceClose d ∷ r
stage_end stages.CatchName d r = a_name d ∷ a_bracket brackets.Close d ∷ a_bracket brackets.BraceOpen d ∷ a_bracket brackets.BraceClose d ∷ r
stage_end (stages.MoreBindings c h i) d r = mark marks.Semicolon 0 false d ∷ r
stage_end (stages.FunctionName i) d r = a_name d ∷ a_bracket brackets.Open d ∷ a_bracket brackets.Close d ∷ a_bracket brackets.BraceOpen d ∷ a_bracket brackets.BraceClose d ∷ r
stage_end (stages.AfterFunction i) d r = a_bracket brackets.Open d ∷ a_bracket brackets.Close d ∷ a_bracket brackets.BraceOpen d ∷ a_bracket brackets.BraceClose d ∷ r
stage_end stages.AfterKey d r = mark marks.Colon 0 false d ∷ a_name (suc d) ∷ r
stage_end (stages.SetterName i) d r = a_name d ∷ a_bracket brackets.Close d ∷ a_bracket brackets.BraceOpen d ∷ a_bracket brackets.BraceClose d ∷ r

-- the shortest tokens that end what is expected
abbrev pub ending : List Symbol → List Read
ending [] = []
ending (symbols.Part q d ∷ γ) = lead q d (ending γ)
ending (symbols.Tail q d ∷ γ) = ending γ
ending (symbols.Loose q d ∷ γ) = let_end q d (ending γ)
ending (symbols.Stage q d ∷ γ) = stage_end q d (ending γ)
ending (symbols.Take z d ∷ γ) = read (sample z) d ∷ ending γ
ending (symbols.Do f ∷ γ) = ending γ

list_of : (q : Listing) (d : ℕ) (xs : ParseTree) (c r : List Read) → Members q d xs c (read (sample (closing q)) d ∷ r) → ListEnd q d xs c r
list_of listings.Arguments d xs c r s = λ i a. spells.args-some s
list_of listings.Parameters d xs c r s = λ i a. spells.params-some s
list_of listings.Properties d xs c r s = λ i a. spells.object-some s

loose_ends : (T : List Read) (q : Loose) (d : ℕ) (γ : List Symbol) (vs : List ParseTree) (r : List Read) → Done T (symbols.Loose q d ∷ γ) vs (let_end q d r) → (us : List ParseTree) × Done T γ us r
loose_ends T (loose_kind.Items c) d γ vs r h = (vs, let_go T r (loose_kind.Items c) d γ vs tt refl h)
loose_ends T (loose_kind.Else i) d γ (z ∷ e ∷ vs) r h = (parse_tree.Triple (triple.IfElse i) e z (parse_tree.Atom (atom.Empty 0)) ∷ vs, h.1 0 false (mark marks.Semicolon 0 false (suc d) ∷ r) refl (parse_tree.Atom (atom.Empty 0)) r spells.empty)
loose_ends T (loose_kind.Else i) d γ (z ∷ []) r h = absurd h
loose_ends T (loose_kind.Else i) d γ [] r h = absurd h
loose_ends T (loose_kind.Finally i) d γ (z ∷ x ∷ vs) r h = (parse_tree.Triple (triple.Try i) x z (parse_tree.Wrap (wrap.Block 0) nothing) ∷ vs, h.2 (parse_tree.Triple (triple.Try i) x z (parse_tree.Wrap (wrap.Block 0) nothing)) r (both h.1 empty_block))
loose_ends T (loose_kind.Finally i) d γ (z ∷ []) r h = absurd h
loose_ends T (loose_kind.Finally i) d γ [] r h = absurd h
loose_ends T (loose_kind.Callee i) d γ (l ∷ vs) r h = (parse_tree.Pair (pair.New i) l nothing ∷ vs, h.2 (parse_tree.Pair (pair.New i) l nothing) r (given h.1 spells.args-none))
loose_ends T (loose_kind.Callee i) d γ [] r h = absurd h
loose_ends T loose_kind.Target d γ (l ∷ vs) r h = (parse_tree.Wrap (wrap.Member 0 0) l ∷ vs, h.2 (parse_tree.Wrap (wrap.Member 0 0) l) r (spells.left-member h.1 refl) refl)
loose_ends T loose_kind.Target d γ [] r h = absurd h
loose_ends T (loose_kind.Binding c b i) d γ vs r h = (parse_tree.Wrap (wrap.Binding i) name_tree ∷ vs, h (parse_tree.Wrap (wrap.Binding i) name_tree) r (λ role a. spells.bind-value (name_assign b)))
loose_ends T (loose_kind.Property x i) d γ vs r h = (leave (loose_kind.Property x i) vs, let_go T r (loose_kind.Property x i) d γ vs tt refl h)

stage_ends : (T : List Read) (q : Stage) (d : ℕ) (γ : List Symbol) (vs : List ParseTree) (r : List Read) → Done T (symbols.Stage q d ∷ γ) vs (stage_end q d r) → (us : List ParseTree) × Done T γ us r
stage_ends T (stages.Word i) d γ (l ∷ vs) r h = (parse_tree.Wrap (wrap.Member i 0) l ∷ vs, h (kinds.Name role.Plain) 0 false r refl refl)
stage_ends T (stages.Word i) d γ [] r h = absurd h
stage_ends T (stages.Listed q) d γ (xs ∷ vs) r h = (xs ∷ vs, h.3 xs r (h.1 (sample (closing q)) r refl (sample_fits (closing q))))
stage_ends T (stages.Listed q) d γ [] r h = absurd h
stage_ends T (stages.Rest q) d γ (xs ∷ vs) r h = (xs ∷ vs, h.2 xs r (list_of q d xs h.0 r h.1))
stage_ends T (stages.Rest q) d γ [] r h = absurd h
stage_ends T stages.Elements d γ (xs ∷ vs) r h = (xs ∷ vs, h.2 xs r (λ i a. spells.array h.1))
stage_ends T stages.Elements d γ [] r h = absurd h
stage_ends T stages.AfterElement d γ (xs ∷ vs) r h = (xs ∷ vs, h.3 xs r (h.1 (sample terminals.SquareClose) r refl refl))
stage_ends T stages.AfterElement d γ [] r h = absurd h
stage_ends T (stages.AfterReturn i) d γ vs r h = (parse_tree.Atom (atom.Return i) ∷ vs, h.0 (of (kinds.Mark marks.Semicolon) 0 false) r refl refl)
stage_ends T (stages.AfterTry i) d γ (x ∷ vs) r h = (parse_tree.Triple (triple.Try i) x nothing (parse_tree.Wrap (wrap.Block 0) nothing) ∷ vs, h (parse_tree.Triple (triple.Try i) x nothing (parse_tree.Wrap (wrap.Block 0) nothing)) r (lastly empty_block))
stage_ends T (stages.AfterTry i) d γ [] r h = absurd h
stage_ends T stages.AfterCatch d γ vs r h = (parse_tree.Wrap wrap.Catch (parse_tree.Wrap (wrap.Block 0) nothing) ∷ vs, h (parse_tree.Wrap wrap.Catch (parse_tree.Wrap (wrap.Block 0) nothing)) r (λ i a. spells.catch-block empty_block))
stage_ends T stages.CatchName d γ vs r h = (parse_tree.Wrap (wrap.CatchName 0) (parse_tree.Wrap (wrap.Block 0) nothing) ∷ vs, h (parse_tree.Wrap (wrap.CatchName 0) (parse_tree.Wrap (wrap.Block 0) nothing)) r (λ i j a c. spells.catch-name empty_block))
stage_ends T (stages.MoreBindings c b i) d γ (xs ∷ vs) r h = (parse_tree.Wrap (wrap.Lexical c i) xs ∷ vs, h.2 xs r (of (kinds.Mark marks.Semicolon) 0 false, h.1, refl))
stage_ends T (stages.MoreBindings c b i) d γ [] r h = absurd h
stage_ends T (stages.FunctionName i) d γ vs r h = (parse_tree.Pair (pair.DeclaredFunction i 0) nothing nothing ∷ vs, h (parse_tree.Pair (pair.DeclaredFunction i 0) nothing nothing) r (declared spells.params-none empty_body))
stage_ends T (stages.AfterFunction i) d γ vs r h = (parse_tree.Pair (pair.Function i) nothing nothing ∷ vs, h (parse_tree.Pair (pair.Function i) nothing nothing) r (unnamed spells.params-none empty_body))
stage_ends T stages.AfterKey d γ (x ∷ vs) r h = (parse_tree.Pair pair.Property x name_tree ∷ vs, h.2 (parse_tree.Pair pair.Property x name_tree) r (spells.prop-value h.1 (name_assign false)))
stage_ends T stages.AfterKey d γ [] r h = absurd h
stage_ends T (stages.SetterName i) d γ (x ∷ vs) r h = (parse_tree.Pair (pair.Setter i 0) x nothing ∷ vs, h (parse_tree.Pair (pair.Setter i 0) x nothing) r (setter empty_body))
stage_ends T (stages.SetterName i) d γ [] r h = absurd h

-- Whatever is expected can be given: some script begins so.
pub produce : (T : List Read) (γ : List Symbol) (vs : List ParseTree) → Done T γ vs (ending γ) → (s : ParseTree) × Plain T s
produce T [] vs h = (h.0, h.2)
produce T (symbols.Part q d ∷ γ) vs h = let w = led q d (ending γ) in produce T γ (w.0 ∷ vs) (h w.0 (ending γ) w.1)
produce T (symbols.Tail q d ∷ γ) vs h = produce T γ vs (pop T (ending γ) q d γ vs h)
produce T (symbols.Loose q d ∷ γ) vs h = let w = loose_ends T q d γ vs (ending γ) h in produce T γ w.0 w.1
produce T (symbols.Stage q d ∷ γ) vs h = let w = stage_ends T q d γ vs (ending γ) h in produce T γ w.0 w.1
produce T (symbols.Take z d ∷ γ) vs h = produce T γ vs (h (sample z) (ending γ) refl (sample_fits z))
produce T (symbols.Do f ∷ γ) vs h = produce T γ (act f vs) h

alone_end : (q : Loose) → Alone q []
alone_end (loose_kind.Else i) = tt
alone_end (loose_kind.Finally i) = tt
alone_end (loose_kind.Callee i) = tt
alone_end _ = tt

-- Where the machine ends with a script, the grammar has it.
pub finish_sound : (T : List Read) (γ : List Symbol) (vs : List ParseTree) (s : ParseTree) → Done T γ vs [] → finish γ vs ≡ Some s → Plain T s
finish_sound T [] (v ∷ []) s h e = subst (λ (w : ParseTree). Spells (nonterminal.items true) 0 w T []) (same h.1 e) h.2
  where
    same : {w : ParseTree} → v ∷ [] ≡ w ∷ [] → Some v ≡ Some s → w ≡ s
    same a b = cc
finish_sound T (symbols.Tail q d ∷ γ) vs s h e = finish_sound T γ vs s (pop T [] q d γ vs h) e
finish_sound T (symbols.Loose q d ∷ γ) vs s h e =
    let w = found (may_leave q vs) (finish γ (leave q vs)) e in
    finish_sound T γ (leave q vs) s (let_go T [] q d γ vs (alone_end q) w.0 h) w.1
  where
    found : (c : Bool) (o : Option ParseTree) → cond c o None ≡ Some s → (c ≡ true) × (o ≡ Some s)
    found true o e = (refl, e)
    found false o e = absurd (cc (e))
finish_sound T (symbols.Do f ∷ γ) vs s h e = finish_sound T γ (act f vs) s h e
finish_sound T γ vs s h e = absurd (cc)
