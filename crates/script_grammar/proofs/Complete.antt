-- What the grammar has, the machine reads: first what a stack refuses, and how its first token is taken.
use Rattle.std.proofs.Common.{suc, ◌≡◌, ◌≤◌, ◌<◌, ℕ, ◌==◌, ◌&&◌, ◌||◌, not, Bool, true, false, cond, Option, Some, None, List, [], ◌∷◌, refl, subst, ap, sym, ◌∙◌, arith, ◌⊎◌, inl, inr}
use Rattle.std.proofs.lemmas.Bool.{eqb-true, ne_eqb, eq-eqb}
use Rattle.es_tree.specs.declared.expressions.AssignOperator.TheVariants as assign_operator
use Rattle.es_tree.specs.declared.expressions.BinaryOperator.TheVariants as binary_operator
use Rattle.es_tree.specs.declared.expressions.ShortOperator.TheVariants as short_operator
use Rattle.es_tree.specs.declared.expressions.UnaryOperator.{UnaryOperator}
use Rattle.script_grammar.specs.declared.sign.Sign.{Sign}
use Rattle.script_grammar.specs.declared.sign.Sign.TheVariants.{Token as of, Inserted as put}
use Rattle.script_grammar.specs.declared.kinds.NameRole.{NameRole}
use Rattle.script_grammar.specs.declared.kinds.NameRole.TheVariants as role
use Rattle.script_grammar.specs.declared.kinds.Word.TheVariants as words
use Rattle.script_grammar.specs.declared.kinds.Bracket.TheVariants as brackets
use Rattle.script_grammar.specs.declared.kinds.Mark.TheVariants as marks
use Rattle.script_grammar.specs.declared.kinds.Kind.{Kind}
use Rattle.script_grammar.specs.declared.kinds.Kind.TheVariants as kinds
use Rattle.script_grammar.specs.declared.kinds.Level.{Level}
use Rattle.script_grammar.specs.declared.kinds.Level.TheVariants as levels
use Rattle.script_grammar.specs.declared.labels.Atom.TheVariants as atom
use Rattle.script_grammar.specs.declared.labels.Wrap.TheVariants as wrap
use Rattle.script_grammar.specs.declared.labels.Pair.{Pair}
use Rattle.script_grammar.specs.declared.labels.Pair.TheVariants as pair
use Rattle.script_grammar.specs.declared.labels.Triple.TheVariants as triple
use Rattle.script_grammar.specs.declared.labels.Quad.TheVariants as quad
use Rattle.script_grammar.specs.declared.act.Act.{Act}
use Rattle.script_grammar.specs.declared.act.Act.TheVariants as act_kinds
use Rattle.script_grammar.specs.declared.symbol.Terminal.{Terminal}
use Rattle.script_grammar.specs.declared.symbol.Terminal.TheVariants as terminals
use Rattle.script_grammar.specs.declared.symbol.Listing.{Listing}
use Rattle.script_grammar.specs.declared.symbol.Listing.TheVariants as listings
use Rattle.script_grammar.specs.declared.symbol.Expected.TheVariants as expectation
use Rattle.script_grammar.specs.declared.symbol.Expected.{Expected}
use Rattle.script_grammar.specs.declared.symbol.Tail.{Tail}
use Rattle.script_grammar.specs.declared.symbol.Tail.TheVariants as tails
use Rattle.script_grammar.specs.declared.symbol.Loose.TheVariants as loose_kind
use Rattle.script_grammar.specs.declared.symbol.Stage.{Stage}
use Rattle.script_grammar.specs.declared.symbol.Stage.TheVariants as stages
use Rattle.script_grammar.specs.declared.symbol.Symbol.{Symbol}
use Rattle.script_grammar.specs.declared.symbol.Symbol.TheVariants as symbols
use Rattle.script_grammar.specs.Tree.{ParseTree, is_target, is_plain, is_and_or}
use Rattle.script_grammar.specs.Tree.{ParseTree as parse_tree}
use Rattle.script_grammar.specs.Kinds.{is_word, is_key, is_in, prefix_of, infix_of}
use Rattle.script_grammar.specs.Grammar.{NoBraceOrFunction, Read, read, bracket, mark, Spells, NoElse, NoFinally, NoMore, SameLine, is_end, operand, nothing}
use Rattle.script_grammar.specs.Grammar.{Nonterminal}
use Rattle.script_grammar.specs.Grammar.{Nonterminal as nonterminal}
use Rattle.script_grammar.specs.Grammar.{Spells as spells}
use Rattle.script_grammar.specs.Machine.{Outcome, Fail, Next, fits, closing, same_line, below}
use Rattle.script_grammar.specs.Machine as grammar_machine
use Rattle.script_grammar.specs.Trees.{act, trees, step}
use Rattle.script_grammar.specs.Progress.{Then, Takes}

-- γ has no use for tokens of the tails up to this level, whatever the trees are
abbrev pub Refuses : List Symbol → ℕ → Type 0
Refuses γ n = (vs : List ParseTree) (x : Sign) → grammar_machine.reach x ≤ n → step γ vs x ≡ Fail

pub no_then : (o : Outcome (List ParseTree)) (n : ℕ) (R : List Symbol → List ParseTree → Type 0) → o ≡ Fail → Then o n R → ⊥
no_then o n R e h = subst (λ (o : Outcome (List ParseTree)). Then o n R) e h

pub choose_else : (c : Bool) (x o : Outcome (List ParseTree)) (n : ℕ) (R : List Symbol → List ParseTree → Type 0) → (c ≡ true → ⊥) → Then o n R → Then (cond c x o) n R
choose_else true x o n R f h = absurd (f refl)
choose_else false x o n R f h = h

pub then_if : (c : Bool) (x o : Outcome (List ParseTree)) (n : ℕ) (R : List Symbol → List ParseTree → Type 0) → c ≡ true → Then x n R → Then (cond c x o) n R
then_if true x o n R e h = h
then_if false x o n R e h = absurd (cc (e))

at_level : (a b : ℕ) → a == b ≡ true → a ≤ b
at_level a b e = omega (arith, eqb-true a b e)

off_level : (a b j : ℕ) → a ≤ j → j < b → a == b ≡ false
off_level a b j h l = ne_eqb a b (λ e. omega arith)

and_first : (a b : Bool) → (a && b) ≡ true → a ≡ true
and_first true b e = refl
and_first false b e = absurd (cc (e))

and_off : (a b : Bool) → a ≡ false → (a && b) ≡ false
and_off true b e = absurd (cc (e))
and_off false b e = refl

-- a tail is left alone where what is around refuses its tokens
pub pass : (q : Tail) (d : ℕ) (γ : List Symbol) (vs : List ParseTree) (ts : List Read) (s : ParseTree) → Refuses γ (grammar_machine.rank q) → Takes ts s γ vs → Takes ts s (symbols.Tail q d ∷ γ) vs
pass q d γ vs [] s f h = h
pass q d γ vs (read x m ∷ ts) s f h =
    choose_else (grammar_machine.takes q x) (grammar_machine.continue (List ParseTree) trees q d γ vs x) (step γ vs x) m (Takes ts s)
    (λ e. no_then (step γ vs x) m (Takes ts s) (f vs x (at_level (grammar_machine.reach x) (grammar_machine.rank q) (and_first (grammar_machine.reach x == grammar_machine.rank q) (not (grammar_machine.bars_in q && grammar_machine.is_in_sign x)) e))) h) h

pub not_taken : (c : Bool) (x o : Outcome (List ParseTree)) → c ≡ false → o ≡ Fail → cond c x o ≡ Fail
not_taken true x o e f = absurd (cc (e))
not_taken false x o e f = f

pub refuses_tail : (q : Tail) (d j m : ℕ) (γ : List Symbol) → j < grammar_machine.rank q → j ≤ m → Refuses γ m → Refuses (symbols.Tail q d ∷ γ) j
refuses_tail q d j m γ l k f = λ vs x h.
    not_taken (grammar_machine.takes q x) (grammar_machine.continue (List ParseTree) trees q d γ vs x) (step γ vs x)
    (and_off (grammar_machine.reach x == grammar_machine.rank q) (not (grammar_machine.bars_in q && grammar_machine.is_in_sign x)) (off_level (grammar_machine.reach x) (grammar_machine.rank q) j h l)) (f vs x (omega arith))

pub refuses_act : (f : Act) (j : ℕ) (γ : List Symbol) → Refuses γ j → Refuses (symbols.Do f ∷ γ) j
refuses_act w j γ f = λ vs x h. f (act w vs) x h

-- tokens that close or end something belong to no tail but that of the comma
close_far : (x : Sign) → grammar_machine.reach x ≤ 11 → fits terminals.Close x ≡ false
close_far (of (kinds.Bracket brackets.Close) i a) h = absurd (omega arith)
close_far _ h = refl

brace_far : (x : Sign) → grammar_machine.reach x ≤ 11 → fits terminals.BraceClose x ≡ false
brace_far (of (kinds.Bracket brackets.BraceClose) i a) h = absurd (omega arith)
brace_far _ h = refl

square_far : (x : Sign) → grammar_machine.reach x ≤ 11 → fits terminals.SquareClose x ≡ false
square_far (of (kinds.Bracket brackets.SquareClose) i a) h = absurd (omega arith)
square_far _ h = refl

colon_far : (x : Sign) → grammar_machine.reach x ≤ 11 → fits terminals.Colon x ≡ false
colon_far (of (kinds.Mark marks.Colon) i a) h = absurd (omega arith)
colon_far _ h = refl

end_far : (c : Bool) (x : Sign) → grammar_machine.reach x ≤ 11 → is_end c x ≡ false
end_far c (of (kinds.Mark marks.Semicolon) i a) h = absurd (omega arith)
end_far c put h = absurd (omega arith)
end_far true _ h = refl
end_far false _ h = refl

comma_far : (x : Sign) → grammar_machine.reach x ≤ 11 → grammar_machine.is_comma x ≡ false
comma_far (of (kinds.Mark marks.Comma) i a) h = absurd (omega arith)
comma_far _ h = refl

closing_far : (q : Listing) (x : Sign) → grammar_machine.reach x ≤ 11 → fits (closing q) x ≡ false
closing_far listings.Arguments x h = close_far x h
closing_far listings.Parameters x h = close_far x h
closing_far listings.Properties x h = brace_far x h

pub refuses_close : (d : ℕ) (γ : List Symbol) → Refuses (symbols.Take terminals.Close d ∷ γ) 11
refuses_close d γ = λ vs x h. not_taken (fits terminals.Close x) (Next γ vs d) Fail (close_far x h) refl

pub refuses_square : (d : ℕ) (γ : List Symbol) → Refuses (symbols.Take terminals.SquareClose d ∷ γ) 11
refuses_square d γ = λ vs x h. not_taken (fits terminals.SquareClose x) (Next γ vs d) Fail (square_far x h) refl

pub refuses_colon : (d : ℕ) (γ : List Symbol) → Refuses (symbols.Take terminals.Colon d ∷ γ) 11
refuses_colon d γ = λ vs x h. not_taken (fits terminals.Colon x) (Next γ vs d) Fail (colon_far x h) refl

pub refuses_end : (c : Bool) (d : ℕ) (γ : List Symbol) → Refuses (symbols.Take (terminals.Semicolon c) d ∷ γ) 11
refuses_end c d γ = λ vs x h. not_taken (is_end c x) (Next γ vs d) Fail (end_far c x h) refl

pub refuses_rest : (q : Listing) (d : ℕ) (γ : List Symbol) → Refuses (symbols.Stage (stages.Rest q) d ∷ γ) 11
refuses_rest q d γ = λ vs x h.
    not_taken (fits (closing q) x) (Next γ vs d) (cond (grammar_machine.is_comma x) (Next (symbols.Stage (stages.Listed q) d ∷ γ) vs d) Fail) (closing_far q x h)
    (not_taken (grammar_machine.is_comma x) (Next (symbols.Stage (stages.Listed q) d ∷ γ) vs d) Fail (comma_far x h) refl)

pub refuses_element : (d : ℕ) (γ : List Symbol) → Refuses (symbols.Stage stages.AfterElement d ∷ γ) 11
refuses_element d γ = λ vs x h.
    not_taken (fits terminals.SquareClose x) (Next γ vs d) (cond (grammar_machine.is_comma x) (Next (symbols.Stage stages.Elements d ∷ γ) vs d) Fail) (square_far x h)
    (not_taken (grammar_machine.is_comma x) (Next (symbols.Stage stages.Elements d ∷ γ) vs d) Fail (comma_far x h) refl)

pub refuses_more : (c b : Bool) (i d : ℕ) (γ : List Symbol) → Refuses (symbols.Stage (stages.MoreBindings c b i) d ∷ γ) 11
refuses_more c b i d γ = λ vs x h.
    not_taken (is_end b x) (Next γ (act (act_kinds.Wrap (wrap.Lexical c i)) vs) d) (cond (grammar_machine.is_comma x) (Next (symbols.Part (expectation.Binding c b) d ∷ symbols.Do (act_kinds.Pair pair.And) ∷ symbols.Stage (stages.MoreBindings c b i) d ∷ γ) vs d) Fail) (end_far b x h)
    (not_taken (grammar_machine.is_comma x) (Next (symbols.Part (expectation.Binding c b) d ∷ symbols.Do (act_kinds.Pair pair.And) ∷ symbols.Stage (stages.MoreBindings c b i) d ∷ γ) vs d) Fail (comma_far x h) refl)

-- an assignment operator is refused behind what is no target
abbrev top_target : List ParseTree → Bool
top_target (l ∷ vs) = is_target l
top_target [] = false

abbrev pub RefusesOther : List Symbol → Type 0
RefusesOther γ = (vs : List ParseTree) (x : Sign) → top_target vs ≡ false → grammar_machine.reach x ≡ 11 → step γ vs x ≡ Fail

no_target : (l : ParseTree) (o : Outcome (List ParseTree)) → is_target l ≡ false → cond (is_target l) o Fail ≡ Fail
no_target l o e = rw e refl

after_assign_other : (n : Bool) (d : ℕ) (γ : List Symbol) (vs : List ParseTree) (x : Sign) → top_target vs ≡ false → grammar_machine.after_assign (List ParseTree) trees n d γ vs x ≡ Fail
after_assign_other n d γ (l ∷ vs) (of (kinds.Assign op) i a) e = no_target l (Next (symbols.Part (expectation.Assign n) d ∷ symbols.Do (act_kinds.Pair (pair.Assign op)) ∷ γ) (l ∷ vs) d) e
after_assign_other n d γ [] (of (kinds.Assign op) i a) e = refl
after_assign_other n d γ vs _ e = refl

either_fail : (c : Bool) (x o : Outcome (List ParseTree)) → (c ≡ true → x ≡ Fail) → (c ≡ false → o ≡ Fail) → cond c x o ≡ Fail
either_fail true x o f h = f refl
either_fail false x o f h = h refl

assign_takes : (n : Bool) (x : Sign) → grammar_machine.reach x ≡ 11 → grammar_machine.takes (tails.Assign n) x ≡ false → ⊥
assign_takes n x h e = both_ways (grammar_machine.reach x == 11) (eq-eqb (grammar_machine.reach x) 11 h) e
  where
    both_ways : (c : Bool) → c ≡ true → (c && true) ≡ false → ⊥
    both_ways true a b = absurd (cc (b))
    both_ways false a b = absurd (cc (a))

pub other_assign : (n : Bool) (d : ℕ) (γ : List Symbol) → RefusesOther (symbols.Tail (tails.Assign n) d ∷ γ)
other_assign n d γ vs x e h =
    either_fail (grammar_machine.takes (tails.Assign n) x) (grammar_machine.after_assign (List ParseTree) trees n d γ vs x) (step γ vs x)
    (λ _. after_assign_other n d γ vs x e) (λ f. absurd (assign_takes n x h f))

choose_other : (vs : List ParseTree) → top_target (act (act_kinds.Triple triple.Conditional) vs) ≡ false
choose_other (z ∷ x ∷ c ∷ vs) = refl
choose_other (z ∷ x ∷ []) = refl
choose_other (z ∷ []) = refl
choose_other [] = refl

le_split : (n : ℕ) → n ≤ 11 → (n ≤ 10) ⊎ (n ≡ 11)
le_split n h = grind arith

pub refuses_choice : (γ : List Symbol) → Refuses γ 10 → RefusesOther γ → Refuses (symbols.Do (act_kinds.Triple triple.Conditional) ∷ γ) 11
refuses_choice γ f o = λ vs x h. at_most (grammar_machine.reach x) h (λ l. f (act (act_kinds.Triple triple.Conditional) vs) x l) (λ e. o (act (act_kinds.Triple triple.Conditional) vs) x (choose_other vs) e)
  where
    at_most : {A : Type 0} → (n : ℕ) → n ≤ 11 → (n ≤ 10 → A) → (n ≡ 11 → A) → A
    at_most n h f o = elim (le_split n h) [ inl l ↦ f l | inr e ↦ o e ]

-- the first token is taken so
abbrev pub Into : (Sign → Outcome (List ParseTree)) → List Read → ParseTree → Type 0
Into f [] s = ⊥
Into f (read x n ∷ ts) s = Then (f x) n (Takes ts s)

pub take_act : (f : Act) (γ : List Symbol) (vs : List ParseTree) (ts : List Read) (s : ParseTree) → Takes ts s γ (act f vs) → Takes ts s (symbols.Do f ∷ γ) vs
take_act f γ vs [] s h = h
take_act f γ vs (read x n ∷ ts) s h = h

-- a part that must come, and a stage, take the first token
pub into_part : (q : Expected) (d : ℕ) (γ : List Symbol) (vs : List ParseTree) (ts : List Read) (s : ParseTree) → Into (grammar_machine.at_part (List ParseTree) trees q d γ vs) ts s → Takes ts s (symbols.Part q d ∷ γ) vs
into_part q d γ vs [] s h = absurd h
into_part q d γ vs (read x n ∷ ts) s h = h

pub into_stage : (q : Stage) (d : ℕ) (γ : List Symbol) (vs : List ParseTree) (ts : List Read) (s : ParseTree) → Into (grammar_machine.at_stage (List ParseTree) trees q d γ vs) ts s → Takes ts s (symbols.Stage q d ∷ γ) vs
into_stage q d γ vs [] s h = absurd h
into_stage q d γ vs (read x n ∷ ts) s h = h

pub take_terminal : (z : Terminal) (d : ℕ) (γ : List Symbol) (vs : List ParseTree) (x : Sign) (ts : List Read) (s : ParseTree) → fits z x ≡ true → Takes ts s γ vs → Takes (read x d ∷ ts) s (symbols.Take z d ∷ γ) vs
take_terminal z d γ vs x ts s e h = then_if (fits z x) (Next γ vs d) Fail d (Takes ts s) e (refl, h)

-- an expression statement does not begin with what begins another statement
expr_statement : (d : ℕ) (γ : List Symbol) (vs : List ParseTree) (ts : List Read) (s : ParseTree) → NoBraceOrFunction ts → Into (grammar_machine.at_expr (List ParseTree) trees false (suc d) (symbols.Take (terminals.Semicolon false) (suc d) ∷ symbols.Do (act_kinds.Wrap wrap.Evaluate) ∷ γ) vs) ts s → Into (grammar_machine.at_statement (List ParseTree) trees d γ vs) ts s
expr_statement d γ vs [] s first h = absurd h
expr_statement d γ vs (read (of (kinds.Bracket brackets.BraceOpen) i a) n ∷ ts) s first h = absurd first
expr_statement d γ vs (read (of (kinds.Word words.Function) i a) n ∷ ts) s first h = absurd first
expr_statement d γ vs (read (of (kinds.Mark marks.Semicolon) i a) n ∷ ts) s first h = absurd h
expr_statement d γ vs (read (of (kinds.Word words.If) i a) n ∷ ts) s first h = absurd h
expr_statement d γ vs (read (of (kinds.Word words.While) i a) n ∷ ts) s first h = absurd h
expr_statement d γ vs (read (of (kinds.Word words.For) i a) n ∷ ts) s first h = absurd h
expr_statement d γ vs (read (of (kinds.Word words.Break) i a) n ∷ ts) s first h = absurd h
expr_statement d γ vs (read (of (kinds.Word words.Continue) i a) n ∷ ts) s first h = absurd h
expr_statement d γ vs (read (of (kinds.Word words.Return) i a) n ∷ ts) s first h = absurd h
expr_statement d γ vs (read (of (kinds.Word words.Throw) i a) n ∷ ts) s first h = absurd h
expr_statement d γ vs (read (of (kinds.Word words.Try) i a) n ∷ ts) s first h = absurd h
expr_statement d γ vs (read _ n ∷ ts) s first h = h

-- an item of a list of items
into_items : (c : Bool) (d : ℕ) (γ : List Symbol) (vs : List ParseTree) (ts : List Read) (s : ParseTree) → Into (grammar_machine.at_item (List ParseTree) trees c d (symbols.Do (act_kinds.Pair pair.And) ∷ symbols.Loose (loose_kind.Items c) d ∷ γ) vs) ts s → Takes ts s (symbols.Loose (loose_kind.Items c) d ∷ γ) vs
into_items c d γ vs [] s h = absurd h
into_items c d γ vs (read x n ∷ ts) s h =
    then_if (grammar_machine.begins c x) (grammar_machine.go_on (List ParseTree) trees (loose_kind.Items c) d γ vs x) (cond true (step γ vs x) Fail) n (Takes ts s) (begun c x h) h
  where
    begun : (c : Bool) (x : Sign) → Then (grammar_machine.at_item (List ParseTree) trees c d (symbols.Do (act_kinds.Pair pair.And) ∷ symbols.Loose (loose_kind.Items c) d ∷ γ) vs x) n (Takes ts s) → grammar_machine.begins c x ≡ true
    begun c (of (kinds.Name r) i a) h = refl
    begun c (of kinds.Number i a) h = refl
    begun c (of kinds.Text i a) h = refl
    begun true (of (kinds.Word words.Function) i a) h = refl
    begun false (of (kinds.Word words.Function) i a) h = absurd h
    begun true (of (kinds.Word words.Catch) i a) h = absurd h
    begun false (of (kinds.Word words.Catch) i a) h = absurd h
    begun true (of (kinds.Word words.Else) i a) h = absurd h
    begun false (of (kinds.Word words.Else) i a) h = absurd h
    begun true (of (kinds.Word words.Finally) i a) h = absurd h
    begun false (of (kinds.Word words.Finally) i a) h = absurd h
    begun true (of (kinds.Word words.Unused) i a) h = absurd h
    begun false (of (kinds.Word words.Unused) i a) h = absurd h
    begun c (of (kinds.Word _) i a) h = refl
    begun c (of (kinds.Bracket brackets.BraceOpen) i a) h = refl
    begun c (of (kinds.Bracket brackets.Open) i a) h = refl
    begun c (of (kinds.Bracket brackets.SquareOpen) i a) h = refl
    begun c (of (kinds.Mark marks.Semicolon) i a) h = refl
    begun c (of (kinds.Mark marks.Not) i a) h = refl
    begun c (of (kinds.Update up) i a) h = refl
    begun c (of (kinds.Infix binary_operator.Add) i a) h = refl
    begun c (of (kinds.Infix binary_operator.Subtract) i a) h = refl
    begun true _ h = absurd h
    begun false _ h = absurd h

abbrev lower : Level → ℕ
lower levels.Multiply = 2
lower levels.Add = 3
lower levels.Relation = 4
lower levels.Equal = 5
lower levels.And = 6
lower levels.Or = 7

-- The machine's ways into parts that begin in several places.
abbrev pub at_lexical : Bool → ℕ → List Symbol → List ParseTree → Sign → Outcome (List ParseTree)
at_lexical c d γ vs (of (kinds.Word words.Let) i a) = grammar_machine.declares (List ParseTree) trees false c i d γ vs
at_lexical c d γ vs (of (kinds.Word words.Const) i a) = grammar_machine.declares (List ParseTree) trees true c i d γ vs
at_lexical c d γ vs _ = Fail

abbrev pub at_args : ℕ → List Symbol → List ParseTree → Sign → Outcome (List ParseTree)
at_args d γ vs (of (kinds.Bracket brackets.Open) i a) = Next (symbols.Stage (stages.Listed listings.Arguments) d ∷ γ) (nothing ∷ vs) d
at_args d γ vs _ = Fail

lexical_item : (c : Bool) (d : ℕ) (γ : List Symbol) (vs : List ParseTree) (ts : List Read) (s : ParseTree) → Into (at_lexical false d γ vs) ts s → Into (grammar_machine.at_item (List ParseTree) trees c d γ vs) ts s
lexical_item c d γ vs [] s h = absurd h
lexical_item true d γ vs (read (of (kinds.Word words.Let) i a) n ∷ ts) s h = h
lexical_item false d γ vs (read (of (kinds.Word words.Let) i a) n ∷ ts) s h = h
lexical_item true d γ vs (read (of (kinds.Word words.Const) i a) n ∷ ts) s h = h
lexical_item false d γ vs (read (of (kinds.Word words.Const) i a) n ∷ ts) s h = h
lexical_item c d γ vs (read _ n ∷ ts) s h = absurd h

lexical_first : (d : ℕ) (γ : List Symbol) (vs : List ParseTree) (ts : List Read) (s : ParseTree) → Into (at_lexical true d γ vs) ts s → Into (grammar_machine.at_first (List ParseTree) trees d γ vs) ts s
lexical_first d γ vs [] s h = absurd h
lexical_first d γ vs (read (of (kinds.Word words.Let) i a) n ∷ ts) s h = h
lexical_first d γ vs (read (of (kinds.Word words.Const) i a) n ∷ ts) s h = h
lexical_first d γ vs (read _ n ∷ ts) s h = absurd h

statement_item : (c : Bool) (d : ℕ) (γ : List Symbol) (vs : List ParseTree) (ts : List Read) (s : ParseTree) → Into (grammar_machine.at_statement (List ParseTree) trees d γ vs) ts s → Into (grammar_machine.at_item (List ParseTree) trees c d γ vs) ts s
statement_item c d γ vs [] s h = absurd h
statement_item c d γ vs (read (of (kinds.Word words.Function) i a) n ∷ ts) s h = absurd h
statement_item c d γ vs (read (of (kinds.Word words.Let) i a) n ∷ ts) s h = absurd h
statement_item c d γ vs (read (of (kinds.Word words.Const) i a) n ∷ ts) s h = absurd h
statement_item true d γ vs (read _ n ∷ ts) s h = h
statement_item false d γ vs (read _ n ∷ ts) s h = h

block_statement : (d : ℕ) (γ : List Symbol) (vs : List ParseTree) (ts : List Read) (s : ParseTree) → Into (grammar_machine.at_block (List ParseTree) trees (suc d) γ vs) ts s → Into (grammar_machine.at_statement (List ParseTree) trees d γ vs) ts s
block_statement d γ vs [] s h = absurd h
block_statement d γ vs (read (of (kinds.Bracket brackets.BraceOpen) i a) n ∷ ts) s h = h
block_statement d γ vs (read _ n ∷ ts) s h = absurd h

block_catch : (d : ℕ) (γ : List Symbol) (vs : List ParseTree) (ts : List Read) (s : ParseTree) → Into (grammar_machine.at_block (List ParseTree) trees d (symbols.Do (act_kinds.Wrap wrap.Catch) ∷ γ) vs) ts s → Into (grammar_machine.after_catch (List ParseTree) trees d γ vs) ts s
block_catch d γ vs [] s h = absurd h
block_catch d γ vs (read (of (kinds.Bracket brackets.BraceOpen) i a) n ∷ ts) s h = h
block_catch d γ vs (read _ n ∷ ts) s h = absurd h

params_function : (i d : ℕ) (γ : List Symbol) (vs : List ParseTree) (ts : List Read) (s : ParseTree) → Into (grammar_machine.at_params (List ParseTree) trees d (symbols.Part expectation.Body d ∷ symbols.Do (act_kinds.Pair (pair.Function i)) ∷ γ) vs) ts s → Into (grammar_machine.after_function (List ParseTree) trees i d γ vs) ts s
params_function i d γ vs [] s h = absurd h
params_function i d γ vs (read (of (kinds.Bracket brackets.Open) j a) n ∷ ts) s h = h
params_function i d γ vs (read _ n ∷ ts) s h = absurd h

params_method : (d : ℕ) (γ : List Symbol) (vs : List ParseTree) (ts : List Read) (s : ParseTree) → Into (grammar_machine.at_params (List ParseTree) trees (suc d) (symbols.Part expectation.Body (suc d) ∷ symbols.Do (act_kinds.Triple triple.Method) ∷ γ) vs) ts s → Into (grammar_machine.after_key (List ParseTree) trees d γ vs) ts s
params_method d γ vs [] s h = absurd h
params_method d γ vs (read (of (kinds.Bracket brackets.Open) j a) n ∷ ts) s h = h
params_method d γ vs (read _ n ∷ ts) s h = absurd h

-- the arguments of a call, of a `new`, and those behind a target of `++`
args_call : (d : ℕ) (γ : List Symbol) (vs : List ParseTree) (ts : List Read) (s : ParseTree) → Into (at_args d (symbols.Do (act_kinds.Pair pair.Call) ∷ symbols.Tail tails.Left d ∷ γ) vs) ts s → Takes ts s (symbols.Tail tails.Left d ∷ γ) vs
args_call d γ vs [] s h = absurd h
args_call d γ vs (read (of (kinds.Bracket brackets.Open) j a) n ∷ ts) s h = h
args_call d γ vs (read _ n ∷ ts) s h = absurd h

args_target : (d : ℕ) (γ : List Symbol) (vs : List ParseTree) (ts : List Read) (s : ParseTree) → Into (at_args d (symbols.Do (act_kinds.Pair pair.Call) ∷ symbols.Loose loose_kind.Target d ∷ γ) vs) ts s → Takes ts s (symbols.Loose loose_kind.Target d ∷ γ) vs
args_target d γ vs [] s h = absurd h
args_target d γ vs (read (of (kinds.Bracket brackets.Open) j a) n ∷ ts) s h = h
args_target d γ vs (read _ n ∷ ts) s h = absurd h

args_new : (i d : ℕ) (γ : List Symbol) (vs : List ParseTree) (ts : List Read) (s : ParseTree) → Into (at_args d (symbols.Do (act_kinds.Pair (pair.New i)) ∷ γ) vs) ts s → Takes ts s (symbols.Loose (loose_kind.Callee i) d ∷ γ) vs
args_new i d γ vs [] s h = absurd h
args_new i d γ vs (read (of (kinds.Bracket brackets.Open) j a) n ∷ ts) s h = h
args_new i d γ vs (read _ n ∷ ts) s h = absurd h

-- a member of a list does not begin with the bracket that closes it
no_member : (q : Listing) (d : ℕ) (γ : List Symbol) (vs : List ParseTree) (x : Sign) → fits (closing q) x ≡ true → grammar_machine.at_member (List ParseTree) trees q d γ vs x ≡ Fail
no_member listings.Arguments d γ vs (of (kinds.Bracket brackets.Close) i a) e = refl
no_member listings.Arguments d γ vs _ e = absurd (cc (e))
no_member listings.Parameters d γ vs (of (kinds.Bracket brackets.Close) i a) e = refl
no_member listings.Parameters d γ vs _ e = absurd (cc (e))
no_member listings.Properties d γ vs (of (kinds.Bracket brackets.BraceClose) i a) e = refl
no_member listings.Properties d γ vs _ e = absurd (cc (e))

into_listed : (q : Listing) (d : ℕ) (γ : List Symbol) (vs : List ParseTree) (ts : List Read) (s : ParseTree) → Into (grammar_machine.at_member (List ParseTree) trees q d (symbols.Do (act_kinds.Pair pair.And) ∷ symbols.Stage (stages.Rest q) d ∷ γ) vs) ts s → Takes ts s (symbols.Stage (stages.Listed q) d ∷ γ) vs
into_listed q d γ vs [] s h = absurd h
into_listed q d γ vs (read x n ∷ ts) s h =
    choose_else (fits (closing q) x) (Next γ vs d) (grammar_machine.at_member (List ParseTree) trees q d (symbols.Do (act_kinds.Pair pair.And) ∷ symbols.Stage (stages.Rest q) d ∷ γ) vs x) n (Takes ts s)
    (λ e. no_then (grammar_machine.at_member (List ParseTree) trees q d (symbols.Do (act_kinds.Pair pair.And) ∷ symbols.Stage (stages.Rest q) d ∷ γ) vs x) n (Takes ts s) (no_member q d (symbols.Do (act_kinds.Pair pair.And) ∷ symbols.Stage (stages.Rest q) d ∷ γ) vs x e) h) h

-- an element begins with neither `]` nor a comma
into_elements : (d : ℕ) (γ : List Symbol) (vs : List ParseTree) (ts : List Read) (s : ParseTree) → Into (grammar_machine.at_assign (List ParseTree) trees false d (symbols.Do (act_kinds.Pair pair.And) ∷ symbols.Stage stages.AfterElement d ∷ γ) vs) ts s → Takes ts s (symbols.Stage stages.Elements d ∷ γ) vs
into_elements d γ vs [] s h = absurd h
into_elements d γ vs (read (of (kinds.Bracket brackets.SquareClose) i a) n ∷ ts) s h = absurd h
into_elements d γ vs (read (of (kinds.Mark marks.Comma) i a) n ∷ ts) s h = absurd h
into_elements d γ vs (read _ n ∷ ts) s h = h

-- the end of an expression statement or of a part of a `for`, behind the tail of its Expr
end_expr : (n c : Bool) (d : ℕ) (γ : List Symbol) (vs : List ParseTree) (x : Sign) (ts : List Read) (s : ParseTree) → is_end c x ≡ true → Takes ts s γ vs → Takes (read x d ∷ ts) s (symbols.Tail (tails.Expression n) d ∷ symbols.Take (terminals.Semicolon c) d ∷ γ) vs
end_expr n true d γ vs (of (kinds.Mark marks.Semicolon) i a) ts s e h = (refl, h)
end_expr n false d γ vs (of (kinds.Mark marks.Semicolon) i a) ts s e h = (refl, h)
end_expr n false d γ vs put ts s e h = (refl, h)
end_expr n true d γ vs _ ts s e h = absurd (cc (e))
end_expr n false d γ vs _ ts s e h = absurd (cc (e))

bindings_end : (c b : Bool) (i d : ℕ) (γ : List Symbol) (vs : List ParseTree) (x : Sign) (ts : List Read) (s : ParseTree) → is_end b x ≡ true → Takes ts s γ (act (act_kinds.Wrap (wrap.Lexical c i)) vs) → Takes (read x d ∷ ts) s (symbols.Stage (stages.MoreBindings c b i) d ∷ γ) vs
bindings_end c b i d γ vs x ts s e h = then_if (is_end b x) (Next γ (act (act_kinds.Wrap (wrap.Lexical c i)) vs) d) (cond (grammar_machine.is_comma x) (Next (symbols.Part (expectation.Binding c b) d ∷ symbols.Do (act_kinds.Pair pair.And) ∷ symbols.Stage (stages.MoreBindings c b i) d ∷ γ) vs d) Fail) d (Takes ts s) e (refl, h)

comma_goes_on : (c b : Bool) (i d j : ℕ) (a : Bool) (γ : List Symbol) (vs : List ParseTree) (ts : List Read) (s : ParseTree) → Takes ts s (symbols.Part (expectation.Binding c b) d ∷ symbols.Do (act_kinds.Pair pair.And) ∷ symbols.Stage (stages.MoreBindings c b i) d ∷ γ) vs → Takes (mark marks.Comma j a d ∷ ts) s (symbols.Stage (stages.MoreBindings c b i) d ∷ γ) vs
comma_goes_on c true i d j a γ vs ts s h = (refl, h)
comma_goes_on c false i d j a γ vs ts s h = (refl, h)

equals_reach : (x : Sign) → grammar_machine.is_equals x ≡ true → grammar_machine.reach x ≤ 11
equals_reach (of (kinds.Assign assign_operator.Plain) i a) e = omega arith
equals_reach _ e = absurd (cc (e))

pass_binding : (b : Bool) (i d : ℕ) (γ : List Symbol) (vs : List ParseTree) (ts : List Read) (s : ParseTree) → Refuses γ 11 → Takes ts s γ (parse_tree.Atom (atom.Binding i) ∷ vs) → Takes ts s (symbols.Loose (loose_kind.Binding false b i) d ∷ γ) vs
pass_binding b i d γ vs [] s f h = h
pass_binding b i d γ vs (read x n ∷ ts) s f h =
    choose_else (grammar_machine.is_equals x) (grammar_machine.go_on (List ParseTree) trees (loose_kind.Binding false b i) d γ vs x) (step γ (parse_tree.Atom (atom.Binding i) ∷ vs) x) n (Takes ts s)
    (λ e. no_then (step γ (parse_tree.Atom (atom.Binding i) ∷ vs) x) n (Takes ts s) (f (parse_tree.Atom (atom.Binding i) ∷ vs) x (equals_reach x e)) h) h

pass_else : (i d : ℕ) (γ : List Symbol) (vs : List ParseTree) (ts : List Read) (s : ParseTree) → NoElse ts → Takes ts s γ (act (act_kinds.Pair (pair.If i)) vs) → Takes ts s (symbols.Loose (loose_kind.Else i) d ∷ γ) vs
pass_else i d γ vs [] s alone h = h
pass_else i d γ vs (read (of (kinds.Word words.Else) j a) n ∷ ts) s alone h = absurd alone
pass_else i d γ vs (read _ n ∷ ts) s alone h = h

goes_on : (x : Sign) (n : ℕ) (u : List Read) → NoMore (read x n ∷ u) → grammar_machine.reach x == 1 ≡ true → ⊥
goes_on (of (kinds.Mark marks.Dot) i a) n u alone e = alone
goes_on (of (kinds.Bracket brackets.Open) i a) n u alone e = alone
goes_on (of (kinds.Bracket brackets.SquareOpen) i a) n u alone e = alone
goes_on (of (kinds.Update up) i true) n u alone e = absurd (cc (e))
goes_on (of (kinds.Update up) i false) n u alone e = absurd (cc (e))
goes_on (of (kinds.Short short_operator.And) i a) n u alone e = absurd (cc (e))
goes_on (of (kinds.Short _) i a) n u alone e = absurd (cc (e))
goes_on (of (kinds.Infix binary_operator.Equal) i a) n u alone e = absurd (cc (e))
goes_on (of (kinds.Infix _) i a) n u alone e = absurd (cc (e))
goes_on _ n u alone e = absurd (cc (e))

pass_callee : (i d : ℕ) (γ : List Symbol) (vs : List ParseTree) (ts : List Read) (s : ParseTree) → NoMore ts → Takes ts s γ (act (act_kinds.Pair (pair.New i)) (nothing ∷ vs)) → Takes ts s (symbols.Loose (loose_kind.Callee i) d ∷ γ) vs
pass_callee i d γ vs [] s alone h = h
pass_callee i d γ vs (read x n ∷ ts) s alone h =
    choose_else (grammar_machine.reach x == 1) (grammar_machine.after_callee (List ParseTree) trees i d γ vs x) (step γ (act (act_kinds.Pair (pair.New i)) (nothing ∷ vs)) x) n (Takes ts s) (goes_on x n ts alone) h

pass_target : (d : ℕ) (γ : List Symbol) (l : ParseTree) (vs : List ParseTree) (ts : List Read) (s : ParseTree) → Refuses γ 1 → is_target l ≡ true → Takes ts s γ (l ∷ vs) → Takes ts s (symbols.Loose loose_kind.Target d ∷ γ) (l ∷ vs)
pass_target d γ l vs [] s f i h = rw i h
pass_target d γ l vs (read x n ∷ ts) s f i h =
    choose_else (grammar_machine.reach x == 1) (grammar_machine.after_left (List ParseTree) trees (symbols.Loose loose_kind.Target d) d γ (l ∷ vs) x) (cond (is_target l) (step γ (l ∷ vs) x) Fail) n (Takes ts s)
    (λ e. no_then (step γ (l ∷ vs) x) n (Takes ts s) (f (l ∷ vs) x (at_level (grammar_machine.reach x) 1 e)) h)
    (then_if (is_target l) (step γ (l ∷ vs) x) Fail n (Takes ts s) i h)

abbrev ranked : Option (Level × Pair) → ℕ
ranked (Some q) = grammar_machine.level_rank q.0
ranked None = 0

-- an operator of a level goes to its tail
level_reach : (kind : Kind) (i : ℕ) (a : Bool) (v : Level) (f : Pair) → infix_of kind ≡ Some (v, f) → grammar_machine.reach (of kind i a) ≡ grammar_machine.level_rank v
level_reach (kinds.Infix op) i a v f eq = ap ranked eq
level_reach (kinds.Short short_operator.And) i a v f eq = ap ranked eq
level_reach (kinds.Short short_operator.Or) i a v f eq = ap ranked eq
level_reach _ i a v f eq = absurd (cc (eq))

no_brace_maybe : (c : Bool) (n : Bool) (d : ℕ) (γ : List Symbol) (vs : List ParseTree) (x : Sign) → is_end c x ≡ true → grammar_machine.at_expr (List ParseTree) trees n d γ vs x ≡ Fail
no_brace_maybe true n d γ vs (of (kinds.Mark marks.Semicolon) i a) e = refl
no_brace_maybe false n d γ vs (of (kinds.Mark marks.Semicolon) i a) e = refl
no_brace_maybe false n d γ vs put e = refl
no_brace_maybe true n d γ vs _ e = absurd (cc (e))
no_brace_maybe false n d γ vs _ e = absurd (cc (e))

and_both : (a b : Bool) → a ≡ true → b ≡ true → (a && b) ≡ true
and_both true b e f = f
and_both false b e f = absurd (cc (e))

level_step : (v : Level) (n : Bool) (d i : ℕ) (a : Bool) (γ : List Symbol) (vs : List ParseTree) (kind : Kind) (f : Pair) (ts : List Read) (s : ParseTree) → infix_of kind ≡ Some (v, f) → (n && is_in kind) ≡ false → Takes ts s (symbols.Part (expectation.Operand v n) d ∷ symbols.Do (act_kinds.Pair f) ∷ symbols.Tail (tails.Level v n) d ∷ γ) vs → Takes (read (of kind i a) d ∷ ts) s (symbols.Tail (tails.Level v n) d ∷ γ) vs
level_step v n d i a γ vs kind f ts s eq bar h =
    then_if (grammar_machine.takes (tails.Level v n) (of kind i a)) (grammar_machine.joined (List ParseTree) trees v n d γ vs (infix_of kind)) (step γ vs (of kind i a)) d (Takes ts s)
    (and_both (grammar_machine.reach (of kind i a) == grammar_machine.level_rank v) (not (n && is_in kind)) (eq-eqb (grammar_machine.reach (of kind i a)) (grammar_machine.level_rank v) (level_reach kind i a v f eq)) (ap not bar))
    (subst (λ (o : Option (Level × Pair)). Then (grammar_machine.joined (List ParseTree) trees v n d γ vs o) d (Takes ts s)) (sym eq) (refl, h))

left_unary : (d : ℕ) (γ : List Symbol) (vs : List ParseTree) (ts : List Read) (s : ParseTree) → Into (grammar_machine.at_left (List ParseTree) trees d γ vs) ts s → Into (grammar_machine.at_unary (List ParseTree) trees d γ vs) ts s
left_unary d γ vs [] s h = absurd h
left_unary d γ vs (read (of (kinds.Update up) i a) n ∷ ts) s h = absurd h
left_unary d γ vs (read (of (kinds.Word words.Delete) i a) n ∷ ts) s h = absurd h
left_unary d γ vs (read (of (kinds.Word words.Void) i a) n ∷ ts) s h = absurd h
left_unary d γ vs (read (of (kinds.Word words.Typeof) i a) n ∷ ts) s h = absurd h
left_unary d γ vs (read (of (kinds.Infix binary_operator.Add) i a) n ∷ ts) s h = absurd h
left_unary d γ vs (read (of (kinds.Infix binary_operator.Subtract) i a) n ∷ ts) s h = absurd h
left_unary d γ vs (read (of (kinds.Mark marks.Not) i a) n ∷ ts) s h = absurd h
left_unary d γ vs (read put n ∷ ts) s h = absurd h
left_unary d γ vs (read (of _ i a) n ∷ ts) s h = h

prefixed_on : (d i : ℕ) (γ : List Symbol) (vs : List ParseTree) (x : Sign) (op : UnaryOperator) (o : Option UnaryOperator) (ts : List Read) (s : ParseTree) → o ≡ Some op → Takes ts s (symbols.Part expectation.Unary (suc d) ∷ symbols.Do (act_kinds.Wrap (wrap.Unary op i)) ∷ γ) vs → Then (grammar_machine.prefixed (List ParseTree) trees d γ vs x i o) (suc d) (Takes ts s)
prefixed_on d i γ vs x op o ts s eq h = subst (λ (o : Option UnaryOperator). Then (grammar_machine.prefixed (List ParseTree) trees d γ vs x i o) (suc d) (Takes ts s)) (sym eq) (refl, h)

unary_on : (d i : ℕ) (a : Bool) (γ : List Symbol) (vs : List ParseTree) (kind : Kind) (op : UnaryOperator) (ts : List Read) (s : ParseTree) → prefix_of kind ≡ Some op → Takes ts s (symbols.Part expectation.Unary (suc d) ∷ symbols.Do (act_kinds.Wrap (wrap.Unary op i)) ∷ γ) vs → Then (grammar_machine.at_unary (List ParseTree) trees d γ vs (of kind i a)) (suc d) (Takes ts s)
unary_on d i a γ vs (kinds.Update up) op ts s eq h = absurd (cc (eq))
unary_on d i a γ vs kind op ts s eq h = prefixed_on d i γ vs (of kind i a) op (prefix_of kind) ts s eq h

abbrev Closer : Terminal → Type 0
Closer (terminals.Semicolon true) = Unit {0}
Closer terminals.Close = Unit {0}
Closer _ = ⊥

refuses_closer : (z : Terminal) (d : ℕ) (γ : List Symbol) → Closer z → Refuses (symbols.Take z d ∷ γ) 11
refuses_closer (terminals.Semicolon true) d γ c = refuses_end true d γ
refuses_closer (terminals.Semicolon false) d γ c = absurd c
refuses_closer terminals.Close d γ c = refuses_close d γ
refuses_closer terminals.Open d γ c = absurd c
refuses_closer terminals.BraceClose d γ c = absurd c
refuses_closer terminals.SquareClose d γ c = absurd c
refuses_closer terminals.Colon d γ c = absurd c

no_expr : (z : Terminal) (n : Bool) (d : ℕ) (γ : List Symbol) (vs : List ParseTree) (x : Sign) → Closer z → fits z x ≡ true → grammar_machine.at_expr (List ParseTree) trees n d γ vs x ≡ Fail
no_expr (terminals.Semicolon true) n d γ vs x c e = no_brace_maybe true n d γ vs x e
no_expr (terminals.Semicolon false) n d γ vs x c e = absurd c
no_expr terminals.Close n d γ vs (of (kinds.Bracket brackets.Close) i a) c e = refl
no_expr terminals.Close n d γ vs _ c e = absurd (cc (e))
no_expr terminals.Open n d γ vs x c e = absurd c
no_expr terminals.BraceClose n d γ vs x c e = absurd c
no_expr terminals.SquareClose n d γ vs x c e = absurd c
no_expr terminals.Colon n d γ vs x c e = absurd c

close_expr : (z : Terminal) (n : Bool) (d : ℕ) (γ : List Symbol) (vs : List ParseTree) (x : Sign) (ts : List Read) (s : ParseTree) → Closer z → fits z x ≡ true → Takes ts s γ vs → Takes (read x d ∷ ts) s (symbols.Tail (tails.Expression n) d ∷ symbols.Take z d ∷ γ) vs
close_expr (terminals.Semicolon true) n d γ vs x ts s c e h = end_expr n true d γ vs x ts s e h
close_expr (terminals.Semicolon false) n d γ vs x ts s c e h = absurd c
close_expr terminals.Close n d γ vs (of (kinds.Bracket brackets.Close) i a) ts s c e h = (refl, h)
close_expr terminals.Close n d γ vs _ ts s c e h = absurd (cc (e))
close_expr terminals.Open n d γ vs x ts s c e h = absurd c
close_expr terminals.BraceClose n d γ vs x ts s c e h = absurd c
close_expr terminals.SquareClose n d γ vs x ts s c e h = absurd c
close_expr terminals.Colon n d γ vs x ts s c e h = absurd c

maybe_none : (n : Bool) (z : Terminal) (d : ℕ) (γ : List Symbol) (vs : List ParseTree) (x : Sign) (ts us : List Read) (s : ParseTree) → fits z x ≡ true → ts ≡ read x d ∷ us → Takes us s γ (nothing ∷ vs) → Into (grammar_machine.at_maybe (List ParseTree) trees n z d γ vs) ts s
maybe_none n z d γ vs x ts us s e eq h =
    subst (λ (ts : List Read). Into (grammar_machine.at_maybe (List ParseTree) trees n z d γ vs) ts s) (sym eq)
    (then_if (fits z x) (Next γ (nothing ∷ vs) d) (grammar_machine.at_expr (List ParseTree) trees n d (symbols.Take z d ∷ γ) vs x) d (Takes us s) e (refl, h))

maybe_some : (n : Bool) (z : Terminal) (d : ℕ) (γ : List Symbol) (vs : List ParseTree) (ts : List Read) (s : ParseTree) → Closer z → Into (grammar_machine.at_expr (List ParseTree) trees n d (symbols.Take z d ∷ γ) vs) ts s → Into (grammar_machine.at_maybe (List ParseTree) trees n z d γ vs) ts s
maybe_some n z d γ vs [] s c h = absurd h
maybe_some n z d γ vs (read x m ∷ ts) s c h =
    choose_else (fits z x) (Next γ (nothing ∷ vs) d) (grammar_machine.at_expr (List ParseTree) trees n d (symbols.Take z d ∷ γ) vs x) m (Takes ts s)
    (λ e. no_then (grammar_machine.at_expr (List ParseTree) trees n d (symbols.Take z d ∷ γ) vs x) m (Takes ts s) (no_expr z n d (symbols.Take z d ∷ γ) vs x c e) h) h

close_maybe : (z : Terminal) (n : Bool) (d : ℕ) (γ : List Symbol) (vs : List ParseTree) (x : Sign) (r us : List Read) (s : ParseTree) → Closer z → fits z x ≡ true → r ≡ read x d ∷ us → Takes us s γ vs → Takes r s (symbols.Tail (tails.Expression n) d ∷ symbols.Take z d ∷ γ) vs
close_maybe z n d γ vs x r us s c e eq h = subst (λ (r : List Read). Takes r s (symbols.Tail (tails.Expression n) d ∷ symbols.Take z d ∷ γ) vs) (sym eq) (close_expr z n d γ vs x us s c e h)

maybe_first : (d : ℕ) (γ : List Symbol) (vs : List ParseTree) (ts : List Read) (s : ParseTree) → Into (grammar_machine.at_maybe (List ParseTree) trees true (terminals.Semicolon true) d γ vs) ts s → Into (grammar_machine.at_first (List ParseTree) trees d γ vs) ts s
maybe_first d γ vs [] s h = absurd h
maybe_first d γ vs (read (of (kinds.Word words.Let) i a) n ∷ ts) s h = absurd h
maybe_first d γ vs (read (of (kinds.Word words.Const) i a) n ∷ ts) s h = absurd h
maybe_first d γ vs (read _ n ∷ ts) s h = h

thrown_in : (i d : ℕ) (γ : List Symbol) (vs : List ParseTree) (ts : List Read) (s : ParseTree) → SameLine ts → Into (grammar_machine.at_expr (List ParseTree) trees false d (symbols.Take (terminals.Semicolon false) d ∷ symbols.Do (act_kinds.Wrap (wrap.Throw i)) ∷ γ) vs) ts s → Takes ts s (symbols.Part (expectation.Thrown i) d ∷ γ) vs
thrown_in i d γ vs [] s l h = absurd h
thrown_in i d γ vs (read (of kind j true) n ∷ ts) s l h = absurd l
thrown_in i d γ vs (read (of kind j false) n ∷ ts) s l h = h
thrown_in i d γ vs (read put n ∷ ts) s l h = absurd h

returned_in : (i d : ℕ) (γ : List Symbol) (vs : List ParseTree) (ts : List Read) (s : ParseTree) → SameLine ts → Into (grammar_machine.at_expr (List ParseTree) trees false d (symbols.Take (terminals.Semicolon false) d ∷ symbols.Do (act_kinds.Wrap (wrap.Return i)) ∷ γ) vs) ts s → Takes ts s (symbols.Stage (stages.AfterReturn i) d ∷ γ) vs
returned_in i d γ vs [] s l h = absurd h
returned_in i d γ vs (read (of kind j true) n ∷ ts) s l h = absurd l
returned_in i d γ vs (read (of kind j false) n ∷ ts) s l h =
    choose_else (is_end false (of kind j false)) (Next γ (parse_tree.Atom (atom.Return i) ∷ vs) d) (grammar_machine.at_expr (List ParseTree) trees false d (symbols.Take (terminals.Semicolon false) d ∷ symbols.Do (act_kinds.Wrap (wrap.Return i)) ∷ γ) vs (of kind j false)) n (Takes ts s)
    (λ e. no_then (grammar_machine.at_expr (List ParseTree) trees false d (symbols.Take (terminals.Semicolon false) d ∷ symbols.Do (act_kinds.Wrap (wrap.Return i)) ∷ γ) vs (of kind j false)) n (Takes ts s) (no_brace_maybe false false d (symbols.Take (terminals.Semicolon false) d ∷ symbols.Do (act_kinds.Wrap (wrap.Return i)) ∷ γ) vs (of kind j false) e) h) h
returned_in i d γ vs (read put n ∷ ts) s l h = absurd h

-- behind a name that begins a property definition
abbrev RefusesKeys : List Symbol → Type 0
RefusesKeys γ = (vs : List ParseTree) (x : Sign) → (grammar_machine.ends_key x || grammar_machine.is_key_sign x) ≡ true → step γ vs x ≡ Fail

rest_keys : (d : ℕ) (γ : List Symbol) → RefusesKeys (symbols.Do (act_kinds.Pair pair.And) ∷ symbols.Stage (stages.Rest listings.Properties) d ∷ γ)
rest_keys d γ vs (of (kinds.Bracket brackets.BraceClose) i a) e = absurd (cc (e))
rest_keys d γ vs (of (kinds.Mark marks.Comma) i a) e = absurd (cc (e))
rest_keys d γ vs _ e = refl

keeps_key : (r : NameRole) (x : Sign) → grammar_machine.keeps (loose_kind.Property r 0) x ≡ true → (grammar_machine.ends_key x || grammar_machine.is_key_sign x) ≡ true
keeps_key role.Plain x e = first (grammar_machine.ends_key x) (grammar_machine.is_key_sign x) e
  where
    first : (a b : Bool) → (a || false) ≡ true → (a || b) ≡ true
    first true b e = refl
    first false b e = absurd (cc (e))
keeps_key role.Get x e = e
keeps_key role.Set x e = e

pass_name : (r : NameRole) (i d : ℕ) (γ : List Symbol) (vs : List ParseTree) (ts : List Read) (s : ParseTree) → RefusesKeys γ → Takes ts s γ (parse_tree.Atom (atom.Shorthand i) ∷ vs) → Takes ts s (symbols.Loose (loose_kind.Property r i) d ∷ γ) vs
pass_name r i d γ vs [] s f h = h
pass_name r i d γ vs (read x n ∷ ts) s f h =
    choose_else (grammar_machine.keeps (loose_kind.Property r i) x) (grammar_machine.go_on (List ParseTree) trees (loose_kind.Property r i) d γ vs x) (step γ (parse_tree.Atom (atom.Shorthand i) ∷ vs) x) n (Takes ts s)
    (λ e. no_then (step γ (parse_tree.Atom (atom.Shorthand i) ∷ vs) x) n (Takes ts s) (f (parse_tree.Atom (atom.Shorthand i) ∷ vs) x (keeps_key r x e)) h) h

abbrev EndsKey : List Read → Type 0
EndsKey [] = ⊥
EndsKey (read x n ∷ us) = grammar_machine.ends_key x ≡ true

key_in : (d i : ℕ) (a : Bool) (γ : List Symbol) (vs : List ParseTree) (kind : Kind) (ts : List Read) (s : ParseTree) → is_key kind ≡ true → Takes ts s γ (parse_tree.Atom (atom.Key i) ∷ vs) → Then (grammar_machine.at_key (List ParseTree) trees d γ vs (of kind i a)) d (Takes ts s)
key_in d i a γ vs (kinds.Bracket b) ts s e h = absurd (cc (e))
key_in d i a γ vs kind ts s e h = then_if (is_key kind) (Next γ (parse_tree.Atom (atom.Key i) ∷ vs) d) Fail d (Takes ts s) e (refl, h)

name_key : (r : NameRole) (i d : ℕ) (γ : List Symbol) (vs : List ParseTree) (ts : List Read) (s : ParseTree) → EndsKey ts → Takes ts s (symbols.Stage stages.AfterKey d ∷ γ) (parse_tree.Atom (atom.Key i) ∷ vs) → Takes ts s (symbols.Loose (loose_kind.Property r i) d ∷ γ) vs
name_key r i d γ vs [] s e h = absurd e
name_key r i d γ vs (read (of (kinds.Mark marks.Colon) j a) n ∷ ts) s e h = h
name_key r i d γ vs (read (of (kinds.Bracket brackets.Open) j a) n ∷ ts) s e h = h
name_key r i d γ vs (read _ n ∷ ts) s e h = absurd (cc (e))

prop_key : (d i : ℕ) (a : Bool) (γ : List Symbol) (vs : List ParseTree) (kind : Kind) (ts : List Read) (s : ParseTree) → is_key kind ≡ true → EndsKey ts → Takes ts s (symbols.Stage stages.AfterKey d ∷ γ) (parse_tree.Atom (atom.Key i) ∷ vs) → Then (grammar_machine.at_prop (List ParseTree) trees d γ vs (of kind i a)) d (Takes ts s)
prop_key d i a γ vs (kinds.Name r) ts s e f h = (refl, name_key r i d γ vs ts s f h)
prop_key d i a γ vs (kinds.Bracket b) ts s e f h = absurd (cc (e))
prop_key d i a γ vs kind ts s e f h = then_if (is_key kind) (Next (symbols.Stage stages.AfterKey d ∷ γ) (parse_tree.Atom (atom.Key i) ∷ vs) d) Fail d (Takes ts s) e (refl, h)

get_in : (i d : ℕ) (γ : List Symbol) (vs : List ParseTree) (ts : List Read) (s : ParseTree) → Into (grammar_machine.at_accessor (List ParseTree) trees role.Get i d γ vs) ts s → Takes ts s (symbols.Loose (loose_kind.Property role.Get i) d ∷ γ) vs
get_in i d γ vs [] s h = absurd h
get_in i d γ vs (read (of (kinds.Name r) j a) n ∷ ts) s h = h
get_in i d γ vs (read (of kinds.Number j a) n ∷ ts) s h = h
get_in i d γ vs (read (of kinds.Text j a) n ∷ ts) s h = h
get_in i d γ vs (read (of (kinds.Word x) j a) n ∷ ts) s h = h
get_in i d γ vs (read (of (kinds.Infix binary_operator.In) j a) n ∷ ts) s h = h
get_in i d γ vs (read (of (kinds.Infix binary_operator.InstanceOf) j a) n ∷ ts) s h = h
get_in i d γ vs (read (of (kinds.Bracket brackets.SquareOpen) j a) n ∷ ts) s h = h
get_in i d γ vs (read _ n ∷ ts) s h = absurd h

set_in : (i d : ℕ) (γ : List Symbol) (vs : List ParseTree) (ts : List Read) (s : ParseTree) → Into (grammar_machine.at_accessor (List ParseTree) trees role.Set i d γ vs) ts s → Takes ts s (symbols.Loose (loose_kind.Property role.Set i) d ∷ γ) vs
set_in i d γ vs [] s h = absurd h
set_in i d γ vs (read (of (kinds.Name r) j a) n ∷ ts) s h = h
set_in i d γ vs (read (of kinds.Number j a) n ∷ ts) s h = h
set_in i d γ vs (read (of kinds.Text j a) n ∷ ts) s h = h
set_in i d γ vs (read (of (kinds.Word x) j a) n ∷ ts) s h = h
set_in i d γ vs (read (of (kinds.Infix binary_operator.In) j a) n ∷ ts) s h = h
set_in i d γ vs (read (of (kinds.Infix binary_operator.InstanceOf) j a) n ∷ ts) s h = h
set_in i d γ vs (read (of (kinds.Bracket brackets.SquareOpen) j a) n ∷ ts) s h = h
set_in i d γ vs (read _ n ∷ ts) s h = absurd h

-- an operand of `??` has a tree that may stand there
abbrev PlainTree : Nonterminal → ParseTree → Type 0
PlainTree (nonterminal.level levels.Equal n) e = is_plain e ≡ true
PlainTree (nonterminal.level levels.Relation n) e = is_plain e ≡ true
PlainTree (nonterminal.level levels.Add n) e = is_plain e ≡ true
PlainTree (nonterminal.level levels.Multiply n) e = is_plain e ≡ true
PlainTree (nonterminal.coalesce n) e = is_plain e ≡ true
PlainTree nonterminal.unary e = is_plain e ≡ true
PlainTree nonterminal.left e = is_plain e ≡ true
PlainTree nonterminal.primary e = is_plain e ≡ true
PlainTree nonterminal.new e = is_plain e ≡ true
PlainTree _ e = Unit {0}

abbrev mixes : Level → Bool → Bool
mixes levels.Or c = false
mixes levels.And c = false
mixes _ c = c

abbrev mixed : Option (Level × Pair) → Bool
mixed (Some q) = mixes q.0 (is_and_or q.1)
mixed None = false

none_mixed : (kind : Kind) → mixed (infix_of kind) ≡ false
none_mixed (kinds.Infix binary_operator.Equal) = refl
none_mixed (kinds.Infix _) = refl
none_mixed (kinds.Short short_operator.And) = refl
none_mixed (kinds.Short short_operator.Or) = refl
none_mixed (kinds.Short short_operator.Coalesce) = refl
none_mixed _ = refl

plain_tree : {q : Nonterminal} {d : ℕ} {e : ParseTree} {b m : List Read} → Spells q d e b m → PlainTree q e
plain_tree (spells.level-one {v = levels.Equal} h) = plain_tree h
plain_tree (spells.level-one {v = levels.Relation} h) = plain_tree h
plain_tree (spells.level-one {v = levels.Add} h) = plain_tree h
plain_tree (spells.level-one {v = levels.Multiply} h) = plain_tree h
plain_tree (spells.level-more {v = levels.Equal} {kind = kind} h eq bar i) = ap not (sym (ap mixed eq) ∙ none_mixed kind)
plain_tree (spells.level-more {v = levels.Relation} {kind = kind} h eq bar i) = ap not (sym (ap mixed eq) ∙ none_mixed kind)
plain_tree (spells.level-more {v = levels.Add} {kind = kind} h eq bar i) = ap not (sym (ap mixed eq) ∙ none_mixed kind)
plain_tree (spells.level-more {v = levels.Multiply} {kind = kind} h eq bar i) = ap not (sym (ap mixed eq) ∙ none_mixed kind)
plain_tree (spells.coalesce-two h i) = refl
plain_tree (spells.coalesce-more h i) = refl
plain_tree (spells.unary-prefix eq h) = refl
plain_tree (spells.unary-before h i) = refl
plain_tree (spells.unary-after h i) = refl
plain_tree (spells.unary-left h) = plain_tree h
plain_tree (spells.left-primary h) = plain_tree h
plain_tree (spells.left-new h) = plain_tree h
plain_tree (spells.left-member h i) = refl
plain_tree (spells.left-index h i) = refl
plain_tree (spells.left-call h i) = refl
plain_tree (spells.new-bare h i) = refl
plain_tree (spells.new-args h i) = refl
plain_tree spells.this = refl
plain_tree spells.name = refl
plain_tree spells.number = refl
plain_tree spells.text = refl
plain_tree spells.null = refl
plain_tree spells.truth = refl
plain_tree spells.falsity = refl
plain_tree (spells.parenthesis h) = refl
plain_tree (spells.array h) = refl
plain_tree (spells.array-last h i) = refl
plain_tree spells.object-none = refl
plain_tree (spells.object-some h) = refl
plain_tree (spells.object-comma h) = refl
plain_tree (spells.function h i) = refl
plain_tree (spells.function-name h i) = refl
plain_tree _ = tt

-- What a part of each kind promises: where the machine goes on behind it to s, it comes through the part to s.
abbrev Comes : (List Symbol → List ParseTree → Sign → Outcome (List ParseTree)) → ParseTree → List Read → List Read → Type 0
Comes f e ts r = (γ : List Symbol) (vs : List ParseTree) (s : ParseTree) → Takes r s γ (e ∷ vs) → Into (f γ vs) ts s

abbrev ComesBy : ℕ → (List Symbol → List Symbol) → (List Symbol → List ParseTree → Sign → Outcome (List ParseTree)) → ParseTree → List Read → List Read → Type 0
ComesBy n tail f e ts r = (γ : List Symbol) (vs : List ParseTree) (s : ParseTree) → Refuses γ n → Takes r s (tail γ) (e ∷ vs) → Into (f γ vs) ts s

abbrev Promise : Nonterminal → ℕ → ParseTree → List Read → List Read → Type 0
Promise (nonterminal.items c) d e ts r = (γ : List Symbol) (vs : List ParseTree) (s : ParseTree) → Takes r s (symbols.Loose (loose_kind.Items c) d ∷ γ) (e ∷ vs) → Takes ts s (symbols.Loose (loose_kind.Items c) d ∷ γ) (nothing ∷ vs)
Promise (nonterminal.item c) d e ts r = Comes (λ γ vs x. grammar_machine.at_item (List ParseTree) trees c d γ vs x) e ts r
Promise (nonterminal.lexical c) d e ts r = Comes (λ γ vs x. at_lexical c d γ vs x) e ts r
Promise (nonterminal.binds c b) d e ts r = (i : ℕ) (γ : List Symbol) (vs : List ParseTree) (s : ParseTree) → Takes r s (symbols.Stage (stages.MoreBindings c b i) d ∷ γ) (e ∷ vs) → Takes ts s (symbols.Part (expectation.Binding c b) d ∷ symbols.Do (act_kinds.Pair pair.And) ∷ symbols.Stage (stages.MoreBindings c b i) d ∷ γ) (nothing ∷ vs)
Promise (nonterminal.bind c b) d e ts r = ComesBy 11 (λ γ. γ) (λ γ vs x. grammar_machine.at_bind (List ParseTree) trees c b d γ vs x) e ts r
Promise nonterminal.params d e ts r = Comes (λ γ vs x. grammar_machine.at_params (List ParseTree) trees d γ vs x) e ts r
Promise nonterminal.names d e ts r = (γ : List Symbol) (vs : List ParseTree) (s : ParseTree) → Takes r s (symbols.Stage (stages.Rest listings.Parameters) d ∷ γ) (e ∷ vs) → Takes ts s (symbols.Stage (stages.Listed listings.Parameters) d ∷ γ) (nothing ∷ vs)
Promise nonterminal.param d e ts r = Comes (λ γ vs x. grammar_machine.at_param (List ParseTree) trees d γ vs x) e ts r
Promise nonterminal.body d e ts r = Comes (λ γ vs x. grammar_machine.at_body (List ParseTree) trees d γ vs x) e ts r
Promise nonterminal.block d e ts r = Comes (λ γ vs x. grammar_machine.at_block (List ParseTree) trees d γ vs x) e ts r
Promise nonterminal.statement d e ts r = Comes (λ γ vs x. grammar_machine.at_statement (List ParseTree) trees d γ vs x) e ts r
Promise nonterminal.first d e ts r = Comes (λ γ vs x. grammar_machine.at_first (List ParseTree) trees d γ vs x) e ts r
Promise (nonterminal.maybe n) d e ts r = (z : Terminal) (γ : List Symbol) (vs : List ParseTree) (s : ParseTree) (x : Sign) (us : List Read) → Closer z → fits z x ≡ true → r ≡ read x d ∷ us → Takes us s γ (e ∷ vs) → Into (grammar_machine.at_maybe (List ParseTree) trees n z d γ vs) ts s
Promise nonterminal.catch d e ts r = (i : ℕ) (γ : List Symbol) (vs : List ParseTree) (s : ParseTree) → Takes r s (symbols.Loose (loose_kind.Finally i) d ∷ γ) (e ∷ vs) → Takes ts s (symbols.Stage (stages.AfterTry i) d ∷ γ) vs
Promise (nonterminal.expr n) d e ts r = ComesBy 11 (λ γ. symbols.Tail (tails.Expression n) d ∷ γ) (λ γ vs x. grammar_machine.at_expr (List ParseTree) trees n d γ vs x) e ts r
Promise (nonterminal.assign n) d e ts r = ComesBy 11 (λ γ. γ) (λ γ vs x. grammar_machine.at_assign (List ParseTree) trees n d γ vs x) e ts r
Promise (nonterminal.cond n) d e ts r = (γ : List Symbol) (vs : List ParseTree) (s : ParseTree) → Refuses γ 10 → RefusesOther γ → Takes r s γ (e ∷ vs) → Into (grammar_machine.at_operand (List ParseTree) trees levels.Or n d (symbols.Tail (tails.Level levels.Or n) d ∷ symbols.Tail (tails.Short n) d ∷ symbols.Tail (tails.Conditional n) d ∷ γ) vs) ts s
Promise (nonterminal.short n) d e ts r = ComesBy 9 (λ γ. γ) (λ γ vs x. grammar_machine.at_operand (List ParseTree) trees levels.Or n d (symbols.Tail (tails.Level levels.Or n) d ∷ symbols.Tail (tails.Short n) d ∷ γ) vs x) e ts r
Promise (nonterminal.coalesce n) d e ts r = ComesBy 8 (λ γ. symbols.Tail (tails.Short n) d ∷ γ) (λ γ vs x. grammar_machine.at_operand (List ParseTree) trees levels.Or n d (symbols.Tail (tails.Level levels.Or n) d ∷ symbols.Tail (tails.Short n) d ∷ γ) vs x) e ts r
Promise (nonterminal.level v n) d e ts r = ComesBy (lower v) (λ γ. symbols.Tail (tails.Level v n) d ∷ γ) (λ γ vs x. grammar_machine.at_operand (List ParseTree) trees v n d (symbols.Tail (tails.Level v n) d ∷ γ) vs x) e ts r
Promise nonterminal.unary d e ts r = ComesBy 2 (λ γ. γ) (λ γ vs x. grammar_machine.at_unary (List ParseTree) trees d γ vs x) e ts r
Promise nonterminal.left d e ts r = ((γ : List Symbol) (vs : List ParseTree) (s : ParseTree) → Takes r s (symbols.Tail tails.Left d ∷ γ) (e ∷ vs) → Into (grammar_machine.at_primary (List ParseTree) trees d (symbols.Tail tails.Left d ∷ γ) vs) ts s) × ((γ : List Symbol) (vs : List ParseTree) (s : ParseTree) → Takes r s (symbols.Loose loose_kind.Target d ∷ γ) (e ∷ vs) → Into (grammar_machine.at_primary (List ParseTree) trees d (symbols.Loose loose_kind.Target d ∷ γ) vs) ts s)
Promise nonterminal.new d e ts r = Comes (λ γ vs x. grammar_machine.at_primary (List ParseTree) trees d γ vs x) e ts r
Promise nonterminal.callee d e ts r = (i : ℕ) (γ : List Symbol) (vs : List ParseTree) (s : ParseTree) → Takes r s (symbols.Loose (loose_kind.Callee i) d ∷ γ) (e ∷ vs) → Into (grammar_machine.at_primary (List ParseTree) trees d (symbols.Loose (loose_kind.Callee i) d ∷ γ) vs) ts s
Promise nonterminal.args d e ts r = Comes (λ γ vs x. at_args d γ vs x) e ts r
Promise nonterminal.arguments d e ts r = (γ : List Symbol) (vs : List ParseTree) (s : ParseTree) → Takes r s (symbols.Stage (stages.Rest listings.Arguments) d ∷ γ) (e ∷ vs) → Takes ts s (symbols.Stage (stages.Listed listings.Arguments) d ∷ γ) (nothing ∷ vs)
Promise nonterminal.primary d e ts r = Comes (λ γ vs x. grammar_machine.at_primary (List ParseTree) trees d γ vs x) e ts r
Promise nonterminal.elements d e ts r = (γ : List Symbol) (vs : List ParseTree) (s : ParseTree) → Takes r s (symbols.Stage stages.Elements d ∷ γ) (e ∷ vs) → Takes ts s (symbols.Stage stages.Elements d ∷ γ) (nothing ∷ vs)
Promise nonterminal.props d e ts r = (γ : List Symbol) (vs : List ParseTree) (s : ParseTree) → Takes r s (symbols.Stage (stages.Rest listings.Properties) d ∷ γ) (e ∷ vs) → Takes ts s (symbols.Stage (stages.Listed listings.Properties) d ∷ γ) (nothing ∷ vs)
Promise nonterminal.prop d e ts r = (γ : List Symbol) (vs : List ParseTree) (s : ParseTree) → RefusesKeys γ → Refuses γ 11 → Takes r s γ (e ∷ vs) → Into (grammar_machine.at_prop (List ParseTree) trees d γ vs) ts s
Promise nonterminal.key d e ts r = Comes (λ γ vs x. grammar_machine.at_key (List ParseTree) trees d γ vs x) e ts r × ((γ : List Symbol) (vs : List ParseTree) (s : ParseTree) → EndsKey r → Takes r s (symbols.Stage stages.AfterKey d ∷ γ) (e ∷ vs) → Into (grammar_machine.at_prop (List ParseTree) trees d γ vs) ts s)

-- an operand of a level, from the level below
from_operand : (v : Level) (n : Bool) (d : ℕ) (e : ParseTree) (ts r : List Read) → Promise (operand v n) d e ts r → ComesBy (lower v) (λ γ. γ) (λ γ vs x. grammar_machine.at_operand (List ParseTree) trees v n d γ vs x) e ts r
from_operand levels.Multiply n d e ts r h = h
from_operand levels.Add n d e ts r h = λ γ vs s f k. h γ vs s (λ us x l. f us x (omega arith)) (pass (tails.Level levels.Multiply n) d γ (e ∷ vs) r s f k)
from_operand levels.Relation n d e ts r h = λ γ vs s f k. h γ vs s (λ us x l. f us x (omega arith)) (pass (tails.Level levels.Add n) d γ (e ∷ vs) r s f k)
from_operand levels.Equal n d e ts r h = λ γ vs s f k. h γ vs s (λ us x l. f us x (omega arith)) (pass (tails.Level levels.Relation n) d γ (e ∷ vs) r s f k)
from_operand levels.And n d e ts r h = λ γ vs s f k. h γ vs s (λ us x l. f us x (omega arith)) (pass (tails.Level levels.Equal n) d γ (e ∷ vs) r s f k)
from_operand levels.Or n d e ts r h = λ γ vs s f k. h γ vs s (λ us x l. f us x (omega arith)) (pass (tails.Level levels.And n) d γ (e ∷ vs) r s f k)

lower_rank : (v : Level) → lower v < grammar_machine.level_rank v
lower_rank levels.Multiply = omega arith
lower_rank levels.Add = omega arith
lower_rank levels.Relation = omega arith
lower_rank levels.Equal = omega arith
lower_rank levels.And = omega arith
lower_rank levels.Or = omega arith

refuses_level : (v : Level) (n : Bool) (d : ℕ) (γ : List Symbol) → Refuses γ (lower v) → Refuses (symbols.Tail (tails.Level v n) d ∷ γ) (lower v)
refuses_level v n d γ f = refuses_tail (tails.Level v n) d (lower v) (lower v) γ (lower_rank v) (omega arith) f

-- the right operand of `??`, and the step to it
coalesce_step : (n : Bool) (d i : ℕ) (a : Bool) (γ : List Symbol) (l e : ParseTree) (vs : List ParseTree) (ms rs : List Read) (s : ParseTree) → Refuses γ 8 → is_plain l ≡ true → Promise (nonterminal.level levels.Equal n) d e ms rs → Takes rs s (symbols.Tail (tails.Short n) d ∷ γ) (parse_tree.Pair (pair.Short short_operator.Coalesce) l e ∷ vs) → Takes (read (of (kinds.Short short_operator.Coalesce) i a) d ∷ ms) s (symbols.Tail (tails.Short n) d ∷ γ) (l ∷ vs)
coalesce_step n d i a γ l e vs ms rs s f i2 h k =
    then_if (is_plain l) (Next (symbols.Part (expectation.Operand levels.And n) d ∷ symbols.Do (act_kinds.Pair (pair.Short short_operator.Coalesce)) ∷ symbols.Tail (tails.Short n) d ∷ γ) (l ∷ vs) d) Fail d (Takes ms s) i2 (
      refl,
      into_part (expectation.Operand levels.And n) d (symbols.Do (act_kinds.Pair (pair.Short short_operator.Coalesce)) ∷ symbols.Tail (tails.Short n) d ∷ γ) (l ∷ vs) ms s
          (from_operand levels.And n d e ms rs h (symbols.Do (act_kinds.Pair (pair.Short short_operator.Coalesce)) ∷ symbols.Tail (tails.Short n) d ∷ γ) (l ∷ vs) s
          (refuses_act (act_kinds.Pair (pair.Short short_operator.Coalesce)) 6 (symbols.Tail (tails.Short n) d ∷ γ) (refuses_tail (tails.Short n) d 6 8 γ (omega arith) (omega arith) f))
          (take_act (act_kinds.Pair (pair.Short short_operator.Coalesce)) (symbols.Tail (tails.Short n) d ∷ γ) (e ∷ l ∷ vs) rs s k)),
    )

target_step : (l : ParseTree) (γ : List Symbol) (vs : List ParseTree) (d : ℕ) (r : List Read) (s : ParseTree) → is_target l ≡ true → Takes r s γ vs → Then (cond (is_target l) (Next γ vs d) Fail) d (Takes r s)
target_step l γ vs d r s i h = then_if (is_target l) (Next γ vs d) Fail d (Takes r s) i (refl, h)

word_step : (dot d j : ℕ) (c : Bool) (kind : Kind) (γ : List Symbol) (l : ParseTree) (vs : List ParseTree) (r : List Read) (s : ParseTree) → is_word kind ≡ true → Takes r s γ (parse_tree.Wrap (wrap.Member dot j) l ∷ vs) → Takes (read (of kind j c) d ∷ r) s (symbols.Stage (stages.Word dot) d ∷ γ) (l ∷ vs)
word_step dot d j c kind γ l vs r s e h = then_if (is_word kind) (Next γ (parse_tree.Wrap (wrap.Member dot j) l ∷ vs) d) Fail d (Takes r s) e (refl, h)

end_step : (d : ℕ) (γ : List Symbol) (vs : List ParseTree) (x : Sign) (r : List Read) (s : ParseTree) → is_end false x ≡ true → Takes r s γ vs → Takes (read x d ∷ r) s (symbols.Take (terminals.Semicolon false) d ∷ γ) vs
end_step d γ vs x r s e h = take_terminal (terminals.Semicolon false) d γ vs x r s e h

return_step : (i d : ℕ) (γ : List Symbol) (vs : List ParseTree) (x : Sign) (r : List Read) (s : ParseTree) → is_end false x ≡ true → Takes r s γ (parse_tree.Atom (atom.Return i) ∷ vs) → Takes (read x d ∷ r) s (symbols.Stage (stages.AfterReturn i) d ∷ γ) vs
return_step i d γ vs (of (kinds.Mark marks.Semicolon) j a) r s e h = (refl, h)
return_step i d γ vs put r s e h = (refl, h)
return_step i d γ vs _ r s e h = absurd (cc (e))

-- `(` Expr `)` before others
in_brackets : (n : Bool) (d : ℕ) (γ : List Symbol) (vs : List ParseTree) (e : ParseTree) (ts ms : List Read) (s : ParseTree) (j : ℕ) (c : Bool) → Promise (nonterminal.expr n) d e ts (bracket brackets.Close j c d ∷ ms) → Takes ms s γ (e ∷ vs) → Takes ts s (symbols.Part (expectation.Expression n) d ∷ symbols.Take terminals.Close d ∷ γ) vs
in_brackets n d γ vs e ts ms s j c h k = into_part (expectation.Expression n) d (symbols.Take terminals.Close d ∷ γ) vs ts s (h (symbols.Take terminals.Close d ∷ γ) vs s (refuses_close d γ) (refl, k))

in_squares : (d : ℕ) (γ : List Symbol) (vs : List ParseTree) (e : ParseTree) (ts ms : List Read) (s : ParseTree) (j : ℕ) (c : Bool) → Promise (nonterminal.expr false) d e ts (bracket brackets.SquareClose j c d ∷ ms) → Takes ms s γ (e ∷ vs) → Takes ts s (symbols.Part (expectation.Expression false) d ∷ symbols.Take terminals.SquareClose d ∷ γ) vs
in_squares d γ vs e ts ms s j c h k = into_part (expectation.Expression false) d (symbols.Take terminals.SquareClose d ∷ γ) vs ts s (h (symbols.Take terminals.SquareClose d ∷ γ) vs s (refuses_square d γ) (refl, k))

-- Params Body before the work of a function
in_function : (d : ℕ) (f : Pair) (γ : List Symbol) (vs : List ParseTree) (ps xs : ParseTree) (ts ms rs : List Read) (s : ParseTree) → Promise nonterminal.params d ps ts ms → Promise nonterminal.body d xs ms rs → Takes rs s γ (parse_tree.Pair f ps xs ∷ vs) → Takes ts s (symbols.Part expectation.Parameters d ∷ symbols.Part expectation.Body d ∷ symbols.Do (act_kinds.Pair f) ∷ γ) vs
in_function d f γ vs ps xs ts ms rs s h i k =
    into_part expectation.Parameters d (symbols.Part expectation.Body d ∷ symbols.Do (act_kinds.Pair f) ∷ γ) vs ts s (h (symbols.Part expectation.Body d ∷ symbols.Do (act_kinds.Pair f) ∷ γ) vs s
    (into_part expectation.Body d (symbols.Do (act_kinds.Pair f) ∷ γ) (ps ∷ vs) ms s (i (symbols.Do (act_kinds.Pair f) ∷ γ) (ps ∷ vs) s (take_act (act_kinds.Pair f) γ (xs ∷ ps ∷ vs) rs s k))))

in_body : (d : ℕ) (f : Act) (γ : List Symbol) (vs : List ParseTree) (xs : ParseTree) (ts rs : List Read) (s : ParseTree) → Promise nonterminal.body d xs ts rs → Takes rs s γ (act f (xs ∷ vs)) → Takes ts s (symbols.Part expectation.Body d ∷ symbols.Do f ∷ γ) vs
in_body d f γ vs xs ts rs s h k = into_part expectation.Body d (symbols.Do f ∷ γ) vs ts s (h (symbols.Do f ∷ γ) vs s (take_act f γ (xs ∷ vs) rs s k))

in_block : (d : ℕ) (f : Act) (γ : List Symbol) (vs : List ParseTree) (xs : ParseTree) (ts rs : List Read) (s : ParseTree) → Promise nonterminal.block d xs ts rs → Takes rs s γ (act f (xs ∷ vs)) → Takes ts s (symbols.Part expectation.Block d ∷ symbols.Do f ∷ γ) vs
in_block d f γ vs xs ts rs s h k = into_part expectation.Block d (symbols.Do f ∷ γ) vs ts s (h (symbols.Do f ∷ γ) vs s (take_act f γ (xs ∷ vs) rs s k))

in_statement : (d : ℕ) (f : Act) (γ : List Symbol) (vs : List ParseTree) (x : ParseTree) (ts rs : List Read) (s : ParseTree) → Promise nonterminal.statement d x ts rs → Takes rs s γ (act f (x ∷ vs)) → Takes ts s (symbols.Part expectation.Statement d ∷ symbols.Do f ∷ γ) vs
in_statement d f γ vs x ts rs s h k = into_part expectation.Statement d (symbols.Do f ∷ γ) vs ts s (h (symbols.Do f ∷ γ) vs s (take_act f γ (x ∷ vs) rs s k))

in_assign : (n : Bool) (d : ℕ) (f : Act) (γ : List Symbol) (vs : List ParseTree) (x : ParseTree) (ts rs : List Read) (s : ParseTree) → Promise (nonterminal.assign n) d x ts rs → Refuses (symbols.Do f ∷ γ) 11 → Takes rs s γ (act f (x ∷ vs)) → Takes ts s (symbols.Part (expectation.Assign n) d ∷ symbols.Do f ∷ γ) vs
in_assign n d f γ vs x ts rs s h r k = into_part (expectation.Assign n) d (symbols.Do f ∷ γ) vs ts s (h (symbols.Do f ∷ γ) vs s r (take_act f γ (x ∷ vs) rs s k))

abbrev semicolon_sign : ℕ → Bool → Sign
semicolon_sign i a = of (kinds.Mark marks.Semicolon) i a

abbrev close_sign : ℕ → Bool → Sign
close_sign i a = of (kinds.Bracket brackets.Close) i a

pass_finally : (i d : ℕ) (γ : List Symbol) (vs : List ParseTree) (ts : List Read) (s : ParseTree) → NoFinally ts → Takes ts s γ (act (act_kinds.Triple (triple.Try i)) (nothing ∷ vs)) → Takes ts s (symbols.Loose (loose_kind.Finally i) d ∷ γ) vs
pass_finally i d γ vs [] s alone h = h
pass_finally i d γ vs (read (of (kinds.Word words.Finally) j a) n ∷ ts) s alone h = absurd alone
pass_finally i d γ vs (read _ n ∷ ts) s alone h = h

params_key : {d : ℕ} {ps : ParseTree} {ms us : List Read} → Spells nonterminal.params d ps ms us → EndsKey ms
params_key spells.params-none = refl
params_key (spells.params-some h) = refl
params_key (spells.params-comma h) = refl

pub promise : {q : Nonterminal} {d : ℕ} {e : ParseTree} {ts r : List Read} → Spells q d e ts r → Promise q d e ts r
promise spells.items-none = λ γ vs s h. h
promise (spells.items-more {h = c} {d = d} {xs = xs} {x = x} {ms = ms} {rs = rs} h i) = λ γ vs s k. promise h γ vs s (into_items c d γ (xs ∷ vs) ms s (promise i (symbols.Do (act_kinds.Pair pair.And) ∷ symbols.Loose (loose_kind.Items c) d ∷ γ) (xs ∷ vs) s (take_act (act_kinds.Pair pair.And) (symbols.Loose (loose_kind.Items c) d ∷ γ) (x ∷ xs ∷ vs) rs s k)))
promise (spells.item-function {d = d} {i = i} {j = j} {ps = ps} {xs = xs} {ts = ts} {ms = ms} {rs = rs} h b) = λ γ vs s k. (refl, (refl, in_function (suc d) (pair.DeclaredFunction i j) γ vs ps xs ts ms rs s (promise h) (promise b) k))
promise (spells.item-lexical {h = c} {d = d} {ts = ts} h) = λ γ vs s k. lexical_item c d γ vs ts s (promise h γ vs s k)
promise (spells.item-statement {h = c} {d = d} {ts = ts} h) = λ γ vs s k. statement_item c d γ vs ts s (promise h γ vs s k)
promise spells.params-none = λ γ vs s k. (refl, (refl, k))
promise (spells.params-some h) = λ γ vs s k. (refl, promise h γ vs s (refl, k))
promise (spells.params-comma h) = λ γ vs s k. (refl, promise h γ vs s (refl, (refl, k)))
promise (spells.names-one {d = d} {x = x} {ts = ts} {rs = rs} h) = λ γ vs s k. into_listed listings.Parameters d γ (nothing ∷ vs) ts s (promise h (symbols.Do (act_kinds.Pair pair.And) ∷ symbols.Stage (stages.Rest listings.Parameters) d ∷ γ) (nothing ∷ vs) s (take_act (act_kinds.Pair pair.And) (symbols.Stage (stages.Rest listings.Parameters) d ∷ γ) (x ∷ nothing ∷ vs) rs s k))
promise (spells.names-more {d = d} {xs = xs} {x = x} {ms = ms} {rs = rs} h i) = λ γ vs s k. promise h γ vs s (refl, into_listed listings.Parameters d γ (xs ∷ vs) ms s (promise i (symbols.Do (act_kinds.Pair pair.And) ∷ symbols.Stage (stages.Rest listings.Parameters) d ∷ γ) (xs ∷ vs) s (take_act (act_kinds.Pair pair.And) (symbols.Stage (stages.Rest listings.Parameters) d ∷ γ) (x ∷ xs ∷ vs) rs s k)))
promise spells.param-name = λ γ vs s k. (refl, k)
promise (spells.body-items {d = d} h) = λ γ vs s k. (refl, promise h (symbols.Take terminals.BraceClose d ∷ γ) vs s (refl, k))
promise (spells.lexical-let {h = c} {d = d} {i = i} {xs = xs} {rs = rs} {x = x} h f) = λ γ vs s k. (refl, promise h i γ vs s (bindings_end false c i d γ (xs ∷ vs) x rs s f k))
promise (spells.lexical-const {h = c} {d = d} {i = i} {xs = xs} {rs = rs} {x = x} h f) = λ γ vs s k. (refl, promise h i γ vs s (bindings_end true c i d γ (xs ∷ vs) x rs s f k))
promise (spells.binds-one {c = c} {h = b} {d = d} {x = x} {ts = ts} {rs = rs} h) = λ first γ vs s k. into_part (expectation.Binding c b) d (symbols.Do (act_kinds.Pair pair.And) ∷ symbols.Stage (stages.MoreBindings c b first) d ∷ γ) (nothing ∷ vs) ts s
    (promise h (symbols.Do (act_kinds.Pair pair.And) ∷ symbols.Stage (stages.MoreBindings c b first) d ∷ γ) (nothing ∷ vs) s (refuses_act (act_kinds.Pair pair.And) 11 (symbols.Stage (stages.MoreBindings c b first) d ∷ γ) (refuses_more c b first d γ)) (take_act (act_kinds.Pair pair.And) (symbols.Stage (stages.MoreBindings c b first) d ∷ γ) (x ∷ nothing ∷ vs) rs s k))
promise (spells.binds-more {c = c} {h = b} {d = d} {i = i} {xs = xs} {x = x} {ms = ms} {rs = rs} {a = a} h j) = λ first γ vs s k. promise h first γ vs s (comma_goes_on c b first d i a γ (xs ∷ vs) ms s (into_part (expectation.Binding c b) d (symbols.Do (act_kinds.Pair pair.And) ∷ symbols.Stage (stages.MoreBindings c b first) d ∷ γ) (xs ∷ vs) ms s
    (promise j (symbols.Do (act_kinds.Pair pair.And) ∷ symbols.Stage (stages.MoreBindings c b first) d ∷ γ) (xs ∷ vs) s (refuses_act (act_kinds.Pair pair.And) 11 (symbols.Stage (stages.MoreBindings c b first) d ∷ γ) (refuses_more c b first d γ)) (take_act (act_kinds.Pair pair.And) (symbols.Stage (stages.MoreBindings c b first) d ∷ γ) (x ∷ xs ∷ vs) rs s k))))
promise (spells.bind-name {h = b} {d = d} {i = i} {rs = rs}) = λ γ vs s f k. (refl, pass_binding b i d γ vs rs s f k)
promise (spells.bind-value {h = b} {d = d} {i = i} {e = e} {ts = ts} {rs = rs} h) = λ γ vs s f k. (refl, (refl, in_assign b d (act_kinds.Wrap (wrap.Binding i)) γ vs e ts rs s (promise h) (refuses_act (act_kinds.Wrap (wrap.Binding i)) 11 γ f) k))
promise (spells.block-items {d = d} {i = i} {xs = xs} {rs = rs} h) = λ γ vs s k. (refl, promise h (symbols.Take terminals.BraceClose d ∷ symbols.Do (act_kinds.Wrap (wrap.Block i)) ∷ γ) vs s (refl, take_act (act_kinds.Wrap (wrap.Block i)) γ (xs ∷ vs) rs s k))
promise (spells.statement-block {d = d} {ts = ts} h) = λ γ vs s k. block_statement d γ vs ts s (promise h γ vs s k)
promise spells.empty = λ γ vs s k. (refl, k)
promise (spells.evaluate {d = d} {e = e} {ts = ts} {rs = rs} {x = x} first h f) = λ γ vs s k. expr_statement d γ vs ts s first
    (promise h (symbols.Take (terminals.Semicolon false) (suc d) ∷ symbols.Do (act_kinds.Wrap wrap.Evaluate) ∷ γ) vs s (refuses_end false (suc d) (symbols.Do (act_kinds.Wrap wrap.Evaluate) ∷ γ)) (end_expr false false (suc d) (symbols.Do (act_kinds.Wrap wrap.Evaluate) ∷ γ) (e ∷ vs) x rs s f (take_act (act_kinds.Wrap wrap.Evaluate) γ (e ∷ vs) rs s k)))
promise (spells.if {d = d} {i = j} {l = l} {e = e} {x = x} {ts = ts} {ms = ms} {rs = rs} {f = f} h i alone) = λ γ vs s k. (
  refl,
  (
    refl,
    in_brackets false (suc d) (symbols.Part expectation.Statement (suc d) ∷ symbols.Loose (loose_kind.Else j) (suc d) ∷ γ) vs e ts ms s l f (promise h)
        (into_part expectation.Statement (suc d) (symbols.Loose (loose_kind.Else j) (suc d) ∷ γ) (e ∷ vs) ms s (promise i (symbols.Loose (loose_kind.Else j) (suc d) ∷ γ) (e ∷ vs) s (pass_else j (suc d) γ (x ∷ e ∷ vs) rs s alone k))),
  ),
)
promise (spells.if-else {d = d} {i = q} {l = l} {e = e} {x = x} {y = z} {ts = ts} {ms = ms} {us = us} {rs = rs} {f = f} h i j) = λ γ vs s k. (
  refl,
  (
    refl,
    in_brackets false (suc d) (symbols.Part expectation.Statement (suc d) ∷ symbols.Loose (loose_kind.Else q) (suc d) ∷ γ) vs e ts ms s l f (promise h)
        (into_part expectation.Statement (suc d) (symbols.Loose (loose_kind.Else q) (suc d) ∷ γ) (e ∷ vs) ms s (promise i (symbols.Loose (loose_kind.Else q) (suc d) ∷ γ) (e ∷ vs) s (refl, in_statement (suc d) (act_kinds.Triple (triple.IfElse q)) γ (x ∷ e ∷ vs) z us rs s (promise j) k))),
  ),
)
promise (spells.while {d = d} {i = j} {l = l} {e = e} {x = x} {ts = ts} {ms = ms} {rs = rs} {f = f} h i) = λ γ vs s k. (
  refl,
  (
    refl,
    in_brackets false (suc d) (symbols.Part expectation.Statement (suc d) ∷ symbols.Do (act_kinds.Pair (pair.While j)) ∷ γ) vs e ts ms s l f (promise h)
        (in_statement (suc d) (act_kinds.Pair (pair.While j)) γ (e ∷ vs) x ms rs s (promise i) k),
  ),
)
promise (spells.for {d = d} {i = i} {l = l} {o = o} {f = e1} {e = e2} {g = e3} {x = x} {ts = ts} {ms = ms} {us = us} {qs = qs} {rs = rs} {p = a1} {q = a2} h1 h2 h3 h4) = λ γ vs s k. (
  refl,
  (
    refl,
    into_part expectation.First (suc d) (symbols.Part (expectation.Maybe false (terminals.Semicolon true)) (suc d) ∷ symbols.Part (expectation.Maybe false terminals.Close) (suc d) ∷ symbols.Part expectation.Statement (suc d) ∷ symbols.Do (act_kinds.Quad (quad.For i)) ∷ γ) vs ts s
        (promise h1 (symbols.Part (expectation.Maybe false (terminals.Semicolon true)) (suc d) ∷ symbols.Part (expectation.Maybe false terminals.Close) (suc d) ∷ symbols.Part expectation.Statement (suc d) ∷ symbols.Do (act_kinds.Quad (quad.For i)) ∷ γ) vs s
        (into_part (expectation.Maybe false (terminals.Semicolon true)) (suc d) (symbols.Part (expectation.Maybe false terminals.Close) (suc d) ∷ symbols.Part expectation.Statement (suc d) ∷ symbols.Do (act_kinds.Quad (quad.For i)) ∷ γ) (e1 ∷ vs) ms s
        (promise h2 (terminals.Semicolon true) (symbols.Part (expectation.Maybe false terminals.Close) (suc d) ∷ symbols.Part expectation.Statement (suc d) ∷ symbols.Do (act_kinds.Quad (quad.For i)) ∷ γ) (e1 ∷ vs) s (semicolon_sign l a1) us tt refl refl
        (into_part (expectation.Maybe false terminals.Close) (suc d) (symbols.Part expectation.Statement (suc d) ∷ symbols.Do (act_kinds.Quad (quad.For i)) ∷ γ) (e2 ∷ e1 ∷ vs) us s
        (promise h3 terminals.Close (symbols.Part expectation.Statement (suc d) ∷ symbols.Do (act_kinds.Quad (quad.For i)) ∷ γ) (e2 ∷ e1 ∷ vs) s (close_sign o a2) qs tt refl refl
        (in_statement (suc d) (act_kinds.Quad (quad.For i)) γ (e3 ∷ e2 ∷ e1 ∷ vs) x qs rs s (promise h4) k)))))),
  ),
)
promise (spells.first-lexical {d = d} {ts = ts} h) = λ γ vs s k. lexical_first d γ vs ts s (promise h γ vs s k)
promise (spells.first-expr {d = d} {i = i} {ts = ts} {rs = rs} {a = a} h) = λ γ vs s k. maybe_first d γ vs ts s (promise h (terminals.Semicolon true) γ vs s (semicolon_sign i a) rs tt refl refl k)
promise (spells.maybe-none {n = n} {d = d} {ts = ts}) = λ z γ vs s x us c f eq k. maybe_none n z d γ vs x ts us s f eq k
promise (spells.maybe-some {n = n} {d = d} {e = e} {ts = ts} {rs = rs} h) = λ z γ vs s x us c f eq k. maybe_some n z d γ vs ts s c (promise h (symbols.Take z d ∷ γ) vs s (refuses_closer z d γ c) (close_maybe z n d γ (e ∷ vs) x rs us s c f eq k))
promise (spells.break {d = d} {i = i} {rs = rs} {x = x} f) = λ γ vs s k. (refl, end_step (suc d) γ (parse_tree.Atom (atom.Break i) ∷ vs) x rs s f k)
promise (spells.continue {d = d} {i = i} {rs = rs} {x = x} f) = λ γ vs s k. (refl, end_step (suc d) γ (parse_tree.Atom (atom.Continue i) ∷ vs) x rs s f k)
promise (spells.return {d = d} {i = i} {rs = rs} {x = x} f) = λ γ vs s k. (refl, return_step i (suc d) γ vs x rs s f k)
promise (spells.return-value {d = d} {i = i} {e = e} {ts = ts} {rs = rs} {x = x} same h f) = λ γ vs s k. (
  refl,
  returned_in i (suc d) γ vs ts s same
      (promise h (symbols.Take (terminals.Semicolon false) (suc d) ∷ symbols.Do (act_kinds.Wrap (wrap.Return i)) ∷ γ) vs s (refuses_end false (suc d) (symbols.Do (act_kinds.Wrap (wrap.Return i)) ∷ γ)) (end_expr false false (suc d) (symbols.Do (act_kinds.Wrap (wrap.Return i)) ∷ γ) (e ∷ vs) x rs s f (take_act (act_kinds.Wrap (wrap.Return i)) γ (e ∷ vs) rs s k))),
)
promise (spells.throw {d = d} {i = i} {e = e} {ts = ts} {rs = rs} {x = x} same h f) = λ γ vs s k. (
  refl,
  thrown_in i (suc d) γ vs ts s same
      (promise h (symbols.Take (terminals.Semicolon false) (suc d) ∷ symbols.Do (act_kinds.Wrap (wrap.Throw i)) ∷ γ) vs s (refuses_end false (suc d) (symbols.Do (act_kinds.Wrap (wrap.Throw i)) ∷ γ)) (end_expr false false (suc d) (symbols.Do (act_kinds.Wrap (wrap.Throw i)) ∷ γ) (e ∷ vs) x rs s f (take_act (act_kinds.Wrap (wrap.Throw i)) γ (e ∷ vs) rs s k))),
)
promise (spells.try-catch {d = d} {i = q} {x = x} {y = z} {ts = ts} {rs = rs} h i alone) = λ γ vs s k. (refl, into_part expectation.Block (suc d) (symbols.Stage (stages.AfterTry q) (suc d) ∷ γ) vs ts s (promise h (symbols.Stage (stages.AfterTry q) (suc d) ∷ γ) vs s (promise i q γ (x ∷ vs) s (pass_finally q (suc d) γ (z ∷ x ∷ vs) rs s alone k))))
promise (spells.try-both {d = d} {i = q} {x = x} {y = z} {z = f} {ts = ts} {us = us} {rs = rs} h i j) = λ γ vs s k. (refl, into_part expectation.Block (suc d) (symbols.Stage (stages.AfterTry q) (suc d) ∷ γ) vs ts s (promise h (symbols.Stage (stages.AfterTry q) (suc d) ∷ γ) vs s (promise i q γ (x ∷ vs) s (refl, in_block (suc d) (act_kinds.Triple (triple.Try q)) γ (z ∷ x ∷ vs) f us rs s (promise j) k))))
promise (spells.try-finally {d = d} {i = q} {x = x} {z = f} {ts = ts} {us = us} {rs = rs} h j) = λ γ vs s k. (refl, into_part expectation.Block (suc d) (symbols.Stage (stages.AfterTry q) (suc d) ∷ γ) vs ts s (promise h (symbols.Stage (stages.AfterTry q) (suc d) ∷ γ) vs s (refl, in_block (suc d) (act_kinds.Triple (triple.Try q)) γ (nothing ∷ x ∷ vs) f us rs s (promise j) k)))
promise (spells.catch-block {d = d} {x = x} {ts = ts} {rs = rs} h) = λ q γ vs s k. (refl, into_stage stages.AfterCatch d (symbols.Loose (loose_kind.Finally q) d ∷ γ) vs ts s (block_catch d (symbols.Loose (loose_kind.Finally q) d ∷ γ) vs ts s (promise h (symbols.Do (act_kinds.Wrap wrap.Catch) ∷ symbols.Loose (loose_kind.Finally q) d ∷ γ) vs s (take_act (act_kinds.Wrap wrap.Catch) (symbols.Loose (loose_kind.Finally q) d ∷ γ) (x ∷ vs) rs s k))))
promise (spells.catch-name {d = d} {l = l} {x = x} {ts = ts} {rs = rs} h) = λ q γ vs s k. (refl, (refl, (refl, (refl, in_block d (act_kinds.Wrap (wrap.CatchName l)) (symbols.Loose (loose_kind.Finally q) d ∷ γ) vs x ts rs s (promise h) k))))
promise (spells.expr-one {n = n} {d = d} h) = λ γ vs s f k. promise h (symbols.Tail (tails.Expression n) d ∷ γ) vs s (refuses_tail (tails.Expression n) d 11 11 γ (omega arith) (omega arith) f) k
promise (spells.expr-more {n = n} {d = d} {l = l} {e = e} {ms = ms} {rs = rs} h i) = λ γ vs s f k. promise h γ vs s f (refl, in_assign n d (act_kinds.Pair pair.Comma) (symbols.Tail (tails.Expression n) d ∷ γ) (l ∷ vs) e ms rs s (promise i) (refuses_act (act_kinds.Pair pair.Comma) 11 (symbols.Tail (tails.Expression n) d ∷ γ) (refuses_tail (tails.Expression n) d 11 11 γ (omega arith) (omega arith) f)) k)
promise (spells.assign-cond {n = n} {d = d} {e = e} {rs = rs} h) = λ γ vs s f k. promise h (symbols.Tail (tails.Assign n) (suc d) ∷ γ) vs s (refuses_tail (tails.Assign n) (suc d) 10 11 γ (omega arith) (omega arith) f) (other_assign n (suc d) γ) (pass (tails.Assign n) (suc d) γ (e ∷ vs) rs s f k)
promise (spells.assign-to {n = n} {d = d} {op = op} {l = l} {e = e} {ms = ms} {rs = rs} h i j) = λ γ vs s f k. left_unary (suc d) _ vs _ s ((promise h).0 (symbols.Tail tails.Update (suc d) ∷ below levels.Or n (suc d) (symbols.Tail (tails.Level levels.Or n) (suc d) ∷ symbols.Tail (tails.Short n) (suc d) ∷ symbols.Tail (tails.Conditional n) (suc d) ∷ symbols.Tail (tails.Assign n) (suc d) ∷ γ)) vs s
    (target_step l (symbols.Part (expectation.Assign n) (suc d) ∷ symbols.Do (act_kinds.Pair (pair.Assign op)) ∷ γ) (l ∷ vs) (suc d) ms s i (in_assign n (suc d) (act_kinds.Pair (pair.Assign op)) γ (l ∷ vs) e ms rs s (promise j) (refuses_act (act_kinds.Pair (pair.Assign op)) 11 γ f) k)))
promise (spells.cond-short {n = n} {d = d} {e = e} {rs = rs} h) = λ γ vs s f o k. promise h (symbols.Tail (tails.Conditional n) d ∷ γ) vs s (refuses_tail (tails.Conditional n) d 9 10 γ (omega arith) (omega arith) f) (pass (tails.Conditional n) d γ (e ∷ vs) rs s f k)
promise (spells.cond-choice {n = n} {d = d} {c = c} {x = x} {y = z} {ms = ms} {us = us} {rs = rs} h i j) = λ γ vs s f o k. promise h (symbols.Tail (tails.Conditional n) d ∷ γ) vs s (refuses_tail (tails.Conditional n) d 9 10 γ (omega arith) (omega arith) f) (
  refl,
  into_part (expectation.Assign n) d (symbols.Take terminals.Colon d ∷ symbols.Part (expectation.Assign n) d ∷ symbols.Do (act_kinds.Triple triple.Conditional) ∷ γ) (c ∷ vs) ms s (promise i (symbols.Take terminals.Colon d ∷ symbols.Part (expectation.Assign n) d ∷ symbols.Do (act_kinds.Triple triple.Conditional) ∷ γ) (c ∷ vs) s (refuses_colon d (symbols.Part (expectation.Assign n) d ∷ symbols.Do (act_kinds.Triple triple.Conditional) ∷ γ))
      (refl, in_assign n d (act_kinds.Triple triple.Conditional) γ (x ∷ c ∷ vs) z us rs s (promise j) (refuses_choice γ f o) k)),
)
promise (spells.short-or {n = n} {d = d} {e = e} {rs = rs} h) = λ γ vs s f k. promise h (symbols.Tail (tails.Short n) d ∷ γ) vs s (refuses_tail (tails.Short n) d 7 9 γ (omega arith) (omega arith) f) (pass (tails.Level levels.Or n) d (symbols.Tail (tails.Short n) d ∷ γ) (e ∷ vs) rs s (refuses_tail (tails.Short n) d 8 9 γ (omega arith) (omega arith) f) (pass (tails.Short n) d γ (e ∷ vs) rs s f k))
promise (spells.short-coalesce {n = n} {d = d} {e = e} {rs = rs} h) = λ γ vs s f k. promise h γ vs s (λ us x l. f us x (omega arith)) (pass (tails.Short n) d γ (e ∷ vs) rs s f k)
promise (spells.coalesce-two {n = n} {d = d} {i = i} {l = l} {e = e} {ms = ms} {rs = rs} {a = a} h j) = λ γ vs s f k. promise h (symbols.Tail (tails.Level levels.And n) d ∷ symbols.Tail (tails.Level levels.Or n) d ∷ symbols.Tail (tails.Short n) d ∷ γ) vs s
    (refuses_tail (tails.Level levels.And n) d 5 7 (symbols.Tail (tails.Level levels.Or n) d ∷ symbols.Tail (tails.Short n) d ∷ γ) (omega arith) (omega arith) (refuses_tail (tails.Level levels.Or n) d 7 8 (symbols.Tail (tails.Short n) d ∷ γ) (omega arith) (omega arith) (refuses_tail (tails.Short n) d 8 8 γ (omega arith) (omega arith) f)))
    (coalesce_step n d i a γ l e vs ms rs s f (plain_tree h) (promise j) k)
promise (spells.coalesce-more {n = n} {d = d} {i = i} {l = l} {e = e} {ms = ms} {rs = rs} {a = a} h j) = λ γ vs s f k. promise h γ vs s f (coalesce_step n d i a γ l e vs ms rs s f (plain_tree h) (promise j) k)
promise (spells.level-one {v = v} {n = n} {d = d} {e = e} {ts = ts} {rs = rs} h) = λ γ vs s f k. from_operand v n d e ts rs (promise h) (symbols.Tail (tails.Level v n) d ∷ γ) vs s (refuses_level v n d γ f) k
promise (spells.level-more {v = v} {n = n} {d = d} {i = i} {kind = kind} {f = q} {l = l} {e = e} {ms = ms} {rs = rs} {a = a} h eq bar j) = λ γ vs s f k. promise h γ vs s f (level_step v n d i a γ (l ∷ vs) kind q ms s eq bar
    (into_part (expectation.Operand v n) d (symbols.Do (act_kinds.Pair q) ∷ symbols.Tail (tails.Level v n) d ∷ γ) (l ∷ vs) ms s (from_operand v n d e ms rs (promise j) (symbols.Do (act_kinds.Pair q) ∷ symbols.Tail (tails.Level v n) d ∷ γ) (l ∷ vs) s (refuses_act (act_kinds.Pair q) (lower v) (symbols.Tail (tails.Level v n) d ∷ γ) (refuses_level v n d γ f)) (take_act (act_kinds.Pair q) (symbols.Tail (tails.Level v n) d ∷ γ) (e ∷ l ∷ vs) rs s k))))
promise (spells.unary-prefix {d = d} {i = i} {kind = kind} {op = op} {e = e} {ts = ts} {rs = rs} {a = a} eq h) = λ γ vs s f k. unary_on d i a γ vs kind op ts s eq (into_part expectation.Unary (suc d) (symbols.Do (act_kinds.Wrap (wrap.Unary op i)) ∷ γ) vs ts s (promise h (symbols.Do (act_kinds.Wrap (wrap.Unary op i)) ∷ γ) vs s (refuses_act (act_kinds.Wrap (wrap.Unary op i)) 2 γ f) (take_act (act_kinds.Wrap (wrap.Unary op i)) γ (e ∷ vs) rs s k)))
promise (spells.unary-before {d = d} {i = n} {up = up} {l = l} {ts = ts} {rs = rs} h i) = λ γ vs s f k. (refl, into_part expectation.Target (suc d) (symbols.Do (act_kinds.Wrap (wrap.Update up true n)) ∷ γ) vs ts s ((promise h).1 (symbols.Do (act_kinds.Wrap (wrap.Update up true n)) ∷ γ) vs s (pass_target (suc d) (symbols.Do (act_kinds.Wrap (wrap.Update up true n)) ∷ γ) l vs rs s (λ us x m. f (act (act_kinds.Wrap (wrap.Update up true n)) us) x (omega arith)) i (take_act (act_kinds.Wrap (wrap.Update up true n)) γ (l ∷ vs) rs s k))))
promise (spells.unary-after {d = d} {i = n} {up = up} {l = l} {rs = rs} h i) = λ γ vs s f k. left_unary d γ vs _ s ((promise h).0 (symbols.Tail tails.Update d ∷ γ) vs s (target_step l γ (parse_tree.Wrap (wrap.Update up false n) l ∷ vs) d rs s i k))
promise (spells.unary-left {d = d} {e = e} {ts = ts} {rs = rs} h) = λ γ vs s f k. left_unary d γ vs ts s ((promise h).0 (symbols.Tail tails.Update d ∷ γ) vs s (pass tails.Left d (symbols.Tail tails.Update d ∷ γ) (e ∷ vs) rs s (refuses_tail tails.Update d 1 2 γ (omega arith) (omega arith) f) (pass tails.Update d γ (e ∷ vs) rs s f k)))
promise (spells.left-primary {d = d} h) = (λ γ vs s k. promise h (symbols.Tail tails.Left d ∷ γ) vs s k, λ γ vs s k. promise h (symbols.Loose loose_kind.Target d ∷ γ) vs s k)
promise (spells.left-new {d = d} h) = (λ γ vs s k. promise h (symbols.Tail tails.Left d ∷ γ) vs s k, λ γ vs s k. promise h (symbols.Loose loose_kind.Target d ∷ γ) vs s k)
promise (spells.left-member {d = d} {i = i} {j = j} {kind = kind} {l = l} {rs = rs} {c = c} h w) = (
  λ γ vs s k. (promise h).0 γ vs s (refl, word_step i d j c kind (symbols.Tail tails.Left d ∷ γ) l vs rs s w k),
  λ γ vs s k. (promise h).1 γ vs s (refl, word_step i d j c kind (symbols.Loose loose_kind.Target d ∷ γ) l vs rs s w k),
)
promise (spells.left-index {d = d} {i = i} {j = j} {l = l} {e = e} {ms = ms} {rs = rs} {c = c} h w) = (
  λ γ vs s k. (promise h).0 γ vs s (refl, in_squares d (symbols.Do (act_kinds.Pair (pair.Index i)) ∷ symbols.Tail tails.Left d ∷ γ) (l ∷ vs) e ms rs s j c (promise w) (take_act (act_kinds.Pair (pair.Index i)) (symbols.Tail tails.Left d ∷ γ) (e ∷ l ∷ vs) rs s k)),
  λ γ vs s k. (promise h).1 γ vs s (refl, in_squares d (symbols.Do (act_kinds.Pair (pair.Index i)) ∷ symbols.Loose loose_kind.Target d ∷ γ) (l ∷ vs) e ms rs s j c (promise w) (take_act (act_kinds.Pair (pair.Index i)) (symbols.Loose loose_kind.Target d ∷ γ) (e ∷ l ∷ vs) rs s k)),
)
promise (spells.left-call {d = d} {l = l} {xs = xs} {ms = ms} {rs = rs} h w) = (
  λ γ vs s k. (promise h).0 γ vs s (args_call d γ (l ∷ vs) ms s (promise w (symbols.Do (act_kinds.Pair pair.Call) ∷ symbols.Tail tails.Left d ∷ γ) (l ∷ vs) s (take_act (act_kinds.Pair pair.Call) (symbols.Tail tails.Left d ∷ γ) (xs ∷ l ∷ vs) rs s k))),
  λ γ vs s k. (promise h).1 γ vs s (args_target d γ (l ∷ vs) ms s (promise w (symbols.Do (act_kinds.Pair pair.Call) ∷ symbols.Loose loose_kind.Target d ∷ γ) (l ∷ vs) s (take_act (act_kinds.Pair pair.Call) (symbols.Loose loose_kind.Target d ∷ γ) (xs ∷ l ∷ vs) rs s k))),
)
promise (spells.new-bare {d = d} {i = i} {l = l} {ts = ts} {rs = rs} h alone) = λ γ vs s k. (refl, into_part (expectation.Callee i) (suc d) γ vs ts s (promise h i γ vs s (pass_callee i (suc d) γ (l ∷ vs) rs s alone k)))
promise (spells.new-args {d = d} {i = i} {l = l} {xs = xs} {ts = ts} {ms = ms} {rs = rs} h w) = λ γ vs s k. (refl, into_part (expectation.Callee i) (suc d) γ vs ts s (promise h i γ vs s (args_new i (suc d) γ (l ∷ vs) ms s (promise w (symbols.Do (act_kinds.Pair (pair.New i)) ∷ γ) (l ∷ vs) s (take_act (act_kinds.Pair (pair.New i)) γ (xs ∷ l ∷ vs) rs s k)))))
promise (spells.callee-primary {d = d} h) = λ o γ vs s k. promise h (symbols.Loose (loose_kind.Callee o) d ∷ γ) vs s k
promise (spells.callee-new {d = d} h) = λ o γ vs s k. promise h (symbols.Loose (loose_kind.Callee o) d ∷ γ) vs s k
promise (spells.callee-member {d = d} {i = i} {j = j} {kind = kind} {l = l} {rs = rs} {c = c} h w) = λ o γ vs s k. promise h o γ vs s (refl, word_step i d j c kind (symbols.Loose (loose_kind.Callee o) d ∷ γ) l vs rs s w k)
promise (spells.callee-index {d = d} {i = i} {j = j} {l = l} {e = e} {ms = ms} {rs = rs} {c = c} h w) = λ o γ vs s k. promise h o γ vs s (refl, in_squares d (symbols.Do (act_kinds.Pair (pair.Index i)) ∷ symbols.Loose (loose_kind.Callee o) d ∷ γ) (l ∷ vs) e ms rs s j c (promise w) (take_act (act_kinds.Pair (pair.Index i)) (symbols.Loose (loose_kind.Callee o) d ∷ γ) (e ∷ l ∷ vs) rs s k))
promise spells.args-none = λ γ vs s k. (refl, (refl, k))
promise (spells.args-some h) = λ γ vs s k. (refl, promise h γ vs s (refl, k))
promise (spells.args-comma h) = λ γ vs s k. (refl, promise h γ vs s (refl, (refl, k)))
promise (spells.arguments-one {d = d} {e = e} {ts = ts} {rs = rs} h) = λ γ vs s k. into_listed listings.Arguments d γ (nothing ∷ vs) ts s (promise h (symbols.Do (act_kinds.Pair pair.And) ∷ symbols.Stage (stages.Rest listings.Arguments) d ∷ γ) (nothing ∷ vs) s (refuses_act (act_kinds.Pair pair.And) 11 (symbols.Stage (stages.Rest listings.Arguments) d ∷ γ) (refuses_rest listings.Arguments d γ)) (take_act (act_kinds.Pair pair.And) (symbols.Stage (stages.Rest listings.Arguments) d ∷ γ) (e ∷ nothing ∷ vs) rs s k))
promise (spells.arguments-more {d = d} {xs = xs} {e = e} {ms = ms} {rs = rs} h i) = λ γ vs s k. promise h γ vs s (refl, into_listed listings.Arguments d γ (xs ∷ vs) ms s (promise i (symbols.Do (act_kinds.Pair pair.And) ∷ symbols.Stage (stages.Rest listings.Arguments) d ∷ γ) (xs ∷ vs) s (refuses_act (act_kinds.Pair pair.And) 11 (symbols.Stage (stages.Rest listings.Arguments) d ∷ γ) (refuses_rest listings.Arguments d γ)) (take_act (act_kinds.Pair pair.And) (symbols.Stage (stages.Rest listings.Arguments) d ∷ γ) (e ∷ xs ∷ vs) rs s k)))
promise spells.this = λ γ vs s k. (refl, k)
promise spells.name = λ γ vs s k. (refl, k)
promise spells.number = λ γ vs s k. (refl, k)
promise spells.text = λ γ vs s k. (refl, k)
promise spells.null = λ γ vs s k. (refl, k)
promise spells.truth = λ γ vs s k. (refl, k)
promise spells.falsity = λ γ vs s k. (refl, k)
promise (spells.parenthesis {d = d} {i = i} {j = j} {e = e} {ts = ts} {rs = rs} {c = c} h) = λ γ vs s k. (refl, in_brackets false d (symbols.Do (act_kinds.Wrap (wrap.Parenthesis i)) ∷ γ) vs e ts rs s j c (promise h) (take_act (act_kinds.Wrap (wrap.Parenthesis i)) γ (e ∷ vs) rs s k))
promise (spells.array {d = d} {i = i} {xs = xs} {rs = rs} h) = λ γ vs s k. (refl, promise h (symbols.Do (act_kinds.Wrap (wrap.Array i)) ∷ γ) vs s (refl, take_act (act_kinds.Wrap (wrap.Array i)) γ (xs ∷ vs) rs s k))
promise (spells.array-last {d = d} {i = i} {xs = xs} {e = e} {ms = ms} {rs = rs} h w) = λ γ vs s k. (
  refl,
  promise h (symbols.Do (act_kinds.Wrap (wrap.Array i)) ∷ γ) vs s (into_elements d (symbols.Do (act_kinds.Wrap (wrap.Array i)) ∷ γ) (xs ∷ vs) ms s
      (promise w (symbols.Do (act_kinds.Pair pair.And) ∷ symbols.Stage stages.AfterElement d ∷ symbols.Do (act_kinds.Wrap (wrap.Array i)) ∷ γ) (xs ∷ vs) s (refuses_act (act_kinds.Pair pair.And) 11 (symbols.Stage stages.AfterElement d ∷ symbols.Do (act_kinds.Wrap (wrap.Array i)) ∷ γ) (refuses_element d (symbols.Do (act_kinds.Wrap (wrap.Array i)) ∷ γ)))
      (refl, take_act (act_kinds.Wrap (wrap.Array i)) γ (parse_tree.Pair pair.And xs e ∷ vs) rs s k))),
)
promise (spells.object-none {d = d} {i = i} {rs = rs}) = λ γ vs s k. (refl, (refl, take_act (act_kinds.Wrap (wrap.Object i)) γ (nothing ∷ vs) rs s k))
promise (spells.object-some {d = d} {i = i} {xs = xs} {rs = rs} h) = λ γ vs s k. (refl, promise h (symbols.Do (act_kinds.Wrap (wrap.Object i)) ∷ γ) vs s (refl, take_act (act_kinds.Wrap (wrap.Object i)) γ (xs ∷ vs) rs s k))
promise (spells.object-comma {d = d} {i = i} {xs = xs} {rs = rs} h) = λ γ vs s k. (refl, promise h (symbols.Do (act_kinds.Wrap (wrap.Object i)) ∷ γ) vs s (refl, (refl, take_act (act_kinds.Wrap (wrap.Object i)) γ (xs ∷ vs) rs s k)))
promise (spells.function {d = d} {i = i} {ps = ps} {xs = xs} {ts = ts} {ms = ms} {rs = rs} h w) = λ γ vs s k. (refl, into_stage (stages.AfterFunction i) (suc d) γ vs ts s (params_function i (suc d) γ vs ts s (promise h (symbols.Part expectation.Body (suc d) ∷ symbols.Do (act_kinds.Pair (pair.Function i)) ∷ γ) vs s (in_body (suc d) (act_kinds.Pair (pair.Function i)) γ (ps ∷ vs) xs ms rs s (promise w) k))))
promise (spells.function-name {d = d} {i = i} {j = j} {ps = ps} {xs = xs} {ts = ts} {ms = ms} {rs = rs} h w) = λ γ vs s k. (refl, (refl, in_function (suc d) (pair.NamedFunction i j) γ vs ps xs ts ms rs s (promise h) (promise w) k))
promise spells.elements-none = λ γ vs s k. k
promise (spells.elements-hole h) = λ γ vs s k. promise h γ vs s (refl, k)
promise (spells.elements-more {d = d} {xs = xs} {e = e} {ms = ms} h w) = λ γ vs s k. promise h γ vs s (into_elements d γ (xs ∷ vs) ms s (promise w (symbols.Do (act_kinds.Pair pair.And) ∷ symbols.Stage stages.AfterElement d ∷ γ) (xs ∷ vs) s (refuses_act (act_kinds.Pair pair.And) 11 (symbols.Stage stages.AfterElement d ∷ γ) (refuses_element d γ)) (refl, k)))
promise (spells.props-one {d = d} {x = e} {ts = ts} {rs = rs} h) = λ γ vs s k. into_listed listings.Properties d γ (nothing ∷ vs) ts s (promise h (symbols.Do (act_kinds.Pair pair.And) ∷ symbols.Stage (stages.Rest listings.Properties) d ∷ γ) (nothing ∷ vs) s (rest_keys d γ) (refuses_act (act_kinds.Pair pair.And) 11 (symbols.Stage (stages.Rest listings.Properties) d ∷ γ) (refuses_rest listings.Properties d γ)) (take_act (act_kinds.Pair pair.And) (symbols.Stage (stages.Rest listings.Properties) d ∷ γ) (e ∷ nothing ∷ vs) rs s k))
promise (spells.props-more {d = d} {xs = xs} {x = e} {ms = ms} {rs = rs} h i) = λ γ vs s k. promise h γ vs s (refl, into_listed listings.Properties d γ (xs ∷ vs) ms s (promise i (symbols.Do (act_kinds.Pair pair.And) ∷ symbols.Stage (stages.Rest listings.Properties) d ∷ γ) (xs ∷ vs) s (rest_keys d γ) (refuses_act (act_kinds.Pair pair.And) 11 (symbols.Stage (stages.Rest listings.Properties) d ∷ γ) (refuses_rest listings.Properties d γ)) (take_act (act_kinds.Pair pair.And) (symbols.Stage (stages.Rest listings.Properties) d ∷ γ) (e ∷ xs ∷ vs) rs s k)))
promise (spells.prop-name {d = d} {i = i} {r = r} {rs = rs}) = λ γ vs s f o k. (refl, pass_name r i d γ vs rs s f k)
promise (spells.prop-value {d = d} {x = x} {e = e} {ms = ms} {rs = rs} h w) = λ γ vs s f o k. (promise h).1 γ vs s refl (refl, in_assign false d (act_kinds.Pair pair.Property) γ (x ∷ vs) e ms rs s (promise w) (refuses_act (act_kinds.Pair pair.Property) 11 γ o) k)
promise (spells.prop-method {d = d} {x = x} {ps = ps} {xs = xs} {ms = ms} {us = us} {rs = rs} h w b) = λ γ vs s f o k. (promise h).1 γ vs s (params_key w) (into_stage stages.AfterKey d γ (x ∷ vs) ms s (params_method d γ (x ∷ vs) ms s (promise w (symbols.Part expectation.Body (suc d) ∷ symbols.Do (act_kinds.Triple triple.Method) ∷ γ) (x ∷ vs) s (in_body (suc d) (act_kinds.Triple triple.Method) γ (ps ∷ x ∷ vs) xs us rs s (promise b) k))))
promise (spells.prop-get {d = d} {i = i} {x = x} {xs = xs} {ts = ts} {ms = ms} {rs = rs} h w) = λ γ vs s f o k. (refl, get_in i d γ vs ts s ((promise h).0 (symbols.Take terminals.Open (suc d) ∷ symbols.Take terminals.Close (suc d) ∷ symbols.Part expectation.Body (suc d) ∷ symbols.Do (act_kinds.Pair (pair.Getter i)) ∷ γ) vs s (refl, (refl, in_body (suc d) (act_kinds.Pair (pair.Getter i)) γ (x ∷ vs) xs ms rs s (promise w) k))))
promise (spells.prop-set {d = d} {i = i} {o = o} {x = x} {xs = xs} {ts = ts} {ms = ms} {rs = rs} h w) = λ γ vs s f o2 k. (refl, set_in i d γ vs ts s ((promise h).0 (symbols.Take terminals.Open (suc d) ∷ symbols.Stage (stages.SetterName i) (suc d) ∷ γ) vs s (refl, (refl, (refl, in_body (suc d) (act_kinds.Pair (pair.Setter i o)) γ (x ∷ vs) xs ms rs s (promise w) k)))))
promise (spells.key-token {d = d} {i = i} {kind = kind} {rs = rs} {a = a} e) = (λ γ vs s k. key_in d i a γ vs kind rs s e k, λ γ vs s f k. prop_key d i a γ vs kind rs s e f k)
promise (spells.key-computed {d = d} {i = i} {e = e} {ts = ts} {rs = rs} h) = (
  λ γ vs s k. (refl, into_part (expectation.Assign false) d (symbols.Take terminals.SquareClose d ∷ symbols.Do (act_kinds.Wrap (wrap.Computed i)) ∷ γ) vs ts s (promise h (symbols.Take terminals.SquareClose d ∷ symbols.Do (act_kinds.Wrap (wrap.Computed i)) ∷ γ) vs s (refuses_square d (symbols.Do (act_kinds.Wrap (wrap.Computed i)) ∷ γ)) (refl, take_act (act_kinds.Wrap (wrap.Computed i)) γ (e ∷ vs) rs s k))),
  λ γ vs s f k. (refl, into_part (expectation.Assign false) d (symbols.Take terminals.SquareClose d ∷ symbols.Do (act_kinds.Wrap (wrap.Computed i)) ∷ symbols.Stage stages.AfterKey d ∷ γ) vs ts s (promise h (symbols.Take terminals.SquareClose d ∷ symbols.Do (act_kinds.Wrap (wrap.Computed i)) ∷ symbols.Stage stages.AfterKey d ∷ γ) vs s (refuses_square d (symbols.Do (act_kinds.Wrap (wrap.Computed i)) ∷ symbols.Stage stages.AfterKey d ∷ γ)) (refl, take_act (act_kinds.Wrap (wrap.Computed i)) (symbols.Stage stages.AfterKey d ∷ γ) (e ∷ vs) rs s k))),
)
