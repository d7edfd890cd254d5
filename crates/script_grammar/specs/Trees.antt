-- The machine on a stack of trees.
use Rattle.std.specs.Prelude.{Bool, false, cond, List, [], ◌∷◌, Option, Some, None}
use Rattle.script_grammar.specs.declared.sign.Sign.{Sign}
use Rattle.script_grammar.specs.declared.act.Act.{Act}
use Rattle.script_grammar.specs.declared.act.Act.TheVariants as act_kinds
use Rattle.script_grammar.specs.declared.symbol.Loose.{Loose}
use Rattle.script_grammar.specs.declared.symbol.Symbol.{Symbol}
use Rattle.script_grammar.specs.declared.symbol.Symbol.TheVariants as symbols
use Rattle.script_grammar.specs.Tree.{ParseTree, is_target, is_plain}
use Rattle.script_grammar.specs.Tree.{ParseTree as parse_tree}
use Rattle.script_grammar.specs.Machine.{Algebra, Outcome}
use Rattle.script_grammar.specs.Machine as grammar_machine

-- The newest values made one; where there are too few, none is left.
abbrev pub act : Act → List ParseTree → List ParseTree
act (act_kinds.Atom f) vs = parse_tree.Atom f ∷ vs
act (act_kinds.Wrap f) (x ∷ vs) = parse_tree.Wrap f x ∷ vs
act (act_kinds.Pair f) (y ∷ x ∷ vs) = parse_tree.Pair f x y ∷ vs
act (act_kinds.Triple f) (z ∷ y ∷ x ∷ vs) = parse_tree.Triple f x y z ∷ vs
act (act_kinds.Quad f) (w ∷ z ∷ y ∷ x ∷ vs) = parse_tree.Quad f x y z w ∷ vs
act _ _ = []

abbrev pub top_target : List ParseTree → Bool
top_target (l ∷ vs) = is_target l
top_target [] = false

abbrev pub top_plain : List ParseTree → Bool
top_plain (l ∷ vs) = is_plain l
top_plain [] = false

abbrev pub trees : Algebra (List ParseTree)
trees = record { act = act; target = top_target; plain = top_plain }

abbrev pub step : List Symbol → List ParseTree → Sign → Outcome (List ParseTree)
step γ vs x = grammar_machine.step (List ParseTree) trees γ vs x

abbrev pub leave : Loose → List ParseTree → List ParseTree
leave q vs = grammar_machine.leave (List ParseTree) trees q vs

abbrev pub may_leave : Loose → List ParseTree → Bool
may_leave q vs = grammar_machine.may_leave (List ParseTree) trees q vs

-- The script where the input ends.
abbrev pub finish : List Symbol → List ParseTree → Option ParseTree
finish [] (s ∷ []) = Some s
finish (symbols.Tail q d ∷ γ) vs = finish γ vs
finish (symbols.Loose q d ∷ γ) vs = cond (may_leave q vs) (finish γ (leave q vs)) None
finish (symbols.Do w ∷ γ) vs = finish γ (act w vs)
finish _ _ = None
