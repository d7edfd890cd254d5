-- The first token of each node is the one that its tree names.
use Rattle.std.proofs.Common.{◌≡◌, ℕ, Bool, true, false, Option, Some, None, List, refl, ap, sym, ◌∙◌}
use Rattle.es_tree.specs.declared.expressions.ShortOperator.TheVariants as short_operator
use Rattle.script_grammar.specs.declared.kinds.Kind.{Kind}
use Rattle.script_grammar.specs.declared.kinds.Kind.TheVariants as kinds
use Rattle.script_grammar.specs.declared.kinds.Level.{Level}
use Rattle.script_grammar.specs.declared.kinds.Level.TheVariants as levels
use Rattle.script_grammar.specs.declared.labels.Pair.{Pair}
use Rattle.script_grammar.specs.Tree.{ParseTree, first_token}
use Rattle.script_grammar.specs.Tree.{ParseTree as parse_tree}
use Rattle.script_grammar.specs.Kinds.{infix_of}
use Rattle.script_grammar.specs.Grammar.{Read, Spells}
use Rattle.script_grammar.specs.Grammar.{Nonterminal}
use Rattle.script_grammar.specs.Grammar.{Nonterminal as nonterminal}
use Rattle.script_grammar.specs.Grammar.{Spells as spells}
use Rattle.script_grammar.specs.Firsts.{has_first, first_number}

abbrev Begins : Bool → ParseTree → List Read → Type 0
Begins true e ts = (i : ℕ) × (first_number ts ≡ Some i) × (first_token e ≡ Some i)
Begins false e ts = Unit {0}

-- An operator's tree begins with its left operand.
abbrev joined : Option (Level × Pair) → ParseTree → ParseTree → Option ℕ
joined (Some q) l e = first_token (parse_tree.Pair q.1 l e)
joined None l e = first_token l

all_joined : (kind : Kind) (l e : ParseTree) → joined (infix_of kind) l e ≡ first_token l
all_joined (kinds.Infix op) l e = refl
all_joined (kinds.Short short_operator.And) l e = refl
all_joined (kinds.Short short_operator.Or) l e = refl
all_joined (kinds.Short short_operator.Coalesce) l e = refl
all_joined _ l e = refl

left_first : (kind : Kind) (v : Level) (f : Pair) (l e : ParseTree) → infix_of kind ≡ Some (v, f) → first_token (parse_tree.Pair f l e) ≡ first_token l
left_first kind v f l e eq = sym (ap (λ (o : Option (Level × Pair)). joined o l e) eq) ∙ all_joined kind l e

from_left : (kind : Kind) (v : Level) (f : Pair) (l e : ParseTree) (ts : List Read) → infix_of kind ≡ Some (v, f) → Begins true l ts → Begins true (parse_tree.Pair f l e) ts
from_left kind v f l e ts eq h = (h.0, h.1, left_first kind v f l e eq ∙ h.2)

pub begins : {q : Nonterminal} {d : ℕ} {e : ParseTree} {ts rs : List Read} → Spells q d e ts rs → Begins (has_first q) e ts
begins (spells.item-function {i = i} h j) = (i, refl, refl)
begins (spells.item-lexical h) = begins h
begins (spells.item-statement h) = begins h
begins (spells.param-name {i = i}) = (i, refl, refl)
begins (spells.lexical-let {i = i} h j) = (i, refl, refl)
begins (spells.lexical-const {i = i} h j) = (i, refl, refl)
begins (spells.bind-name {i = i}) = (i, refl, refl)
begins (spells.bind-value {i = i} h) = (i, refl, refl)
begins (spells.block-items {i = i} h) = (i, refl, refl)
begins (spells.statement-block h) = begins h
begins (spells.empty {i = i}) = (i, refl, refl)
begins (spells.evaluate first h j) = begins h
begins (spells.if {i = i} h j alone) = (i, refl, refl)
begins (spells.if-else {i = i} h j o) = (i, refl, refl)
begins (spells.while {i = i} h j) = (i, refl, refl)
begins (spells.for {i = i} h1 h2 h3 h4) = (i, refl, refl)
begins (spells.break {i = i} f) = (i, refl, refl)
begins (spells.continue {i = i} f) = (i, refl, refl)
begins (spells.return {i = i} f) = (i, refl, refl)
begins (spells.return-value {i = i} same h f) = (i, refl, refl)
begins (spells.throw {i = i} same h f) = (i, refl, refl)
begins (spells.try-catch {i = i} h j alone) = (i, refl, refl)
begins (spells.try-both {i = i} h j o) = (i, refl, refl)
begins (spells.try-finally {i = i} h j) = (i, refl, refl)
begins (spells.expr-one h) = begins h
begins (spells.expr-more h j) = begins h
begins (spells.assign-cond h) = begins h
begins (spells.assign-to h f j) = begins h
begins (spells.cond-short h) = begins h
begins (spells.cond-choice h i j) = begins h
begins (spells.short-or h) = begins h
begins (spells.short-coalesce h) = begins h
begins (spells.coalesce-two h i) = begins h
begins (spells.coalesce-more h i) = begins h
begins (spells.level-one {v = levels.Multiply} h) = begins h
begins (spells.level-one {v = levels.Add} h) = begins h
begins (spells.level-one {v = levels.Relation} h) = begins h
begins (spells.level-one {v = levels.Equal} h) = begins h
begins (spells.level-one {v = levels.And} h) = begins h
begins (spells.level-one {v = levels.Or} h) = begins h
begins (spells.level-more {v = v} {kind = kind} {f = f} {l = l} {e = e} {ts = ts} h eq bar i) = from_left kind v f l e ts eq (begins h)
begins (spells.unary-prefix {i = i} eq h) = (i, refl, refl)
begins (spells.unary-before {i = i} h f) = (i, refl, refl)
begins (spells.unary-after h f) = begins h
begins (spells.unary-left h) = begins h
begins (spells.left-primary h) = begins h
begins (spells.left-new h) = begins h
begins (spells.left-member h w) = begins h
begins (spells.left-index h i) = begins h
begins (spells.left-call h i) = begins h
begins (spells.new-bare {i = i} h alone) = (i, refl, refl)
begins (spells.new-args {i = i} h j) = (i, refl, refl)
begins (spells.callee-primary h) = begins h
begins (spells.callee-new h) = begins h
begins (spells.callee-member h w) = begins h
begins (spells.callee-index h i) = begins h
begins (spells.this {i = i}) = (i, refl, refl)
begins (spells.name {i = i}) = (i, refl, refl)
begins (spells.number {i = i}) = (i, refl, refl)
begins (spells.text {i = i}) = (i, refl, refl)
begins (spells.null {i = i}) = (i, refl, refl)
begins (spells.truth {i = i}) = (i, refl, refl)
begins (spells.falsity {i = i}) = (i, refl, refl)
begins (spells.parenthesis {i = i} h) = (i, refl, refl)
begins (spells.array {i = i} h) = (i, refl, refl)
begins (spells.array-last {i = i} h j) = (i, refl, refl)
begins (spells.object-none {i = i}) = (i, refl, refl)
begins (spells.object-some {i = i} h) = (i, refl, refl)
begins (spells.object-comma {i = i} h) = (i, refl, refl)
begins (spells.function {i = i} h j) = (i, refl, refl)
begins (spells.function-name {i = i} h j) = (i, refl, refl)
begins (spells.prop-name {i = i}) = (i, refl, refl)
begins (spells.prop-value h j) = begins h
begins (spells.prop-method h j o) = begins h
begins (spells.prop-get {i = i} h j) = (i, refl, refl)
begins (spells.prop-set {i = i} h j) = (i, refl, refl)
begins (spells.key-token {i = i} e) = (i, refl, refl)
begins (spells.key-computed {i = i} h) = (i, refl, refl)
begins _ = tt

pub begins_with : (q : Nonterminal) (d : ℕ) (e : ParseTree) (ts rs : List Read) → Spells q d e ts rs → has_first q ≡ true → Begins true e ts
begins_with q d e ts rs h f = go (has_first q) f (begins h)
  where
    go : (b : Bool) → b ≡ true → Begins b e ts → Begins true e ts
    go true f w = w
    go false f w = absurd (cc (f))
