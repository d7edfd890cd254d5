-- What reading a token does, by the machine and by the grammar.
use Rattle.std.specs.Prelude.{suc, ◌≡◌, ℕ, Bool, true, false, List, [], ◌∷◌, Option, Some, None, drop}
use Rattle.es_source.specs.declared.token.Token.{Token}
use Rattle.script_grammar.specs.declared.node.ParseNode.{ParseNode}
use Rattle.script_grammar.specs.declared.sign.Sign.{Sign}
use Rattle.script_grammar.specs.declared.sign.Sign.TheVariants.{Inserted as put}
use Rattle.script_grammar.specs.declared.symbol.Symbol.{Symbol}
use Rattle.script_grammar.specs.Tree.{ParseTree}
use Rattle.script_grammar.specs.Grammar.{Read}
use Rattle.script_grammar.specs.Machine.{Outcome, Fail, Next}
use Rattle.script_grammar.specs.Machine as grammar_machine
use Rattle.script_grammar.specs.Progress.{Reached}
use Rattle.script_grammar.specs.Scripts.{HasTree}
use Rattle.script_grammar.specs.Completed.{ParseAnswer, Script, Unexpected, TooDeep, ReadsAs}
use Rattle.script_parser.specs.declared.parser.Parser.{Parser}
use Rattle.script_parser.specs.declared.parser.reading.Reading.{Reading}
use Rattle.script_parser.specs.declared.parser.reading.Reading.TheVariants.{Taken, Refused, Deep}
use Rattle.script_parser.specs.Settling as settling
use Rattle.script_parser.specs.State.{State, numbers, stack, state}

abbrev pub step : Parser → Sign → Outcome State
step p x = grammar_machine.step State numbers (stack p) (state p) x

abbrev pub Firm : Parser → Sign → Type 0
Firm p x = settling.Firm State numbers (stack p) (state p) x

-- All is as before.
abbrev pub Kept : Parser → Parser → Type 0
Kept old new = (stack new ≡ stack old) × (state new ≡ state old)

-- A symbol was left alone and taken off, or none is and all is as before.
abbrev pub Loosened : Parser → Parser → Sign → Bool → Type 0
Loosened old new x true =
    (z : Symbol) × (stack old ≡ z ∷ stack new) × (settling.loose State numbers z (state old) x ≡ true)
    × (state new ≡ settling.drops State numbers z (state old))
Loosened old new x false = Firm old x × (stack new ≡ stack old) × (state new ≡ state old)

-- All that is left alone was taken off.
abbrev pub Settled : Parser → Parser → Sign → Type 0
Settled old new x = (stack new, state new) ≡ settling.settled State numbers (stack old) (state old) x

-- A token was taken, or it was not and all is as before.
abbrev pub Shifted : Parser → Parser → Sign → Option ℕ → Type 0
Shifted old new x (Some n) = step old x ≡ Next (stack new) (state new) n
Shifted old new x None = (step old x ≡ Fail) × Kept old new

-- A token was taken, or it was not and a semicolon has the same step as before.
abbrev pub Tried : Parser → Parser → Sign → Option ℕ → Type 0
Tried old new x (Some n) = step old x ≡ Next (stack new) (state new) n
Tried old new x None = (step old x ≡ Fail) × (step new put ≡ step old put)

-- The numbers stand for the trees.
abbrev pub AllStand : List ParseNode → List ℕ → List ParseTree → Type 0
AllStand ns [] [] = Unit {0}
AllStand ns (i ∷ is) (x ∷ xs) = HasTree ns i x × AllStand ns is xs
AllStand ns _ _ = ⊥

abbrev pub Stood : State → List ParseTree → Type 0
Stood s vs = AllStand s.0 s.1 vs

-- The parser stands behind these tokens.
abbrev pub Standing : List Read → Parser → Type 0
Standing done p = (vs : List ParseTree) × Reached done (stack p) vs × Stood (state p) vs

-- The parser stands further on, and answers there are answers here.
abbrev pub Onward : List Read → Parser → ℕ → Token → Type 0
Onward done new i t =
    (more : List Read) × Standing more new
    × ((ts : List Token) (a : ParseAnswer) → ReadsAs more (suc i) ts a → ReadsAs done i (t ∷ ts) a)

abbrev pub ReadsOne : Parser → Parser → ℕ → Token → Reading → Type 0
ReadsOne old new i t Taken = (done : List Read) → Standing done old → Onward done new i t
ReadsOne old new i t Refused = (done : List Read) → Standing done old → (ts : List Token) → ReadsAs done i (t ∷ ts) (Unexpected i)
ReadsOne old new i t Deep = (done : List Read) → Standing done old → (ts : List Token) → ReadsAs done i (t ∷ ts) (TooDeep i)

-- The parser stands behind more semicolons that were put in, and answers there are answers here.
abbrev pub Around : Parser → Parser → ℕ → Token → Type 0
Around old new i t =
    (done : List Read) → Standing done old → (more : List Read) × Standing more new
    × ((ts : List Token) (a : ParseAnswer) → ReadsAs more i (t ∷ ts) a → ReadsAs done i (t ∷ ts) a)

abbrev pub AroundEnd : Parser → Parser → Type 0
AroundEnd old new =
    (done : List Read) → Standing done old → (more : List Read) × Standing more new
    × ((i : ℕ) (a : ParseAnswer) → ReadsAs more i [] a → ReadsAs done i [] a)

-- The number of the script, where nothing is expected any more.
abbrev pub root_of : List Symbol → List ℕ → Option ℕ
root_of [] (i ∷ []) = Some i
root_of _ _ = None

-- A script ends here, or none does and no semicolon is allowed.
abbrev pub EndsWith : Parser → Parser → Option ℕ → Type 0
EndsWith old new (Some root) =
    (done : List Read) → Standing done old → (full : List Read) × (s : ParseTree) × HasTree new.nodes.items root s
    × ((i : ℕ) → ReadsAs done i [] (Script full s))
EndsWith old new None = (done : List Read) → Standing done old → (i : ℕ) → ReadsAs done i [] (Unexpected i)

-- The parser stands behind the first i tokens.
abbrev pub Behind : Parser → List Token → ℕ → Type 0
Behind p ts i = (done : List Read) × Standing done p × ((a : ParseAnswer) → ReadsAs done i (drop i ts) a → ReadsAs [] 0 ts a)
