-- What is left alone at a token and taken off the stack, and what stands firm.
use Rattle.std.specs.Prelude.{◌≡◌, ◌&&◌, not, Bool, true, false, cond, List, [], ◌∷◌}
use Rattle.script_grammar.specs.declared.sign.Sign.{Sign}
use Rattle.script_grammar.specs.declared.symbol.Symbol.{Symbol}
use Rattle.script_grammar.specs.declared.symbol.Symbol.TheVariants as symbols
use Rattle.script_grammar.specs.Machine.{Algebra, takes, keeps}
use Rattle.script_grammar.specs.Machine as grammar_machine

module _ (S : Type 0) (alg : Algebra S) where
  -- The symbol is left alone at this token.
  abbrev pub loose : Symbol → S → Sign → Bool
  loose (symbols.Tail q d) s x = not (takes q x)
  loose (symbols.Loose q d) s x = not (keeps q x) && grammar_machine.may_leave S alg q s
  loose (symbols.Do f) s x = true
  loose _ s x = false

  -- The work of a symbol that is left alone.
  abbrev pub drops : Symbol → S → S
  drops (symbols.Loose q d) s = grammar_machine.leave S alg q s
  drops (symbols.Do f) s = alg.act f s
  drops _ s = s

  -- All that is left alone taken off.
  abbrev pub settled : List Symbol → S → Sign → List Symbol × S
  settled [] s x = ([], s)
  settled (z ∷ γ) s x = cond (loose z s x) (settled γ (drops z s) x) (z ∷ γ, s)

  -- Nothing is left alone at the top.
  abbrev pub Firm : List Symbol → S → Sign → Type 0
  Firm [] s x = Unit {0}
  Firm (z ∷ γ) s x = loose z s x ≡ false
