-- The grammar's first fault is one, and there is none exactly where the tokens derive a tree.
use Rattle.std.proofs.Common.{◌≡◌, Option, None, [], refl, ap, sym, ◌∙◌}
use Rattle.es_source.specs.declared.faults.SourceFault.{SourceFault}
use Rattle.es_source.specs.Reading.{Reading}
use Rattle.script_grammar.specs.Tree.{ParseTree}
use Rattle.script_grammar.specs.Completed.{ParseAnswer, Script, Unexpected, TooDeep, ReadsAs, Derives, HasGrammarFault, fault_of}
use Rattle.script_grammar.proofs.Answer.{one_answer}
use Rattle.script_grammar.proofs.Total.{some_answer}

pub first_fault : (all : Reading) → (f : Option SourceFault) × HasGrammarFault all f × ((g : Option SourceFault) → HasGrammarFault all g → g ≡ f)
first_fault all =
    let w = some_answer all.tokens in
    (fault_of all w.0, (w.0, w.1, refl), λ g h. sym h.2 ∙ ap (fault_of all) (one_answer h.1 w.1))

derived : (all : Reading) (a : ParseAnswer) → ReadsAs [] 0 all.tokens a → fault_of all a ≡ None → (x : ParseTree) × Derives all.tokens x
derived all (Script full x) h e = (x, (full, h))
derived all (Unexpected i) h e = absurd (cc (e))
derived all (TooDeep i) h e = absurd (cc (e))

pub faultless : (all : Reading) → (HasGrammarFault all None → (x : ParseTree) × Derives all.tokens x) × ((x : ParseTree) → Derives all.tokens x → HasGrammarFault all None)
faultless all = (λ h. derived all h.0 h.1 h.2, λ x h. (Script h.0 x, h.1, refl))
