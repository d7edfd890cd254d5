-- What `parse` promises.
use Rattle.std.specs.Prelude.{◌≡◌, [], map, Some, Result, Ok, Err}
use Rattle.es_source.specs.Reading.{Reading}
use Rattle.script_grammar.specs.Tree.{ParseTree}
use Rattle.script_grammar.specs.Scripts.{Parts, HasTree, leaf_of}
use Rattle.script_grammar.specs.Completed.{ParseAnswer, Script, Unexpected, TooDeep, ReadsAs, Derives, HasGrammarFault, fault_of}
use Rattle.es_source.specs.declared.stop.ReadStop.{ReadStop}
use Rattle.es_source.specs.declared.stop.ReadStop.TheVariants.{Fault, NoMemory}

-- The leaves are those of the tokens, and the root stands for a tree that the tokens derive.
abbrev pub IsScript : Reading → Parts → Type 0
IsScript r s = (s.leaves ≡ map leaf_of r.tokens) × ((x : ParseTree) × HasTree s.nodes s.root x × Derives r.tokens x)

-- What is answered is so; want of memory is free.
abbrev pub IsSoundScript : Reading → Result Parts ReadStop → Type 0
IsSoundScript r (Ok s) = IsScript r s
IsSoundScript r (Err (Fault f)) = HasGrammarFault r (Some f)
IsSoundScript r (Err NoMemory) = Unit {0}

-- The grammar's answer is given in this way; want of memory is free.
abbrev pub GivesAnswer : Reading → ParseAnswer → Result Parts ReadStop → Type 0
GivesAnswer r (Script full x) (Ok s) = HasTree s.nodes s.root x
GivesAnswer r (Unexpected i) (Ok s) = ⊥
GivesAnswer r (TooDeep i) (Ok s) = ⊥
GivesAnswer r a (Err (Fault f)) = fault_of r a ≡ Some f
GivesAnswer r a (Err NoMemory) = Unit {0}

-- Exactly the grammar's answer: what is given is so, and what is so is given.
abbrev pub Parses : Reading → Result Parts ReadStop → Type 0
Parses r result = IsSoundScript r result × ((a : ParseAnswer) → ReadsAs [] 0 r.tokens a → GivesAnswer r a result)
