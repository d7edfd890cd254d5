-- Semicolons are put in from left to right, and the first fault of the grammar (ECMA-262, 12.10).
use Rattle.std.specs.Prelude.{suc, ◌≡◌, ℕ, ◌<◌, ◌≤◌, Bool, true, false, List, [], ◌∷◌, ◌++◌, ◌||◌, Option, Some, None, slice_get}
use Rattle.es_source.specs.declared.token.Token.{Token}
use Rattle.es_source.specs.declared.faults.FaultCode.TheVariants as code
use Rattle.es_source.specs.declared.faults.SourceFault.{SourceFault}
use Rattle.es_source.specs.declared.place.Place.{Place}
use Rattle.es_source.specs.Reading.{Reading, fault_at}
use Rattle.script_grammar.specs.declared.sign.Sign.TheVariants.{Token as of, Inserted as put}
use Rattle.script_grammar.specs.declared.kinds.Bracket.TheVariants as brackets
use Rattle.script_grammar.specs.declared.kinds.Kind.{Kind}
use Rattle.script_grammar.specs.declared.kinds.Kind.TheVariants as kinds
use Rattle.script_grammar.specs.Kinds.{kind_of}
use Rattle.script_grammar.specs.Tree.{ParseTree}
use Rattle.script_grammar.specs.Grammar.{Read, read, Plain, Viable}

-- What reading ends with: a script, or the fault at the token with this number, which is that of the end where it is the number of all tokens.
pub data ParseAnswer : Type 0 where
  -- the completed list, and the tree of its script
  Script : List Read → ParseTree → ParseAnswer
  Unexpected : ℕ → ParseAnswer
  TooDeep : ℕ → ParseAnswer

-- The token with the number i, and its nesting.
abbrev pub given : Token → ℕ → ℕ → Read
given t i n = read (of (kind_of t.kind) i t.after_break) n

-- A semicolon that is put in.
abbrev pub semicolon : ℕ → Read
semicolon n = read put n

abbrev pub is_brace_close : Kind → Bool
is_brace_close (kinds.Bracket brackets.BraceClose) = true
is_brace_close _ = false

-- A semicolon may be put before this token: a line break stands before it, or it is `}`.
abbrev pub offends : Token → Bool
offends t = t.after_break || is_brace_close (kind_of t.kind)

-- Some script goes on with this token, which has the number i, in some nesting.
abbrev pub Follows : List Read → Token → ℕ → Type 0
Follows done t i = (n : ℕ) × Viable (done ++ (given t i n ∷ []))

-- A semicolon that is put in is allowed here. In no production is it an empty statement or one of the two of the head of a `for`.
abbrev pub TakesSemicolon : List Read → Type 0
TakesSemicolon done = (n : ℕ) × Viable (done ++ (semicolon n ∷ []))

-- A script ends here.
abbrev pub IsWhole : List Read → Type 0
IsWhole done = (x : ParseTree) × Plain done x

-- a token stands in at most so many nested productions
abbrev pub most_nesting : ℕ
most_nesting = 200

-- `ReadsAs done i ts a`: after the tokens done, the tokens ts, whose first has the number i, give the answer a. Where no script allows a token, or none
-- ends at the end, a semicolon is put before it under the conditions, and reading goes on in the same way.
pub data ReadsAs : List Read → ℕ → List Token → ParseAnswer → Type 0 where
  whole : {done : List Read} {i : ℕ} {x : ParseTree} → Plain done x → ReadsAs done i [] (Script done x)
  end : {done : List Read} {i : ℕ} {a : ParseAnswer} (n : ℕ)
      → (IsWhole done → ⊥)
      → Viable (done ++ (semicolon n ∷ []))
      → ReadsAs (done ++ (semicolon n ∷ [])) i [] a
      → ReadsAs done i [] a
  cut : {done : List Read} {i : ℕ} → (IsWhole done → ⊥) → (TakesSemicolon done → ⊥) → ReadsAs done i [] (Unexpected i)
  next : {done : List Read} {i : ℕ} {t : Token} {ts : List Token} {a : ParseAnswer} (n : ℕ)
      → Viable (done ++ (given t i n ∷ []))
      → n ≤ most_nesting
      → ReadsAs (done ++ (given t i n ∷ [])) (suc i) ts a
      → ReadsAs done i (t ∷ ts) a
  deep : {done : List Read} {i : ℕ} {t : Token} {ts : List Token} (n : ℕ)
      → Viable (done ++ (given t i n ∷ []))
      → most_nesting < n
      → ReadsAs done i (t ∷ ts) (TooDeep i)
  insert : {done : List Read} {i : ℕ} {t : Token} {ts : List Token} {a : ParseAnswer} (n : ℕ)
      → (Follows done t i → ⊥)
      → offends t ≡ true
      → Viable (done ++ (semicolon n ∷ []))
      → ReadsAs (done ++ (semicolon n ∷ [])) i (t ∷ ts) a
      → ReadsAs done i (t ∷ ts) a
  fault : {done : List Read} {i : ℕ} {t : Token} {ts : List Token}
      → (Follows done t i → ⊥)
      → (offends t ≡ true → TakesSemicolon done → ⊥)
      → ReadsAs done i (t ∷ ts) (Unexpected i)

-- full is the list of the tokens with all semicolons put in, and x the tree of its script.
abbrev pub Completes : List Token → List Read → ParseTree → Type 0
Completes ts full x = ReadsAs [] 0 ts (Script full x)

abbrev pub Derives : List Token → ParseTree → Type 0
Derives ts x = (full : List Read) × Completes ts full x

-- The place of a token, and one past the last byte for the end.
abbrev pub place_by : Place → Option Token → Place
place_by ending (Some t) = t.place
place_by ending None = ending

abbrev pub place_at : Reading → ℕ → Place
place_at r i = place_by r.ending (slice_get r.tokens i)

-- The fault of an answer.
abbrev pub fault_of : Reading → ParseAnswer → Option SourceFault
fault_of r (Script full x) = None
fault_of r (Unexpected i) = Some (fault_at code.Unexpected (place_at r i))
fault_of r (TooDeep i) = Some (fault_at code.TooDeep (place_at r i))

-- The first fault of the grammar, and None where there is none.
abbrev pub HasGrammarFault : Reading → Option SourceFault → Type 0
HasGrammarFault r f = (a : ParseAnswer) × ReadsAs [] 0 r.tokens a × (fault_of r a ≡ f)
