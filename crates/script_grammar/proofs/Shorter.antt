-- A semicolon that is put in takes a symbol off the stack, so that putting in ends.
use Rattle.std.proofs.Common.{suc, ◌≡◌, ◌<◌, ℕ, Bool, true, false, cond, List, [], ◌∷◌, length, ap, arith}
use Rattle.script_grammar.specs.declared.sign.Sign.TheVariants.{Inserted as put}
use Rattle.script_grammar.specs.declared.kinds.Level.TheVariants as levels
use Rattle.script_grammar.specs.declared.kinds.NameRole.TheVariants as role
use Rattle.script_grammar.specs.declared.labels.Atom.TheVariants as atom
use Rattle.script_grammar.specs.declared.labels.Wrap.TheVariants as wrap
use Rattle.script_grammar.specs.declared.act.Act.TheVariants as act_kinds
use Rattle.script_grammar.specs.declared.symbol.Terminal.{Terminal}
use Rattle.script_grammar.specs.declared.symbol.Terminal.TheVariants as terminals
use Rattle.script_grammar.specs.declared.symbol.Listing.TheVariants as listings
use Rattle.script_grammar.specs.declared.symbol.Expected.{Expected}
use Rattle.script_grammar.specs.declared.symbol.Expected.TheVariants as expectation
use Rattle.script_grammar.specs.declared.symbol.Tail.TheVariants as tails
use Rattle.script_grammar.specs.declared.symbol.Loose.TheVariants as loose_kind
use Rattle.script_grammar.specs.declared.symbol.Stage.{Stage}
use Rattle.script_grammar.specs.declared.symbol.Stage.TheVariants as stages
use Rattle.script_grammar.specs.declared.symbol.Symbol.{Symbol}
use Rattle.script_grammar.specs.declared.symbol.Symbol.TheVariants as symbols
use Rattle.script_grammar.specs.Machine.{Outcome, Fail, Next, Algebra}
use Rattle.script_grammar.specs.Machine as grammar_machine

module _ (S : Type 0) (alg : Algebra S) where
  more : (γ γ' : List Symbol) → length γ' < length γ → length γ' < suc (length γ)
  more γ γ' h = omega arith

  abbrev made : List Symbol → S → ℕ → Outcome S
  made γ s n = Next γ s n

  next : (γ γ' : List Symbol) (s s' : S) (d n : ℕ) → made γ s d ≡ Next γ' s' n → length γ' < suc (length γ)
  next γ γ' s s' d n e = let same : γ ≡ γ' = cc in omega (arith, ap length same)

  kept : (b : Bool) (o : Outcome S) (γ' : List Symbol) (s' : S) (n : ℕ) → cond b o Fail ≡ Next γ' s' n → o ≡ Next γ' s' n
  kept true o γ' s' n e = e
  kept false o γ' s' n e = absurd (cc (e))

  maybe : (h : Bool) (z : Terminal) (d : ℕ) (γ γ' : List Symbol) (s s' : S) (n : ℕ) → grammar_machine.at_maybe S alg h z d γ s put ≡ Next γ' s' n → length γ' < suc (length γ)
  maybe h (terminals.Semicolon false) d γ γ' s s' n e = next γ γ' (grammar_machine.none S alg s) s' d n e
  maybe h (terminals.Semicolon true) d γ γ' s s' n e = absurd (cc (e))
  maybe h _ d γ γ' s s' n e = absurd (cc (e))

  part : (q : Expected) (d : ℕ) (γ γ' : List Symbol) (s s' : S) (n : ℕ) → grammar_machine.at_part S alg q d γ s put ≡ Next γ' s' n → length γ' < suc (length γ)
  part (expectation.Maybe h z) d γ γ' s s' n e = maybe h z d γ γ' s s' n e
  part _ d γ γ' s s' n e = absurd (cc (e))

  stage : (q : Stage) (d : ℕ) (γ γ' : List Symbol) (s s' : S) (n : ℕ) → grammar_machine.at_stage S alg q d γ s put ≡ Next γ' s' n → length γ' < suc (length γ)
  stage (stages.AfterReturn i) d γ γ' s s' n e = next γ γ' (alg.act (act_kinds.Atom (atom.Return i)) s) s' d n e
  stage (stages.MoreBindings c false i) d γ γ' s s' n e = next γ γ' (alg.act (act_kinds.Wrap (wrap.Lexical c i)) s) s' d n e
  stage (stages.MoreBindings c true i) d γ γ' s s' n e = absurd (cc (e))
  stage (stages.Listed listings.Arguments) d γ γ' s s' n e = absurd (cc (e))
  stage (stages.Listed listings.Parameters) d γ γ' s s' n e = absurd (cc (e))
  stage (stages.Listed listings.Properties) d γ γ' s s' n e = absurd (cc (e))
  stage (stages.Rest listings.Arguments) d γ γ' s s' n e = absurd (cc (e))
  stage (stages.Rest listings.Parameters) d γ γ' s s' n e = absurd (cc (e))
  stage (stages.Rest listings.Properties) d γ γ' s s' n e = absurd (cc (e))
  stage _ d γ γ' s s' n e = absurd (cc (e))

  take : (z : Terminal) (d : ℕ) (γ γ' : List Symbol) (s s' : S) (n : ℕ) → cond (grammar_machine.fits z put) (Next γ s d) Fail ≡ Next γ' s' n → length γ' < suc (length γ)
  take (terminals.Semicolon false) d γ γ' s s' n e = next γ γ' s s' d n e
  take (terminals.Semicolon true) d γ γ' s s' n e = absurd (cc (e))
  take _ d γ γ' s s' n e = absurd (cc (e))

  pub shorter : (γ γ' : List Symbol) (s s' : S) (n : ℕ) → grammar_machine.step S alg γ s put ≡ Next γ' s' n → length γ' < length γ
  shorter [] γ' s s' n e = absurd (cc (e))
  shorter (symbols.Part q d ∷ γ) γ' s s' n e = part q d γ γ' s s' n e
  shorter (symbols.Stage q d ∷ γ) γ' s s' n e = stage q d γ γ' s s' n e
  shorter (symbols.Take z d ∷ γ) γ' s s' n e = take z d γ γ' s s' n e
  shorter (symbols.Tail (tails.Level levels.Or b) d ∷ γ) γ' s s' n e = more γ γ' (shorter γ γ' s s' n e)
  shorter (symbols.Tail (tails.Level levels.And b) d ∷ γ) γ' s s' n e = more γ γ' (shorter γ γ' s s' n e)
  shorter (symbols.Tail (tails.Level levels.Equal b) d ∷ γ) γ' s s' n e = more γ γ' (shorter γ γ' s s' n e)
  shorter (symbols.Tail (tails.Level levels.Relation b) d ∷ γ) γ' s s' n e = more γ γ' (shorter γ γ' s s' n e)
  shorter (symbols.Tail (tails.Level levels.Add b) d ∷ γ) γ' s s' n e = more γ γ' (shorter γ γ' s s' n e)
  shorter (symbols.Tail (tails.Level levels.Multiply b) d ∷ γ) γ' s s' n e = more γ γ' (shorter γ γ' s s' n e)
  shorter (symbols.Tail _ d ∷ γ) γ' s s' n e = more γ γ' (shorter γ γ' s s' n e)
  shorter (symbols.Loose loose_kind.Target d ∷ γ) γ' s s' n e = more γ γ' (shorter γ γ' s s' n (kept (alg.target s) (grammar_machine.step S alg γ s put) γ' s' n e))
  shorter (symbols.Loose (loose_kind.Binding true h i) d ∷ γ) γ' s s' n e = absurd (cc (e))
  shorter (symbols.Loose (loose_kind.Binding false h i) d ∷ γ) γ' s s' n e = more γ γ' (shorter γ γ' (grammar_machine.leave S alg (loose_kind.Binding false h i) s) s' n e)
  shorter (symbols.Loose (loose_kind.Property role.Plain i) d ∷ γ) γ' s s' n e = more γ γ' (shorter γ γ' (grammar_machine.leave S alg (loose_kind.Property role.Plain i) s) s' n e)
  shorter (symbols.Loose (loose_kind.Property role.Get i) d ∷ γ) γ' s s' n e = more γ γ' (shorter γ γ' (grammar_machine.leave S alg (loose_kind.Property role.Get i) s) s' n e)
  shorter (symbols.Loose (loose_kind.Property role.Set i) d ∷ γ) γ' s s' n e = more γ γ' (shorter γ γ' (grammar_machine.leave S alg (loose_kind.Property role.Set i) s) s' n e)
  shorter (symbols.Loose q d ∷ γ) γ' s s' n e = more γ γ' (shorter γ γ' (grammar_machine.leave S alg q s) s' n e)
  shorter (symbols.Do w ∷ γ) γ' s s' n e = more γ γ' (shorter γ γ' (alg.act w s) s' n e)
