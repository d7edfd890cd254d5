-- Each list of tokens has an answer.
use Rattle.std.proofs.Common.{suc, zero, ◌≡◌, ◌<◌, ◌≤◌, ℕ, Bool, true, false, Option, Some, None, List, [], ◌∷◌, ◌++◌, length, refl, arith, ◌⊎◌, inl, inr}
use Rattle.script_grammar.specs.declared.symbol.Symbol.{Symbol}
use Rattle.es_source.specs.declared.token.Token.{Token}
use Rattle.script_grammar.specs.declared.sign.Sign.TheVariants.{Token as of, Inserted as put}
use Rattle.script_grammar.specs.Kinds.{kind_of}
use Rattle.script_grammar.specs.Tree.{ParseTree}
use Rattle.script_grammar.specs.Grammar.{Read, Plain, Viable}
use Rattle.script_grammar.specs.Machine.{Outcome, Fail, Next}
use Rattle.script_grammar.specs.Trees.{trees, step, finish}
use Rattle.script_grammar.specs.Progress.{Reached, start, begun}
use Rattle.script_grammar.specs.Completed.{ParseAnswer, Script, Unexpected, TooDeep, given, semicolon, offends, ReadsAs}
use Rattle.script_grammar.specs.Completed.{ReadsAs as reads_as}
use Rattle.script_grammar.proofs.Shorter.{shorter}
use Rattle.script_grammar.proofs.Reached.{reached_start, reached_next, taken_next, refused, ends, ended}

abbrev Answered : List Read → ℕ → List Token → Type 0
Answered done i ts = (a : ParseAnswer) × ReadsAs done i ts a

within : (n : ℕ) → (n ≤ 200) ⊎ (200 < n)
within n = grind arith

none_some : (o : Option ParseTree) (s : ParseTree) → o ≡ None → o ≡ Some s → ⊥
none_some o s e f = cc

module _ (i : ℕ) (done : List Read) (γ : List Symbol) (vs : List ParseTree) (st : Reached done γ vs) where
  at_put : (t : Token) (ts : List Token) → ((m : ℕ) → Viable (done ++ (given t i m ∷ [])) → ⊥) → offends t ≡ true → ((γ' : List Symbol) (vs' : List ParseTree) (m : ℕ) → step γ vs put ≡ Next γ' vs' m → Answered (done ++ (semicolon m ∷ [])) i (t ∷ ts)) → (o : Outcome (List ParseTree)) → step γ vs put ≡ o → Answered done i (t ∷ ts)
  at_put t ts non f again Fail e = (Unexpected i, reads_as.fault (λ w. non w.0 w.1) (λ _ w. refused st put e w.0 w.1))
  at_put t ts non f again (Next γ' vs' m) e = let w = again γ' vs' m e in (w.0, reads_as.insert m (λ w. non w.0 w.1) f (taken_next st put γ' vs' m e) w.1)

  at_refused : (t : Token) (ts : List Token) → ((m : ℕ) → Viable (done ++ (given t i m ∷ [])) → ⊥) → ((γ' : List Symbol) (vs' : List ParseTree) (m : ℕ) → step γ vs put ≡ Next γ' vs' m → Answered (done ++ (semicolon m ∷ [])) i (t ∷ ts)) → (b : Bool) → offends t ≡ b → Answered done i (t ∷ ts)
  at_refused t ts non again true f = at_put t ts non f again (step γ vs put) refl
  at_refused t ts non again false f = (Unexpected i, reads_as.fault (λ w. non w.0 w.1) (λ p. absurd (cc (p, f))))

  at_token : (t : Token) (ts : List Token) → ((done' : List Read) (γ' : List Symbol) (vs' : List ParseTree) → Reached done' γ' vs' → Answered done' (suc i) ts) → ((γ' : List Symbol) (vs' : List ParseTree) (m : ℕ) → step γ vs put ≡ Next γ' vs' m → Answered (done ++ (semicolon m ∷ [])) i (t ∷ ts)) → (o : Outcome (List ParseTree)) → step γ vs (of (kind_of t.kind) i t.after_break) ≡ o → Answered done i (t ∷ ts)
  at_token t ts next again Fail e = at_refused t ts (λ n v. refused st (of (kind_of t.kind) i t.after_break) e n v) again (offends t) refl
  at_token t ts next again (Next γ' vs' m) e =
      elim (within m) [
        | inl l ↦ (let w = next (done ++ (given t i m ∷ [])) γ' vs' (reached_next st (of (kind_of t.kind) i t.after_break) γ' vs' m e) in (w.0, reads_as.next m (taken_next st (of (kind_of t.kind) i t.after_break) γ' vs' m e) l w.1))
        | inr l ↦ (TooDeep i, reads_as.deep m (taken_next st (of (kind_of t.kind) i t.after_break) γ' vs' m e) l)
      ]

  end_put : ((s : ParseTree) → Plain done s → ⊥) → ((γ' : List Symbol) (vs' : List ParseTree) (m : ℕ) → step γ vs put ≡ Next γ' vs' m → Answered (done ++ (semicolon m ∷ [])) i []) → (o : Outcome (List ParseTree)) → step γ vs put ≡ o → Answered done i []
  end_put non again Fail e = (Unexpected i, reads_as.cut (λ w. non w.0 w.1) (λ w. refused st put e w.0 w.1))
  end_put non again (Next γ' vs' m) e = let w = again γ' vs' m e in (w.0, reads_as.end m (λ w. non w.0 w.1) (taken_next st put γ' vs' m e) w.1)

  at_end : ((γ' : List Symbol) (vs' : List ParseTree) (m : ℕ) → step γ vs put ≡ Next γ' vs' m → Answered (done ++ (semicolon m ∷ [])) i []) → (o : Option ParseTree) → finish γ vs ≡ o → Answered done i []
  at_end again (Some s) e = (Script done s, reads_as.whole (ended st s e))
  at_end again None e = end_put (λ s p. none_some (finish γ vs) s e (ends st s p)) again (step γ vs put) refl

less : (a b n : ℕ) → a < b → b < suc n → a < n
less a b n h k = omega arith

token_total : (n : ℕ) (t : Token) (ts : List Token) (i : ℕ) → ((done' : List Read) (γ' : List Symbol) (vs' : List ParseTree) → Reached done' γ' vs' → Answered done' (suc i) ts) → (done : List Read) (γ : List Symbol) (vs : List ParseTree) → length γ < n → Reached done γ vs → Answered done i (t ∷ ts)
token_total zero t ts i next done γ vs l st = absurd (omega arith)
token_total (suc n) t ts i next done γ vs l st =
    at_token i done γ vs st t ts next
    (λ γ' vs' m e. token_total n t ts i next (done ++ (semicolon m ∷ [])) γ' vs' (less (length γ') (length γ) n (shorter (List ParseTree) trees γ γ' vs vs' m e) l) (reached_next st put γ' vs' m e))
    (step γ vs (of (kind_of t.kind) i t.after_break)) refl

end_total : (n i : ℕ) (done : List Read) (γ : List Symbol) (vs : List ParseTree) → length γ < n → Reached done γ vs → Answered done i []
end_total zero i done γ vs l st = absurd (omega arith)
end_total (suc n) i done γ vs l st =
    at_end i done γ vs st
    (λ γ' vs' m e. end_total n i (done ++ (semicolon m ∷ [])) γ' vs' (less (length γ') (length γ) n (shorter (List ParseTree) trees γ γ' vs vs' m e) l) (reached_next st put γ' vs' m e))
    (finish γ vs) refl

total : (ts : List Token) (i : ℕ) (done : List Read) (γ : List Symbol) (vs : List ParseTree) → Reached done γ vs → Answered done i ts
total [] i done γ vs st = end_total (suc (length γ)) i done γ vs (omega arith) st
total (t ∷ ts) i done γ vs st = token_total (suc (length γ)) t ts i (λ done' γ' vs' st'. total ts (suc i) done' γ' vs' st') done γ vs (omega arith) st

pub some_answer : (ts : List Token) → (a : ParseAnswer) × ReadsAs [] 0 ts a
some_answer ts = total ts 0 [] start begun reached_start
