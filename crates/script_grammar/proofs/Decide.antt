-- The answer of tokens, computed by the machine.
use Rattle.std.proofs.Common.{suc, zero, ◌≡◌, ◌≤◌, ◌<◌, ℕ, Bool, true, false, cond, Option, Some, None, Result, Ok, Err, List, [], ◌∷◌, ◌++◌, refl, subst, arith, nat_le}
use Rattle.std.proofs.lemmas.Bool.Decides.{nat_tests}
use Rattle.es_source.specs.declared.token.Token.{Token}
use Rattle.es_source.specs.declared.faults.FaultCode.{FaultCode}
use Rattle.es_source.specs.declared.faults.SourceFault.{SourceFault}
use Rattle.es_source.specs.Reading.{Reading, reading_of_characters, fault_at}
use Rattle.script_grammar.specs.declared.symbol.Symbol.{Symbol}
use Rattle.script_grammar.specs.declared.sign.Sign.TheVariants.{Token as of, Inserted as put}
use Rattle.script_grammar.specs.Kinds.{kind_of}
use Rattle.script_grammar.specs.Tree.{ParseTree}
use Rattle.script_grammar.specs.Grammar.{Read, Plain, Viable}
use Rattle.script_grammar.specs.Machine.{Outcome, Fail, Next}
use Rattle.script_grammar.specs.Trees.{step, finish}
use Rattle.script_grammar.specs.Progress.{Reached, start, begun}
use Rattle.script_grammar.specs.Completed.{ParseAnswer, Script, Unexpected, TooDeep, given, semicolon, offends, ReadsAs, Derives, HasGrammarFault, fault_of}
use Rattle.script_grammar.specs.Completed.{ReadsAs as reads_as}
use Rattle.script_grammar.specs.Samples.{Accepts, FaultAt}
use Rattle.script_grammar.proofs.Reached.{reached_start, reached_next, taken_next, refused, ends, ended}

abbrev on_step : Outcome (List ParseTree) → (List Symbol → List ParseTree → ℕ → Option ParseAnswer) → Option ParseAnswer → Option ParseAnswer
on_step Fail next other = other
on_step (Next γ vs m) next other = next γ vs m

abbrev on_end : Option ParseTree → List Read → Option ParseAnswer → Option ParseAnswer
on_end (Some s) done other = Some (Script done s)
on_end None done other = other

-- The answer within so many steps.
abbrev pub decide : ℕ → List Read → List Symbol → List ParseTree → ℕ → List Token → Option ParseAnswer
decide zero done γ vs i ts = None
decide (suc n) done γ vs i [] =
    on_end (finish γ vs) done (on_step (step γ vs put) (λ γ' vs' m. decide n (done ++ (semicolon m ∷ [])) γ' vs' i []) (Some (Unexpected i)))
decide (suc n) done γ vs i (t ∷ ts) =
    on_step (step γ vs (of (kind_of t.kind) i t.after_break))
    (λ γ' vs' m. cond (nat_le m 200) (decide n (done ++ (given t i m ∷ [])) γ' vs' (suc i) ts) (Some (TooDeep i)))
    (cond (offends t) (on_step (step γ vs put) (λ γ' vs' m. decide n (done ++ (semicolon m ∷ [])) γ' vs' i (t ∷ ts)) (Some (Unexpected i))) (Some (Unexpected i)))

abbrev Right : List Read → ℕ → List Token → Option ParseAnswer → Type 0
Right done i ts (Some a) = ReadsAs done i ts a
Right done i ts None = Unit {0}

by_right : {done done' : List Read} {i j : ℕ} {ts us : List Token} (o : Option ParseAnswer) → ((a : ParseAnswer) → ReadsAs done' j us a → ReadsAs done i ts a) → Right done' j us o → Right done i ts o
by_right (Some a) f h = f a h
by_right None f h = tt

at_most : (m : ℕ) → nat_le m 200 ≡ true → m ≤ 200
at_most m e = grind (arith, nat_tests)

above : (m : ℕ) → nat_le m 200 ≡ false → 200 < m
above m e = grind (arith, nat_tests)

none_some : (o : Option ParseTree) (s : ParseTree) → o ≡ None → o ≡ Some s → ⊥
none_some o s e f = cc

-- each case, where the steps that are left are right
module _ (i : ℕ) (done : List Read) (γ : List Symbol) (vs : List ParseTree) (st : Reached done γ vs) where
  at_put : ((s : ParseTree) → Plain done s → ⊥) → (next : List Symbol → List ParseTree → ℕ → Option ParseAnswer) → ((γ' : List Symbol) (vs' : List ParseTree) (m : ℕ) → Reached (done ++ (semicolon m ∷ [])) γ' vs' → Right (done ++ (semicolon m ∷ [])) i [] (next γ' vs' m)) → (o : Outcome (List ParseTree)) → step γ vs put ≡ o → Right done i [] (on_step o next (Some (Unexpected i)))
  at_put non next f Fail e = reads_as.cut (λ w. non w.0 w.1) (λ w. refused st put e w.0 w.1)
  at_put non next f (Next γ' vs' m) e = by_right (next γ' vs' m) (λ a h. reads_as.end m (λ w. non w.0 w.1) (taken_next st put γ' vs' m e) h) (f γ' vs' m (reached_next st put γ' vs' m e))

  at_end : (next : List Symbol → List ParseTree → ℕ → Option ParseAnswer) → ((γ' : List Symbol) (vs' : List ParseTree) (m : ℕ) → Reached (done ++ (semicolon m ∷ [])) γ' vs' → Right (done ++ (semicolon m ∷ [])) i [] (next γ' vs' m)) → (o : Option ParseTree) → finish γ vs ≡ o → Right done i [] (on_end o done (on_step (step γ vs put) next (Some (Unexpected i))))
  at_end next f (Some s) e = reads_as.whole (ended st s e)
  at_end next f None e = at_put (λ s p. none_some (finish γ vs) s e (ends st s p)) next f (step γ vs put) refl

  module _ (t : Token) (ts : List Token) where
    at_break : ((m : ℕ) → Viable (done ++ (given t i m ∷ [])) → ⊥) → (next : List Symbol → List ParseTree → ℕ → Option ParseAnswer) → ((γ' : List Symbol) (vs' : List ParseTree) (m : ℕ) → Reached (done ++ (semicolon m ∷ [])) γ' vs' → Right (done ++ (semicolon m ∷ [])) i (t ∷ ts) (next γ' vs' m)) → offends t ≡ true → (o : Outcome (List ParseTree)) → step γ vs put ≡ o → Right done i (t ∷ ts) (on_step o next (Some (Unexpected i)))
    at_break non next f b Fail e = reads_as.fault (λ w. non w.0 w.1) (λ _ w. refused st put e w.0 w.1)
    at_break non next f b (Next γ' vs' m) e = by_right (next γ' vs' m) (λ a h. reads_as.insert m (λ w. non w.0 w.1) b (taken_next st put γ' vs' m e) h) (f γ' vs' m (reached_next st put γ' vs' m e))

    at_refused : ((m : ℕ) → Viable (done ++ (given t i m ∷ [])) → ⊥) → (next : List Symbol → List ParseTree → ℕ → Option ParseAnswer) → ((γ' : List Symbol) (vs' : List ParseTree) (m : ℕ) → Reached (done ++ (semicolon m ∷ [])) γ' vs' → Right (done ++ (semicolon m ∷ [])) i (t ∷ ts) (next γ' vs' m)) → (b : Bool) → offends t ≡ b → Right done i (t ∷ ts) (cond b (on_step (step γ vs put) next (Some (Unexpected i))) (Some (Unexpected i)))
    at_refused non next f true b = at_break non next f b (step γ vs put) refl
    at_refused non next f false b = reads_as.fault (λ w. non w.0 w.1) (λ p. absurd (cc (p, b)))

    at_nesting : (γ' : List Symbol) (vs' : List ParseTree) (m : ℕ) → step γ vs (of (kind_of t.kind) i t.after_break) ≡ Next γ' vs' m → (o : Option ParseAnswer) → Right (done ++ (given t i m ∷ [])) (suc i) ts o → (b : Bool) → nat_le m 200 ≡ b → Right done i (t ∷ ts) (cond b o (Some (TooDeep i)))
    at_nesting γ' vs' m e o h true b = by_right o (λ a w. reads_as.next m (taken_next st (of (kind_of t.kind) i t.after_break) γ' vs' m e) (at_most m b) w) h
    at_nesting γ' vs' m e o h false b = reads_as.deep m (taken_next st (of (kind_of t.kind) i t.after_break) γ' vs' m e) (above m b)

    at_token : (later : List Symbol → List ParseTree → ℕ → Option ParseAnswer) → ((γ' : List Symbol) (vs' : List ParseTree) (m : ℕ) → Reached (done ++ (given t i m ∷ [])) γ' vs' → Right (done ++ (given t i m ∷ [])) (suc i) ts (later γ' vs' m)) → (next : List Symbol → List ParseTree → ℕ → Option ParseAnswer) → ((γ' : List Symbol) (vs' : List ParseTree) (m : ℕ) → Reached (done ++ (semicolon m ∷ [])) γ' vs' → Right (done ++ (semicolon m ∷ [])) i (t ∷ ts) (next γ' vs' m)) → (o : Outcome (List ParseTree)) → step γ vs (of (kind_of t.kind) i t.after_break) ≡ o → Right done i (t ∷ ts) (on_step o (λ γ' vs' m. cond (nat_le m 200) (later γ' vs' m) (Some (TooDeep i))) (cond (offends t) (on_step (step γ vs put) next (Some (Unexpected i))) (Some (Unexpected i))))
    at_token later g next f Fail e = at_refused (λ n v. refused st (of (kind_of t.kind) i t.after_break) e n v) next f (offends t) refl
    at_token later g next f (Next γ' vs' m) e = at_nesting γ' vs' m e (later γ' vs' m) (g γ' vs' m (reached_next st (of (kind_of t.kind) i t.after_break) γ' vs' m e)) (nat_le m 200) refl

pub decided : (n : ℕ) (done : List Read) (γ : List Symbol) (vs : List ParseTree) (i : ℕ) (ts : List Token) → Reached done γ vs → Right done i ts (decide n done γ vs i ts)
decided zero done γ vs i ts st = tt
decided (suc n) done γ vs i [] st =
    at_end i done γ vs st (λ γ' vs' m. decide n (done ++ (semicolon m ∷ [])) γ' vs' i [])
    (λ γ' vs' m st'. decided n (done ++ (semicolon m ∷ [])) γ' vs' i [] st') (finish γ vs) refl
decided (suc n) done γ vs i (t ∷ ts) st =
    at_token i done γ vs st t ts (λ γ' vs' m. decide n (done ++ (given t i m ∷ [])) γ' vs' (suc i) ts)
    (λ γ' vs' m st'. decided n (done ++ (given t i m ∷ [])) γ' vs' (suc i) ts st')
    (λ γ' vs' m. decide n (done ++ (semicolon m ∷ [])) γ' vs' i (t ∷ ts))
    (λ γ' vs' m st'. decided n (done ++ (semicolon m ∷ [])) γ' vs' i (t ∷ ts) st')
    (step γ vs (of (kind_of t.kind) i t.after_break)) refl

-- Enough for a small source.
abbrev pub answer : List Token → Option ParseAnswer
answer ts = decide 1000 [] start begun 0 ts

abbrev tree_of : Option ParseAnswer → Option ParseTree
tree_of (Some (Script full x)) = Some x
tree_of _ = None

abbrev pub tree_from : Result Reading SourceFault → Option ParseTree
tree_from (Ok all) = tree_of (answer all.tokens)
tree_from (Err fault) = None

abbrev fault_by : Reading → Option ParseAnswer → Option SourceFault
fault_by all (Some a) = fault_of all a
fault_by all None = None

abbrev pub fault_from : Result Reading SourceFault → Option SourceFault
fault_from (Ok all) = fault_by all (answer all.tokens)
fault_from (Err fault) = None

same : (y x : ParseTree) → Some y ≡ Some x → y ≡ x
same y x e = cc

moved : (ts : List Token) (full : List Read) (y x : ParseTree) → y ≡ x → ReadsAs [] 0 ts (Script full y) → ReadsAs [] 0 ts (Script full x)
moved ts full y x e h = subst (λ (x : ParseTree). ReadsAs [] 0 ts (Script full x)) e h

derived : (ts : List Token) (o : Option ParseAnswer) (x : ParseTree) → Right [] 0 ts o → tree_of o ≡ Some x → Derives ts x
derived ts (Some (Script full y)) x h e = (full, moved ts full y x (same y x e) h)
derived ts (Some (Unexpected i)) x h e = absurd (cc (e))
derived ts (Some (TooDeep i)) x h e = absurd (cc (e))
derived ts None x h e = absurd (cc (e))

pub accepts : {source : List ℕ} {x : ParseTree} → tree_from (reading_of_characters source) ≡ Some x → Accepts source x
accepts {source = source} {x = x} e = go (reading_of_characters source) refl e
  where
    go : (o : Result Reading SourceFault) → reading_of_characters source ≡ o → tree_from o ≡ Some x → Accepts source x
    go (Ok all) s e = record { reading = all; is_read = s; derives = derived all.tokens (answer all.tokens) x (decided 1000 [] start begun 0 all.tokens reached_start) e }
    go (Err fault) s e = absurd (cc (e))

faulty : (all : Reading) (o : Option ParseAnswer) (f : SourceFault) → Right [] 0 all.tokens o → fault_by all o ≡ Some f → HasGrammarFault all (Some f)
faulty all (Some a) f h e = (a, h, e)
faulty all None f h e = absurd (cc (e))

pub fault_stands : {source : List ℕ} {code : FaultCode} {line column : ℕ} → fault_from (reading_of_characters source) ≡ Some (fault_at code (record { line = line; column = column })) → FaultAt source code line column
fault_stands {source = source} {code = code} {line = line} {column = column} e = go (reading_of_characters source) refl e
  where
    go : (o : Result Reading SourceFault) → reading_of_characters source ≡ o → fault_from o ≡ Some (fault_at code (record { line = line; column = column })) → FaultAt source code line column
    go (Ok all) s e = record { reading = all; is_read = s; has_fault = faulty all (answer all.tokens) (fault_at code (record { line = line; column = column })) (decided 1000 [] start begun 0 all.tokens reached_start) e }
    go (Err fault) s e = absurd (cc (e))
