-- What is left alone at a token changes no step.
use Rattle.std.proofs.Common.{◌≡◌, Bool, true, false, not, ◌&&◌, cond, List, [], ◌∷◌, refl, ap, sym, ◌∙◌}
use Rattle.script_grammar.specs.declared.kinds.NameRole.TheVariants as role
use Rattle.script_grammar.specs.declared.kinds.Level.TheVariants as levels
use Rattle.script_grammar.specs.declared.sign.Sign.{Sign}
use Rattle.script_grammar.specs.declared.sign.Sign.TheVariants.{Inserted as put}
use Rattle.script_grammar.specs.declared.symbol.Tail.{Tail}
use Rattle.script_grammar.specs.declared.symbol.Tail.TheVariants as tails
use Rattle.script_grammar.specs.declared.symbol.Loose.{Loose}
use Rattle.script_grammar.specs.declared.symbol.Loose.TheVariants as loose_kind
use Rattle.script_grammar.specs.declared.symbol.Symbol.{Symbol}
use Rattle.script_grammar.specs.declared.symbol.Symbol.TheVariants as symbols
use Rattle.script_grammar.specs.Machine.{Outcome, Fail, Next, Algebra, takes, keeps}
use Rattle.script_grammar.specs.Machine as grammar_machine
use Rattle.script_parser.specs.Settling as settling

cond_no : {X : Type 0} (b : Bool) (x other : X) → not b ≡ true → cond b x other ≡ other
cond_no true x other h = absurd (cc (h))
cond_no false x other h = refl

cond_left : {X : Type 0} (b c : Bool) (x left other : X) → (not b && c) ≡ true → cond b x (cond c left other) ≡ left
cond_left true c x left other h = absurd (cc (h))
cond_left false true x left other h = refl
cond_left false false x left other h = absurd (cc (h))

-- a semicolon that is put in belongs to nothing that may go on
pub no_tail : (n : Tail) → takes n put ≡ false
no_tail tails.Left = refl
no_tail tails.Update = refl
no_tail (tails.Level levels.Or n) = refl
no_tail (tails.Level levels.And n) = refl
no_tail (tails.Level levels.Equal n) = refl
no_tail (tails.Level levels.Relation n) = refl
no_tail (tails.Level levels.Add n) = refl
no_tail (tails.Level levels.Multiply n) = refl
no_tail (tails.Short n) = refl
no_tail (tails.Conditional n) = refl
no_tail (tails.Assign n) = refl
no_tail (tails.Expression n) = refl

pub no_keep : (n : Loose) → keeps n put ≡ false
no_keep (loose_kind.Items h) = refl
no_keep (loose_kind.Else i) = refl
no_keep (loose_kind.Finally i) = refl
no_keep (loose_kind.Callee i) = refl
no_keep loose_kind.Target = refl
no_keep (loose_kind.Binding c h i) = refl
no_keep (loose_kind.Property role.Plain i) = refl
no_keep (loose_kind.Property role.Get i) = refl
no_keep (loose_kind.Property role.Set i) = refl

module _ (S : Type 0) (alg : Algebra S) where
  abbrev loose : Symbol → S → Sign → Bool
  loose z s x = settling.loose S alg z s x

  abbrev drops : Symbol → S → S
  drops z s = settling.drops S alg z s

  abbrev settled : List Symbol → S → Sign → List Symbol × S
  settled γ s x = settling.settled S alg γ s x

  abbrev step : List Symbol → S → Sign → Outcome S
  step γ s x = grammar_machine.step S alg γ s x

  pub loose_step : (z : Symbol) (γ : List Symbol) (s : S) (x : Sign) → loose z s x ≡ true → step (z ∷ γ) s x ≡ step γ (drops z s) x
  loose_step (symbols.Tail n d) γ s x h = cond_no (takes n x) (grammar_machine.continue S alg n d γ s x) (step γ s x) h
  loose_step (symbols.Loose n d) γ s x h = cond_left (keeps n x) (grammar_machine.may_leave S alg n s) (grammar_machine.go_on S alg n d γ s x) (step γ (grammar_machine.leave S alg n s) x) Fail h
  loose_step (symbols.Do f) γ s x h = refl
  loose_step (symbols.Part n d) γ s x h = absurd (cc (h))
  loose_step (symbols.Stage n d) γ s x h = absurd (cc (h))
  loose_step (symbols.Take n d) γ s x h = absurd (cc (h))

  second : (b c : Bool) → (not b && c) ≡ true → c ≡ true
  second true c h = absurd (cc (h))
  second false c h = h

  pub loose_put : (z : Symbol) (s : S) (x : Sign) → loose z s x ≡ true → loose z s put ≡ true
  loose_put (symbols.Tail n d) s x h = ap not (no_tail n)
  loose_put (symbols.Loose n d) s x h = ap (λ (b : Bool). not b && grammar_machine.may_leave S alg n s) (no_keep n) ∙ second (keeps n x) (grammar_machine.may_leave S alg n s) h
  loose_put (symbols.Do f) s x h = refl
  loose_put (symbols.Part n d) s x h = absurd (cc (h))
  loose_put (symbols.Stage n d) s x h = absurd (cc (h))
  loose_put (symbols.Take n d) s x h = absurd (cc (h))

  -- by cases on the test, with what it says
  pub settled_step : (γ : List Symbol) (s : S) (x : Sign) → step (settled γ s x).0 (settled γ s x).1 x ≡ step γ s x
  settled_step [] s x = refl
  settled_step (z ∷ γ) s x = go (settled_step γ (drops z s) x) (loose z s x) refl
    where
      go : step (settled γ (drops z s) x).0 (settled γ (drops z s) x).1 x ≡ step γ (drops z s) x → (b : Bool) → loose z s x ≡ b
          → step (cond b (settled γ (drops z s) x) (z ∷ γ, s)).0 (cond b (settled γ (drops z s) x) (z ∷ γ, s)).1 x ≡ step (z ∷ γ) s x
      go ih true h = ih ∙ sym (loose_step z γ s x h)
      go ih false h = refl

  pub settled_put : (γ : List Symbol) (s : S) (x : Sign) → step (settled γ s x).0 (settled γ s x).1 put ≡ step γ s put
  settled_put [] s x = refl
  settled_put (z ∷ γ) s x = go (settled_put γ (drops z s) x) (loose z s x) refl
    where
      go : step (settled γ (drops z s) x).0 (settled γ (drops z s) x).1 put ≡ step γ (drops z s) put → (b : Bool) → loose z s x ≡ b
          → step (cond b (settled γ (drops z s) x) (z ∷ γ, s)).0 (cond b (settled γ (drops z s) x) (z ∷ γ, s)).1 put ≡ step (z ∷ γ) s put
      go ih true h = ih ∙ sym (loose_step z γ s put (loose_put z s x h))
      go ih false h = refl
