-- What the parser's steps on a token say of the grammar.
use Rattle.std.proofs.Common.{◌≡◌, ◌<◌, ◌≤◌, ℕ, true, false, List, [], ◌∷◌, ◌++◌, length, refl, subst, ap, sym, ◌∙◌, Option, Some, None, Result, Ok, Err, IfOk}
use Rattle.es_source.specs.declared.token.Token.{Token}
use Rattle.property_keys.specs.declared.faults.NoMemory.{NoMemory}
use Rattle.script_grammar.specs.declared.kinds.Kind.{Kind}
use Rattle.script_grammar.specs.declared.sign.Sign.{Sign}
use Rattle.script_grammar.specs.declared.sign.Sign.TheVariants.{Token as of, Inserted as put}
use Rattle.script_grammar.specs.declared.symbol.Symbol.{Symbol}
use Rattle.script_grammar.specs.Kinds.{kind_of}
use Rattle.script_grammar.specs.Tree.{ParseTree}
use Rattle.script_grammar.specs.Grammar.{Read, read, Viable}
use Rattle.script_grammar.specs.Machine.{Outcome, Fail, Next}
use Rattle.script_grammar.specs.Machine as grammar_machine
use Rattle.script_grammar.specs.Trees.{trees}
use Rattle.script_grammar.specs.Trees as tree
use Rattle.script_grammar.specs.Completed.{Unexpected, TooDeep, ReadsAs, Follows, TakesSemicolon, offends, semicolon, given}
use Rattle.script_grammar.specs.Completed.{ReadsAs as reads_as}
use Rattle.script_grammar.proofs.Reached.{reached_next, taken_next, refused}
use Rattle.script_grammar.proofs.Shorter.{shorter}
use Rattle.script_parser.specs.declared.parser.Parser.{Parser}
use Rattle.script_parser.specs.Settling.{settled}
use Rattle.script_parser.specs.State.{State, numbers, stack, state}
use Rattle.script_parser.specs.Progress.{step, Stood, Standing, Settled, Shifted, Tried, Onward, Around}
use Rattle.script_parser.proofs.Alike.{Like, step_like}
use Rattle.script_parser.proofs.Arena.{acts_stand, targets_stand, plains_stand}
use Rattle.script_parser.proofs.Settle.{settled_step, settled_put}

numbers_like : (γ : List Symbol) (s : State) (vs : List ParseTree) (x : Sign) → Stood s vs → Like Stood (grammar_machine.step State numbers γ s x) (tree.step γ vs x)
numbers_like γ s vs x h = step_like State (List ParseTree) numbers trees Stood acts_stand targets_stand plains_stand γ s vs x h

like_next : (γ : List Symbol) (s : State) (n : ℕ) (o : Outcome State) (u : Outcome (List ParseTree)) → Like Stood o u → o ≡ Next γ s n → (vs : List ParseTree) × (u ≡ Next γ vs n) × Stood s vs
like_next γ s n (Next δ q l) (Next ε vs k) h e =
    let f : γ ≡ ε = same h.0 e in let g : n ≡ k = numbered h.1 e in
    (vs, rows (sym f) (sym g), subst (λ (w : State). Stood w vs) (state_same e) h.2)
  where
    same : δ ≡ ε → Next δ q l ≡ Next γ s n → γ ≡ ε
    same a b = cc

    numbered : l ≡ k → Next δ q l ≡ Next γ s n → n ≡ k
    numbered a b = cc

    state_same : Next δ q l ≡ Next γ s n → q ≡ s
    state_same b = cc

    rows : ε ≡ γ → k ≡ n → Next ε vs k ≡ Next γ vs n
    rows a b = cc
like_next γ s n Fail u h e = absurd (cc (e))
like_next γ s n (Next δ q l) Fail h e = absurd h

like_fail : (o : Outcome State) (u : Outcome (List ParseTree)) → Like Stood o u → o ≡ Fail → u ≡ Fail
like_fail Fail Fail h e = refl
like_fail Fail (Next δ q l) h e = absurd h
like_fail (Next δ q l) u h e = absurd (cc (e))

pub taken_on : (done : List Read) (old new : Parser) (x : Sign) (n : ℕ) → Standing done old → step old x ≡ Next (stack new) (state new) n → Standing (done ++ (read x n ∷ [])) new × Viable (done ++ (read x n ∷ []))
taken_on done old new x n st e =
    let w = like_next (stack new) (state new) n (step old x) (tree.step (stack old) st.0 x) (numbers_like (stack old) (state old) st.0 x st.2) e in
    ((w.0, reached_next st.1 x (stack new) w.0 n w.1, w.2), taken_next st.1 x (stack new) w.0 n w.1)

pub not_viable : (done : List Read) (old : Parser) (x : Sign) → Standing done old → step old x ≡ Fail → (n : ℕ) → Viable (done ++ (read x n ∷ [])) → ⊥
not_viable done old x st e n v = refused st.1 x (like_fail (step old x) (tree.step (stack old) st.0 x) (numbers_like (stack old) (state old) st.0 x st.2) e) n v

-- no script goes on with the token
none_follow : (done : List Read) (old : Parser) (i : ℕ) (t : Token) → Standing done old → step old (of (kind_of t.kind) i t.after_break) ≡ Fail → Follows done t i → ⊥
none_follow done old i t st e p = not_viable done old (of (kind_of t.kind) i t.after_break) st e p.0 p.1

no_semicolon : (done : List Read) (old : Parser) → Standing done old → step old put ≡ Fail → TakesSemicolon done → ⊥
no_semicolon done old st e p = not_viable done old put st e p.0 p.1

settled_at : (γ γ' : List Symbol) (s s' : State) (x : Sign) → (γ', s') ≡ settled State numbers γ s x → grammar_machine.step State numbers γ' s' x ≡ grammar_machine.step State numbers γ s x
settled_at γ γ' s s' x e = ap (λ (w : List Symbol × State). grammar_machine.step State numbers w.0 w.1 x) e ∙ settled_step State numbers γ s x

put_at : (γ γ' : List Symbol) (s s' : State) (x : Sign) → (γ', s') ≡ settled State numbers γ s x → grammar_machine.step State numbers γ' s' put ≡ grammar_machine.step State numbers γ s put
put_at γ γ' s s' x e = ap (λ (w : List Symbol × State). grammar_machine.step State numbers w.0 w.1 put) e ∙ settled_put State numbers γ s x

pub tried : (old mid new : Parser) (x : Sign) (o : Option ℕ) → Settled old mid x → Shifted mid new x o → Tried old new x o
tried old mid new x (Some n) s h = sym (settled_at (stack old) (stack mid) (state old) (state mid) x s) ∙ h
tried old mid new x None s h = (
  sym (settled_at (stack old) (stack mid) (state old) (state mid) x s) ∙ h.0,
  same h.1.0 h.1.1 ∙ put_at (stack old) (stack mid) (state old) (state mid) x s,
)
  where
    same : stack new ≡ stack mid → state new ≡ state mid → step new put ≡ step mid put
    same a b = cc

pub tried_if : (old mid new : Parser) (x : Sign) (q : Result (Option ℕ) NoMemory) → Settled old mid x → IfOk q (λ n. Shifted mid new x n) → IfOk q (λ n. Tried old new x n)
tried_if old mid new x (Ok n) s h = tried old mid new x n s h
tried_if old mid new x (Err e) s h = tt

pub around_itself : (p : Parser) (i : ℕ) (t : Token) → Around p p i t
around_itself p i t done st = (done, st, λ ts a h. h)

pub read_deep : (start now new : Parser) (i : ℕ) (t : Token) (n : ℕ) → Around start now i t → Tried now new (of (kind_of t.kind) i t.after_break) (Some n) → 200 < n
    → (done : List Read) → Standing done start → (ts : List Token) → ReadsAs done i (t ∷ ts) (TooDeep i)
read_deep start now new i t n around e l done st ts =
    let w = around done st in w.2 ts (TooDeep i) (reads_as.deep n (taken_on w.0 now new (of (kind_of t.kind) i t.after_break) n w.1 e).1 l)

pub read_taken : (start now new : Parser) (i : ℕ) (t : Token) (n : ℕ) → Around start now i t → Tried now new (of (kind_of t.kind) i t.after_break) (Some n) → n ≤ 200
    → (done : List Read) → Standing done start → Onward done new i t
read_taken start now new i t n around e l done st =
    let w = around done st in
    let v = taken_on w.0 now new (of (kind_of t.kind) i t.after_break) n w.1 e in
    (w.0 ++ (given t i n ∷ []), v.0, λ ts a h. w.2 ts a (reads_as.next n v.1 l h))

pub read_refused : (start now new : Parser) (i : ℕ) (t : Token) → Around start now i t → Tried now new (of (kind_of t.kind) i t.after_break) None → offends t ≡ false
    → (done : List Read) → Standing done start → (ts : List Token) → ReadsAs done i (t ∷ ts) (Unexpected i)
read_refused start now new i t around e o done st ts =
    let w = around done st in
    w.2 ts (Unexpected i) (reads_as.fault (none_follow w.0 now i t w.1 e.0) (λ p. absurd (cc (o, p))))

pub read_stuck : (start now mid new : Parser) (i : ℕ) (t : Token) → Around start now i t → Tried now mid (of (kind_of t.kind) i t.after_break) None → Tried mid new put None
    → (done : List Read) → Standing done start → (ts : List Token) → ReadsAs done i (t ∷ ts) (Unexpected i)
read_stuck start now mid new i t around e f done st ts =
    let w = around done st in
    w.2 ts (Unexpected i) (reads_as.fault (none_follow w.0 now i t w.1 e.0) (λ _. no_semicolon w.0 now w.1 (sym e.1 ∙ f.0)))

pub read_around : (start now mid new : Parser) (i : ℕ) (t : Token) (n : ℕ) → Around start now i t → Tried now mid (of (kind_of t.kind) i t.after_break) None → Tried mid new put (Some n)
    → offends t ≡ true → Around start new i t
read_around start now mid new i t n around e f o done st =
    let w = around done st in
    let v = taken_on w.0 now new put n w.1 (sym e.1 ∙ f) in
    (w.0 ++ (semicolon n ∷ []), v.0, λ ts a h. w.2 ts a (reads_as.insert n (none_follow w.0 now i t w.1 e.0) o v.1 h))

pub read_smaller : (now mid new : Parser) (x : Sign) (n : ℕ) → Tried now mid x None → Tried mid new put (Some n) → length (stack new) < length (stack now)
read_smaller now mid new x n e f = shorter State numbers (stack now) (stack new) (state now) (state new) n (sym e.1 ∙ f)

pub tried_at : (old new : Parser) (x : Sign) (o v : Option ℕ) → o ≡ v → Tried old new x o → Tried old new x v
tried_at old new x o v e h = subst (λ (o : Option ℕ). Tried old new x o) e h

-- the same of the token itself
pub tried_token : (old new : Parser) (i : ℕ) (t : Token) (kind : Kind) (o v : Option ℕ) → kind ≡ kind_of t.kind → o ≡ v → Tried old new (of kind i t.after_break) o → Tried old new (of (kind_of t.kind) i t.after_break) v
tried_token old new i t kind o v k e h = tried_at old new (of (kind_of t.kind) i t.after_break) o v e (subst (λ (q : Kind). Tried old new (of q i t.after_break) o) k h)
