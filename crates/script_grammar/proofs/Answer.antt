-- One list of tokens has one answer.
use Rattle.std.proofs.Common.{suc, ◌≡◌, ◌≤◌, ◌<◌, ℕ, List, [], ◌∷◌, ◌++◌, refl, subst, ap, sym, arith}
use Rattle.script_grammar.specs.declared.sign.Sign.{Sign}
use Rattle.script_grammar.specs.declared.sign.Sign.TheVariants.{Token as of, Inserted as put}
use Rattle.es_source.specs.declared.token.Token.{Token}
use Rattle.script_grammar.specs.Kinds.{kind_of}
use Rattle.script_grammar.specs.Grammar.{Read, read, Plain}
use Rattle.script_grammar.specs.Completed.{ParseAnswer, Script, ReadsAs}
use Rattle.script_grammar.specs.Completed.{ReadsAs as reads_as}
use Rattle.script_grammar.proofs.Reached.{one_script, one_nesting}

along : (done : List Read) (x : Sign) (n m : ℕ) (i : ℕ) (ts : List Token) (a : ParseAnswer) → n ≡ m → ReadsAs (done ++ (read x m ∷ [])) i ts a → ReadsAs (done ++ (read x n ∷ [])) i ts a
along done x n m i ts a e h = subst (λ (n : ℕ). ReadsAs (done ++ (read x n ∷ [])) i ts a) (sym e) h

not_both : (n m : ℕ) (A : Type 0) → n ≡ m → n ≤ 200 → 200 < m → A
not_both n m A e l g = absurd (omega arith)

pub one_answer : {done : List Read} {i : ℕ} {ts : List Token} {a b : ParseAnswer} → ReadsAs done i ts a → ReadsAs done i ts b → a ≡ b
one_answer (reads_as.whole {done = done} {x = s} p) (reads_as.whole {x = s'} q) = ap (Script done) (one_script done s s' p q)
one_answer (reads_as.whole p) (reads_as.end n non v q) = absurd (non (_, p))
one_answer (reads_as.whole p) (reads_as.cut non q) = absurd (non (_, p))
one_answer (reads_as.end n non v p) (reads_as.whole q) = absurd (non (_, q))
one_answer (reads_as.end {done = done} {i = i} n non v p) (reads_as.end {a = b} m non' w q) = one_answer p (along done put n m i [] b (one_nesting done put n m v w) q)
one_answer (reads_as.end n non v p) (reads_as.cut non' q) = absurd (q (n, v))
one_answer (reads_as.cut non p) (reads_as.whole q) = absurd (non (_, q))
one_answer (reads_as.cut non p) (reads_as.end m non' w q) = absurd (p (m, w))
one_answer (reads_as.cut non p) (reads_as.cut non' q) = refl
one_answer (reads_as.next {done = done} {i = i} {t = t} {ts = ts} n v l p) (reads_as.next {a = b} m w k q) = one_answer p (along done (of (kind_of t.kind) i t.after_break) n m (suc i) ts b (one_nesting done (of (kind_of t.kind) i t.after_break) n m v w) q)
one_answer (reads_as.next {done = done} {i = i} {t = t} n v l p) (reads_as.deep m w k) = not_both n m _ (one_nesting done (of (kind_of t.kind) i t.after_break) n m v w) l k
one_answer (reads_as.next n v l p) (reads_as.insert m non o w q) = absurd (non (n, v))
one_answer (reads_as.next n v l p) (reads_as.fault non o) = absurd (non (n, v))
one_answer (reads_as.deep {done = done} {i = i} {t = t} n v l) (reads_as.next m w k q) = not_both m n _ (one_nesting done (of (kind_of t.kind) i t.after_break) m n w v) k l
one_answer (reads_as.deep n v l) (reads_as.deep m w k) = refl
one_answer (reads_as.deep n v l) (reads_as.insert m non o w q) = absurd (non (n, v))
one_answer (reads_as.deep n v l) (reads_as.fault non o) = absurd (non (n, v))
one_answer (reads_as.insert n non o v p) (reads_as.next m w k q) = absurd (non (m, w))
one_answer (reads_as.insert n non o v p) (reads_as.deep m w k) = absurd (non (m, w))
one_answer (reads_as.insert {done = done} {i = i} {t = t} {ts = ts} n non o v p) (reads_as.insert {a = b} m non' o' w q) = one_answer p (along done put n m i (t ∷ ts) b (one_nesting done put n m v w) q)
one_answer (reads_as.insert n non o v p) (reads_as.fault non' w) = absurd (w o (n, v))
one_answer (reads_as.fault non w) (reads_as.next m u k q) = absurd (non (m, u))
one_answer (reads_as.fault non w) (reads_as.deep m u k) = absurd (non (m, u))
one_answer (reads_as.fault non w) (reads_as.insert m non' o v q) = absurd (w o (m, v))
one_answer (reads_as.fault non w) (reads_as.fault non' w') = refl

abbrev HasScript : ParseAnswer → Type 0
HasScript (Script full s) = Plain full s
HasScript _ = Unit {0}

-- The completed list has the script.
pub completed_plain : {done : List Read} {i : ℕ} {ts : List Token} {a : ParseAnswer} → ReadsAs done i ts a → HasScript a
completed_plain (reads_as.whole p) = p
completed_plain (reads_as.end n non v p) = completed_plain p
completed_plain (reads_as.cut non q) = tt
completed_plain (reads_as.next n v l p) = completed_plain p
completed_plain (reads_as.deep n v l) = tt
completed_plain (reads_as.insert n non o v p) = completed_plain p
completed_plain (reads_as.fault non w) = tt
