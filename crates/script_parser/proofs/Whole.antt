-- The whole of `parse`.
use Rattle.std.proofs.Common.{suc, zero, ◌+◌, ◌≡◌, ◌≤◌, ℕ, List, [], ◌∷◌, ◌++◌, length, drop, take, map, reverse, slice_get, refl, subst, ap, sym, ◌∙◌, Option, Some, None, Ok, Err, add-one, arith, length-append}
use Rattle.std.proofs.lemmas.List.{length-reverse}
use Rattle.es_source.specs.declared.faults.FaultCode.TheVariants as code
use Rattle.es_source.specs.declared.faults.SourceFault.{SourceFault}
use Rattle.es_source.specs.declared.token.Token.{Token}
use Rattle.es_source.specs.Reading.{Reading as Source, fault_at}
use Rattle.es_source.specs.declared.stop.ReadStop.TheVariants.{Fault}
use Rattle.script_grammar.specs.declared.leaf.Leaf.{Leaf}
use Rattle.script_grammar.specs.declared.node.ParseNode.{ParseNode}
use Rattle.script_grammar.specs.declared.symbol.Symbol.{Symbol}
use Rattle.script_grammar.specs.Tree.{ParseTree}
use Rattle.script_grammar.specs.Scripts.{Parts, HasTree, leaf_of}
use Rattle.script_grammar.specs.Completed.{ParseAnswer, Script, Unexpected, TooDeep, ReadsAs, Derives, fault_of, place_by}
use Rattle.script_grammar.specs.Progress.{Reached, start, begun}
use Rattle.script_grammar.proofs.Reached.{reached_start}
use Rattle.script_grammar.proofs.Answer.{one_answer}
use Rattle.script_parser.specs.declared.parser.Parser.{Parser}
use Rattle.script_parser.specs.declared.parser.reading.Reading.{Reading}
use Rattle.script_parser.specs.declared.parser.reading.Reading.TheVariants.{Taken, Refused, Deep}
use Rattle.script_parser.specs.State.{State, stack, state, act_on}
use Rattle.script_parser.specs.Progress.{Standing, Stood, ReadsOne, EndsWith, Behind, Onward, root_of}
use Rattle.script_parser.specs.Contract.{GivesAnswer, Parses}
use Rattle.script_grammar.specs.declared.act.Act.TheVariants as act_kinds
use Rattle.script_grammar.specs.declared.labels.Atom.TheVariants as atom

pub started : (p : Parser) → stack p ≡ start → state p ≡ act_on (act_kinds.Atom atom.Nothing) [] [] → Standing [] p
started p e f = (begun, subst (λ (γ : List Symbol). Reached [] γ begun) (sym e) reached_start, subst (λ (s : State). Stood s begun) (sym f) (refl, tt))

-- something is expected
pub expects : (γ : List Symbol) (is : List ℕ) → 1 ≤ length γ → root_of γ is ≡ None
expects [] is h = absurd (omega arith)
expects (z ∷ γ) is h = refl

pub expects_below : (γ δ : List Symbol) (is : List ℕ) → 1 ≤ length δ → root_of (reverse γ ++ reverse δ) is ≡ None
expects_below γ δ is h = expects (reverse γ ++ reverse δ) is (omega (arith, length-append (reverse γ) (reverse δ), length-reverse δ))

-- the token at a place, and those behind it
at_place : (ts : List Token) (i : ℕ) (t : Token) → slice_get ts i ≡ Some t → drop i ts ≡ t ∷ drop (suc i) ts
at_place [] i t e = absurd (cc (e))
at_place (s ∷ ts) zero t e = let same : s ≡ t = cc (e) in ap (λ (s : Token). s ∷ ts) same
at_place (s ∷ ts) (suc i) t e = at_place ts i t e

-- nothing is behind the last
none_behind : (ts : List Token) (i : ℕ) → length ts ≤ i → drop i ts ≡ []
none_behind [] zero h = refl
none_behind [] (suc i) h = refl
none_behind (t ∷ ts) zero h = absurd (omega arith)
none_behind (t ∷ ts) (suc i) h = none_behind ts i (omega arith)

none_at : (ts : List Token) (i : ℕ) → length ts ≤ i → slice_get ts i ≡ None
none_at [] i h = refl
none_at (t ∷ ts) zero h = absurd (omega arith)
none_at (t ∷ ts) (suc i) h = none_at ts i (omega arith)

pub mapped_more : (ts : List Token) (i : ℕ) (t : Token) (leaves more : List Leaf) (leaf : Leaf) → slice_get ts i ≡ Some t → leaf ≡ leaf_of t → leaves ≡ map leaf_of (take i ts) → more ≡ leaves ++ (leaf ∷ [])
    → more ≡ map leaf_of (take (i + 1) ts)
mapped_more ts i t leaves more leaf e f g h = h ∙ (ap (λ (l : List Leaf). l ++ (leaf ∷ [])) g ∙ (ap (λ (l : Leaf). map leaf_of (take i ts) ++ (l ∷ [])) f ∙ rw add-one (grown ts i e)))
  where
    grown : (ts : List Token) (i : ℕ) → slice_get ts i ≡ Some t → map leaf_of (take i ts) ++ (leaf_of t ∷ []) ≡ map leaf_of (take (suc i) ts)
    grown [] i e = absurd (cc (e))
    grown (s ∷ ts) zero e = let same : t ≡ s = cc (e) in ap (λ (s : Token). leaf_of s ∷ []) same
    grown (s ∷ ts) (suc i) e = ap (λ (l : List Leaf). leaf_of s ∷ l) (grown ts i e)

pub behind_start : (p : Parser) (ts : List Token) → Standing [] p → Behind p ts 0
behind_start p ts st = ([], st, λ a h. h)

reads_along : (done : _) (i : ℕ) (xs ys : List Token) (a : ParseAnswer) → xs ≡ ys → ReadsAs done i ys a → ReadsAs done i xs a
reads_along done i xs ys a e h = subst (λ (ts : List Token). ReadsAs done i ts a) (sym e) h

pub behind_next : (p q : Parser) (ts : List Token) (i : ℕ) (t : Token) (v : Reading) → Behind p ts i → slice_get ts i ≡ Some t → v ≡ Taken → ReadsOne p q i t v → Behind q ts (i + 1)
behind_next p q ts i t v b e f r =
    let on : Onward b.0 q i t = subst (λ (v : Reading). ReadsOne p q i t v) f r b.0 b.1 in
    rw add-one (on.0, on.1, λ a h. b.2 a (reads_along b.0 i (drop i ts) (t ∷ drop (suc i) ts) a (at_place ts i t e) (on.2 (drop (suc i) ts) a h)))

refused_at : (p q : Parser) (ts : List Token) (i : ℕ) (t : Token) (v : Reading) → Behind p ts i → slice_get ts i ≡ Some t → v ≡ Refused → ReadsOne p q i t v → ReadsAs [] 0 ts (Unexpected i)
refused_at p q ts i t v b e f r =
    let h : ReadsOne p q i t Refused = subst (λ (v : Reading). ReadsOne p q i t v) f r in
    b.2 (Unexpected i) (reads_along b.0 i (drop i ts) (t ∷ drop (suc i) ts) (Unexpected i) (at_place ts i t e) (h b.0 b.1 (drop (suc i) ts)))

deep_at : (p q : Parser) (ts : List Token) (i : ℕ) (t : Token) (v : Reading) → Behind p ts i → slice_get ts i ≡ Some t → v ≡ Deep → ReadsOne p q i t v → ReadsAs [] 0 ts (TooDeep i)
deep_at p q ts i t v b e f r =
    let h : ReadsOne p q i t Deep = subst (λ (v : Reading). ReadsOne p q i t v) f r in
    b.2 (TooDeep i) (reads_along b.0 i (drop i ts) (t ∷ drop (suc i) ts) (TooDeep i) (at_place ts i t e) (h b.0 b.1 (drop (suc i) ts)))

cut_at : (p q : Parser) (ts : List Token) (i : ℕ) (v : Option ℕ) → Behind p ts i → length ts ≤ i → v ≡ None → EndsWith p q v → ReadsAs [] 0 ts (Unexpected i)
cut_at p q ts i v b l f r =
    let h : EndsWith p q None = subst (λ (v : Option ℕ). EndsWith p q v) f r in
    b.2 (Unexpected i) (reads_along b.0 i (drop i ts) [] (Unexpected i) (none_behind ts i l) (h b.0 b.1 i))

-- a fault that the grammar has is its only answer
fault_parses : (r : Source) (a : ParseAnswer) (f : SourceFault) → ReadsAs [] 0 r.tokens a → fault_of r a ≡ Some f → Parses r (Err (Fault f))
fault_parses r a f h e = ((a, h, e), λ b k. subst (λ (c : ParseAnswer). GivesAnswer r c (Err (Fault f))) (one_answer h k) (gives a e))
  where
    gives : (a : ParseAnswer) → fault_of r a ≡ Some f → GivesAnswer r a (Err (Fault f))
    gives (Script full x) e = e
    gives (Unexpected i) e = e
    gives (TooDeep i) e = e

placed : (r : Source) (i : ℕ) (t : Token) (f : SourceFault) → slice_get r.tokens i ≡ Some t → f ≡ fault_at code.Unexpected (place_by r.ending (Some t)) → fault_of r (Unexpected i) ≡ Some f
placed r i t f e g = ap (λ (o : Option Token). Some (fault_at code.Unexpected (place_by r.ending o))) e ∙ ap (λ (f : SourceFault). Some f) (sym g)

placed_deep : (r : Source) (i : ℕ) (t : Token) (f : SourceFault) → slice_get r.tokens i ≡ Some t → f ≡ fault_at code.TooDeep (place_by r.ending (Some t)) → fault_of r (TooDeep i) ≡ Some f
placed_deep r i t f e g = ap (λ (o : Option Token). Some (fault_at code.TooDeep (place_by r.ending o))) e ∙ ap (λ (f : SourceFault). Some f) (sym g)

pub parses_refused : (p q : Parser) (r : Source) (i : ℕ) (t u : Token) (v : Reading) (f : SourceFault) → Behind p r.tokens i → slice_get r.tokens i ≡ Some t → v ≡ Refused → ReadsOne p q i t v
    → slice_get r.tokens i ≡ Some u → f ≡ fault_at code.Unexpected (place_by r.ending (Some u)) → Parses r (Err (Fault f))
parses_refused p q r i t u v f b e g h e' k = fault_parses r (Unexpected i) f (refused_at p q r.tokens i t v b e g h) (placed r i u f e' k)

pub parses_deep : (p q : Parser) (r : Source) (i : ℕ) (t u : Token) (v : Reading) (f : SourceFault) → Behind p r.tokens i → slice_get r.tokens i ≡ Some t → v ≡ Deep → ReadsOne p q i t v
    → slice_get r.tokens i ≡ Some u → f ≡ fault_at code.TooDeep (place_by r.ending (Some u)) → Parses r (Err (Fault f))
parses_deep p q r i t u v f b e g h e' k = fault_parses r (TooDeep i) f (deep_at p q r.tokens i t v b e g h) (placed_deep r i u f e' k)

pub parses_cut : (p q : Parser) (r : Source) (i : ℕ) (v : Option ℕ) (f : SourceFault) → Behind p r.tokens i → length r.tokens ≤ i → v ≡ None → EndsWith p q v
    → f ≡ fault_at code.Unexpected r.ending → Parses r (Err (Fault f))
parses_cut p q r i v f b l g h k =
    fault_parses r (Unexpected i) f (cut_at p q r.tokens i v b l g h)
    (ap (λ (o : Option Token). Some (fault_at code.Unexpected (place_by r.ending o))) (none_at r.tokens i l) ∙ ap (λ (f : SourceFault). Some f) (sym k))

whole_at : (p q : Parser) (ts : List Token) (i root : ℕ) (v : Option ℕ) → Behind p ts i → length ts ≤ i → v ≡ Some root → EndsWith p q v → (x : ParseTree) × HasTree q.nodes.items root x × Derives ts x
whole_at p q ts i root v b l f r =
    let h : EndsWith p q (Some root) = subst (λ (v : Option ℕ). EndsWith p q v) f r in
    let w = h b.0 b.1 in
    (w.1, w.2, (w.0, b.2 (Script w.0 w.1) (reads_along b.0 i (drop i ts) [] (Script w.0 w.1) (none_behind ts i l) (w.3 i))))

pub parses_whole : (p q : Parser) (r : Source) (i root : ℕ) (v : Option ℕ) (s : Parts) → Behind p r.tokens i → length r.tokens ≤ i → v ≡ Some root → EndsWith p q v
    → s.leaves ≡ map leaf_of r.tokens → s.nodes ≡ q.nodes.items → s.root ≡ root → Parses r (Ok s)
parses_whole p q r i root v s b l f h e g k =
    let w = whole_at p q r.tokens i root v b l f h in
    let st : HasTree s.nodes s.root w.0 = subst (λ (ns : List ParseNode). HasTree ns s.root w.0) (sym g) (subst (λ (n : ℕ). HasTree q.nodes.items n w.0) (sym k) w.1) in
    ((e, (w.0, st, w.2)), λ a j. subst (λ (a : ParseAnswer). GivesAnswer r a (Ok s)) (one_answer w.2.1 j) st)
