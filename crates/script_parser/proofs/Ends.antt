-- The end of the input.
use Rattle.std.proofs.Common.{◌≡◌, ◌<◌, ℕ, Bool, true, false, not, ◌&&◌, cond, List, [], ◌∷◌, ◌++◌, length, refl, subst, ap, sym, ◌∙◌, Option, Some, None}
use Rattle.script_grammar.specs.declared.node.ParseNode.{ParseNode}
use Rattle.script_grammar.specs.declared.sign.Sign.{Sign}
use Rattle.script_grammar.specs.declared.sign.Sign.TheVariants.{Inserted as put}
use Rattle.script_grammar.specs.declared.symbol.Symbol.{Symbol}
use Rattle.script_grammar.specs.declared.symbol.Symbol.TheVariants as symbols
use Rattle.script_grammar.specs.Tree.{ParseTree}
use Rattle.script_grammar.specs.Grammar.{Read, Plain}
use Rattle.script_grammar.specs.Machine.{takes, keeps}
use Rattle.script_grammar.specs.Trees.{trees, finish, may_leave, leave}
use Rattle.script_grammar.specs.Scripts.{HasTree}
use Rattle.script_grammar.specs.Completed.{Unexpected, Script, ReadsAs, semicolon}
use Rattle.script_grammar.specs.Completed.{ReadsAs as reads_as}
use Rattle.script_grammar.proofs.Reached.{ends, ended}
use Rattle.script_grammar.proofs.Shorter.{shorter}
use Rattle.script_parser.specs.declared.parser.Parser.{Parser}
use Rattle.script_parser.specs.Settling as settling
use Rattle.script_parser.specs.State.{State, numbers, stack, state, ids}
use Rattle.script_parser.specs.Progress.{Stood, AllStand, Standing, Settled, Firm, Shifted, Tried, AroundEnd, root_of}
use Rattle.script_parser.proofs.Alike.{loose_like, drops_like}
use Rattle.script_parser.proofs.Arena.{acts_stand, targets_stand, plains_stand}
use Rattle.script_parser.proofs.Settle.{no_tail, no_keep}
use Rattle.script_parser.proofs.Steps.{taken_on, not_viable, tried}

abbrev settled_ids : List Symbol → State → Sign → List Symbol × State
settled_ids γ s x = settling.settled State numbers γ s x

abbrev settled_trees : List Symbol → List ParseTree → Sign → List Symbol × List ParseTree
settled_trees γ vs x = settling.settled (List ParseTree) trees γ vs x

abbrev drops_ids : Symbol → State → State
drops_ids z s = settling.drops State numbers z s

abbrev drops_trees : Symbol → List ParseTree → List ParseTree
drops_trees z vs = settling.drops (List ParseTree) trees z vs

loose_same : (z : Symbol) (s : State) (vs : List ParseTree) (x : Sign) → Stood s vs → settling.loose State numbers z s x ≡ settling.loose (List ParseTree) trees z vs x
loose_same z s vs x h = loose_like State (List ParseTree) numbers trees Stood acts_stand targets_stand plains_stand z s vs x h

drops_stand : (z : Symbol) (s : State) (vs : List ParseTree) → Stood s vs → Stood (drops_ids z s) (drops_trees z vs)
drops_stand z s vs h = drops_like State (List ParseTree) numbers trees Stood acts_stand targets_stand plains_stand z s vs h

abbrev SettledAlike : List Symbol × State → List Symbol × List ParseTree → Type 0
SettledAlike a b = (a.0 ≡ b.0) × Stood a.1 b.1

settled_like : (γ : List Symbol) (s : State) (vs : List ParseTree) (x : Sign) → Stood s vs → SettledAlike (settled_ids γ s x) (settled_trees γ vs x)
settled_like [] s vs x h = (refl, h)
settled_like (z ∷ γ) s vs x h =
    go (settling.loose State numbers z s x) (settling.loose (List ParseTree) trees z vs x) (loose_same z s vs x h) (settled_like γ (drops_ids z s) (drops_trees z vs) x (drops_stand z s vs h))
  where
    go : (b c : Bool) → b ≡ c → SettledAlike (settled_ids γ (drops_ids z s) x) (settled_trees γ (drops_trees z vs) x)
        → SettledAlike (cond b (settled_ids γ (drops_ids z s) x) (z ∷ γ, s)) (cond c (settled_trees γ (drops_trees z vs) x) (z ∷ γ, vs))
    go true true e ih = ih
    go false false e ih = (refl, h)
    go true false e ih = absurd (cc (e))
    go false true e ih = absurd (cc (e))

when_left : (b c : Bool) (x o : Option ParseTree) → (not b && c) ≡ true → cond c x o ≡ x
when_left true c x o h = absurd (cc (h))
when_left false true x o h = refl
when_left false false x o h = absurd (cc (h))

finish_loose : (z : Symbol) (γ : List Symbol) (vs : List ParseTree) → settling.loose (List ParseTree) trees z vs put ≡ true → finish γ (drops_trees z vs) ≡ finish (z ∷ γ) vs
finish_loose (symbols.Tail n d) γ vs h = refl
finish_loose (symbols.Loose n d) γ vs h = sym (when_left (keeps n put) (may_leave n vs) (finish γ (leave n vs)) None h)
finish_loose (symbols.Do f) γ vs h = refl
finish_loose (symbols.Part n d) γ vs h = absurd (cc (h))
finish_loose (symbols.Stage n d) γ vs h = absurd (cc (h))
finish_loose (symbols.Take n d) γ vs h = absurd (cc (h))

settled_finish : (γ : List Symbol) (vs : List ParseTree) → finish (settled_trees γ vs put).0 (settled_trees γ vs put).1 ≡ finish γ vs
settled_finish [] vs = refl
settled_finish (z ∷ γ) vs = go (settled_finish γ (drops_trees z vs)) (settling.loose (List ParseTree) trees z vs put) refl
  where
    go : finish (settled_trees γ (drops_trees z vs) put).0 (settled_trees γ (drops_trees z vs) put).1 ≡ finish γ (drops_trees z vs) → (b : Bool) → settling.loose (List ParseTree) trees z vs put ≡ b
        → finish (cond b (settled_trees γ (drops_trees z vs) put) (z ∷ γ, vs)).0 (cond b (settled_trees γ (drops_trees z vs) put) (z ∷ γ, vs)).1 ≡ finish (z ∷ γ) vs
    go ih true h = ih ∙ finish_loose z γ vs h
    go ih false h = refl

clash : (b : Bool) → b ≡ false → not b ≡ false → ⊥
clash true e f = cc
clash false e f = cc

stays : (b c : Bool) → b ≡ false → (not b && c) ≡ false → c ≡ false
stays true c e f = absurd (cc (e))
stays false c e f = f

not_left : (c : Bool) (x : Option ParseTree) (s : ParseTree) → c ≡ false → cond c x None ≡ Some s → ⊥
not_left true x s e f = cc
not_left false x s e f = cc

finish_firm : (γ : List Symbol) (vs : List ParseTree) (s : ParseTree) → settling.Firm (List ParseTree) trees γ vs put → finish γ vs ≡ Some s → (γ ≡ []) × (vs ≡ s ∷ [])
finish_firm [] (v ∷ []) s f e = (refl, cc)
finish_firm [] [] s f e = absurd (cc (e))
finish_firm [] (v ∷ w ∷ vs) s f e = absurd (cc (e))
finish_firm (symbols.Tail n d ∷ γ) vs s f e = absurd (clash (takes n put) (no_tail n) f)
finish_firm (symbols.Loose n d ∷ γ) vs s f e = absurd (not_left (may_leave n vs) (finish γ (leave n vs)) s (stays (keeps n put) (may_leave n vs) (no_keep n) f) e)
finish_firm (symbols.Do w ∷ γ) vs s f e = absurd (cc (f))
finish_firm (symbols.Part n d ∷ γ) vs s f e = absurd (cc (e))
finish_firm (symbols.Stage n d ∷ γ) vs s f e = absurd (cc (e))
finish_firm (symbols.Take n d ∷ γ) vs s f e = absurd (cc (e))

-- where the machine is settled at the end, with the trees that its numbers stand for
at_end : (done : List Read) (old mid : Parser) → Settled old mid put → (st : Standing done old) → (vt : List ParseTree) × Stood (state mid) vt × (finish (stack mid) vt ≡ finish (stack old) st.0)
at_end done old mid e st =
    let w = settled_like (stack old) (state old) st.0 put st.2 in
    let γe : stack mid ≡ (settled_trees (stack old) st.0 put).0 = ap (λ (q : List Symbol × State). q.0) e ∙ w.0 in
    let se : (settled_ids (stack old) (state old) put).1 ≡ state mid = sym (ap (λ (q : List Symbol × State). q.1) e) in (
      (settled_trees (stack old) st.0 put).1,
      subst (λ (q : State). Stood q (settled_trees (stack old) st.0 put).1) se w.1,
      ap (λ (q : List Symbol). finish q (settled_trees (stack old) st.0 put).1) γe ∙ settled_finish (stack old) st.0,
    )

firm_trees : (γ : List Symbol) (s : State) (vs : List ParseTree) → Stood s vs → settling.Firm State numbers γ s put → settling.Firm (List ParseTree) trees γ vs put
firm_trees [] s vs h f = tt
firm_trees (z ∷ γ) s vs h f = sym (loose_same z s vs put h) ∙ f

at_root : (γ : List Symbol) (is : List ℕ) (i : ℕ) → root_of γ is ≡ Some i → (γ ≡ []) × (is ≡ i ∷ [])
at_root [] (j ∷ []) i e = (refl, cc)
at_root [] [] i e = absurd (cc (e))
at_root [] (j ∷ l ∷ is) i e = absurd (cc (e))
at_root (z ∷ γ) is i e = absurd (cc (e))

one_stood : (ns : List ParseNode) (is : List ℕ) (vs : List ParseTree) (i : ℕ) → is ≡ i ∷ [] → AllStand ns is vs → (s : ParseTree) × (vs ≡ s ∷ []) × HasTree ns i s
one_stood ns (j ∷ []) (s ∷ []) i e h = (s, refl, subst (λ (k : ℕ). HasTree ns k s) (same e) h.0)
  where
    same : j ∷ [] ≡ i ∷ [] → j ≡ i
    same e = cc
one_stood ns (j ∷ []) (s ∷ w ∷ vs) i e h = absurd h.1
one_stood ns (j ∷ l ∷ is) vs i e h = absurd (cc (e))
one_stood ns [] vs i e h = absurd (cc (e))
one_stood ns (j ∷ is) [] i e h = absurd h

end_found : (done : List Read) (old mid : Parser) (i : ℕ) → Settled old mid put → root_of (stack mid) (ids mid) ≡ Some i → Standing done old → (s : ParseTree) × HasTree mid.nodes.items i s × Plain done s
end_found done old mid i e f st =
    let w = at_end done old mid e st in
    let a = at_root (stack mid) (ids mid) i f in
    let b = one_stood mid.nodes.items (ids mid) w.0 i a.1 w.1 in
    (b.0, b.2, ended st.1 b.0 (sym w.2 ∙ (ap (λ (q : List Symbol). finish q w.0) a.0 ∙ ap (λ (q : List ParseTree). finish [] q) b.1)))

no_root : (ns : List ParseNode) (γ : List Symbol) (is : List ℕ) (vs : List ParseTree) (s : ParseTree) → root_of γ is ≡ None → γ ≡ [] → vs ≡ s ∷ [] → AllStand ns is vs → ⊥
no_root ns [] (i ∷ []) vs s e f g h = absurd (cc (e))
no_root ns [] [] (v ∷ vs) s e f g h = h
no_root ns [] [] [] s e f g h = absurd (cc (g))
no_root ns [] (i ∷ j ∷ is) (v ∷ []) s e f g h = h.1
no_root ns [] (i ∷ j ∷ is) (v ∷ w ∷ vs) s e f g h = absurd (cc (g))
no_root ns [] (i ∷ j ∷ is) [] s e f g h = absurd (cc (g))
no_root ns (z ∷ γ) is vs s e f g h = absurd (cc (f))

end_none : (done : List Read) (old mid : Parser) → Settled old mid put → Firm mid put → root_of (stack mid) (ids mid) ≡ None → Standing done old → (s : ParseTree) → Plain done s → ⊥
end_none done old mid e f g st s p =
    let w = at_end done old mid e st in
    let a = finish_firm (stack mid) w.0 s (firm_trees (stack mid) (state mid) w.0 w.1 f) (w.2 ∙ ends st.1 s p) in
    no_root mid.nodes.items (stack mid) (ids mid) w.0 s g a.0 a.1 w.1

pub end_whole : (start now mid : Parser) (i : ℕ) → AroundEnd start now → Settled now mid put → root_of (stack mid) (ids mid) ≡ Some i
    → (done : List Read) → Standing done start → (full : List Read) × (s : ParseTree) × HasTree mid.nodes.items i s × ((j : ℕ) → ReadsAs done j [] (Script full s))
end_whole start now mid i around e f done st =
    let w = around done st in
    let v = end_found w.0 now mid i e f w.1 in
    (w.0, v.0, v.1, λ j. w.2 j (Script w.0 v.0) (reads_as.whole v.2))

pub end_cut : (start now mid new : Parser) → AroundEnd start now → Settled now mid put → Firm mid put → root_of (stack mid) (ids mid) ≡ None → Tried now new put None
    → (done : List Read) → Standing done start → (j : ℕ) → ReadsAs done j [] (Unexpected j)
end_cut start now mid new around e f g h done st j =
    let w = around done st in
    w.2 j (Unexpected j) (reads_as.cut (λ p. end_none w.0 now mid e f g w.1 p.0 p.1) (λ p. not_viable w.0 now put w.1 h.0 p.0 p.1))

pub end_around : (start now mid new : Parser) (n : ℕ) → AroundEnd start now → Settled now mid put → Firm mid put → root_of (stack mid) (ids mid) ≡ None → Tried now new put (Some n) → AroundEnd start new
end_around start now mid new n around e f g h done st =
    let w = around done st in
    let v = taken_on w.0 now new put n w.1 h in
    (w.0 ++ (semicolon n ∷ []), v.0, λ i a k. w.2 i a (reads_as.end n (λ p. end_none w.0 now mid e f g w.1 p.0 p.1) v.1 k))

pub end_smaller : (now new : Parser) (n : ℕ) → Tried now new put (Some n) → length (stack new) < length (stack now)
end_smaller now new n h = shorter State numbers (stack now) (stack new) (state now) (state new) n h

pub around_end_itself : (p : Parser) → AroundEnd p p
around_end_itself p done st = (done, st, λ i a h. h)

-- of what a shift that gives Ok says
pub shift_tried : (now mid new : Parser) (o v : Option ℕ) → o ≡ v → Settled now mid put → Shifted mid new put o → Tried now new put v
shift_tried now mid new o v q e h = subst (λ (o : Option ℕ). Tried now new put o) q (tried now mid new put o e h)
