-- The bytes of a script have a first fault or a tree, and one alone.
use Rattle.std.proofs.Common.{◌≡◌, ◌∙◌, ℕ, List, Option, Some, None, Result, Ok, Err, inl, inr, refl, sym, ap, subst, true≢false}
use Rattle.es_source.specs.declared.faults.SourceFault.{SourceFault}
use Rattle.es_source.specs.Reading.{Reading, reading_of}
use Rattle.es_tree.specs.Tree.{Tree as Checked}
use Rattle.script_grammar.specs.Completed.{Script, Derives, HasGrammarFault}
use Rattle.script_grammar.specs.Tree.{ParseTree}
use Rattle.script_grammar.proofs.Answer.{one_answer as one_grammar_answer}
use Rattle.script_grammar.proofs.Faults.{first_fault, faultless}
use Rattle.script_rules.specs.Faults.{static_fault}
use Rattle.script_checker.specs.Contract.{IsTreeOf}
use Rattle.script_rules.specs.FirstFault.{HasFirstFault, at_tokens, at_grammar, at_rules, leaves_of}
use Rattle.script_checker.specs.Made.{checked_tree}
use Rattle.script_host.specs.Laws.{HasOneReading, HasReading}

ok_err : {T E : Type 0} (x : T) (e : E) → Ok x ≡ Err e → ⊥
ok_err x e h = true≢false cc

pub some_none : {T : Type 0} (x : T) → Some x ≡ None → ⊥
some_none x h = true≢false cc

same_ok : {a : Result Reading SourceFault} (x y : Reading) → a ≡ Ok x → a ≡ Ok y → x ≡ y
same_ok x y h k = cc

same_err : {a : Result Reading SourceFault} (x y : SourceFault) → a ≡ Err x → a ≡ Err y → x ≡ y
same_err x y h k = cc

same_some : {T : Type 0} (x y : T) → Some x ≡ Some y → x ≡ y
same_some x y h = cc

-- a script has one tree before its names are resolved
one_script : (r : Reading) (x y : ParseTree) → Derives r.tokens x → Derives r.tokens y → x ≡ y
one_script r x y d e = let same : Script d.0 x ≡ Script e.0 y = one_grammar_answer d.1 e.1 in cc

-- ---- a fault of length, of decoding or of tokens

pub only_at_tokens : (bytes : List ℕ) (f g : SourceFault) (wanted : Option SourceFault) → reading_of bytes ≡ Err f → HasFirstFault bytes wanted → wanted ≡ Some g → g ≡ f
only_at_tokens bytes f g wanted err (at_tokens e) same = same_some g _ (sym same) ∙ same_err _ f e err
only_at_tokens bytes f g wanted err (at_grammar r e has) same = absurd (ok_err r f (sym e ∙ err))
only_at_tokens bytes f g wanted err (at_rules r x e d s) same = absurd (ok_err r f (sym e ∙ err))

pub no_tree : (bytes : List ℕ) (f : SourceFault) (t : Checked) → reading_of bytes ≡ Err f → IsTreeOf bytes t → ⊥
no_tree bytes f t err tree = ok_err tree.0 f (sym tree.2 ∙ err)

-- ---- a fault of the grammar

-- the reading that a fault stands in is that of the bytes
same_grammar : (r q : Reading) (g : Option SourceFault) → r ≡ q → HasGrammarFault r g → HasGrammarFault q g
same_grammar r q g e has = subst (λ (p : Reading). HasGrammarFault p g) e has

same_derives : (r q : Reading) (x : ParseTree) → r ≡ q → Derives r.tokens x → Derives q.tokens x
same_derives r q x e d = subst (λ (p : Reading). Derives p.tokens x) e d

derived_or_faulty : (r : Reading) (f : SourceFault) (x : ParseTree) → HasGrammarFault r (Some f) → Derives r.tokens x → ⊥
derived_or_faulty r f x has d =
    let unique = (first_fault r).2 in
    some_none f (unique (Some f) has ∙ sym (unique None ((faultless r).1 x d)))

only_at_grammar : (bytes : List ℕ) (r : Reading) (f g : SourceFault) (wanted : Option SourceFault) → reading_of bytes ≡ Ok r → HasGrammarFault r (Some f)
    → HasFirstFault bytes wanted → wanted ≡ Some g → g ≡ f
only_at_grammar bytes r f g wanted ok has (at_tokens e) same = absurd (ok_err r _ (sym ok ∙ e))
only_at_grammar bytes r f g wanted ok has (at_grammar q e other) same =
    let unique = (first_fault r).2 in
    same_some g _ (sym same) ∙ same_some _ f (unique _ (same_grammar q r _ (same_ok q r e ok) other) ∙ sym (unique (Some f) has))
only_at_grammar bytes r f g wanted ok has (at_rules q x e d s) same =
    absurd (derived_or_faulty r f x has (same_derives q r x (same_ok q r e ok) d))

no_tree_at_grammar : (bytes : List ℕ) (r : Reading) (f : SourceFault) (t : Checked) → reading_of bytes ≡ Ok r → HasGrammarFault r (Some f) → IsTreeOf bytes t → ⊥
no_tree_at_grammar bytes r f t ok has tree =
    derived_or_faulty r f tree.1 has (same_derives tree.0 r tree.1 (same_ok tree.0 r tree.2 ok) tree.3)

-- ---- a fault of the static rules, or none

same_static : (r q : Reading) (x y : ParseTree) (f : Option SourceFault) → r ≡ q → x ≡ y → static_fault (leaves_of r.tokens) x ≡ f → static_fault (leaves_of q.tokens) y ≡ f
same_static r q x y f e d s = ap (λ (p : Reading). static_fault (leaves_of p.tokens) y) (sym e) ∙ ap (static_fault (leaves_of r.tokens)) (sym d) ∙ s

only_at_rules : (bytes : List ℕ) (r : Reading) (x : ParseTree) (f : Option SourceFault) (g : SourceFault) (wanted : Option SourceFault) → reading_of bytes ≡ Ok r → Derives r.tokens x
    → static_fault (leaves_of r.tokens) x ≡ f → HasFirstFault bytes wanted → wanted ≡ Some g → f ≡ Some g
only_at_rules bytes r x f g wanted ok d s (at_tokens e) same = absurd (ok_err r _ (sym ok ∙ e))
only_at_rules bytes r x f g wanted ok d s (at_grammar q e has) same =
    absurd (derived_or_faulty r _ x (same_grammar q r _ (same_ok q r e ok) has) d)
only_at_rules bytes r x f g wanted ok d s (at_rules q y e c t) same =
    let here : q ≡ r = same_ok q r e ok in
    let alike : y ≡ x = one_script r y x (same_derives q r y here c) d in
    sym s ∙ same_static q r y x wanted here alike t ∙ same

tree_static : (bytes : List ℕ) (r : Reading) (x : ParseTree) (t : Checked) → reading_of bytes ≡ Ok r → Derives r.tokens x → IsTreeOf bytes t
    → (static_fault (leaves_of r.tokens) x ≡ None) × (t ≡ checked_tree (leaves_of r.tokens) x)
tree_static bytes r x t ok d tree =
    let here : tree.0 ≡ r = same_ok tree.0 r tree.2 ok in
    let alike : tree.1 ≡ x = one_script r tree.1 x (same_derives tree.0 r tree.1 here tree.3) d in (
      same_static tree.0 r tree.1 x None here alike tree.4,
      tree.5 ∙ ap (λ (p : Reading). checked_tree (leaves_of p.tokens) tree.1) here ∙ ap (checked_tree (leaves_of r.tokens)) alike,
    )

-- ---- one first fault alone, or one tree alone

reading_at : (bytes : List ℕ) (r : Reading) (x : ParseTree) (f : Option SourceFault) → reading_of bytes ≡ Ok r → Derives r.tokens x
    → static_fault (leaves_of r.tokens) x ≡ f
    → HasReading bytes
reading_at bytes r x (Some f) ok d s = inl (
  f,
  (
    at_rules r x ok d s,
    (λ g has. sym (same_some f g (only_at_rules bytes r x (Some f) g (Some g) ok d s has refl))),
    (λ t tree. some_none f (sym s ∙ (tree_static bytes r x t ok d tree).0)),
  ),
)
reading_at bytes r x None ok d s = inr (
  checked_tree (leaves_of r.tokens) x,
  (
    (r, x, ok, d, s, refl),
    (λ u tree. (tree_static bytes r x u ok d tree).1),
    (λ f has. some_none f (sym (only_at_rules bytes r x None f (Some f) ok d s has refl))),
  ),
)

grammar_at : (bytes : List ℕ) (r : Reading) (f : Option SourceFault) → reading_of bytes ≡ Ok r → HasGrammarFault r f
    → HasReading bytes
grammar_at bytes r (Some f) ok has = inl (
  f,
  (at_grammar r ok has, (λ g other. only_at_grammar bytes r f g (Some g) ok has other refl), (λ t tree. no_tree_at_grammar bytes r f t ok has tree)),
)
grammar_at bytes r None ok has =
    let derived = (faultless r).0 has in
    reading_at bytes r derived.0 (static_fault (leaves_of r.tokens) derived.0) ok derived.1 refl

tokens_at : (bytes : List ℕ) (read : Result Reading SourceFault) → reading_of bytes ≡ read
    → HasReading bytes
tokens_at bytes (Err f) err = inl (f, (at_tokens err, (λ g has. only_at_tokens bytes f g (Some g) err has refl), (λ t tree. no_tree bytes f t err tree)))
tokens_at bytes (Ok r) ok = let first = first_fault r in grammar_at bytes r first.0 ok first.1

pub one_reading : HasOneReading
one_reading bytes = tokens_at bytes (reading_of bytes) refl
