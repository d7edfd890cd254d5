-- The order of faults is total, so that the least of many is found in any order.
use Rattle.std.proofs.Common.{◌≡◌, ◌∙◌, ap, sym, refl, ℕ, Bool, true, false, ◌&&◌, ◌||◌, nat_eq, nat_lt, inl, inr, List, [], ◌∷◌, ◌++◌, Option, Some, None, slice_index_or, arith}
use Rattle.std.proofs.lemmas.Bool.{cases_Bool}
use Rattle.std.proofs.lemmas.Bool.Decides.{nat_tests}
use Rattle.es_source.specs.declared.faults.FaultCode.{FaultCode}
use Rattle.es_source.specs.declared.faults.FaultCode.TheVariants as code
use Rattle.es_source.specs.declared.faults.SourceFault.{SourceFault}
use Rattle.es_source.specs.Codes.{code_number}
use Rattle.script_rules.specs.Faults.{is_before, least, lesser}
use Rattle.script_rules.specs.Order.{earlier}

-- ---- places and codes

abbrev before : ℕ → ℕ → ℕ → ℕ → ℕ → ℕ → Bool
before l c k m d j = nat_lt l m || (nat_eq l m && (nat_lt c d || (nat_eq c d && nat_lt k j)))

asymmetric : (l c k m d j : ℕ) → before l c k m d j ≡ true → before m d j l c k ≡ true → ⊥
asymmetric l c k m d j p q = grind (arith, nat_tests)

transitive : (l c k m d j n e i : ℕ) → before l c k m d j ≡ true → before m d j n e i ≡ true → before l c k n e i ≡ true
transitive l c k m d j n e i p q = grind (arith, nat_tests)

between : (l c k m d j n e i : ℕ) → before l c k m d j ≡ false → before m d j n e i ≡ false → before l c k n e i ≡ false
between l c k m d j n e i p q = grind (arith, nat_tests)

same_line : (l c k m d j : ℕ) → before l c k m d j ≡ false → before m d j l c k ≡ false → l ≡ m
same_line l c k m d j p q = grind (arith, nat_tests)

same_column : (l c k m d j : ℕ) → before l c k m d j ≡ false → before m d j l c k ≡ false → c ≡ d
same_column l c k m d j p q = grind (arith, nat_tests)

same_code : (l c k m d j : ℕ) → before l c k m d j ≡ false → before m d j l c k ≡ false → k ≡ j
same_code l c k m d j p q = grind (arith, nat_tests)

abbrev code_of : ℕ → FaultCode
code_of n = slice_index_or (code.TooLong ∷ code.TooLong ∷ code.NotUtf8 ∷ code.BadToken ∷ code.Unexpected ∷ code.TooDeep ∷ code.Duplicate ∷ code.Capture ∷ code.BadBinding ∷ code.Misplaced ∷ []) n code.TooLong

code_back : (c : FaultCode) → code_of (code_number c) ≡ c
code_back code.TooLong = refl
code_back code.NotUtf8 = refl
code_back code.BadToken = refl
code_back code.Unexpected = refl
code_back code.TooDeep = refl
code_back code.Duplicate = refl
code_back code.Capture = refl
code_back code.BadBinding = refl
code_back code.Misplaced = refl

alike : (a b : SourceFault) → a.code ≡ b.code → a.place.line ≡ b.place.line → a.place.column ≡ b.place.column → a ≡ b
alike a b p q r = λ i. record { code = p i; place = record { line = q i; column = r i } }

connected : (a b : SourceFault) → is_before a b ≡ false → is_before b a ≡ false → a ≡ b
connected a b p q =
    alike a b
    (sym (code_back a.code) ∙ ap code_of (same_code a.place.line a.place.column (code_number a.code) b.place.line b.place.column (code_number b.code) p q) ∙ code_back b.code)
    (same_line a.place.line a.place.column (code_number a.code) b.place.line b.place.column (code_number b.code) p q)
    (same_column a.place.line a.place.column (code_number a.code) b.place.line b.place.column (code_number b.code) p q)

-- ---- the lesser of two

abbrev lesser_by : Bool → SourceFault → SourceFault → SourceFault
lesser_by true a b = b
lesser_by false a b = a

commutes_by : (a b : SourceFault) (t s : Bool) → is_before b a ≡ t → is_before a b ≡ s → lesser_by t a b ≡ lesser_by s b a
commutes_by a b true true p q = absurd (asymmetric b.place.line b.place.column (code_number b.code) a.place.line a.place.column (code_number a.code) p q)
commutes_by a b true false p q = refl
commutes_by a b false true p q = refl
commutes_by a b false false p q = connected a b q p

-- whether the third is before the second, the second before the first, and the third before the first
associates_by : (a b c : SourceFault) (t s r : Bool) → is_before c b ≡ t → is_before b a ≡ s → is_before c a ≡ r
    → lesser (lesser_by s a b) (Some c) ≡ lesser a (Some (lesser_by t b c))
associates_by a b c true true r p q e =
    let w = transitive c.place.line c.place.column (code_number c.code) b.place.line b.place.column (code_number b.code) a.place.line a.place.column (code_number a.code) p q in
    rw (p, w) refl
associates_by a b c true false r p q e = refl
associates_by a b c false true r p q e = rw (p, q) refl
associates_by a b c false false r p q e =
    let w = between c.place.line c.place.column (code_number c.code) b.place.line b.place.column (code_number b.code) a.place.line a.place.column (code_number a.code) p q in
    rw (w, q) refl

pub earlier-None : (a : Option SourceFault) → earlier a None ≡ a
earlier-None None = refl
earlier-None (Some a) = refl

by_test : (a b : SourceFault) → lesser a (Some b) ≡ lesser_by (is_before b a) a b
by_test a b = elim (cases_Bool (is_before b a)) [ inl t ↦ rw t refl | inr f ↦ rw f refl ]

pub commutes : (a b : Option SourceFault) → earlier a b ≡ earlier b a
commutes None b = sym (earlier-None b)
commutes (Some a) None = refl
commutes (Some a) (Some b) = ap Some (by_test a b ∙ commutes_by a b (is_before b a) (is_before a b) refl refl ∙ sym (by_test b a))

pub associates : (a b c : Option SourceFault) → earlier (earlier a b) c ≡ earlier a (earlier b c)
associates None b c = refl
associates (Some a) None c = refl
associates (Some a) (Some b) None = refl
associates (Some a) (Some b) (Some c) =
    ap Some (ap (λ x. lesser x (Some c)) (by_test a b) ∙ associates_by a b c (is_before c b) (is_before b a) (is_before c a) refl refl refl ∙ ap (λ x. lesser a (Some x)) (sym (by_test b c)))

pub least-append : (xs ys : List SourceFault) → least (xs ++ ys) ≡ earlier (least xs) (least ys)
least-append [] ys = refl
least-append (x ∷ xs) ys = ap (earlier (Some x)) (least-append xs ys) ∙ sym (associates (Some x) (least xs) (least ys))

-- a part in the middle may come last
pub last_of : (a b c : Option SourceFault) → earlier (earlier a b) c ≡ earlier (earlier a c) b
last_of a b c = associates a b c ∙ ap (earlier a) (commutes b c) ∙ sym (associates a c b)

pub both_least : (a b c : Option SourceFault) (xs ys : List SourceFault) → a ≡ least xs → b ≡ least ys → c ≡ earlier a b → c ≡ least (xs ++ ys)
both_least a b c xs ys p q e = rw (e, p, q) (sym (least-append xs ys))
