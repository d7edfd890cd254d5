-- What rows give, by computing: each statement on a row follows from an equation that computes.
use Rattle.std.proofs.Common.{◌≡◌, ◌∙◌, ◌≤◌, ◌&&◌, ℕ, Bool, true, false, cond, List, [], ◌∷◌, map, length, nat_le, encode_utf8_all}
use Rattle.std.proofs.Common.{Option, Some, None, Result, Ok, Err, refl, sym, ap, subst, arith, true≢false}
use Rattle.std.specs.List.{AllByRecursion}
use Rattle.std.specs.Str.{all_scalars, chars, is_utf8}
use Rattle.std.specs.Str.Lossy.{utf8_valid_len}
use Rattle.std.proofs.Math.Utf8.{encode}
use Rattle.std.proofs.lemmas.Bool.Decides.{nat_tests}
use Rattle.std.proofs.lemmas.Str.{chars-encodes}
use Rattle.ucd_derived.specs.Binary.{is_xid_start, is_xid_continue}
use Rattle.ucd_derived.specs.XidStartRanges.{xid_start_ranges}
use Rattle.ucd_derived.specs.XidContinueRanges.{xid_continue_ranges}
use Rattle.ucd_table.specs.Rows.{in_ranges}
use Rattle.es_source.specs.declared.faults.SourceFault.{SourceFault}
use Rattle.es_source.specs.declared.token.Token.{Token}
use Rattle.es_source.specs.declared.token.TokenKind.{TokenKind}
use Rattle.es_source.specs.Forms.{longest_punctuator}
use Rattle.es_source.specs.Reading.{Reading, reading_of, reading_of_characters, fault_at}
use Rattle.es_source.specs.declared.faults.FaultCode.TheVariants as code
use Rattle.es_source.proofs.Phases.{decoded}
use Rattle.script_grammar.specs.Kinds.{kinds_of_words, punctuators}
use Rattle.script_grammar.specs.Tree.{ParseTree}
use Rattle.script_grammar.specs.Completed.{ParseAnswer, Script, Unexpected, TooDeep, ReadsAs, fault_of, place_at}
use Rattle.script_grammar.specs.Progress.{start, begun}
use Rattle.script_grammar.proofs.Reached.{reached_start}
use Rattle.script_grammar.proofs.Decide.{answer, decided, tree_from, accepts}
use Rattle.script_rules.specs.declared.resolved.Resolved.{Resolved}
use Rattle.script_rules.specs.declared.scope.Scope.{Scope}
use Rattle.script_rules.specs.Scopes.{resolved}
use Rattle.script_rules.specs.Faults.{static_fault}
use Rattle.script_rules.specs.FirstFault.{HasFirstFault, at_tokens, at_grammar, at_rules, leaves_of}
use Rattle.small_sources.specs.Rows.{FaultRow, HasFault, KindRow, HasKinds, kinds_in, ReadingRow, IsRead, TreeRow, HasScript, ByteRow, IsIllFormed}
use Rattle.small_sources.specs.Bindings.{BindingRow, IsBound, ScopeRow, IsScope}

-- all tables that a source is read with, which are shut elsewhere
unfoldable pub tables : Unit {0}
unfolding kinds_of_words punctuators is_xid_start is_xid_continue xid_start_ranges xid_continue_ranges in_ranges longest_punctuator encode
tables = tt

-- and what bytes are decoded with
unfoldable pub decoding : Unit {0}
unfolding reading_of is_utf8 chars utf8_valid_len encode
decoding = tt

-- ---- tables of rows

head_of : {B : Type 0} (x y : B) (xs ys : List B) → x ∷ xs ≡ y ∷ ys → x ≡ y
head_of x y xs ys e = cc

rest_of : {B : Type 0} (x y : B) (xs ys : List B) → x ∷ xs ≡ y ∷ ys → xs ≡ ys
rest_of x y xs ys e = cc

by_rows : {A B : Type 0} (P : A → Type 0) (given wanted : A → B) → ((row : A) → given row ≡ wanted row → P row) → (rows : List A)
    → map given rows ≡ map wanted rows → AllByRecursion P rows
by_rows P given wanted each [] e = tt
by_rows P given wanted each (row ∷ rows) e = (
  each row (head_of (given row) (wanted row) (map given rows) (map wanted rows) e),
  by_rows P given wanted each rows (rest_of (given row) (wanted row) (map given rows) (map wanted rows) e),
)

-- ---- the first fault

-- of a reading with the grammar's answer, which None leaves open
abbrev judged : Reading → Option ParseAnswer → Option (Option SourceFault)
judged r None = None
judged r (Some (Script full x)) = Some (static_fault (leaves_of r.tokens) x)
judged r (Some (Unexpected i)) = Some (fault_of r (Unexpected i))
judged r (Some (TooDeep i)) = Some (fault_of r (TooDeep i))

abbrev fault_in : Result Reading SourceFault → Option (Option SourceFault)
fault_in (Err f) = Some (Some f)
fault_in (Ok r) = judged r (answer r.tokens)

-- of characters, whose bytes are few enough
abbrev is_small : List ℕ → Bool
is_small source = all_scalars source && nat_le (length (encode_utf8_all source)) 4_194_304

abbrev pub fault_given : FaultRow → Option (Option SourceFault)
fault_given row = cond (is_small row.0) (fault_in (reading_of_characters row.0)) None

abbrev pub fault_wanted : FaultRow → Option (Option SourceFault)
fault_wanted row = Some row.1

abbrev Stands : List Token → Option ParseAnswer → Type 0
Stands ts (Some a) = ReadsAs [] 0 ts a
Stands ts None = Unit {0}

same_some : {T : Type 0} (x y : T) → Some x ≡ Some y → x ≡ y
same_some x y e = cc

none_some : {T : Type 0} (x : T) → None ≡ Some x → ⊥
none_some x e = true≢false cc

at_answer : (bytes : List ℕ) (r : Reading) (f : Option SourceFault) → reading_of bytes ≡ Ok r → (o : Option ParseAnswer) → Stands r.tokens o
    → judged r o ≡ Some f → HasFirstFault bytes f
at_answer bytes r f s None h e = absurd (none_some f e)
at_answer bytes r f s (Some (Script full x)) h e = at_rules r x s (full, h) (same_some (static_fault (leaves_of r.tokens) x) f e)
at_answer bytes r f s (Some (Unexpected i)) h e =
    let g = fault_at code.Unexpected (place_at r i) in
    subst (λ (f : Option SourceFault). HasFirstFault bytes f) (same_some (Some g) f e) (at_grammar r s (Unexpected i, h, refl))
at_answer bytes r f s (Some (TooDeep i)) h e =
    let g = fault_at code.TooDeep (place_at r i) in
    subst (λ (f : Option SourceFault). HasFirstFault bytes f) (same_some (Some g) f e) (at_grammar r s (TooDeep i, h, refl))

at_reading : (bytes : List ℕ) (f : Option SourceFault) (o : Result Reading SourceFault) → reading_of bytes ≡ o → fault_in o ≡ Some f → HasFirstFault bytes f
at_reading bytes f (Err g) s e = subst (λ (f : Option SourceFault). HasFirstFault bytes f) (same_some (Some g) f e) (at_tokens s)
at_reading bytes f (Ok r) s e = at_answer bytes r f s (answer r.tokens) (decided 1000 [] start begun 0 r.tokens reached_start) e

-- the bytes of characters are read by these characters
bytes_read : (source : List ℕ) → all_scalars source ≡ true → length (encode_utf8_all source) ≤ 4_194_304
    → reading_of (encode_utf8_all source) ≡ reading_of_characters source
bytes_read source whole few =
    decoded (encode_utf8_all source) few (source, (whole, refl)) ∙ ap (λ cs. reading_of_characters cs) (chars-encodes source whole)

both : (a b : Bool) → (a && b) ≡ true → (a ≡ true) × (b ≡ true)
both true true e = (refl, refl)
both true false e = absurd (true≢false (sym e))
both false b e = absurd (true≢false (sym e))

few : (n : ℕ) → nat_le n 4_194_304 ≡ true → n ≤ 4_194_304
few n e = grind (arith, nat_tests)

at_source : (source : List ℕ) (f : Option SourceFault) (b : Bool) → is_small source ≡ b
    → cond b (fault_in (reading_of_characters source)) None ≡ Some f → HasFirstFault (encode_utf8_all source) f
at_source source f false s e = absurd (none_some f e)
at_source source f true s e =
    let small = both (all_scalars source) (nat_le (length (encode_utf8_all source)) 4_194_304) s in
    at_reading (encode_utf8_all source) f (reading_of_characters source)
    (bytes_read source small.0 (few (length (encode_utf8_all source)) small.1)) e

pub faults_hold : (rows : List FaultRow) → map fault_given rows ≡ map fault_wanted rows → AllByRecursion HasFault rows
faults_hold rows e = by_rows HasFault fault_given fault_wanted (λ row e. at_source row.0 row.1 (is_small row.0) refl e) rows e

-- ---- the tokens

abbrev pub kinds_given : KindRow → Option (List TokenKind)
kinds_given row = kinds_in (reading_of_characters row.0)

abbrev pub kinds_wanted : KindRow → Option (List TokenKind)
kinds_wanted row = Some row.1

pub kinds_hold : (rows : List KindRow) → map kinds_given rows ≡ map kinds_wanted rows → AllByRecursion HasKinds rows
kinds_hold rows e = by_rows HasKinds kinds_given kinds_wanted (λ row e. e) rows e

abbrev pub reading_given : ReadingRow → Result Reading SourceFault
reading_given row = reading_of_characters row.0

abbrev pub reading_wanted : ReadingRow → Result Reading SourceFault
reading_wanted row = Ok row.1

pub readings_hold : (rows : List ReadingRow) → map reading_given rows ≡ map reading_wanted rows → AllByRecursion IsRead rows
readings_hold rows e = by_rows IsRead reading_given reading_wanted (λ row e. e) rows e

-- ---- the tree

abbrev pub tree_given : TreeRow → Option ParseTree
tree_given row = tree_from (reading_of_characters row.0)

abbrev pub tree_wanted : TreeRow → Option ParseTree
tree_wanted row = Some row.1

pub trees_hold : (rows : List TreeRow) → map tree_given rows ≡ map tree_wanted rows → AllByRecursion HasScript rows
trees_hold rows e = by_rows HasScript tree_given tree_wanted (λ row e. accepts e) rows e

-- ---- bytes that are no text

abbrev pub bytes_given : ByteRow → Result Reading SourceFault
bytes_given row = reading_of row.0

abbrev pub bytes_wanted : ByteRow → Result Reading SourceFault
bytes_wanted row = Err row.1

pub bytes_hold : (rows : List ByteRow) → map bytes_given rows ≡ map bytes_wanted rows → AllByRecursion IsIllFormed rows
bytes_hold rows e = by_rows IsIllFormed bytes_given bytes_wanted (λ row e. at_tokens e) rows e

-- ---- what names are bound to

abbrev pub binding_given : BindingRow → Resolved
binding_given row = resolved row.0 row.1

abbrev pub binding_wanted : BindingRow → Resolved
binding_wanted row = row.2

pub bindings_hold : (rows : List BindingRow) → map binding_given rows ≡ map binding_wanted rows → AllByRecursion IsBound rows
bindings_hold rows e = by_rows IsBound binding_given binding_wanted (λ row e. e) rows e

abbrev pub scope_given : ScopeRow → Scope
scope_given row = row.0

abbrev pub scope_wanted : ScopeRow → Scope
scope_wanted row = row.1

pub scopes_hold : (rows : List ScopeRow) → map scope_given rows ≡ map scope_wanted rows → AllByRecursion IsScope rows
scopes_hold rows e = by_rows IsScope scope_given scope_wanted (λ row e. e) rows e
