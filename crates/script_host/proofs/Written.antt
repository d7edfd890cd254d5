-- Lemmas on lines: how they are made of texts, and how they are written one after another.
use Rattle.std.proofs.Common.{◌≡◌, ◌≤◌, ◌<◌, ◌+◌, ◌++◌, ◌∷◌, ◌∙◌, [], ℕ, List, Option, Some, None, zero, suc, length, codes, length-append, take, slice_get, refl, sym, ap, subst, true≢false, append_assoc, append-nil, arith, add-one}
use Rattle.std.proofs.lemmas.List.{take_all}
use Rattle.std.proofs.KnownBytes.{Appends-trans}
use Rattle.std.specs.Fmt.{decimal}
use Rattle.std.specs.Io.KnownBytes.{Appends}
use Rattle.std.specs.List.{AllByRecursion, flat_map}
use Rattle.property_keys.specs.Counts.{counted}
use Rattle.property_keys.specs.declared.values.Value.{Value}
use Rattle.es_model.specs.World.{Lists}
use Rattle.hc_outside.specs.Sinks.{AppendsFront}
use Rattle.hc_outside.proofs.Fronts.{front_after}
use Rattle.es_serve.specs.Lines.{line_bytes, text_bytes, texts_bytes}
use Rattle.script_host.specs.Expected.{length_line}
use Rattle.script_host.specs.Separated.{separated}
use Rattle.script_host.specs.Sinks.{AreLinesOf, IsLine, SinkChange, SinkView, TookLine, TookLines, Wrote, change, counted_times}

-- ---- the texts of a line

none_some : {T : Type 0} (x : T) → None ≡ Some x → ⊥
none_some x e = true≢false cc

same_some : {T : Type 0} (x y : T) → Some x ≡ Some y → x ≡ y
same_some x y e = cc

-- one text more
next_text : (l : Lists) (line : List Value) (i : ℕ) (v : Value) → slice_get line i ≡ Some v → texts_bytes l (take (suc i) line) ≡ texts_bytes l (take i line) ++ separated l i v
next_text l [] zero v is = absurd (none_some v is)
next_text l [] (suc i) v is = absurd (none_some v is)
next_text l (t ∷ ts) zero v is = ap (text_bytes l) (same_some t v is)
next_text l (t ∷ []) (suc zero) v is = absurd (none_some v is)
next_text l (t ∷ []) (suc (suc i)) v is = absurd (none_some v is)
next_text l (t ∷ u ∷ us) (suc zero) v is = ap (λ x. text_bytes l t ++ 32 ∷ text_bytes l x) (same_some u v is)
next_text l (t ∷ u ∷ us) (suc (suc i)) v is =
    ap (λ x. text_bytes l t ++ 32 ∷ x) (next_text l (u ∷ us) (suc i) v is)
    ∙ sym (append_assoc (text_bytes l t) (32 ∷ texts_bytes l (take (suc i) (u ∷ us))) (separated l (suc (suc i)) v))

pub text_more : (l : Lists) (line : List Value) (i : ℕ) (v : Value) (bytes more : List ℕ) → slice_get line i ≡ Some v → bytes ≡ texts_bytes l (take i line) → more ≡ bytes ++ separated l i v
    → more ≡ texts_bytes l (take (i + 1) line)
text_more l line i v bytes more is so_far next =
    next ∙ ap (λ x. x ++ separated l i v) so_far ∙ sym (next_text l line i v is) ∙ ap (λ n. texts_bytes l (take n line)) (let one : suc i ≡ i + 1 = omega arith in one)

-- all texts, with the line feed
pub line_whole : (l : Lists) (line : List Value) (i : ℕ) (bytes all : List ℕ) → length line ≤ i → bytes ≡ texts_bytes l (take i line) → all ≡ bytes ++ 10 ∷ []
    → all ≡ line_bytes l line
unfolding line_bytes
line_whole l line i bytes all past so_far next = next ∙ ap (λ x. x ++ 10 ∷ []) (so_far ∙ ap (texts_bytes l) (take_all i line past))

pub is_line : (l : Lists) (line : List Value) → IsLine (line_bytes l line)
unfolding line_bytes
is_line l line = (texts_bytes l line, refl)

-- ---- one line after another

all_more : (lines : List (List ℕ)) (line : List ℕ) → AllByRecursion IsLine lines → IsLine line → AllByRecursion IsLine (lines ++ line ∷ [])
all_more [] line all one = (one, tt)
all_more (first ∷ lines) line all one = (all.0, all_more lines line all.1 one)

joined_more : (lines : List (List ℕ)) (line : List ℕ) → flat_map (λ (x : List ℕ). x) (lines ++ line ∷ []) ≡ flat_map (λ (x : List ℕ). x) lines ++ line
joined_more [] line = append-nil line
joined_more (first ∷ lines) line = ap (λ x. first ++ x) (joined_more lines line) ∙ sym (append_assoc first (flat_map (λ (x : List ℕ). x) lines) line)

lines_more : (lines : List (List ℕ)) (bytes line : List ℕ) → AreLinesOf lines bytes → IsLine line → AreLinesOf (lines ++ line ∷ []) (bytes ++ line)
lines_more lines bytes line are one = (all_more lines line are.0 one, joined_more lines line ∙ ap (λ x. x ++ line) are.1)

writes_more : (lines : List (List ℕ)) (line : List ℕ) (before middle now : ℕ) → middle ≡ counted_times (length lines) before → now ≡ counted middle
    → now ≡ counted_times (length (lines ++ line ∷ [])) before
writes_more lines line before middle now first next =
    let longer : suc (length lines) ≡ length (lines ++ line ∷ []) = omega (arith, length-append lines (line ∷ [])) in
    next ∙ ap counted first ∙ ap (λ n. counted_times n before) longer

pub wrote_more : (s t u : SinkView) (before line all : List ℕ) → all ≡ before ++ line → Wrote (change s t) before → IsLine line → TookLine (change t u) line → Wrote (change s u) all
wrote_more s t u before line all whole wrote one took =
    subst (Wrote (change s u)) (sym whole) (record {
      lines = wrote.lines ++ line ∷ [];
      are = lines_more wrote.lines before line wrote.are one;
      faults = took.0 ∙ wrote.faults;
      held = Appends-trans s.held t.held u.held before line wrote.held took.1;
      writes = writes_more wrote.lines line s.writes t.writes u.writes wrote.writes took.2;
      flushes = took.3 ∙ wrote.flushes;
    })

-- one line alone
pub wrote_line : (line : List ℕ) (out : SinkChange) → IsLine line → TookLine out line → Wrote out line
wrote_line line out one took = record {
  lines = line ∷ [];
  are = ((one, tt), append-nil line);
  faults = took.0;
  held = took.1;
  writes = took.2;
  flushes = took.3;
}

pub length_is_line : (bytes : ℕ) → IsLine (length_line bytes)
length_is_line bytes =
    (codes "generated " ++ decimal bytes ++ codes " bytes", sym (append_assoc (codes "generated ") (decimal bytes ++ codes " bytes") (10 ∷ []) ∙ ap (λ x. codes "generated " ++ x) (append_assoc (decimal bytes) (codes " bytes") (10 ∷ []))))

-- lines behind lines
all_both : (xs ys : List (List ℕ)) → AllByRecursion IsLine xs → AllByRecursion IsLine ys → AllByRecursion IsLine (xs ++ ys)
all_both [] ys first next = next
all_both (x ∷ xs) ys first next = (first.0, all_both xs ys first.1 next)

joined_both : (xs ys : List (List ℕ)) → flat_map (λ (x : List ℕ). x) (xs ++ ys) ≡ flat_map (λ (x : List ℕ). x) xs ++ flat_map (λ (x : List ℕ). x) ys
joined_both [] ys = refl
joined_both (x ∷ xs) ys = ap (λ r. x ++ r) (joined_both xs ys) ∙ sym (append_assoc x (flat_map (λ (x : List ℕ). x) xs) (flat_map (λ (x : List ℕ). x) ys))

counted_inside : (times n : ℕ) → counted (counted_times times n) ≡ counted_times times (counted n)
counted_inside zero n = refl
counted_inside (suc times) n = ap counted (counted_inside times n)

times_behind : (xs ys : List (List ℕ)) (n : ℕ) → counted_times (length (xs ++ ys)) n ≡ counted_times (length ys) (counted_times (length xs) n)
times_behind [] ys n = refl
times_behind (x ∷ xs) ys n = ap counted (times_behind xs ys n) ∙ counted_inside (length ys) (counted_times (length xs) n)

-- lines that were written, and then lines that were written and flushed
pub lines_behind : (s t u : SinkView) (first next : List ℕ) → Wrote (change s t) first → TookLines (change t u) next → TookLines (change s u) (first ++ next)
lines_behind s t u first next wrote took = (
  wrote.lines ++ took.0,
  (all_both wrote.lines took.0 wrote.are.0 took.1.0, joined_both wrote.lines took.0 ∙ ap (λ x. x ++ flat_map (λ (x : List ℕ). x) took.0) wrote.are.1 ∙ ap (λ x. first ++ x) took.1.1),
  (
    took.2.0 ∙ wrote.faults,
    Appends-trans s.held t.held u.held first next wrote.held took.2.1,
    took.2.2 ∙ ap (counted_times (length took.0)) wrote.writes ∙ sym (times_behind wrote.lines took.0 s.writes),
    took.2.3 ∙ ap counted wrote.flushes,
  ),
)

-- a front of some bytes is one of more
pub front_longer : (old new : Option (List ℕ)) (bytes more : List ℕ) → AppendsFront old new bytes → AppendsFront old new (bytes ++ more)
front_longer None new bytes more front = tt
front_longer (Some xs) None bytes more front = front
front_longer (Some xs) (Some ys) bytes more front = (front.0, front.1 ++ more, ap (λ x. x ++ more) front.2 ∙ append_assoc front.0 front.1 more, front.3)

-- all of some bytes, and then a front of more
pub front_behind : (a b c : Option (List ℕ)) (bytes more : List ℕ) → Appends a b bytes → AppendsFront b c more → AppendsFront a c (bytes ++ more)
front_behind a b c bytes more whole front = front_after a b c bytes more [] (bytes ++ more) (sym (append-nil (bytes ++ more))) whole front
