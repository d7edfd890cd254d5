-- A scanner that has read some tokens goes on as the tokens do.
use Rattle.std.proofs.Common.{◌≡◌, ◌∙◌, ◌∷◌, ◌++◌, ◌+◌, ◌≤◌, ◌<◌, [], ℕ, zero, suc, pred, Bool, true, false, List, length, take, drop, Some, None, Result, Ok, Err, refl, sym, ap, arith, append_assoc, append-nil, length-drop, take-append-drop}
use Rattle.std.proofs.lemmas.List.{drop-drop}
use Rattle.std.proofs.Math.Seq.{take-add}
use Rattle.es_source.specs.Places.{place_after}
use Rattle.es_source.specs.Reading.{Next, next_of, tokens_by, tokens_from, token_after, with_token, hashbang_length, reading_of_characters, with_ending}
use Rattle.es_source.specs.Reading.Next.{Ends, Fails, Comes}
use Rattle.es_source.specs.declared.faults.SourceFault.{SourceFault}
use Rattle.es_source.specs.declared.token.Token.{Token}
use Rattle.script_syntax.specs.Positions.{position_after}
use Rattle.script_syntax.specs.Readings.{listed, GivesReading}
use Rattle.script_syntax.specs.Scanning.{step_of, IsStep, EndsAt}
use Rattle.script_syntax.specs.declared.positions.Position.{Position}
use Rattle.script_syntax.specs.declared.scanning.Found.{Found}
use Rattle.es_source.specs.declared.stop.ReadStop.{ReadStop}
use Rattle.es_source.specs.declared.stop.ReadStop.TheVariants.{Fault, NoMemory}

-- the characters of a token that was found are passed
pass : (is_first : Bool) (before : List ℕ) (n : ℕ) (cs : List ℕ) → n ≤ length cs
    → tokens_from is_first before n cs ≡ tokens_from is_first (before ++ take n cs) 0 (drop n cs)
pass is_first before zero cs le = ap (λ xs. tokens_from is_first xs 0 cs) (sym (append-nil before))
pass is_first before (suc n) [] le = absurd (omega arith)
pass is_first before (suc n) (c ∷ cs) le =
    pass is_first (before ++ c ∷ []) n cs (omega arith)
    ∙ ap (λ xs. tokens_from is_first xs 0 (drop n cs)) (append_assoc before (c ∷ []) (take n cs))

abbrev later_from : List ℕ → List ℕ → ℕ → Result (List Token) SourceFault
later_from before rest passing = tokens_from false (before ++ take 1 rest) passing (drop 1 rest)

by_next : (is_first : Bool) (before rest : List ℕ) → tokens_from is_first before 0 rest ≡ tokens_by is_first before rest (later_from before rest) (next_of rest)
by_next is_first before [] = refl
by_next is_first before (c ∷ cs) = refl

at_end : (is_first : Bool) (before rest : List ℕ) (next : Next) → step_of is_first before rest next ≡ Ok None → tokens_by is_first before rest (later_from before rest) next ≡ Ok []
at_end is_first before rest Ends e = refl
at_end is_first before rest (Fails passed) e = cc
at_end is_first before rest (Comes gap form size) e = cc

at_fault : (is_first : Bool) (before rest : List ℕ) (fault : SourceFault) (next : Next) → step_of is_first before rest next ≡ Err fault
    → tokens_by is_first before rest (later_from before rest) next ≡ Err fault
at_fault is_first before rest fault Ends e = cc
at_fault is_first before rest fault (Fails passed) e = cc
at_fault is_first before rest fault (Comes gap form size) e = cc

at_token : (is_first : Bool) (before rest : List ℕ) (token : Token) (n : ℕ) (next : Next) → step_of is_first before rest next ≡ Ok (Some (token, n))
    → tokens_by is_first before rest (later_from before rest) next ≡ with_token token (later_from before rest (pred n))
at_token is_first before rest token n Ends e = cc
at_token is_first before rest token n (Fails passed) e = cc
at_token is_first before rest token n (Comes gap form size) e =
    let pair : ◌≡◌ {A = Token × ℕ} (token_after is_first before (take gap rest) form, gap + size) (token, n) = cc in
    λ i. with_token (pair i).0 (later_from before rest (pred (pair i).1))

-- the tokens read so far, before the others
abbrev pub after_tokens : List Token → Result (List Token) SourceFault → Result (List Token) SourceFault
after_tokens all (Ok rest) = Ok (all ++ rest)
after_tokens all (Err fault) = Err fault

one_more_token : (all : List Token) (token : Token) (rest : Result (List Token) SourceFault)
    → after_tokens all (with_token token rest) ≡ after_tokens (all ++ token ∷ []) rest
one_more_token all token (Ok rest) = ap (λ xs. Ok xs) (sym (append_assoc all (token ∷ []) rest))
one_more_token all token (Err fault) = refl

no_tokens : (rest : Result (List Token) SourceFault) → rest ≡ after_tokens [] rest
no_tokens (Ok rest) = refl
no_tokens (Err fault) = refl

-- the scanner has come to a place with these tokens
pub record Reached (cs : List ℕ) (is_first : Bool) (all : List Token) (place : ℕ) : Type 0 where
  pub within : place ≤ length cs
  pub found : after_tokens all (tokens_from is_first (take place cs) 0 (drop place cs)) ≡ tokens_from true [] (hashbang_length cs) cs

pub reached_start : (cs : List ℕ) (n : ℕ) → n ≡ hashbang_length cs → n ≤ length cs → Reached cs true [] n
reached_start cs n e le = record {
  within = le;
  found = sym (no_tokens (tokens_from true (take n cs) 0 (drop n cs))) ∙ sym (pass true [] n cs le) ∙ ap (λ k. tokens_from true [] k cs) e;
}

reached_next : (cs : List ℕ) (is_first : Bool) (all : List Token) (place n : ℕ) (token : Token) → Reached cs is_first all place → 0 < n → n ≤ length (drop place cs)
    → step_of is_first (take place cs) (drop place cs) (next_of (drop place cs)) ≡ Ok (Some (token, n)) → Reached cs false (all ++ token ∷ []) (place + n)
reached_next cs is_first all place zero token at positive le e = absurd (omega arith)
reached_next cs is_first all place (suc n) token at positive le e =
    let before = take place cs in
    let rest = drop place cs in
    let enough : n ≤ length (drop 1 rest) = omega (arith, length-drop 1 rest) in
    let here : tokens_from is_first before 0 rest ≡ with_token token (later_from before rest n) =
    by_next is_first before rest ∙ at_token is_first before rest token (suc n) (next_of rest) e in
    let passed : later_from before rest n ≡ tokens_from false ((before ++ take 1 rest) ++ take n (drop 1 rest)) 0 (drop n (drop 1 rest)) =
    pass false (before ++ take 1 rest) n (drop 1 rest) enough in
    let sum : 1 + n ≡ suc n = omega arith in
    let front : (before ++ take 1 rest) ++ take n (drop 1 rest) ≡ take (place + suc n) cs =
    append_assoc before (take 1 rest) (take n (drop 1 rest)) ∙ ap (λ xs. before ++ xs) (sym (take-add 1 n rest) ∙ ap (λ k. take k rest) sum) ∙ sym (take-add place (suc n) cs) in
    let back : drop n (drop 1 rest) ≡ drop (place + suc n) cs = drop-drop n 1 rest ∙ ap (λ k. drop k rest) sum ∙ drop-drop (suc n) place cs in
    record {
      within = omega (arith, at.within, length-drop place cs);
      found =
          sym (one_more_token all token (tokens_from false (take (place + suc n) cs) 0 (drop (place + suc n) cs)))
          ∙ ap (λ r. after_tokens all (with_token token r)) (sym (passed ∙ (λ i. tokens_from false (front i) 0 (back i))))
          ∙ ap (after_tokens all) (sym here) ∙ at.found;
    }

reached_end : (cs : List ℕ) (is_first : Bool) (all : List Token) (place : ℕ) (p : Position) → Reached cs is_first all place
    → p ≡ position_after (take place cs ++ drop place cs)
    → step_of is_first (take place cs) (drop place cs) (next_of (drop place cs)) ≡ Ok None → reading_of_characters cs ≡ Ok (listed all p.place)
reached_end cs is_first all place p at e end =
    let whole : tokens_from true [] (hashbang_length cs) cs ≡ Ok all =
    sym at.found ∙ ap (after_tokens all) (by_next is_first (take place cs) (drop place cs) ∙ at_end is_first (take place cs) (drop place cs) (next_of (drop place cs)) end)
    ∙ ap (λ xs. Ok xs) (append-nil all) in
    let ending : p ≡ position_after cs = e ∙ ap position_after (take-append-drop place cs) in
    ap (with_ending (place_after cs)) whole ∙ sym (ap (λ (q : Position). Ok (listed all q.place)) ending)

pub reached_stop : (cs : List ℕ) (is_first : Bool) (all : List Token) (place : ℕ) (rest : List ℕ) (stop : ReadStop) → Reached cs is_first all place → rest ≡ drop place cs
    → IsStep (step_of is_first (take place cs) rest (next_of rest)) (Err stop) → GivesReading (reading_of_characters cs) (Err stop)
reached_stop cs is_first all place rest (Fault fault) at same e =
    let before = take place cs in
    let step : step_of is_first before (drop place cs) (next_of (drop place cs)) ≡ Err fault = sym (ap (λ xs. step_of is_first before xs (next_of xs)) same) ∙ e in
    let whole : tokens_from true [] (hashbang_length cs) cs ≡ Err fault =
    sym at.found ∙ ap (after_tokens all) (by_next is_first before (drop place cs) ∙ at_fault is_first before (drop place cs) fault (next_of (drop place cs)) step) in
    ap (with_ending (place_after cs)) whole
reached_stop cs is_first all place rest NoMemory at same e = tt

-- the same, where a scanner says the step
pub said_next : (cs : List ℕ) (is_first : Bool) (all : List Token) (place : ℕ) (rest : List ℕ) (found : Found) → Reached cs is_first all place → rest ≡ drop place cs
    → 0 < found.size → found.size ≤ length rest → IsStep (step_of is_first (take place cs) rest (next_of rest)) (Ok (Some found))
    → Reached cs false (all ++ found.token ∷ []) (place + found.size)
said_next cs is_first all place rest found at same positive le e =
    reached_next cs is_first all place found.size found.token at positive (omega (arith, le, ap length same))
    (sym (ap (λ xs. step_of is_first (take place cs) xs (next_of xs)) same) ∙ e)

pub said_end : (cs : List ℕ) (is_first : Bool) (all : List Token) (place : ℕ) (rest : List ℕ) (p : Position) → Reached cs is_first all place → rest ≡ drop place cs
    → p ≡ position_after (take place cs ++ rest) → IsStep (step_of is_first (take place cs) rest (next_of rest)) (Ok None)
    → reading_of_characters cs ≡ Ok (listed all p.place)
said_end cs is_first all place rest p at same ending e =
    reached_end cs is_first all place p at (ending ∙ ap (λ xs. position_after (take place cs ++ xs)) same)
    (sym (ap (λ xs. step_of is_first (take place cs) xs (next_of xs)) same) ∙ e)

-- the place after a token that was found
pub said_place : (cs : List ℕ) (place : ℕ) (rest : List ℕ) (found : Found) → rest ≡ drop place cs → EndsAt (take place cs) rest found
    → found.position ≡ position_after (take (place + found.size) cs)
said_place cs place rest found same e =
    e ∙ ap (λ xs. position_after (take place cs ++ take found.size xs)) same ∙ ap position_after (sym (take-add place found.size cs))
