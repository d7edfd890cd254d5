-- Chains of scopes.
use Rattle.std.proofs.Common.{◌≡◌, ◌<◌, ◌++◌, ◌∙◌, ap, sym, refl, subst, ℕ, suc, zero, ◌+◌, Bool, true, false, not, ◌||◌, nat_eq, if◌then◌else◌, true≢false, List, [], ◌∷◌, length, length-append, append_assoc, append-nil, Option, Some, None, unwrap_or, slice_get, add-zero, zero-add, arith}
use Rattle.std.proofs.Math.Bool.{or-false}
use Rattle.std.proofs.Math.ListN.{get_or-append}
use Rattle.std.proofs.Math.Seq.{get_or-append_seam}
use Rattle.std.proofs.lemmas.Bool.{and_parts, eqb-true}
use Rattle.script_rules.specs.declared.resolved.Resolved.{Resolved}
use Rattle.script_rules.specs.declared.scope.Owner.{Owner}
use Rattle.script_rules.specs.declared.scope.Owner.TheVariants as owner
use Rattle.script_rules.specs.declared.scope.Scope.{Scope}
use Rattle.script_rules.specs.declared.scope_entry.Outside.{Outside}
use Rattle.script_rules.specs.declared.scope_entry.ScopeEntry.{ScopeEntry}
use Rattle.script_rules.specs.declared.scope_entry.ScopeId.{ScopeId}
use Rattle.script_rules.specs.Scopes.{first_place, in_force, in_force_after, is_in_function, is_of_function, passed_at, resolved, resolved_from, resolved_by}
use Rattle.script_rules.specs.Bounds.{Bound, place_from}
use Rattle.script_rules.specs.Chains.{Enters, chain_at, chain_from, IsKnown, chain_of, chains_after, Fits, AllFit, IsBelow, IsEntry, IsOutside, HoldsScope, Says, is_silent, outwards, speaking}

-- ---- scopes that are entered later change no chain

pub chain_kept : (done more : List (List Scope)) (i : ℕ) → i < length done → chain_at (done ++ more) i ≡ chain_at done i
chain_kept done more i lt = get_or-append done more [] i lt

pub from_kept : (done more : List (List Scope)) (outer : Option ScopeId) → IsKnown done outer → chain_from (done ++ more) outer ≡ chain_from done outer
from_kept done more None k = refl
from_kept done more (Some id) k = chain_kept done more id.0 k

rest : (done : List (List Scope)) (es : List ScopeEntry) → (more : List (List Scope)) × (chains_after done es ≡ done ++ more) × (length more ≡ length es)
rest done [] = ([], sym (append-nil done), refl)
rest done (e ∷ es) =
    let r = rest (done ++ chain_of done e ∷ []) es in
    (chain_of done e ∷ r.0, r.1 ∙ append_assoc done (chain_of done e ∷ []) r.0, ap suc r.2)

pub length-chains : (es : List ScopeEntry) → length (chains_after [] es) ≡ length es
length-chains es = let r = rest [] es in ap length r.1 ∙ r.2

-- ---- an entry more

pub chains_more : (done : List (List Scope)) (es : List ScopeEntry) (e : ScopeEntry) → chains_after done (es ++ e ∷ []) ≡ chains_after done es ++ chain_of (chains_after done es) e ∷ []
chains_more done [] e = refl
chains_more done (x ∷ es) e = chains_more (done ++ chain_of done x ∷ []) es e

pub fits_more : (done : List (List Scope)) (es : List ScopeEntry) (e : ScopeEntry) → AllFit done es → Fits (chains_after done es) e → AllFit done (es ++ e ∷ [])
fits_more done [] e all f = (f, tt)
fits_more done (x ∷ es) e all f = (all.0, fits_more (done ++ chain_of done x ∷ []) es e all.1 f)

-- ---- the entries of a table

below : (done : List (List Scope)) (outer : Option ScopeId) → IsKnown done outer → IsBelow (length done) outer
below done None k = tt
below done (Some id) k = k

entry_here : (done : List (List Scope)) (es : List ScopeEntry) (e : ScopeEntry) → Fits done e → IsEntry (chains_after (done ++ chain_of done e ∷ []) es) (length done) e
entry_here done es e f =
    let here = done ++ chain_of done e ∷ [] in
    let r = rest here es in
    let n : length here ≡ length done + 1 = length-append done (chain_of done e ∷ []) in
    let same : chains_after here es ≡ done ++ (chain_of done e ∷ r.0) = r.1 ∙ append_assoc done (chain_of done e ∷ []) r.0 in
    let outer : chain_from (chains_after here es) e.outer ≡ chain_from done e.outer = rw same (from_kept done (chain_of done e ∷ r.0) e.outer f.outer) in
    let speaker : chain_from (chains_after here es) e.speaker ≡ chain_from done e.speaker = rw same (from_kept done (chain_of done e ∷ r.0) e.speaker f.speaker) in
    record {
      chain = rw same (get_or-append_seam done (chain_of done e) r.0 [] ∙ ap (λ o. e.scope ∷ o) (sym (from_kept done (chain_of done e ∷ r.0) e.outer f.outer)));
      speaker = below done e.speaker f.speaker;
      speaks = speaker ∙ f.speaks ∙ ap speaking (sym outer);
      counts = rw outer f.counts;
    }

same_entry : (x e : ScopeEntry) → Some x ≡ Some e → x ≡ e
same_entry x e p = cc

further : (done : List (List Scope)) (c : List Scope) (k : ℕ) → length (done ++ c ∷ []) + k ≡ length done + suc k
further done c k = omega (arith, length-append done (c ∷ []))

entry_in : (es : List ScopeEntry) (done : List (List Scope)) (k : ℕ) (e : ScopeEntry) → AllFit done es → slice_get es k ≡ Some e → IsEntry (chains_after done es) (length done + k) e
entry_in [] done k e all at = absurd (cc at)
entry_in (x ∷ es) done zero e all at =
    subst (λ (y : ScopeEntry). IsEntry (chains_after done (x ∷ es)) (length done + 0) y) (same_entry x e at) (rw (add-zero (length done)) (entry_here done es x all.0))
entry_in (x ∷ es) done (suc k) e all at =
    subst (λ (n : ℕ). IsEntry (chains_after done (x ∷ es)) n e) (further done (chain_of done x) k) (entry_in es (done ++ chain_of done x ∷ []) k e all.1 at)

pub entry_at : (es : List ScopeEntry) (n : ℕ) (e : ScopeEntry) → AllFit [] es → slice_get es n ≡ Some e → IsEntry (chains_after [] es) n e
entry_at es n e all at = subst (λ (m : ℕ). IsEntry (chains_after [] es) m e) (zero-add n) (entry_in es [] n e all at)

-- ---- a scope is entered

module _ (chains : List (List Scope)) (outer : Option ScopeId) (s : Scope) (outside : Outside) (e : ScopeEntry) (o : IsOutside chains outer outside) (h : HoldsScope outside s e) where
  same_outer : e.outer ≡ outer
  same_outer = h.outer ∙ o.outer

  pub fits_entered : IsKnown chains outer → Fits chains e
  fits_entered known = record {
    outer = rw same_outer known;
    speaker = rw h.speaker o.speaker;
    speaks = rw (h.speaker, same_outer) o.speaks;
    counts = record {
      first = rw (same_outer, h.scope) (h.first ∙ ap (first_place s.owner) o.in_force);
      in_force = rw (same_outer, h.scope) (h.in_force ∙ ap (λ n. in_force_after s.owner n (length s.names)) o.in_force);
      in_function = rw (same_outer, h.scope) (h.in_function ∙ ap (λ b. is_of_function s.owner || b) o.in_function);
      room = rw h.scope h.room;
    };
  }

  pub enters : chain_of chains e ≡ s ∷ chain_from chains outer
  enters = rw (h.scope, same_outer) refl

module _ (es new : List ScopeEntry) (e : ScopeEntry) (now : List (List Scope)) (outer : Option ScopeId) (s : Scope) (outside : Outside) (is : chains_after [] es ≡ now)
    (pushed : new ≡ es ++ e ∷ []) (around : IsOutside now outer outside) (holds : HoldsScope outside s e) where
  pub entered_fits : AllFit [] es → IsKnown now outer → AllFit [] new
  entered_fits all known = rw pushed (fits_more [] es e all (rw is (fits_entered now outer s outside e around holds known)))

  pub entered : (n : ℕ) → n ≡ length es → Enters now (chains_after [] new) outer s (record { 0 = n })
  entered n last = record {
    chains = rw (pushed, chains_more [] es e, is) (ap (λ (c : List Scope). now ++ c ∷ []) (enters now outer s outside e around holds));
    last = last ∙ sym (length-chains es) ∙ ap length is;
  }

-- ---- looking outwards

pub record GoesOutwards (chains : List (List Scope)) (scope : ℕ) (units : List ℕ) (away : Bool) (next : Option ScopeId) : Type 0 where
  pub known : IsKnown chains next
  pub rest : resolved_from away (chain_from chains next) units ≡ resolved (chain_at chains scope) units

known_outer : (chains : List (List Scope)) (n : ℕ) (outer : Option ScopeId) → n < length chains → IsBelow n outer → IsKnown chains outer
known_outer chains n None lt b = tt
known_outer chains n (Some id) lt b = omega arith

pub nearer : (n : ℕ) (outer : Option ScopeId) → IsBelow n outer → outwards outer < n + 1
nearer n None b = omega arith
nearer n (Some id) b = omega arith

module _ (chains : List (List Scope)) (scope n : ℕ) (units : List ℕ) (away : Bool) (e : ScopeEntry) (said : Option Resolved) (at : IsEntry chains n e)
    (says : Says (resolved_by e.scope away units (place_from e.first e.scope.names units)) said) where
  pub said_here : resolved_from away (chain_at chains n) units ≡ unwrap_or said (resolved_from (away || is_of_function e.scope.owner) (chain_from chains e.outer) units)
  said_here =
      ap (λ (c : List Scope). resolved_from away c units) at.chain
      ∙ ap (λ p. resolved_by e.scope away units (place_from p e.scope.names units) (resolved_from (away || is_of_function e.scope.owner) (chain_from chains e.outer) units)) (sym at.counts.first)
      ∙ says (resolved_from (away || is_of_function e.scope.owner) (chain_from chains e.outer) units)

-- ---- scopes that say nothing of any name

unnamed : (ns : List Bound) (u : List ℕ) (p : ℕ) → nat_eq (length ns) 0 ≡ true → place_from p ns u ≡ None
unnamed [] u p t = refl
unnamed (b ∷ bs) u p t = absurd (cc (eqb-true (length (b ∷ bs)) 0 t))

passes : (o : Owner) (s : Scope) (away : Bool) (u : List ℕ) (outside : Bool → Resolved) → not (is_of_function o) ≡ true
    → passed_at o s away u (outside (away || is_of_function o)) ≡ outside away
passes owner.Script s away u outside t = ap outside (or-false away)
passes owner.Part s away u outside t = ap outside (or-false away)
passes owner.Function s away u outside t = absurd (true≢false (sym t))

skipped : (s : Scope) (outer : List Scope) (away : Bool) (u : List ℕ) → is_silent s ≡ true → resolved_from away (s ∷ outer) u ≡ resolved_from away outer u
skipped s outer away u t =
    let p = and_parts (not (is_of_function s.owner)) (nat_eq (length s.names) 0) t in
    ap (λ found. resolved_by s away u found (resolved_from (away || is_of_function s.owner) outer u)) (unnamed s.names u (first_place s.owner (in_force outer)) p.1)
    ∙ passes s.owner s away u (λ b. resolved_from b outer u) p.0

same_speaking : (c : List Scope) (away : Bool) (u : List ℕ) → resolved_from away (speaking c) u ≡ resolved_from away c u
same_speaking [] away u = refl
same_speaking (s ∷ outer) away u = by (is_silent s) refl (same_speaking outer away u)
  where
    by : (b : Bool) → is_silent s ≡ b → resolved_from away (speaking outer) u ≡ resolved_from away outer u
        → resolved_from away (if b then speaking outer else s ∷ outer) u ≡ resolved_from away (s ∷ outer) u
    by true t same = same ∙ sym (skipped s outer away u t)
    by false t same = refl

module _ (chains : List (List Scope)) (id : ScopeId) (e : ScopeEntry) (lt : id.0 < length chains) (at : IsEntry chains id.0 e) where
  opened : (b : Bool) → is_silent e.scope ≡ b → speaking (chain_at chains id.0) ≡ (if b then speaking (chain_from chains e.outer) else chain_of chains e)
  opened b t = ap speaking at.chain ∙ ap (λ c. if c then speaking (chain_from chains e.outer) else chain_of chains e) t

  speaks_of : (o : Outside) → o.outer ≡ Some id → o.in_force ≡ e.in_force → o.in_function ≡ e.in_function → IsKnown chains o.speaker
      → chain_from chains o.speaker ≡ speaking (chain_at chains id.0) → IsOutside chains (Some id) o
  speaks_of o outer force function known speaks = record {
    outer = outer;
    speaker = known;
    speaks = speaks;
    in_force = force ∙ at.counts.in_force ∙ sym (ap in_force at.chain);
    in_function = function ∙ at.counts.in_function ∙ sym (ap is_in_function at.chain);
  }

  pub outside_silent : is_silent e.scope ≡ true → IsOutside chains (Some id) (record { outer = Some id; speaker = e.speaker; in_force = e.in_force; in_function = e.in_function })
  outside_silent t = speaks_of _ refl refl refl (known_outer chains id.0 e.speaker lt at.speaker) (at.speaks ∙ sym (opened true t))

  pub outside_speaks : is_silent e.scope ≡ false → IsOutside chains (Some id) (record { outer = Some id; speaker = Some id; in_force = e.in_force; in_function = e.in_function })
  outside_speaks f = speaks_of _ refl refl refl lt (at.chain ∙ sym (opened false f))

pub outside_none : (chains : List (List Scope)) → IsOutside chains None (record { outer = None; speaker = None; in_force = 0; in_function = false })
outside_none chains = record { outer = refl; speaker = tt; speaks = refl; in_force = refl; in_function = refl }

pub goes_outwards : (chains : List (List Scope)) (scope n : ℕ) (units : List ℕ) (away : Bool) (e : ScopeEntry) → IsEntry chains n e
    → Says (resolved_by e.scope away units (place_from e.first e.scope.names units)) None → n < length chains
    → resolved_from away (chain_at chains n) units ≡ resolved (chain_at chains scope) units → GoesOutwards chains scope units (away || is_of_function e.scope.owner) e.speaker
goes_outwards chains scope n units away e at says lt g =
    let past = away || is_of_function e.scope.owner in
    record {
      known = known_outer chains n e.speaker lt at.speaker;
      rest =
          ap (λ c. resolved_from past c units) at.speaks ∙ same_speaking (chain_from chains e.outer) past units ∙ sym (said_here chains scope n units away e None at says) ∙ g;
    }

pub stands_in_function : (chains : List (List Scope)) (n : ℕ) (e : ScopeEntry) → IsEntry chains n e → e.in_function ≡ is_in_function (chain_at chains n)
stands_in_function chains n e at = at.counts.in_function ∙ sym (ap is_in_function at.chain)
