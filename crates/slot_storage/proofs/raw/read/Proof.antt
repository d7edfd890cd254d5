-- `read` meets its contract: a walk of its MIR by hand. The slice is lent shared, so it is looked into and shut again.
use Rattle.std.proofs.Common.{ℕ, ◌*◌, ◌^◌, ◌<◌, List, [], ◌∷◌, length, get_or, sym, refl, arith, w64}
use seplogic.Ra.Ura.{Ura}
use mir.Syntax.{Body, named, seq, assign, place, rv_opd, copy, return}
use mir.Val.{Val, vint}
use base.Logic.{SProp, ent}
use base.Fml.{Lft, Share, ftrue, flft}
use prog.Memory.{Memory}
use prog.Routine.{Routine}
use prog.Wp.{Env, Calls, Loops, WpFn, Tables}
use types.Logic.{Logic}
use contract.Monad.{Fun}
use contract.Running.{tables, tables_of}
use sound.WpLaws.{WpFn-mono}
use types.Kit.{‵, ◌⊛◌, ⋆, at_ret, ◌$◌, ◌∵◌, !, qed, by, move, keep, split, join, fsplit, fjoin, feq_i, flt_i, rewrite, suffices, frame, done}
use types.Part.{whole, sub}
use types.Run.{look, stop, fld, load, addr, hop, from, lit, of_opd, bin, first, blocks, exec, returns, enter}
use types.ByLocal.{alloc_all, pass_all, free_all, look_at, look_in_at, get, through, sets, sets_last, env}
use denote.Copied.{uint_Copied}
use denote.Exit.{yes}
use denote.Laws.{Is, shows}
use denote.Memory.{cell_at}
use denote.Plain.{uint_vals, uint_Tells}
use denote.RattleType.{owns}
use denote.Ref.{Bor}
use denote.Slice.{ShrSlice, Room, slice_val, shr_slice_vals, shr_slice_Tells}
use denote.Index.{place_is, elem_out, elem_back, looks_slice, shuts_slice}
use denote.Builtin.{u64, usize}
use denote.Signature.{plain}
use denote.Steps.{nothing}
use denote.Triple.Clauses.{Clauses}
use denote.Triple.Entry.{on_entry}
use denote.Triple.Spec.{Meets, triple_of}
use denote.Triple.Table.{entered}
use denote.Triple.Walked.{says, needs, Stays, stay_none_slice, stay_none, walk_of, ends_at, walked, Goes-none_slice, Goes-none, walk_Meets}
use Rattle.slot_storage.specs.contracts.raw.read.Key.{name as #read}
use Rattle.slot_storage.specs.contracts.raw.read as read
use Rattle.slot_storage.proofs.raw.read.Statement as stated
use Rattle.slot_storage.proofs.raw.read.Code as code

-- what the function still has of each parameter when it returns: both as they were passed
abbrev stayed : Stays (read.ended).signature.params (read.ended).kept
stayed = (stay_none_slice (0 ∷ []) tt (plain (λ _. u64)) yes, (stay_none (λ _. usize) yes, tt))

-- the MIR after the `unsafe` block: its value goes to the result
abbrev after_block : Body
after_block = seq (assign (place 0 []) (rv_opd (copy (place 5 [])))) return

module _ {M : Type 1} {𝓤 : Ura M} (𝓛 : Logic 𝓤) (at_mem : Memory → SProp 𝓤) (run : Routine → Fun 𝓤) where
  open 𝓛 use {H}

  abbrev clauses : Clauses 𝓤 read.ended
  clauses = read.clauses 𝓛 at_mem run

  module _ (κ : Lft) (q : Share) (b o : ℕ) (xs : List ℕ) (i : ℕ) where
    abbrev buf : Bor (List ℕ)
    buf = record { ref_ptr = (b, o); now = xs }

    abbrev words : List Val × (List Val × Unit {0})
    words = (shr_slice_vals buf, (vint w64 i ∷ [], tt))

    abbrev bound : (walk_of 𝓛 read.ended stayed clauses).Ghost
    bound = (((κ, tt), (q, tt), tt, (buf, (i, tt)), words), tt)

    abbrev Post : Val → SProp 𝓤
    Post = (walk_of 𝓛 read.ended stayed clauses).post bound

    abbrev elem : ℕ
    elem = get_or xs i 0

    exits : elem < 2 ^ 64 → ent 𝓤 (⋆ 𝓛 (‵ (flft κ q) ∷ ‵ ((ShrSlice (named 0) κ u64).own_val buf words.0) ∷ ‵ (usize.own_val i (vint w64 i ∷ [])) ∷ [])) (Post (vint w64 elem))
    exits g =
        qed 𝓛 (‵ (flft κ q) ∷ ‵ ((ShrSlice (named 0) κ u64).own_val buf words.0) ∷ ‵ (usize.own_val i (vint w64 i ∷ [])) ∷ []) ∵
        suffices ! _ (ends_at 𝓛 read.ended stayed clauses bound (vint w64 elem) elem (tt, (tt, tt)) (tt, (tt, tt))) $ says ! refl $
        nothing ! $ move ! (1 ∷ 0 ∷ []) $ join ! $ nothing ! $ move ! (3 ∷ 0 ∷ []) $ fjoin ! $ move ! (2 ∷ 0 ∷ []) $ fjoin ! $ move ! (1 ∷ 0 ∷ []) $
        frame ! $ frame ! $ flt_i ! elem (2 ^ 64) g $ feq_i ! (List Val) (vint w64 elem ∷ []) (vint w64 elem ∷ []) refl $ done !

    module _ (C : Calls 𝓤 H) (Λ : Loops 𝓤 H) where
      walk : Room u64 (length xs) → i < length xs
          → ent 𝓤 (on_entry 𝓛 read.signature (κ, tt) (q, tt) (buf, (i, tt)) words) (WpFn 𝓤 H C Λ code.function (slice_val (b, o) (length xs) ∷ vint w64 i ∷ []) Post)
      walk room inside =
          let count : length xs < 2 ^ 64 = room.0 in
          let bytes : length xs * 8 < 2 ^ 63 = room.1 in
          let fi : i < 2 ^ 64 = omega arith in
          let offset : i * 8 < 2 ^ 64 = omega arith in
          qed 𝓛 ((‵ (flft κ q) ⊛ ‵ ftrue) ∷ ‵ (owns (ShrSlice (named 0) κ u64 ∷ usize ∷ []) (buf, (i, tt)) words) ∷ []) ∵
          enter ! C Λ code.function (slice_val (b, o) (length xs) ∷ vint w64 i ∷ []) _ $
          alloc_all ! (λ l. pass_all ! refl ((tt, (tt, (record { fits = count }, tt))), ((tt, record { fits = fi }), tt)) $
          let En : Env 𝓤 H = env (code.function).locals l in
          move ! (1 ∷ []) $ fsplit ! $ fsplit ! $ move ! (3 ∷ []) $ split ! $ move ! (3 ∷ 0 ∷ []) $
          looks_slice ! tt u64 (uint_Copied 𝓛 w64) xs b o (λ q'. elem_out ! u64 (Is u64) (shows 𝓛 u64) (uint_vals w64) (uint_Tells w64) q' xs i 0 b o inside (λ g.
          rewrite ! 0 (λ (k : ℕ). ‵ (cell_at q' (u64).mir (vint w64 elem ∷ []) b k)) (place_is 8 o i) refl $
          -- [the element; what it owns; the others; what shuts; the shared slice; true; what is said of it; i]
          -- let start = buf.as_ptr();
          sets ! (addr ! (from ! (fld ! refl (hop ! (look_in_at ! 1 (sub ! 0 refl (whole !))) (stop !))))) refl (tt, tt) $
          first ! $ blocks ! $
          -- let at = start.add(i);
          sets ! (bin ! (get ! refl) (lit ! tt) (record { fits = offset })) refl (tt, record { fits = offset }) $
          sets ! (bin ! (get ! refl) (get ! refl) tt) refl (tt, tt) $
          -- *at;  the element is item 0
          sets_last ! (of_opd ! (load ! (through ! refl (stop !)) (look ! 0 refl))) refl (tt, record { fits = g.1 }) $
          exec ! C Λ En after_block (at_ret En Post) $
          sets ! (of_opd ! (get ! refl)) refl (tt, record { fits = g.1 }) $
          rewrite ! 0 (λ (k : ℕ). ‵ (cell_at q' (u64).mir (vint w64 elem ∷ []) b k)) (sym (place_is 8 o i)) refl $
          elem_back ! u64 q' xs i 0 (vint w64 elem ∷ []) b o inside $ shuts_slice ! tt u64 q' xs b o $
          returns ! (look_at ! 0 refl) $ free_all ! refl $
          move ! (3 ∷ 1 ∷ []) $ fjoin ! $ move ! (3 ∷ []) $ fsplit ! $ keep ! (3 ∷ 2 ∷ 0 ∷ []) $ by ! (exits g.1))))

  meets : (𝓣 : Tables 𝓤 H) → Meets 𝓛 read.signature (WpFn 𝓤 H 𝓣.C 𝓣.Λ code.function) (read.spec 𝓛 at_mem run)
  meets 𝓣 =
      walk_Meets 𝓛 read.ended stayed
      (Goes-none_slice 𝓛 1 (0 ∷ []) tt (plain (λ _. u64)) yes, (Goes-none 𝓛 1 (λ _. usize) yes (λ κs x f. refl), tt))
      clauses (WpFn 𝓤 H 𝓣.C 𝓣.Λ code.function) (WpFn-mono 𝓤 H 𝓛.laws 𝓣 code.function)
      (walked 𝓛 read.ended stayed clauses (WpFn 𝓤 H 𝓣.C 𝓣.Λ code.function)
      (λ κs. (shr_slice_vals, (uint_vals w64, tt))) (λ κs. (shr_slice_Tells (named 0) κs.0 u64, (uint_Tells w64, tt)))
      (λ κs qs bounds a g are. needs 𝓤 (a.1.0 < length a.0.now) _
      (walk κs.0 qs.0 a.0.ref_ptr.0 a.0.ref_ptr.1 a.0.now a.1.0 𝓣.C 𝓣.Λ are.0.0.1)))

pub read_spec : {M : Type 1} → stated.statement M
unfolding tables_of
read_spec 𝓤 𝓛 𝓜 𝓡 wired =
    entered 𝓤 𝓛.H (triple_of 𝓛 read.signature (read.spec 𝓛 𝓜.mem 𝓡.returns))
    (tables 𝓤 𝓛.H 𝓜 𝓡 𝓡.env).C (tables 𝓤 𝓛.H 𝓜 𝓡 𝓡.env).Λ #read code.function (code.unfolded 𝓤 𝓛.H 𝓜 𝓡 wired)
    (meets 𝓛 𝓜.mem 𝓡.returns (tables_of 𝓤 𝓛.H 𝓜 (tables 𝓤 𝓛.H 𝓜 𝓡 𝓡.env)))
