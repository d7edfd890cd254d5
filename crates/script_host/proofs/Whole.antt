-- The laws of the answers and of what a call leaves.
use Rattle.std.proofs.Common.{◌≡◌, ◌⊎◌, ◌<◌, ◌++◌, ◌∙◌, [], ℕ, List, Option, Some, None, inl, inr, refl, sym, ap, subst, length, length-append, append-nil, true≢false, arith}
use Rattle.es_source.specs.declared.faults.SourceFault.{SourceFault}
use Rattle.es_source.specs.declared.faults.FaultCode.TheVariants.{TooLong}
use Rattle.es_source.specs.declared.place.Place.{Place}
use Rattle.es_source.specs.Places.{place_after}
use Rattle.es_source.specs.Reading.{fault_at}
use Rattle.es_tree.specs.Tree.{Tree}
use Rattle.es_source.proofs.Phases.{too_long}
use Rattle.hc_outside.specs.Files.{bytes_named}
use Rattle.command_words.specs.Orders.{Order, Source, OfFile}
use Rattle.script_rules.specs.FirstFault.{HasFirstFault, at_tokens}
use Rattle.script_host.specs.declared.status.Status.TheVariants as status
use Rattle.es_source.specs.Reading.{most_bytes}
use Rattle.script_host.specs.Answers.{Answer, Runs, Misuses, Faults, Unbuilt, CannotRead, IsAnswer, IsAsked, IsAskedOfScript, IsScriptOf, FilesChange}
use Rattle.script_host.specs.FileBytes.{IsReadOf}
use Rattle.script_host.specs.Expected.{Expected, expected}
use Rattle.script_host.specs.Unbuilt.{unbuilt}
use Rattle.script_host.specs.declared.status.Status.{Status}
use Rattle.script_host.specs.Sinks.{SinkChange}
use Rattle.script_host.specs.Laws.{HasOneAnswer, HasReading, HasFault, HasTree, RunsRight, SpeaksOfWholeFile}
use Rattle.script_host.specs.Leaves.{IsRefusal, LeavesRun}
use Rattle.script_host.proofs.Readings.{one_reading, only_at_tokens, no_tree, some_none}

-- ---- one answer

fault_alone : (order : Order) (bytes : List ℕ) (f : SourceFault) → HasFault bytes f → (other : Answer) → IsAnswer order bytes other → other ≡ Faults f
fault_alone order bytes f has (Faults g) given = ap Faults (has.1 g given)
fault_alone order bytes f has (Unbuilt place) given = absurd (has.2 given.0 given.1)
fault_alone order bytes f has (Runs e) given = absurd (has.2 given.0 given.1)
fault_alone order bytes f has Misuses given = absurd given
fault_alone order bytes f has (CannotRead name) given = absurd given

same_place : (p q : Place) → Some p ≡ Some q → p ≡ q
same_place p q e = cc

unbuilt_alone : (order : Order) (bytes : List ℕ) (t : Tree) (place : Place) → HasTree bytes t → unbuilt t ≡ Some place → (other : Answer) → IsAnswer order bytes other → other ≡ Unbuilt place
unbuilt_alone order bytes t place has is (Faults g) given = absurd (has.2 g given)
unbuilt_alone order bytes t place has is (Unbuilt found) given = ap Unbuilt (same_place found place (sym given.2 ∙ ap unbuilt (has.1 given.0 given.1) ∙ is))
unbuilt_alone order bytes t place has is (Runs e) given = absurd (some_none place (sym is ∙ ap unbuilt (sym (has.1 given.0 given.1)) ∙ given.2))
unbuilt_alone order bytes t place has is Misuses given = absurd given
unbuilt_alone order bytes t place has is (CannotRead name) given = absurd given

output_alone : (order : Order) (bytes : List ℕ) (t : Tree) → HasTree bytes t → unbuilt t ≡ None → (other : Answer) → IsAnswer order bytes other → other ≡ Runs (expected order bytes t)
output_alone order bytes t has is (Faults g) given = absurd (has.2 g given)
output_alone order bytes t has is (Unbuilt found) given = absurd (some_none found (sym given.2 ∙ ap unbuilt (has.1 given.0 given.1) ∙ is))
output_alone order bytes t has is (Runs e) given = ap Runs (given.3 ∙ ap (expected order bytes) (has.1 given.0 given.1))
output_alone order bytes t has is Misuses given = absurd given
output_alone order bytes t has is (CannotRead name) given = absurd given

tree_answer : (order : Order) (bytes : List ℕ) (t : Tree) (place : Option Place) → HasTree bytes t → unbuilt t ≡ place
    → (answer : Answer) × IsAnswer order bytes answer × ((other : Answer) → IsAnswer order bytes other → other ≡ answer)
tree_answer order bytes t (Some place) has is = (Unbuilt place, (t, has.0, is), unbuilt_alone order bytes t place has is)
tree_answer order bytes t None has is = (Runs (expected order bytes t), (t, has.0, is, refl), output_alone order bytes t has is)

answer_of : (order : Order) (bytes : List ℕ) → HasReading bytes → (answer : Answer) × IsAnswer order bytes answer × ((other : Answer) → IsAnswer order bytes other → other ≡ answer)
answer_of order bytes (inl fault) = (Faults fault.0, fault.1.0, fault_alone order bytes fault.0 fault.1)
answer_of order bytes (inr tree) = tree_answer order bytes tree.0 (unbuilt tree.0) tree.1 refl

pub one_answer : HasOneAnswer
one_answer order bytes = answer_of order bytes (one_reading bytes)

-- ---- the whole file

same_some : (a b : List ℕ) → Some a ≡ Some b → a ≡ b
same_some a b e = cc

same_order : (a b : Order) → Some b ≡ Some a → a ≡ b
same_order a b e = cc

some_order : (a : Order) → Some a ≡ None → ⊥
some_order a e = true≢false cc

-- the bytes read are the whole file, or longer than a script may be, and then so is the file
read_whole : (all : List (List ℕ × List ℕ)) (name other whole bytes : List ℕ) → name ≡ other → bytes_named all name ≡ Some whole
    → IsReadOf (Some all) other most_bytes bytes → (bytes ≡ whole) ⊎ ((most_bytes < length bytes) × (most_bytes < length whole))
read_whole all name other whole bytes same told read = at_rest read.2
  where
    parts : whole ≡ bytes ++ read.0
    parts = same_some whole (bytes ++ read.0) (sym told ∙ ap (bytes_named all) same ∙ read.1)

    at_rest : (read.0 ≡ []) ⊎ (most_bytes < length bytes) → (bytes ≡ whole) ⊎ ((most_bytes < length bytes) × (most_bytes < length whole))
    at_rest (inl none) = inl (sym (parts ∙ ap (λ rest. bytes ++ rest) none ∙ append-nil bytes))
    at_rest (inr long) = inr (long, omega (arith, ap length parts, length-append bytes read.0))

-- a file that is too long and a front of it that is have the same answer
long_right : (order : Order) (bytes whole : List ℕ) (answer : Answer) → most_bytes < length bytes → most_bytes < length whole → IsAnswer order bytes answer → IsAnswer order whole answer
long_right order bytes whole (Faults f) front long given =
    let same : f ≡ fault_at TooLong (place_after []) = only_at_tokens bytes (fault_at TooLong (place_after [])) f (Some f) (too_long bytes front) given refl in
    subst (λ (g : SourceFault). HasFirstFault whole (Some g)) (sym same) (at_tokens (too_long whole long))
long_right order bytes whole (Unbuilt place) front long given = absurd (no_tree bytes _ given.0 (too_long bytes front) given.1)
long_right order bytes whole (Runs e) front long given = absurd (no_tree bytes _ given.0 (too_long bytes front) given.1)
long_right order bytes whole Misuses front long given = absurd given
long_right order bytes whole (CannotRead name) front long given = absurd given

whole_right : (order : Order) (bytes whole : List ℕ) (answer : Answer) → (bytes ≡ whole) ⊎ ((most_bytes < length bytes) × (most_bytes < length whole)) → IsAnswer order bytes answer
    → IsAnswer order whole answer
whole_right order bytes whole answer (inl same) given = subst (λ (b : List ℕ). IsAnswer order b answer) same given
whole_right order bytes whole answer (inr long) given = long_right order bytes whole answer long.0 long.1 given

-- an answer that is asked of a file is that to all its bytes
file_right : (order : Order) (files : FilesChange) (all : List (List ℕ × List ℕ)) (name whole : List ℕ) (answer : Answer) → files.held ≡ Some all
    → order.source ≡ OfFile name → bytes_named all name ≡ Some whole → IsAskedOfScript (Some order) files answer → IsAnswer order whole answer
file_right order files all name whole answer held source told asked =
    let same : asked.0 ≡ order = same_order asked.0 order asked.2 in
    let script : IsScriptOf order.source files asked.1 = subst (λ (o : Order). IsScriptOf o.source files asked.1) same asked.4 in
    let read_under : IsReadOf files.held name most_bytes asked.1 = subst (λ (from : Source). IsScriptOf from files asked.1) source script in
    let read : IsReadOf (Some all) name most_bytes asked.1 = rw held at read_under in
    let given : IsAnswer order asked.1 answer = subst (λ (o : Order). IsAnswer o asked.1 answer) same asked.5 in
    whole_right order asked.1 whole answer (read_whole all name name whole asked.1 refl told read) given

refusal_right : (order : Order) (files : FilesChange) (all : List (List ℕ × List ℕ)) (name whole : List ℕ) (answer : Answer) → files.held ≡ Some all
    → order.source ≡ OfFile name → bytes_named all name ≡ Some whole → IsRefusal answer → IsAsked (Some order) files answer → IsAnswer order whole answer
refusal_right order files all name whole (Faults f) held source told refuses asked = file_right order files all name whole (Faults f) held source told asked
refusal_right order files all name whole (Unbuilt p) held source told refuses asked = file_right order files all name whole (Unbuilt p) held source told asked
refusal_right order files all name whole (Runs e) held source told refuses asked = absurd refuses
refusal_right order files all name whole Misuses held source told refuses asked = absurd refuses
refusal_right order files all name whole (CannotRead other) held source told refuses asked = absurd refuses

run_right : (order : Order) (files : FilesChange) (out err : SinkChange) (left : Status) (all : List (List ℕ × List ℕ)) (name whole : List ℕ) → files.held ≡ Some all
    → order.source ≡ OfFile name → bytes_named all name ≡ Some whole → LeavesRun (Some order) files out err left → RunsRight order whole out err left
run_right order files out err left all name whole held source told run =
    (run.0, run.1, file_right order files all name whole (Runs run.0) held source told run.2, run.3, run.4)

pub whole_file : SpeaksOfWholeFile
whole_file order files out err status.Finished all name whole left held source told = run_right order files out err status.Finished all name whole held source told left
whole_file order files out err status.Refused all name whole left held source told =
    (left.0, left.1, refusal_right order files all name whole left.0 held source told left.1 left.2, left.4)
whole_file order files out err status.Usage all name whole left held source told = absurd (some_order order left.0.0)
whole_file order files out err status.Thrown all name whole left held source told = run_right order files out err status.Thrown all name whole held source told left
whole_file order files out err status.BudgetEnded all name whole left held source told = run_right order files out err status.BudgetEnded all name whole held source told left
whole_file order files out err status.ReadFault all name whole left held source told = tt
whole_file order files out err status.WriteFault all name whole left held source told = tt
whole_file order files out err status.NoMemory all name whole left held source told = tt
