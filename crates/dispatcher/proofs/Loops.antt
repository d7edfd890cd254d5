-- The loop over requests and answers, over plain variables.
use Rattle.std.proofs.Common.{◌≡◌, ℕ, ◌+◌, ◌*◌, ◌<◌, ◌≤◌, List, [], Result, Ok, Err, length, arith, refl, sym, ◌∙◌, ap, subst}
use Rattle.property_keys.specs.declared.values.Value.{Value}
use Rattle.property_keys.specs.declared.values.Value.TheVariants as value
use Rattle.std.proofs.Math.Nat.{mul_comm, mul_assoc}
use Rattle.es_tree.specs.Definitions.{most_definitions}
use Rattle.es_tree.specs.Tree.{Tree}
use Rattle.es_model.specs.declared.answers.Completion.{Completion as Answer}
use Rattle.es_model.specs.declared.answers.Completion.TheVariants as answer
use Rattle.es_model.specs.declared.answers.Reply.TheVariants as reply
use Rattle.es_model.specs.declared.answers.Stop.{Stop}
use Rattle.es_model.specs.declared.answers.Stop.TheVariants.{Halted, NoMemory}
use Rattle.es_model.specs.declared.requests.Request.{Request}
use Rattle.es_model.specs.Changes.{printed_more}
use Rattle.es_model.specs.Outcomes.{requests_of}
use Rattle.es_model.specs.Program.{Of, Outcome, Server, run}
use Rattle.es_model.specs.Servers.{turn_pays}
use Rattle.es_model.specs.Unwinding.{Nears, Reaches, Stays, unwind}
use Rattle.es_model.specs.Weights.{renewed}
use Rattle.es_model.specs.World.{World}
use Rattle.es_model.proofs.Counts.{requests-plus}
use Rattle.es_model.proofs.Unwound.{unwind-none, reaches_same, reaches_then, nears_reaches, stays_none, stays_then}
use Rattle.object_heap.specs.Stands.{HeapView, StandsFor, Goes, goes_none, goes_then, halts_then}
use Rattle.evaluator.specs.Functions.{script_program}
use Rattle.es_serve.specs.Lines.{line_bytes}
use Rattle.es_serve.specs.Serve.{model}
use Rattle.es_serve.proofs.Models.{runs-paid, thrifty}
use Rattle.dispatcher.specs.declared.state.Entry.{Entry}
use Rattle.dispatcher.specs.declared.state.State.{State}
use Rattle.dispatcher.specs.declared.state.State.TheVariants.{Starting, Serving, Returning}
use Rattle.dispatcher.specs.declared.state.Next.{Next}
use Rattle.dispatcher.specs.declared.state.Next.TheVariants.{GoOn, Prints, Ends}
use Rattle.dispatcher.specs.Stack.{HasSteps, Leads, StandsAt, entry_rest, height, in_hand, meaning, steps_for}
use Rattle.dispatcher.specs.declared.dispatching.Event.TheVariants as event
use Rattle.dispatcher.specs.Dispatching.{ComesTo}

-- the answer of a line that was printed
abbrev pub nothing : Answer
nothing = answer.Normal (reply.Value value.Undefined)

-- what a step does, from every world of the script
abbrev pub IsStep : Tree → Server → HeapView → HeapView → List Entry → List Entry → State → Result Next Stop → Type 0
IsStep script S a b fs gs state r = (v : World) → v.script ≡ script → StandsFor a v → Leads script S (height fs state) (meaning script S fs state v) a b v gs r

-- ---- steps enough are left

height-some : (fs : List Entry) (state : State) → 0 < height fs state
height-some fs Starting = omega arith
height-some fs (Serving q n) = omega arith
height-some fs (Returning c) = omega arith

near-paid : (a b left : ℕ) (o p : Outcome) → Nears a b o p → 2 * requests_of o + a ≤ left → 2 * requests_of p + b < left
near-paid a b left o p e paid =
    let all : requests_of o ≡ e.served + requests_of p = ap requests_of e.same ∙ requests-plus e.served p in
    let falls = e.falls in omega arith

-- a budget and two budgets for each turn, twice
twice-paid : (r t k : ℕ) → k < r + (2 * r) * t → 2 * k + 2 ≤ t * (4 * r) + 2 * r
twice-paid r t k less =
    let four : 4 * r ≡ 2 * (2 * r) = omega arith in
    let e : t * (4 * r) ≡ 2 * ((2 * r) * t) = mul_comm t (4 * r) ∙ ap (λ x. x * t) four ∙ mul_assoc 2 (2 * r) t in omega arith

budget-is : (script : Tree) → renewed script ≡ 200 + 40 * most_definitions script.nodes
unfolding renewed
budget-is script = refl

pub steps_first : (script : Tree) (S : Server) (fs : List Entry) (state : State) (turns left : ℕ) (w : World) →
    requests_of (in_hand script S state w) < renewed w.script + turn_pays w.script * w.turns → height fs state ≡ length fs + 2 → fs ≡ [] → w.script ≡ script → turns ≡ w.turns →
    left ≡ steps_for turns (most_definitions script.nodes) → HasSteps script S fs state left w
steps_first script S fs state turns left w few high none is same all =
    let budget : renewed w.script ≡ 200 + 40 * most_definitions script.nodes = ap renewed is ∙ budget-is script in
    let o : Outcome = in_hand script S state w in
    let paid : 2 * requests_of o + 2 ≤ w.turns * (4 * renewed w.script) + 2 * renewed w.script = twice-paid (renewed w.script) w.turns (requests_of o) few in
    let product : w.turns * (4 * renewed w.script) ≡ turns * (800 + 160 * most_definitions script.nodes) =
    ap (λ t. t * (4 * renewed w.script)) (sym same) ∙ ap (λ x. turns * x) (let e : 4 * renewed w.script ≡ 800 + 160 * most_definitions script.nodes = omega arith in e) in
    let asked : meaning script S fs state w ≡ o = ap (λ l. unwind (entry_rest script S) l o) none ∙ unwind-none (entry_rest script S) o in
    let counted : requests_of (meaning script S fs state w) ≡ requests_of o = ap requests_of asked in
    let short : length fs ≡ 0 = ap length none in omega arith

-- the same of a request, and of the script itself
pub request_paid : (script : Tree) (q : Request) (w : World) → requests_of (in_hand script model (Serving q 0) w) < renewed w.script + turn_pays w.script * w.turns
request_paid script q w = thrifty 0 (Of q) w

pub script_paid : (script : Tree) (w : World) → w.script ≡ script → requests_of (in_hand script model Starting w) < renewed w.script + turn_pays w.script * w.turns
script_paid script w same = subst (λ t. requests_of (run model (script_program t) 0 w) < renewed w.script + turn_pays w.script * w.turns) same (runs-paid w)

-- ---- from the world at the start

pub starts_at : (script : Tree) (S : Server) (fs : List Entry) (state : State) (left : ℕ) (heap : HeapView) (w : World) → StandsFor heap w → HasSteps script S fs state left w →
    StandsAt script S (meaning script S fs state w) heap heap w fs state left
starts_at script S fs state left heap w h enough = (w, goes_none heap w h, stays_none w, reaches_same _ _ refl, enough)

-- there are steps enough
pub out_of_steps : (script : Tree) (S : Server) (o : Outcome) (a b : HeapView) (w : World) (fs : List Entry) (state : State) (left : ℕ) → StandsAt script S o a b w fs state left → left ≡ 0 →
    ComesTo script o a b w (Err Halted)
out_of_steps script S o a b w fs state left (v, g, l, e, enough) none = let some = height-some fs state in absurd (omega arith)

pub goes_on : (script : Tree) (S : Server) (o : Outcome) (a b c : HeapView) (w : World) (fs gs : List Entry) (state next : State) (left less : ℕ) (r : Result Next Stop) → left ≡ less + 1 → w.script ≡ script →
    StandsAt script S o a b w fs state left → r ≡ Ok (GoOn next) → IsStep script S b c fs gs state r → StandsAt script S o a c w gs next less
goes_on script S o a b c w fs gs state next left less r one same (v, g, l, e, enough) is step =
    let (u, h, m, f) = subst (λ x. Leads script S (height fs state) (meaning script S fs state v) b c v gs x) is (step v (l.script ∙ same) g.stands) in
    let paid = near-paid _ _ left _ _ f enough in (u, goes_then a b c w v u g h, stays_then w v u l m, reaches_then _ _ _ e (nears_reaches _ _ _ _ f), omega arith)

pub prints_at : (script : Tree) (S : Server) (o : Outcome) (a b c : HeapView) (w : World) (fs gs : List Entry) (state : State) (line : List Value) (left less : ℕ) (r : Result Next Stop) → left ≡ less + 1 → w.script ≡ script →
    StandsAt script S o a b w fs state left → r ≡ Ok (Prints line) → IsStep script S b c fs gs state r →
    (v : World) × Goes a c w v × Stays w v × Reaches o (meaning script S gs (Returning nothing) (printed_more v (line_bytes v.lists line)))
    × HasSteps script S gs (Returning nothing) less (printed_more v (line_bytes v.lists line))
prints_at script S o a b c w fs gs state line left less r one same (v, g, l, e, enough) is step =
    let (u, h, m, f) = subst (λ x. Leads script S (height fs state) (meaning script S fs state v) b c v gs x) is (step v (l.script ∙ same) g.stands) in
    let paid = near-paid _ _ left _ _ f enough in (u, goes_then a b c w v u g h, stays_then w v u l m, reaches_then _ _ _ e (nears_reaches _ _ _ _ f), omega arith)

pub ends_at : (script : Tree) (S : Server) (o : Outcome) (a b c : HeapView) (w : World) (fs gs : List Entry) (state : State) (left : ℕ) (d : Answer) (r : Result Next Stop) → w.script ≡ script →
    StandsAt script S o a b w fs state left → r ≡ Ok (Ends d) → IsStep script S b c fs gs state r → ComesTo script o a c w (Ok (event.Ends d))
ends_at script S o a b c w fs gs state left d r same (v, g, l, e, enough) is step =
    let (u, h, m, f) = subst (λ x. Leads script S (height fs state) (meaning script S fs state v) b c v gs x) is (step v (l.script ∙ same) g.stands) in
    (u, goes_then a b c w v u g h, stays_then w v u l m, reaches_then _ _ _ e f)

stops-led : (script : Tree) (S : Server) (x : ℕ) (o p : Outcome) (a b c : HeapView) (w v : World) (gs : List Entry) (stop : Stop) → Goes a b w v → Stays w v → Reaches o p →
    Leads script S x p b c v gs (Err stop) → ComesTo script o a c w (Err stop)
stops-led script S x o p a b c w v gs Halted g l e (u, h, m, f) = (u, halts_then a b c w v u g h, stays_then w v u l m, reaches_then _ _ _ e f)
stops-led script S x o p a b c w v gs NoMemory g l e h = tt

pub stops_here : (script : Tree) (S : Server) (o : Outcome) (a b c : HeapView) (w : World) (fs gs : List Entry) (state : State) (left : ℕ) (stop : Stop) (r : Result Next Stop) → w.script ≡ script →
    StandsAt script S o a b w fs state left → r ≡ Err stop → IsStep script S b c fs gs state r → ComesTo script o a c w (Err stop)
stops_here script S o a b c w fs gs state left stop r same (v, g, l, e, enough) is step =
    stops-led script S (height fs state) o (meaning script S fs state v) a b c w v gs stop g l e (subst (λ x. Leads script S (height fs state) (meaning script S fs state v) b c v gs x) is (step v (l.script ∙ same) g.stands))
