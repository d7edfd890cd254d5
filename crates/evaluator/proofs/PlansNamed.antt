-- What each plan keeps.
use Rattle.std.proofs.Common.{ℕ, Option, Some, None, Result, Ok, Err}
use Rattle.es_tree.specs.Tree.{Tree}
use Rattle.es_model.specs.declared.answers.Stop.{Stop}
use Rattle.es_model.specs.declared.requests.Request.{Request}
use Rattle.es_model.specs.Belongs.{HasNames}
use Rattle.es_model.specs.World.{Lists}
use Rattle.evaluator.specs.declared.items.Asked.{Asked}
use Rattle.evaluator.specs.declared.items.Ending.{Ending}
use Rattle.evaluator.specs.declared.items.Item.{Item}
use Rattle.evaluator.specs.declared.items.Job.{Job}
use Rattle.evaluator.specs.declared.items.Plan.{Plan}
use Rattle.evaluator.specs.declared.items.Plan.TheVariants as plan
use Rattle.evaluator.specs.declared.items.StatementItem.{StatementItem}
use Rattle.evaluator.specs.Names.{HasSite, NamesDefined, NamesPlan, names_of_asked, names_of_item, names_of_statement}

pub keeps_wait : (script : Tree) (l : Lists) (j : Job) (i : Item) → HasNames script l (names_of_item i) → NamesPlan script l (Ok (plan.Wait j i))
unfolding NamesPlan
keeps_wait script l j i h = h

pub keeps_enter : (script : Tree) (l : Lists) (j : Job) (i : StatementItem) (depth : ℕ) → HasNames script l (names_of_statement i) → NamesPlan script l (Ok (plan.Enter j i depth))
unfolding NamesPlan
keeps_enter script l j i depth h = h

pub keeps_ask : (script : Tree) (l : Lists) (q : Request) (i : Asked) → HasSite script q → HasNames script l (names_of_asked i) → NamesPlan script l (Ok (plan.Ask q i))
unfolding NamesPlan
keeps_ask script l q i s h = (s, h)

pub keeps_last : (script : Tree) (l : Lists) (j : Job) → NamesPlan script l (Ok (plan.Last j))
unfolding NamesPlan
keeps_last script l j = tt

pub keeps_end : (script : Tree) (l : Lists) (e : Ending) → NamesPlan script l (Ok (plan.Ends e))
unfolding NamesPlan
keeps_end script l e = tt

pub keeps_stop : (script : Tree) (l : Lists) (stop : Stop) → NamesPlan script l (Err stop)
unfolding NamesPlan
keeps_stop script l stop = tt

pub defines_plan : (script : Tree) (l : Lists) (p : Plan) → NamesPlan script l (Ok p) → NamesDefined script l (Ok (Some p))
unfolding NamesDefined
defines_plan script l p h = h

pub defines_none : (script : Tree) (l : Lists) → NamesDefined script l (Ok None)
unfolding NamesDefined
defines_none script l = tt

pub defines_stop : (script : Tree) (l : Lists) (stop : Stop) → NamesDefined script l (Err stop)
unfolding NamesDefined
defines_stop script l stop = tt

-- ---- the other way

pub plan_defined : (script : Tree) (l : Lists) (p : Plan) → NamesDefined script l (Ok (Some p)) → NamesPlan script l (Ok p)
unfolding NamesDefined
plan_defined script l p h = h

pub wait_keeps : (script : Tree) (l : Lists) (j : Job) (i : Item) → NamesPlan script l (Ok (plan.Wait j i)) → HasNames script l (names_of_item i)
unfolding NamesPlan
wait_keeps script l j i h = h

pub enter_keeps : (script : Tree) (l : Lists) (j : Job) (i : StatementItem) (depth : ℕ) → NamesPlan script l (Ok (plan.Enter j i depth)) → HasNames script l (names_of_statement i)
unfolding NamesPlan
enter_keeps script l j i depth h = h

pub ask_keeps : (script : Tree) (l : Lists) (q : Request) (i : Asked) → NamesPlan script l (Ok (plan.Ask q i)) → HasSite script q × HasNames script l (names_of_asked i)
unfolding NamesPlan
ask_keeps script l q i h = h
