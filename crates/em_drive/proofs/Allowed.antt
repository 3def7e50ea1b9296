-- What the desk wants of an ask: its cost is within what is left.
use Rattle.std.proofs.Common.{◌≡◌, ℕ, ◌+◌, ◌-◌, ◌≤◌, List, Option, Some, ap, arith}
use Rattle.std.specs.List.{sum_by}
use Rattle.std.specs.Option.{option_map_or}
use Rattle.em_log.specs.declared.graph.Config.{Config}
use Rattle.em_log.specs.declared.ask.Ask.{Ask}
use Rattle.em_log.specs.declared.ask.Context.{Context}
use Rattle.em_log.specs.declared.entry.What.{What}
use Rattle.em_log.specs.declared.ids.Cells.{Cells}
use Rattle.em_log.specs.Allowance.{cost_of_ask, cost_of_lead, left}
use Rattle.em_log.specs.Declarations.{declarations_of}
use Rattle.em_log.specs.History.{Past}
use Rattle.em_log.specs.Legal.{leads}
use Rattle.em_log.specs.WellFormed.{IsWellFormed}
use Rattle.em_log.specs.Works.{Exchange}
use Rattle.em_core.specs.Stands.{IsAt}
use Rattle.em_body.specs.contracts.run.BodyRunWork.TheImpl.{ghosts}
use Rattle.em_body.specs.Standings.{Made, Standing, unanswered}
use Rattle.em_body.specs.Followed.{cost_of_all}
use Rattle.em_body.proofs.Bounds.{bounded}
use Rattle.em_drive.specs.Readings.{IsReading}

-- the cost of the ask that is unanswered is within what is left to its context
pub cost-within : (g : Config) (past : Past) (c : ℕ) (told : Context) (es : List Exchange) (ws : List What) (s : Standing) (a : Ask)
    → IsReading g past c told es ws → cost_of_all es s ≤ 256 → unanswered s ≡ Some a
    → cost_of_ask a ≤ left (declarations_of g) past c
cost-within g past c told es ws s a r bound asks =
    let so_far : ℕ = sum_by (λ l. cost_of_lead l.what) (leads (declarations_of g) past c) in
    let asked : ℕ = sum_by (λ (x : Exchange). cost_of_ask x.ask) es in
    let paid : so_far ≤ asked = r.cost in
    let this : option_map_or cost_of_ask (unanswered s) 0 ≡ cost_of_ask a = ap (λ o. option_map_or cost_of_ask o 0) asks in
    let all : asked + option_map_or cost_of_ask (unanswered s) 0 ≤ 256 = bound in
    let enough : cost_of_ask a ≤ 256 - so_far = omega (arith, paid, this, all) in
    enough

-- so where a context of a well-formed graph stands at an ask
pub ask-within : (g : Config) (past : Past) (c : ℕ) (told : Context) (es : List Exchange) (ws : List What) (now : Standing) (n : ℕ) (a : Ask)
    → IsWellFormed g → IsReading g past c told es ws → IsAt ghosts (record { graph = g; core = c }) (Some told) es now n
    → unanswered now ≡ Some a → cost_of_ask a ≤ left (declarations_of g) past c
ask-within g past c told es ws now n a well r at asks =
    let f : Made = record { graph = g; core = c } in
    cost-within g past c told es ws now a r (bounded f well at.context es now at.reached).0 asks

-- an end costs nothing
pub end-within : (g : Config) (past : Past) (c : ℕ) (cells : Option Cells) → cost_of_ask (Ask.End cells) ≤ left (declarations_of g) past c
end-within g past c cells = omega arith
