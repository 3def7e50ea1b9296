-- A turn of one core leaves the runs of the others going.
use Rattle.std.proofs.Common.{◌≢◌, ◌≤◌, ℕ, List, [], ◌∷◌, Option, Some, None, sym, ap, ◌∙◌, subst, sum_by, is_some, reverse}
use Rattle.em_log.specs.declared.ask.Context.{Context}
use Rattle.em_log.specs.declared.entry.What.{What}
use Rattle.em_log.specs.declared.graph.Config.{Config}
use Rattle.em_log.specs.declared.ids.Limits.{Limits}
use Rattle.em_log.specs.Allowance.{cost_of_ask, cost_of_lead}
use Rattle.em_log.specs.Declarations.{declarations_of}
use Rattle.em_log.specs.History.{Past, entries_by, onto}
use Rattle.em_log.specs.Lawful.{AllAllowed, Lawful}
use Rattle.em_log.specs.Legal.{AreLeads, whats}
use Rattle.em_log.specs.Works.{Exchange}
use Rattle.em_core.specs.declared.core_run.CoreRun.{CoreRun}
use Rattle.em_core.specs.Pieces.{open_context, exchanges}
use Rattle.em_cores.specs.Others.{AreOfOthers, IsSameFor}
use Rattle.em_cores.proofs.Others.{others-same}
use Rattle.em_laws.proofs.Fresh.{graph-small}
use Rattle.em_body.specs.Followed.{pairs_of}
use Rattle.em_body.specs.Standings.{Run}
use Rattle.em_desk.specs.State.{DeskState}
use Rattle.em_drive.specs.Going.{IsAwaiting, IsGoing, IsGrownBy}
use Rattle.em_drive.specs.Readings.{asked_entries, IsCurrent, IsReading}
use Rattle.em_drive.proofs.Taking.{lawful-of}

of-others : (c d : ℕ) (ws : List What) → d ≢ c → AreOfOthers c (entries_by d ws)
of-others c d [] apart = tt
of-others c d (w ∷ ws) apart = (apart, of-others c d ws apart)

-- what is the same for core c leaves its reading
reading-stays : (g : Config) (past now : Past) (c : ℕ) (told : Context) (es : List Exchange) (ws : List What)
    → IsSameFor (declarations_of g) past now c → IsReading g past c told es ws → IsReading g now c told es ws
reading-stays g past now c told es ws same r =
    record {
      begun = same.context ∙ r.begun;
      object = same.object ∙ r.object;
      first = same.opening ∙ r.first;
      hold = ap (λ (o : Option ℕ). is_some o) same.holds ∙ r.hold;
      entries = ap whats same.leads ∙ r.entries;
      read = r.read;
      each = subst (λ ls. AreLeads (declarations_of g) c (reverse (pairs_of es ws)) ls) (sym same.leads) r.each;
      cost = subst (λ ls. sum_by (λ x. cost_of_lead x.what) ls ≤ sum_by (λ (x : Exchange). cost_of_ask x.ask) es) (sym same.leads) r.cost;
    }

pub current-stays : (g : Config) (past now : Past) (c : ℕ) (o : Option Context) (es : List Exchange) (ws : List What)
    → IsSameFor (declarations_of g) past now c → IsCurrent g past c o es ws → IsCurrent g now c o es ws
current-stays g past now c None es ws same closed = same.context ∙ closed
current-stays g past now c (Some told) es ws same r = reading-stays g past now c told es ws same r

-- after a turn of core d the run of core c goes on as it did
pub others-go : (g : Config) (l : Limits) (desk now : DeskState) (c d : ℕ) (run other : CoreRun Run) → d ≢ c → IsGoing g l now d other
    → IsGrownBy d desk.past now.past → Lawful now.declarations now.limits now.past → IsAwaiting None g l desk c run → IsAwaiting None g l now c run
others-go g l desk now c d run other apart turned grown lawful waits =
    let k = declarations_of g in
    let all : AllAllowed k l now.past = (lawful-of g l now turned.graph turned.limits lawful).each in
    let allowed : AllAllowed k l (onto (entries_by d grown.0) desk.past) = subst (AllAllowed k l) grown.1 all in
    let same : IsSameFor k desk.past now.past c =
    subst (λ (h : Past). IsSameFor k desk.past h c) (sym grown.1)
    (others-same k l c (entries_by d grown.0) desk.past (graph-small g turned.well_formed) allowed (of-others c d grown.0 apart)) in
    let was = waits.going in
    let m = was.pieces in
    record {
      going = record {
        well_formed = was.well_formed;
        servable = was.servable;
        burst = was.burst;
        graph = turned.graph;
        limits = turned.limits;
        running = turned.running;
        core = was.core;
        pieces = m;
        stands = was.stands;
        own = was.own ∙ sym same.part;
        current = current-stays g desk.past now.past c (open_context m) (exchanges m) (asked_entries m) same was.current;
        ended = turned.ended;
      };
      unreplied = waits.unreplied;
      over = waits.over;
    }
