-- A run that asks: the desk's conditions hold.
use Rattle.std.proofs.Common.{◌≡◌, ℕ, ◌≤◌, Bool, true, false, ◌&&◌, List, Option, Some, None, refl, sym, ap, subst, ◌∙◌, IsTrue, is_some}
use Rattle.std.specs.Option.{option_map}
use Rattle.std.proofs.lemmas.Bool.{and_from}
use Rattle.em_log.specs.declared.ask.Ask.{Ask}
use Rattle.em_log.specs.declared.ask.Context.{Context}
use Rattle.em_log.specs.declared.declarations.Declarations.{Declarations}
use Rattle.em_log.specs.declared.entry.What.{What}
use Rattle.em_log.specs.declared.graph.Config.{Config}
use Rattle.em_log.specs.declared.ids.Cells.{Cells}
use Rattle.em_log.specs.declared.ids.Limits.{Limits}
use Rattle.em_log.specs.declared.work.Move.{Move}
use Rattle.em_log.specs.Allowance.{cost_of_ask, left}
use Rattle.em_log.specs.Atomic.{holds}
use Rattle.em_log.specs.Contexts as log
use Rattle.em_log.specs.Declarations.{declarations_of}
use Rattle.em_log.specs.History.{Past}
use Rattle.em_log.specs.Lawful.{may_ask, is_ask, is_declared, is_typed, is_placed}
use Rattle.em_core.specs.declared.core_run.CoreRun.{CoreRun}
use Rattle.em_core.specs.declared.core_run.Stage.{Stage}
use Rattle.em_core.specs.declared.core_run.Step.{Step}
use Rattle.em_core.specs.Pieces.{Piece, begun_by, open_context, exchanges}
use Rattle.em_core.specs.Stands.{IsAt, IsOver, IsAtStage}
use Rattle.em_body.specs.contracts.run.BodyRunWork.TheImpl.{ghosts}
use Rattle.em_body.specs.Standings.{Made, Run, Standing, Steps, Ends, Goes, settled, Sets, Branches, Repeats, Writes, Asks, entry_of, carried}
use Rattle.em_body.proofs.AsksStand.{asks-stand}
use Rattle.em_body.proofs.Settled.{settled-cells}
use Rattle.em_desk.specs.State.{DeskState}
use Rattle.em_desk.specs.Served.{served}
use Rattle.em_drive.specs.Going.{IsGoing, IsAwaiting}
use Rattle.em_drive.specs.Readings.{asked_entries, IsCurrent, IsReading}
use Rattle.em_drive.proofs.Allowed.{ask-within, end-within}
use Rattle.em_drive.proofs.Cells.{reached-cells}
use Rattle.em_drive.proofs.Ended.{same-entry}
use Rattle.em_drive.proofs.Waiting.{IsAsking, Working, Ending, asking}

-- what the desk asks of an ask
pub record IsAskable (k : Declarations) (past : Past) (c : ℕ) (a : Ask) : Type 0 where
  pub may_ask : IsTrue (may_ask k past c a)
  pub allowance : cost_of_ask a ≤ left k past c
  pub served : IsTrue (served k a)

-- contexts

both : (a b c : Bool) → IsTrue a → IsTrue b → IsTrue c → IsTrue (a && b && c)
both true true true p q r = refl
both false b c p q r = absurd cc
both true false c p q r = absurd cc
both true true false p q r = absurd cc

pub may-stand : (k : Declarations) (past : Past) (c : ℕ) (opened : Context) (a : Ask) → log.context past c ≡ Some (begun_by opened)
    → IsTrue (is_declared k a) → IsTrue (is_typed a) → IsTrue (is_placed (Some (entry_of opened)) (holds k past c) a) → IsTrue (may_ask k past c a)
may-stand k past c opened a is declared typed placed =
    let begun : log.context past c ≡ Some (entry_of opened) = is ∙ ap Some (same-entry opened) in
    both (is_some (log.context past c)) (is_ask k a) (is_placed (log.context past c) (holds k past c) a) (rw begun refl)
    (and_from (is_declared k a) (is_typed a) declared typed)
    (subst (λ (o : Option What). IsTrue (is_placed o (holds k past c) a)) (sym begun) placed)

pub none-of : {A B : Type 0} (o : Option A) (p : Option B) → is_some o ≡ is_some p → p ≡ None → o ≡ None
none-of None p same none = refl
none-of (Some x) p same none = absurd (cc (rw none at same))

-- where the work asks

-- the open context of a run that waits for the reply to its work's ask
pub record WorkAsks (g : Config) (desk : DeskState) (c : ℕ) (run : CoreRun Run) (m : List Piece) (n : ℕ) : Type 0 where
  pub at : IsAt ghosts (record { graph = g; core = c }) (open_context m) (exchanges m) (ghosts.state run.work) n
  pub reading : IsReading g desk.past c at.context (exchanges m) (asked_entries m)

pub work-asks : (g : Config) (l : Limits) (desk : DeskState) (c : ℕ) (run : CoreRun Run) (going : IsGoing g l desk c run) (n : ℕ) → run.stage ≡ Stage.Open n
    → WorkAsks g desk c run going.pieces n
work-asks g l desk c run going n is =
    let m = going.pieces in
    let at : IsAt ghosts (record { graph = g; core = c }) (open_context m) (exchanges m) (ghosts.state run.work) n =
    subst (λ (s : Stage). IsAtStage ghosts (record { graph = g; core = c }) (open_context m) (exchanges m) (ghosts.state run.work) s) is going.stands.stage in
    record {
      at = at;
      reading = subst (λ (o : Option Context). IsCurrent g desk.past c o (exchanges m) (asked_entries m)) at.is_open going.current;
    }

-- the same where its end waits: the end has cells exactly where the core holds an atomic context
pub record WorkEnds (g : Config) (desk : DeskState) (c : ℕ) (run : CoreRun Run) (m : List Piece) (cells : Option Cells) : Type 0 where
  pub over : IsOver ghosts (record { graph = g; core = c }) (open_context m) (exchanges m) (ghosts.state run.work) cells
  pub reading : IsReading g desk.past c over.context (exchanges m) (asked_entries m)
  pub hold : is_some (holds (declarations_of g) desk.past c) ≡ is_some cells

-- the end of a body changes nothing
pub end-same : (was now : Standing) → Steps was Move.End now → now ≡ was
end-same was now (Ends none empty is same) = same
end-same was now (Goes s none first (Sets i e is silent new)) = absurd cc
end-same was now (Goes s none first (Branches t yes' no' has_else is silent new)) = absurd cc
end-same was now (Goes s none first (Repeats n block is silent new)) = absurd cc
end-same was now (Goes s none first (Writes c e cells is some silent new)) = absurd cc
end-same was now (Goes s none first (Asks does is new)) = absurd cc

abbrev pub cells_of : Option (List ℕ) → Option Cells
cells_of o = option_map (λ (cs : List ℕ). record { 0 = cs }) o

pub carried-some : (o : Option (List ℕ)) → is_some (cells_of o) ≡ is_some o
carried-some None = refl
carried-some (Some cs) = refl

pub work-ends : (g : Config) (l : Limits) (desk : DeskState) (c : ℕ) (run : CoreRun Run) (going : IsGoing g l desk c run) (cells : Option Cells)
    → run.stage ≡ Stage.Ending cells → WorkEnds g desk c run going.pieces cells
work-ends g l desk c run going cells is =
    let m = going.pieces in
    let f : Made = record { graph = g; core = c } in
    let over : IsOver ghosts f (open_context m) (exchanges m) (ghosts.state run.work) cells =
    subst (λ (s : Stage). IsAtStage ghosts f (open_context m) (exchanges m) (ghosts.state run.work) s) is going.stands.stage in
    let reading : IsReading g desk.past c over.context (exchanges m) (asked_entries m) =
    subst (λ (o : Option Context). IsCurrent g desk.past c o (exchanges m) (asked_entries m)) over.is_open going.current in
    let carries : cells ≡ carried over.was = over.carried ∙ ap carried (end-same (settled over.was) (ghosts.state run.work) over.ends) ∙ ap cells_of (settled-cells over.was) in
    record {
      over = over;
      reading = reading;
      hold = reading.hold ∙ sym (reached-cells f over.context (exchanges m) over.was over.reached) ∙ sym (carried-some over.was.env.cells)
          ∙ sym (ap (λ (o : Option Cells). is_some o) carries);
    }

-- the desk's conditions

pub end-placed : (opened : Option What) (atomic : Option ℕ) (cells : Option Cells) → is_some atomic ≡ is_some cells → IsTrue (is_placed opened atomic (Ask.End cells))
end-placed opened None None same = refl
end-placed opened (Some a) (Some cells) same = refl
end-placed opened None (Some cells) same = absurd cc
end-placed opened (Some a) None same = absurd cc

askable-at : (g : Config) (l : Limits) (desk : DeskState) (c : ℕ) (run : CoreRun Run) (a : Ask) → IsTrue (is_typed a) → IsGoing g l desk c run
    → IsAsking (ghosts.unanswered (ghosts.state run.work)) run.stage a → IsAskable (declarations_of g) desk.past c a
askable-at g l desk c run a typed going (Working n is asks) =
    let m = going.pieces in
    let k = declarations_of g in
    let f : Made = record { graph = g; core = c } in
    let w = work-asks g l desk c run going n is in
    let opened = w.at.context in
    let env = run.work.standing.env in
    let stand = asks-stand f going.well_formed opened (exchanges m) run.work.standing w.at.reached a asks in
    let hold : is_some (holds k desk.past c) ≡ is_some env.cells =
    w.reading.hold ∙ sym (reached-cells f opened (exchanges m) run.work.standing w.at.reached) in
    record {
      may_ask = may-stand k desk.past c opened a w.reading.begun stand.declared typed
          (stand.placed (holds k desk.past c) (λ none. none-of (holds k desk.past c) env.cells hold none));
      allowance = ask-within g desk.past c opened (exchanges m) (asked_entries m) run.work.standing n a going.well_formed w.reading
          (subst (λ (o : Option Context). IsAt ghosts f o (exchanges m) (ghosts.state run.work) n) w.at.is_open w.at) asks;
      served = going.servable.asks c opened (exchanges m) run.work.standing a w.at.reached asks;
    }
askable-at g l desk c run a typed going (Ending cells is ends) =
    let k = declarations_of g in
    let w = work-ends g l desk c run going cells is in
    subst (IsAskable k desk.past c) (sym ends)
    (record {
      may_ask = may-stand k desk.past c w.over.context (Ask.End cells) w.reading.begun refl (subst (λ (b : Ask). IsTrue (is_typed b)) ends typed)
          (end-placed (Some (entry_of w.over.context)) (holds k desk.past c) cells w.hold);
      allowance = end-within g desk.past c cells;
      served = refl;
    })

pub askable : (g : Config) (l : Limits) (desk : DeskState) (c : ℕ) (run : CoreRun Run) (a : Ask) → IsTrue (is_typed a) → IsAwaiting (Some (Step.Ask a)) g l desk c run
    → IsAskable desk.declarations desk.past c a
askable g l desk c run a typed w =
    subst (λ (k : Declarations). IsAskable k desk.past c a) (sym w.going.graph)
    (askable-at g l desk c run a typed w.going (asking (ghosts.unanswered (ghosts.state run.work)) run.stage a w.unreplied))
