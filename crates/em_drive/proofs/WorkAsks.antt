-- A run over a pass that asks: the board's conditions hold, and the run goes on after the reply.
use Rattle.std.proofs.Common.{◌≡◌, ℕ, ◌+◌, ◌-◌, ◌≤◌, Bool, true, false, List, ◌∷◌, ◌++◌, length, not, Option, Some, None, refl, sym, ap, subst, ◌∙◌, IsTrue, is_none, is_some, arith, sum_by}
use Rattle.em_log.specs.declared.ask.Answer.{Answer}
use Rattle.em_log.specs.declared.ask.Ask.{Ask}
use Rattle.em_log.specs.declared.ask.Context.{Context}
use Rattle.em_log.specs.declared.ask.Reply.{Reply}
use Rattle.em_log.specs.declared.entry.What.{What}
use Rattle.em_log.specs.declared.fault.Fault.{Fault}
use Rattle.em_log.specs.declared.graph.Config.{Config}
use Rattle.em_log.specs.declared.ids.Cells.{Cells}
use Rattle.em_log.specs.declared.ids.Limits.{Limits}
use Rattle.em_log.specs.declared.work.Work.{Ghosts}
use Rattle.em_log.specs.Allowance.{allowance, cost_of_ask, cost_of_lead, left}
use Rattle.em_log.specs.Answers.{answer_of, block}
use Rattle.em_log.specs.Atomic.{holds}
use Rattle.em_log.specs.Declarations.{declarations_of}
use Rattle.em_log.specs.Handles.{held, rule}
use Rattle.em_log.specs.History.{Past, has, entry_by, part}
use Rattle.em_log.specs.Items.{Fixed, LogItem}
use Rattle.em_log.specs.Lawful.{AllAllowed, Lawful, is_placed, is_typed}
use Rattle.em_log.specs.Leads.{lead}
use Rattle.em_log.specs.Legal.{leads}
use Rattle.em_log.specs.Tails.{tail_of}
use Rattle.em_log.specs.WellFormed.{IsWellFormed}
use Rattle.em_log.specs.Works.{Exchange, fits, is_end}
use Rattle.em_core.specs.declared.core_run.CoreRun.{CoreRun}
use Rattle.em_core.specs.declared.core_run.Stage.{Stage}
use Rattle.em_core.specs.declared.core_run.Step.{Step}
use Rattle.em_core.specs.Pieces.{Piece, history, open_context, open_after, exchanges}
use Rattle.em_core.specs.Stands.{HoldsHandles, IsAt, IsAtStage, IsOver, is_no_end}
use Rattle.em_core.specs.Steps.{unreplied, over, over_by, FitsStep, ToldNoRest, AreHandles, Grows, GrowsByAsk}
use Rattle.em_core.proofs.Parts.{lead-grows, lead-part, part-held}
use Rattle.em_core.proofs.Standing.{open-after}
use Rattle.em_laws.proofs.Fresh.{graph-small}
use Rattle.em_laws.proofs.Usable.{usable-after}
use Rattle.em_body.specs.Standings.{entry_of}
use Rattle.em_board.specs.Calls.{IsAsked}
use Rattle.em_board.specs.Marked as board
use Rattle.em_board.specs.Passes.{PassView}
use Rattle.em_drive.specs.Driven.{EachWorked, IsDriven, IsFit, IsFitWork, IsOfGraph, IsWorked, IsWorking}
use Rattle.em_drive.specs.Readings.{asked_entries, IsCurrent, IsReading}
use Rattle.em_drive.proofs.Allowed.{end-within}
use Rattle.em_drive.proofs.Answered.{answer-new, lead-fits, lead-spends, Spends}
use Rattle.em_drive.proofs.Asked.{asked-reading, follows-tail, lead-keeps}
use Rattle.em_drive.proofs.Asking.{IsAskable, end-placed, may-stand}
use Rattle.em_drive.proofs.Ended.{ended-context, same-entry}
use Rattle.em_drive.proofs.GoneOn.{asked_piece, answer-goes_on, answer-rest, left-alone}
use Rattle.em_drive.proofs.Waiting.{IsAsking, Working, Ending, asking}
use Rattle.em_drive.proofs.Working.{graph-after, keeps-none, none-worked, tail-none, lawful-between, working-between}
use Rattle.em_drive.proofs.WorkTakes.{IsTold}

module _ {W : Type 0} (k : Ghosts W) (f : k.Fixed) (g : Config) (c : ℕ) where
  -- the open context of a run whose work asks
  record AsksNow (past : Past) (run : CoreRun W) (m : List Piece) (n : ℕ) : Type 0 where
    at : IsAt k f (open_context m) (exchanges m) (k.state run.work) n
    reading : IsReading g past c at.context (exchanges m) (asked_entries m)

  asks-now : (past : Past) (run : CoreRun W) (w : IsWorking k f g past c run) (n : ℕ) → run.stage ≡ Stage.Open n → AsksNow past run w.pieces n
  asks-now past run w n is =
      let m = w.pieces in
      let at : IsAt k f (open_context m) (exchanges m) (k.state run.work) n =
      subst (λ (s : Stage). IsAtStage k f (open_context m) (exchanges m) (k.state run.work) s) is w.stands.stage in
      record {
        at = at;
        reading = subst (λ (o : Option Context). IsCurrent g past c o (exchanges m) (asked_entries m)) at.is_open w.current;
      }

  -- the same where its end waits
  record EndsNow (past : Past) (run : CoreRun W) (m : List Piece) (cells : Option Cells) : Type 0 where
    ends : IsOver k f (open_context m) (exchanges m) (k.state run.work) cells
    reading : IsReading g past c ends.context (exchanges m) (asked_entries m)
    here : IsOver k f (Some ends.context) (exchanges m) (k.state run.work) cells

  ends-now : (past : Past) (run : CoreRun W) (w : IsWorking k f g past c run) (cells : Option Cells) → run.stage ≡ Stage.Ending cells → EndsNow past run w.pieces cells
  ends-now past run w cells is =
      let m = w.pieces in
      let ends : IsOver k f (open_context m) (exchanges m) (k.state run.work) cells =
      subst (λ (s : Stage). IsAtStage k f (open_context m) (exchanges m) (k.state run.work) s) is w.stands.stage in
      record {
        ends = ends;
        reading = subst (λ (o : Option Context). IsCurrent g past c o (exchanges m) (asked_entries m)) ends.is_open w.current;
        here = subst (λ (o : Option Context). IsOver k f o (exchanges m) (k.state run.work) cells) ends.is_open ends;
      }

  -- the desk's conditions

  within-left : (past : Past) (told : Context) (es : List Exchange) (ws : List What) (a : Ask) → IsReading g past c told es ws
      → sum_by (λ (x : Exchange). cost_of_ask x.ask) es + cost_of_ask a ≤ allowance → cost_of_ask a ≤ left (declarations_of g) past c
  within-left past told es ws a r bound =
      let so_far : ℕ = sum_by (λ l. cost_of_lead l.what) (leads (declarations_of g) past c) in
      let asked : ℕ = sum_by (λ (x : Exchange). cost_of_ask x.ask) es in
      let paid : so_far ≤ asked = r.cost in
      let all : asked + cost_of_ask a ≤ 256 = bound in
      let enough : cost_of_ask a ≤ 256 - so_far = omega (arith, paid, all) in
      enough

  pub work-askable : (past : Past) (run : CoreRun W) (a : Ask) → IsTrue (is_typed a) → IsFitWork k f g c → IsWorking k f g past c run
      → IsAsking (k.unanswered (k.state run.work)) run.stage a → IsAskable (declarations_of g) past c a
  work-askable past run a typed fit w (Working n is asks) =
      let m = w.pieces in
      let kk = declarations_of g in
      let now = asks-now past run w n is in
      let opened = now.at.context in
      let fits : IsFit g c opened (exchanges m) a = fit.asks opened (exchanges m) (k.state run.work) a now.at.reached asks in
      record {
        may_ask = may-stand kk past c opened a now.reading.begun fits.declared typed
            (subst (λ (b : What). IsTrue (is_placed (Some b) (holds kk past c) a)) (same-entry opened) (fits.placed (holds kk past c) now.reading.hold));
        allowance = within-left past opened (exchanges m) (asked_entries m) a now.reading fits.within;
        served = fits.served;
      }
  work-askable past run a typed fit w (Ending cells is ends) =
      let m = w.pieces in
      let kk = declarations_of g in
      let now = ends-now past run w cells is in
      let opened = now.ends.context in
      let same : is_some (holds kk past c) ≡ is_some cells =
      now.reading.hold ∙ sym (fit.ends opened (exchanges m) (k.state run.work) cells now.here) in
      subst (IsAskable kk past c) (sym ends)
      (record {
        may_ask = may-stand kk past c opened (Ask.End cells) now.reading.begun refl (subst (λ (b : Ask). IsTrue (is_typed b)) ends typed)
            (end-placed (Some (entry_of opened)) (holds kk past c) cells same);
        allowance = end-within g past c cells;
        served = refl;
      })

  -- what the ask leaves

  work-no_end : (past : Past) (run : CoreRun W) (m : List Piece) (n : ℕ) (a : Ask) → AsksNow past run m n → k.unanswered (k.state run.work) ≡ Some a → is_end a ≡ false
  work-no_end past run m n a now asks =
      not-end (is_end a) (subst (λ (o : Option Ask). IsTrue (is_no_end o)) asks now.at.no_end)
    where
      not-end : (b : Bool) → IsTrue (not b) → b ≡ false
      not-end true is = absurd cc
      not-end false is = refl

  abbrev after_ask : Past → Ask → Past
  after_ask past a = block (declarations_of g) past (entry_by c (lead (declarations_of g) past c a))

  -- the open context after the reply, and the contexts that have ended
  record Leaves (past : Past) (m : List Piece) (a : Ask) : Type 0 where
    current : let n = asked_piece (declarations_of g) past c a ∷ m in
        IsCurrent g (after_ask past a) c (open_context n) (exchanges n) (asked_entries n)
    worked : EachWorked k f g c (after_ask past a)

  goes-on : (l : Limits) (past : Past) (run : CoreRun W) (w : IsWorking k f g past c run) (a : Ask) → Lawful (declarations_of g) l past
      → AllAllowed (declarations_of g) l (after_ask past a) → IsAsking (k.unanswered (k.state run.work)) run.stage a → Leaves past w.pieces a
  goes-on l past run w a lawful allowed (Working n is asks) =
      let m = w.pieces in
      let kk = declarations_of g in
      let now = asks-now past run w n is in
      let mid = work-no_end past run m n a now asks in
      let still : open_after a (open_context m) ≡ Some now.at.context = open-after a (open_context m) mid ∙ now.at.is_open in
      let reading = asked-reading g l past c now.at.context (exchanges m) (asked_entries m) a now.reading lawful.whole mid allowed in
      let given = lead kk past c a in
      let after = tail_of kk past (entry_by c given ∷ past) c given in
      let es : List Exchange = record { ask = a; answer = answer_of given } ∷ exchanges m in
      record {
        current = subst (λ (o : Option Context). IsCurrent g (after_ask past a) c o es (given ∷ asked_entries m)) (sym still) reading;
        worked = none-worked k f g c (given ∷ after) past (keeps-none given (lead-keeps kk past c a mid), tail-none after (follows-tail kk past c a)) w.worked;
      }
  goes-on l past run w a lawful allowed (Ending cells is ends) =
      let m = w.pieces in
      let kk = declarations_of g in
      let now = ends-now past run w cells is in
      let given = What.End (length (held past c)) cells in
      let after = tail_of kk past (entry_by c given ∷ past) c given in
      let done : IsWorked k f g past c cells =
      record { context = now.ends.context; exchanges = exchanges m; entries = asked_entries m; now = k.state run.work; reading = now.reading; ends = now.here } in
      subst (Leaves past m) (sym ends)
      (record {
        current = ended-context g past c cells;
        worked = none-worked k f g c after (entry_by c given ∷ past) (tail-none after (follows-tail kk past c (Ask.End cells))) ((λ is. done), w.worked);
      })

  -- the handles

  module _ (l : Limits) (past now : Past) (run : CoreRun W) (a : Ask) (x : Answer) (well_formed : IsWellFormed g) (w : IsWorking k f g past c run)
      (waits : unreplied k run ≡ Some (Step.Ask a)) (before : Lawful (declarations_of g) l past) (after : Lawful (declarations_of g) l now)
      (new : now ≡ after_ask past a) (answer : x ≡ answer_of (lead (declarations_of g) past c a)) where
    -- the list's context holds what the core holds
    own-held : held (history c w.pieces) c ≡ held past c
    own-held =
        ap (λ (h : Past). held h c) w.own ∙ part-held past c (left-alone (declarations_of g) l past c (graph-small g well_formed) before.each)

    usable-held : (h : ℕ) → rule past c h ≡ None → has (held past c) h ≡ true
    usable-held h may = (usable-after (declarations_of g) l past (graph-small g well_formed) before.each).held c h ∙ ap (λ (o : Option Fault). is_none o) may

    pub list-handles : AreHandles (held (history c w.pieces) c) (unreplied k run) x
    list-handles =
        let spends : Spends (held past c) a x =
        subst (Spends (held past c) a) (sym answer) (lead-spends (declarations_of g) past c (held past c) usable-held a) in
        let fresh = answer-new g l past c a x well_formed (subst (λ (h : Past). Lawful (declarations_of g) l h) new after) answer in
        subst (λ (hs : List ℕ). AreHandles hs (unreplied k run) x) (sym own-held)
        (subst (λ (s : Option Step). AreHandles (held past c) s x) (sym waits)
        (record { different = spends.different; among = spends.among; new = fresh }))

    pub ask-working : (run' : CoreRun W) → IsTold k f g l c run run' x → IsWorking k f g now c run'
    ask-working run' told =
        let kk = declarations_of g in
        let m = w.pieces in
        let n = asked_piece kk past c a ∷ m in
        let grown : Grows c (unreplied k run) x m n =
        subst (λ (s : Option Step). Grows c s x m n) (sym waits) (subst (λ (y : Answer). GrowsByAsk c a y m n) (sym answer) (lead-grows kk past c a m)) in
        let next = goes-on l past run w a before (subst (AllAllowed kk l) new after.each) (asking (k.unanswered (k.state run.work)) run.stage a waits) in
        record {
          pieces = n;
          stands = told c f m n w.stands list-handles grown;
          own = lead-part kk past c a m w.own ∙ ap (λ (h : Past). part h c) (sym new);
          current = subst (λ (h : Past). IsCurrent g h c (open_context n) (exchanges n) (asked_entries n)) (sym new) next.current;
          worked = subst (EachWorked k f g c) (sym new) next.worked;
        }

-- a pass

module _ {W : Type 0} (k : Ghosts W) (f : k.Fixed) (g : Config) (l : Limits) (old : PassView) (run : CoreRun W) (a : Ask)
    (d : IsDriven k (Some (Step.Ask a)) f g l old run) where
  pub pass-askable : IsTrue (is_typed a) → IsAskable old.fixed.declarations (board.history old.seen) old.core a
  pass-askable typed =
      subst (λ (x : Fixed). IsAskable x.declarations (board.history old.seen) old.core a) (sym d.graph.fixed)
      (work-askable k f g old.core (board.history old.seen) run a typed d.fit d.working (asking (k.unanswered (k.state run.work)) run.stage a d.unreplied))

  module _ (new : PassView) (reply : Reply) (t : IsAsked old new a reply) where
    abbrev items : List LogItem
    items = old.seen ++ t.between

    working : IsWorking k f g (board.history items) old.core run
    working = working-between k (Some (Step.Ask a)) f g l old new run d t.between _ t.turn

    before : Lawful (declarations_of g) l (board.history items)
    before = lawful-between k (Some (Step.Ask a)) f g l old new run d t.between _ t.turn

    graph : IsOfGraph g l new
    graph = graph-after k (Some (Step.Ask a)) f g l old new run d t.between _ t.turn

    grown : board.history new.seen ≡ block (declarations_of g) (board.history items) (entry_by old.core (lead (declarations_of g) (board.history items) old.core a))
    grown =
        subst (λ (x : Fixed). board.history new.seen ≡ block x.declarations (board.history items) (entry_by old.core (lead x.declarations (board.history items) old.core a)))
        d.graph.fixed t.answered.past

    pub answered : reply.answer ≡ answer_of (lead (declarations_of g) (board.history items) old.core a)
    answered = subst (λ (x : Fixed). reply.answer ≡ answer_of (lead x.declarations (board.history items) old.core a)) d.graph.fixed t.answered.answer

    pub asked-fits : FitsStep (unreplied k run) reply.answer
    asked-fits =
        subst (λ (s : Option Step). FitsStep s reply.answer) (sym d.unreplied)
        (subst (λ (y : Answer). IsTrue (fits a y)) (sym answered) (lead-fits (declarations_of g) (board.history items) old.core a))

    pub asked-rest : ToldNoRest reply.answer
    asked-rest = answer-rest _ reply.answer answered

    pub asked-handles : HoldsHandles k run reply.answer
    asked-handles =
        record {
          core = old.core;
          fixed = f;
          pieces = working.pieces;
          stands = working.stands;
          handles = list-handles k f g old.core l (board.history items) (board.history new.seen) run a reply.answer d.graph.well_formed working d.unreplied before
              graph.lawful grown answered;
        }

    pub after-asked : (run' : CoreRun W) → IsTold k f g l old.core run run' reply.answer → unreplied k run' ≡ None → over run' ≡ over_by reply.answer
        → IsDriven k None f g l new run'
    after-asked run' told none over_is =
        record {
          graph = graph;
          fit = subst (IsFitWork k f g) (sym t.turn.core) d.fit;
          working = subst (λ (c : ℕ). IsWorking k f g (board.history new.seen) c run') (sym t.turn.core)
              (ask-working k f g old.core l (board.history items) (board.history new.seen) run a reply.answer d.graph.well_formed working d.unreplied before
              graph.lawful grown answered run' told);
          unreplied = none;
          over = over_is ∙ answer-goes_on _ reply.answer answered;
        }
