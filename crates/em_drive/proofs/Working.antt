-- A work in its contexts: what its ended contexts are after further entries, and that a run goes on over silent steps and over entries of other cores.
use Rattle.std.proofs.Common.{◌≡◌, ◌≢◌, ℕ, Bool, true, false, List, [], ◌∷◌, ◌++◌, Option, Some, None, refl, sym, subst, ◌∙◌, IsTrue, inl}
use Rattle.em_log.specs.declared.entry.Entry.{Entry}
use Rattle.em_log.specs.declared.entry.What.{What}
use Rattle.em_log.specs.declared.graph.Config.{Config}
use Rattle.em_log.specs.declared.ids.Limits.{Limits}
use Rattle.em_log.specs.declared.work.Work.{Ghosts}
use Rattle.em_log.specs.Declarations.{declarations_of}
use Rattle.em_log.specs.History.{Past, entry_by, entries_by, onto}
use Rattle.em_log.specs.Items.{Fixed, LogItem, Logged, Halted}
use Rattle.em_log.specs.Lawful.{AllAllowed, Lawful}
use Rattle.em_log.specs.WellFormed.{IsWellFormed}
use Rattle.em_core.specs.declared.core_run.CoreRun.{CoreRun}
use Rattle.em_core.specs.declared.core_run.Step.{Step}
use Rattle.em_core.specs.Pieces.{Piece, AreTail, is_tail, open_context, exchanges}
use Rattle.em_core.specs.Stands.{Stands}
use Rattle.em_core.specs.Steps.{Steps, unreplied, over, awaited}
use Rattle.em_cores.specs.Others.{AreOfOthers, IsSameFor}
use Rattle.em_cores.proofs.Others.{others-same}
use Rattle.em_laws.proofs.Fresh.{graph-small}
use Rattle.em_turn.specs.Numbers.{NoneOf}
use Rattle.em_board.specs.Calls.{IsTurn}
use Rattle.em_board.specs.Marked as board
use Rattle.em_board.specs.Passes.{PassView}
use Rattle.em_board.proofs.Marked.{history-append}
use Rattle.em_drive.specs.Driven.{EachWorked, EndIsWorked, IsDriven, IsOfGraph, IsSamePass, IsWorking}
use Rattle.em_drive.specs.Going.{IsForDesk}
use Rattle.em_drive.specs.Readings.{asked_entries}
use Rattle.em_drive.proofs.Asked.{Keeps}
use Rattle.em_drive.proofs.OtherCores.{current-stays}
use Rattle.em_drive.proofs.Waiting.{not-over}

-- entries that end no context

abbrev pub ends_none : What → Bool
ends_none (What.End lost cells) = false
ends_none w = true

abbrev pub EndNone : List What → Type 0
EndNone [] = Unit {0}
EndNone (w ∷ ws) = (ends_none w ≡ true) × EndNone ws

pub keeps-none : (w : What) → Keeps w → ends_none w ≡ true
keeps-none (What.End lost cells) keeps = absurd (cc (keeps (Some (What.End lost cells))))
keeps-none w keeps = refl

tail_entry-none : (w : What) → IsTrue (is_tail w) → ends_none w ≡ true
tail_entry-none (What.End lost cells) is = absurd cc
tail_entry-none w is = refl

pub tail-none : (ws : List What) → AreTail ws → EndNone ws
tail-none [] all = tt
tail-none (w ∷ ws) all = (tail_entry-none w all.0, tail-none ws all.1)

-- entries of other cores

pub of-others : (c : ℕ) (xs : List LogItem) → NoneOf (c ∷ []) xs → AreOfOthers c (board.entries xs)
of-others c [] none = tt
of-others c (Logged e ∷ xs) none = (λ q. none.0 (inl q), of-others c xs none.1)
of-others c (Halted d ∷ xs) none = of-others c xs none.1

module _ {W : Type 0} (k : Ghosts W) (f : k.Fixed) (g : Config) (c : ℕ) where
  entry-worked : (past : Past) (w : What) → ends_none w ≡ true → EndIsWorked k f g past c w
  entry-worked past (What.End lost cells) none = absurd cc
  entry-worked past w none = tt

  -- no context has ended by these entries of the core
  pub none-worked : (ws : List What) (past : Past) → EndNone ws → EachWorked k f g c past → EachWorked k f g c (onto (entries_by c ws) past)
  none-worked [] past none each = each
  none-worked (w ∷ ws) past none each = none-worked ws (entry_by c w ∷ past) none.1 ((λ is. entry-worked past w none.0), each)

  pub others-worked : (es : List Entry) (past : Past) → AreOfOthers c es → EachWorked k f g c past → EachWorked k f g c (onto es past)
  others-worked [] past others each = each
  others-worked (e ∷ es) past others each = others-worked es (e ∷ past) others.1 ((λ is. absurd (others.0 is)), each)

  pub others-working : (l : Limits) (es : List Entry) (past : Past) (run : CoreRun W) → IsWellFormed g → AllAllowed (declarations_of g) l (onto es past)
      → AreOfOthers c es → IsWorking k f g past c run → IsWorking k f g (onto es past) c run
  others-working l es past run well_formed allowed others w =
      let m = w.pieces in
      let same : IsSameFor (declarations_of g) past (onto es past) c =
      others-same (declarations_of g) l c es past (graph-small g well_formed) allowed others in
      record {
        pieces = m;
        stands = w.stands;
        own = w.own ∙ sym same.part;
        current = current-stays g past (onto es past) c (open_context m) (exchanges m) (asked_entries m) same w.current;
        worked = others-worked es past others w.worked;
      }

  -- the run has gone on, and the history has not
  pub still-working : (past : Past) (was now : CoreRun W) → ((d : ℕ) (h : k.Fixed) (m : List Piece) → Stands k was d h m → Stands k now d h m)
      → IsWorking k f g past c was → IsWorking k f g past c now
  still-working past was now stands w =
      record { pieces = w.pieces; stands = stands c f w.pieces w.stands; own = w.own; current = w.current; worked = w.worked }

-- steps

module _ {W : Type 0} (k : Ghosts W) where
  pub for-board : (was now : CoreRun W) (s : Step) → Steps k was s now → over was ≡ None → s ≢ Step.Silent → IsForDesk s
  for-board was now Step.Take steps none loud = tt
  for-board was now Step.Untake steps none loud = absurd steps
  for-board was now (Step.Ask a) steps none loud = tt
  for-board was now Step.Silent steps none loud = absurd (loud refl)
  for-board was now (Step.Over kind) steps none loud = absurd (cc (steps.0, none))
  for-board was now Step.Halted steps none loud = absurd (cc (steps.0, none))

  awaited-step : (s : Step) → IsForDesk s → awaited s ≡ Some s
  awaited-step Step.Take for = refl
  awaited-step (Step.Ask a) for = refl
  awaited-step s for = absurd for

  pub driven-next : (f : k.Fixed) (g : Config) (l : Limits) (p : PassView) (was now : CoreRun W) (s : Step) → unreplied k now ≡ awaited s → IsForDesk s
      → ((d : ℕ) (h : k.Fixed) (m : List Piece) → Stands k was d h m → Stands k now d h m)
      → IsDriven k None f g l p was → IsDriven k (Some s) f g l p now
  driven-next f g l p was now s is for stands d =
      let waited = is ∙ awaited-step s for in
      record {
        graph = d.graph;
        fit = d.fit;
        working = still-working k f g p.core (board.history p.seen) was now stands d.working;
        unreplied = waited;
        over = not-over (k.unanswered (k.state now.work)) now.stage s waited;
      }

  pub driven-silent : (f : k.Fixed) (g : Config) (l : Limits) (p : PassView) (was now : CoreRun W) → unreplied k now ≡ None → now.stage ≡ was.stage
      → ((d : ℕ) (h : k.Fixed) (m : List Piece) → Stands k was d h m → Stands k now d h m)
      → IsDriven k None f g l p was → IsDriven k None f g l p now
  driven-silent f g l p was now none same stands d =
      record {
        graph = d.graph;
        fit = d.fit;
        working = still-working k f g p.core (board.history p.seen) was now stands d.working;
        unreplied = none;
        over = rw same d.over;
      }

-- a turn of the pass

module _ {W : Type 0} (k : Ghosts W) (step : Option Step) (f : k.Fixed) (g : Config) (l : Limits) (old new : PassView) (run : CoreRun W)
    (d : IsDriven k step f g l old run) (between added : List LogItem) (t : IsTurn old new between added) where
  pub graph-after : IsOfGraph g l new
  graph-after =
      let fixed = t.fixed ∙ d.graph.fixed in
      record {
        well_formed = d.graph.well_formed;
        burst = d.graph.burst;
        fixed = fixed;
        lawful = subst (λ (x : Fixed). Lawful x.declarations x.limits (board.history new.seen)) fixed t.lawful;
      }

  pub lawful-between : Lawful (declarations_of g) l (board.history (old.seen ++ between))
  lawful-between = subst (λ (x : Fixed). Lawful x.declarations x.limits (board.history (old.seen ++ between))) d.graph.fixed t.before

  -- when the call came, the run stood for the core's part as before
  pub working-between : IsWorking k f g (board.history (old.seen ++ between)) old.core run
  working-between =
      let joined = history-append old.seen between in
      subst (λ (h : Past). IsWorking k f g h old.core run) (sym joined)
      (others-working k f g old.core l (board.entries between) (board.history old.seen) run d.graph.well_formed
      (subst (AllAllowed (declarations_of g) l) joined lawful-between.each) (of-others old.core between t.others) d.working)

pub passes-on : (p q r : PassView) → IsSamePass p q → IsSamePass q r → IsSamePass p r
passes-on p q r first second =
    record { board = second.board ∙ first.board; core = second.core ∙ first.core; fixed = second.fixed ∙ first.fixed }
