-- A run over a pass, after the reply to a take.
use Rattle.std.proofs.Common.{◌≡◌, ℕ, Bool, true, false, List, [], ◌∷◌, ◌++◌, Option, Some, None, refl, sym, ap, subst, ◌∙◌, IsTrue, if◌then◌else◌}
use Rattle.em_log.specs.declared.ask.Answer.{Answer}
use Rattle.em_log.specs.declared.ask.Context.{Context}
use Rattle.em_log.specs.declared.ask.Reply.{Reply}
use Rattle.em_log.specs.declared.entry.Body.{Body}
use Rattle.em_log.specs.declared.entry.What.{What}
use Rattle.em_log.specs.declared.graph.Config.{Config}
use Rattle.em_log.specs.declared.ids.CoreId.{CoreId}
use Rattle.em_log.specs.declared.ids.EndKind.{EndKind}
use Rattle.em_log.specs.declared.ids.Limits.{Limits}
use Rattle.em_log.specs.declared.ids.OpId.{OpId}
use Rattle.em_log.specs.declared.work.Work.{Ghosts}
use Rattle.em_log.specs.Answers.{Takes, Halted, Boots, Early, Enters, Acks, Receives, Rests, block, end_of}
use Rattle.em_log.specs.Arrivals.{Item}
use Rattle.em_log.specs.Contexts.{context}
use Rattle.em_log.specs.Declarations.{declarations_of}
use Rattle.em_log.specs.declared.declarations.Declarations.{Declarations}
use Rattle.em_log.specs.Eligible.{take_size, ticket_drawn}
use Rattle.em_log.specs.Handles.{held}
use Rattle.em_log.specs.History.{Past, entry_by, entries_by, onto, part}
use Rattle.em_log.specs.Items.{Fixed, LogItem}
use Rattle.em_log.specs.Items as item
use Rattle.em_log.specs.Places.{taken}
use Rattle.em_log.specs.Tails.{tail_of, first_start}
use Rattle.em_core.specs.declared.core_run.CoreRun.{CoreRun}
use Rattle.em_core.specs.declared.core_run.Stage.{Stage}
use Rattle.em_core.specs.declared.core_run.Step.{Step}
use Rattle.em_core.specs.Pieces.{Piece, history, open_context, exchanges}
use Rattle.em_core.specs.Stands.{Stands, HoldsHandles, IsAtStage}
use Rattle.em_core.specs.Steps.{unreplied, over, over_by, fits_take, FitsStep, ToldNoRest, AreHandles, Grows, GrowsByTake}
use Rattle.em_core.proofs.Parts.{ack-grows, ack-part, ack-tail}
use Rattle.em_laws.proofs.Single.{nothing-taken}
use Rattle.em_desk.specs.State.{IsWaited}
use Rattle.em_board.specs.Calls.{IsHalted, IsTaken, core_id}
use Rattle.em_board.specs.Marked as board
use Rattle.em_board.specs.Passes.{PassView}
use Rattle.em_board.proofs.Marked.{marked-append}
use Rattle.em_drive.specs.Driven.{EachWorked, IsFitWork, IsAfterTurn, IsDriven, IsWorking, turned_by}
use Rattle.em_drive.specs.Readings.{asked_entries, IsCurrent}
use Rattle.em_drive.proofs.Asked.{keeps-context, tail-keeps, AllKeep}
use Rattle.em_drive.proofs.Taking.{none-handled, rest-told, took-fits}
use Rattle.em_drive.proofs.Took.{Took, Opens, Acknowledges, Idles, EndsQuiet, EndsAtLimit, took}
use Rattle.em_drive.proofs.Waiting.{taking}
use Rattle.em_drive.proofs.Working.{EndNone, none-worked, tail-none, graph-after, working-between}

-- what a take comes to

-- the board was halted, or the take came to what it comes to on a desk that goes on
pub data Comes (g : Config) (l : Limits) (halted : Bool) (past : Past) (c : ℕ) (x : Answer) (now : Past) : Type 0 where
  Stopped : halted ≡ true → x ≡ Answer.Halted → Comes g l halted past c x now
  Went : Took g l past c x now → Comes g l halted past c x now

-- where the board was halted a take is answered that
stopped : (k : Declarations) (l : Limits) (past now : Past) (c : ℕ) (x : Answer) → Takes k l true past c x now → x ≡ Answer.Halted
stopped k l past now c x (Halted halts is same) = is
stopped k l past now c x (Boots going first is new) = absurd cc
stopped k l past now c x (Early going second early is same) = absurd cc
stopped k l past now c x (Enters b opened going booted owed new told is) = absurd cc
stopped k l past now c x (Acks op going booted owed new is) = absurd cc
stopped k l past now c x (Receives q opened going booted none choice new told is) = absurd cc
stopped k l past now c x (Rests going booted none no_choice rest same) = absurd cc

pub comes : (g : Config) (l : Limits) (halted : Bool) (past now : Past) (c : ℕ) (x : Answer) → let k = declarations_of g in
    l.burst ≡ 1 → context past c ≡ None → (x ≡ Answer.Idle → IsWaited k l past c) → Takes k l halted past c x now
    → Comes g l halted past c x now
comes g l true past now c x burst closed waited takes = Stopped refl (stopped (declarations_of g) l past now c x takes)
comes g l false past now c x burst closed waited takes = Went (took g l past now c x burst closed waited takes)

first-none : (past : Past) (q : ℕ) (xs : List Item) → EndNone (first_start past q xs)
first-none past q [] = tt
first-none past q (x ∷ xs) = (refl, tt)

-- a take adds entries of its core that end no context
record AddsNone (past now : Past) (c : ℕ) : Type 0 where
  entries : List What
  none : EndNone entries
  is : now ≡ onto (entries_by c entries) past

take-none : (k : Declarations) (l : Limits) (halted : Bool) (past now : Past) (c : ℕ) (x : Answer) → Takes k l halted past c x now → AddsNone past now c
take-none k l halted past now c x (Halted halts is same) = record { entries = []; none = tt; is = same }
take-none k l halted past now c x (Boots going first is new) = record { entries = What.Enter Body.Boot ∷ []; none = (refl, tt); is = new }
take-none k l halted past now c x (Early going second early is same) = record { entries = []; none = tt; is = same }
take-none k l halted past now c x (Enters b opened going booted owed new told is) =
    record { entries = What.Enter b ∷ []; none = (refl, tt); is = new }
take-none k l halted past now c x (Acks op going booted owed new is) =
    let w = What.Ack (record { 0 = op }) in
    record {
      entries = w ∷ tail_of k past (entry_by c w ∷ past) c w;
      none = (refl, tail-none _ (ack-tail k (entry_by c w ∷ past) c (record { 0 = op })));
      is = new;
    }
take-none k l halted past now c x (Receives q opened going booted none choice new told is) =
    let w = What.Take (record { 0 = q }) (take_size k l past c q) (ticket_drawn k past q) in
    record {
      entries = w ∷ tail_of k past (entry_by c w ∷ past) c w;
      none = (refl, first-none (entry_by c w ∷ past) q (taken k (entry_by c w ∷ past) c));
      is = new;
    }
take-none k l halted past now c x (Rests going booted none no_choice rest same) = record { entries = []; none = tt; is = same }

module _ {W : Type 0} (k : Ghosts W) (f : k.Fixed) (g : Config) (l : Limits) (c : ℕ) where
  pub take-worked : (halted : Bool) (past now : Past) (x : Answer) → Takes (declarations_of g) l halted past c x now → EachWorked k f g c past → EachWorked k f g c now
  take-worked halted past now x takes each =
      let adds = take-none (declarations_of g) l halted past now c x takes in
      subst (EachWorked k f g c) (sym adds.is) (none-worked k f g c adds.entries past adds.none each)

  -- before the take no context is open, on the list and in the history
  open-none : (past : Past) (run : CoreRun W) (w : IsWorking k f g past c run) → unreplied k run ≡ Some Step.Take → open_context w.pieces ≡ None
  open-none past run w waits =
      subst (λ (s : Stage). IsAtStage k f (open_context w.pieces) (exchanges w.pieces) (k.state run.work) s)
      (taking (k.unanswered (k.state run.work)) run.stage waits) w.stands.stage

  pub closed-now : (past : Past) (run : CoreRun W) → IsWorking k f g past c run → unreplied k run ≡ Some Step.Take → context past c ≡ None
  closed-now past run w waits =
      subst (λ (o : Option Context). IsCurrent g past c o (exchanges w.pieces) (asked_entries w.pieces)) (open-none past run w waits) w.current

  -- the run after the reply

  abbrev pub IsAfterTake : Bool → Past → CoreRun W → Answer → Type 0
  IsAfterTake halted now run Answer.Quiet = EachWorked k f g c now × (end_of (declarations_of g) l now ≡ Some EndKind.Quiet)
  IsAfterTake halted now run Answer.Limit = EachWorked k f g c now × (end_of (declarations_of g) l now ≡ Some EndKind.Limit)
  IsAfterTake halted now run Answer.Halted = halted ≡ true
  IsAfterTake halted now run x = IsWorking k f g now c run × (over run ≡ None)

  -- what the run's own clauses say of the reply x
  abbrev pub IsTold : CoreRun W → CoreRun W → Answer → Type 0
  IsTold run now x =
      (d : ℕ) (h : k.Fixed) (m n : List Piece) → Stands k run d h m → AreHandles (held (history d m) d) (unreplied k run) x
      → Grows d (unreplied k run) x m n → Stands k now d h n

  module _ (halted : Bool) (past now : Past) (run run' : CoreRun W) (x : Answer) (w : IsWorking k f g past c run) (waits : unreplied k run ≡ Some Step.Take)
      (told : IsTold run run' x) (each : EachWorked k f g c now) where
    handles : Took g l past c x now → AreHandles (held (history c w.pieces) c) (unreplied k run) x
    handles t =
        subst (λ (s : Option Step). AreHandles (held (history c w.pieces) c) s x) (sym waits)
        (none-handled (held (history c w.pieces) c) x (took-fits g l past now c x t))

    -- the list has grown so
    grown : Took g l past c x now → (n : List Piece) → GrowsByTake x w.pieces n → history c n ≡ part now c
        → IsCurrent g now c (open_context n) (exchanges n) (asked_entries n) → IsWorking k f g now c run'
    grown t n grows own current =
        record {
          pieces = n;
          stands = told c f w.pieces n w.stands (handles t) (subst (λ (s : Option Step). Grows c s x w.pieces n) (sym waits) grows);
          own = own;
          current = current;
          worked = each;
        }

    acknowledged : Took g l past c x now → (op : OpId) → x ≡ Answer.Acked op → now ≡ block (declarations_of g) past (entry_by c (What.Ack op)) → IsWorking k f g now c run'
    acknowledged t op is new =
        let kk = declarations_of g in
        let m = w.pieces in
        let after = tail_of kk past (entry_by c (What.Ack op) ∷ past) c (What.Ack op) in
        let follow : AllKeep (What.Ack op ∷ after) = ((λ o. refl), tail-keeps after (ack-tail kk (entry_by c (What.Ack op) ∷ past) c op)) in
        let closed : context now c ≡ None = ap (λ (h : Past). context h c) new ∙ keeps-context c (What.Ack op ∷ after) past follow ∙ closed-now past run w waits in
        grown t (Piece.Acked op after ∷ m) (subst (λ (y : Answer). GrowsByTake y m (Piece.Acked op after ∷ m)) (sym is) (ack-grows kk past c op m))
        (ack-part kk past c op m w.own ∙ ap (λ (h : Past). part h c) (sym new))
        (subst (λ (o : Option Context). IsCurrent g now c o (exchanges m) (asked_entries m)) (sym (open-none past run w waits)) closed)

    pub after-take : over run' ≡ over_by x → Comes g l halted past c x now → IsAfterTake halted now run' x
    after-take over_is (Stopped halts is) = subst (IsAfterTake halted now run') (sym is) halts
    after-take over_is (Went (Opens opened is open' grows)) =
        let m = w.pieces in
        let t : Took g l past c x now = Opens opened is open' grows in
        subst (IsAfterTake halted now run') (sym is) (
          grown t (Piece.Opened opened ∷ m) (subst (λ (y : Answer). GrowsByTake y m (Piece.Opened opened ∷ m)) (sym is) refl)
              (open'.own m w.own) open'.reading,
          over_is ∙ ap over_by is,
        )
    after-take over_is (Went (Acknowledges op is new)) =
        subst (IsAfterTake halted now run') (sym is) (acknowledged (Acknowledges op is new) op is new, over_is ∙ ap over_by is)
    after-take over_is (Went (Idles is still idle)) =
        let m = w.pieces in
        let t : Took g l past c x now = Idles is still idle in
        subst (IsAfterTake halted now run') (sym is) (
          grown t m (subst (λ (y : Answer). GrowsByTake y m m) (sym is) refl) (w.own ∙ ap (λ (h : Past). part h c) (sym still))
              (subst (λ (h : Past). IsCurrent g h c (open_context m) (exchanges m) (asked_entries m)) (sym still) w.current),
          over_is ∙ ap over_by is,
        )
    after-take over_is (Went (EndsQuiet is still ended)) =
        subst (IsAfterTake halted now run') (sym is) (each, subst (λ (h : Past). end_of (declarations_of g) l h ≡ Some EndKind.Quiet) (sym still) ended)
    after-take over_is (Went (EndsAtLimit is still ended)) =
        subst (IsAfterTake halted now run') (sym is) (each, subst (λ (h : Past). end_of (declarations_of g) l h ≡ Some EndKind.Limit) (sym still) ended)

  -- it may be told

  come-fits : (halted : Bool) (past now : Past) (x : Answer) → Comes g l halted past c x now → IsTrue (fits_take x)
  come-fits halted past now x (Stopped halts is) = rw is refl
  come-fits halted past now x (Went t) = took-fits g l past now c x t

  pub come-rest : (halted : Bool) (past now : Past) (x : Answer) → Comes g l halted past c x now → ToldNoRest x
  come-rest halted past now x (Stopped halts is) = subst ToldNoRest (sym is) tt
  come-rest halted past now x (Went t) = rest-told g l past now c x t

  pub come-told : (halted : Bool) (past now : Past) (run : CoreRun W) (x : Answer) → unreplied k run ≡ Some Step.Take → Comes g l halted past c x now → FitsStep (unreplied k run) x
  come-told halted past now run x waits t = subst (λ (s : Option Step). FitsStep s x) (sym waits) (come-fits halted past now x t)

  pub come-handles : (halted : Bool) (past now : Past) (run : CoreRun W) (x : Answer) → IsWorking k f g past c run → unreplied k run ≡ Some Step.Take
      → Comes g l halted past c x now → HoldsHandles k run x
  come-handles halted past now run x w waits t =
      record {
        core = c;
        fixed = f;
        pieces = w.pieces;
        stands = w.stands;
        handles = subst (λ (s : Option Step). AreHandles (held (history c w.pieces) c) s x) (sym waits)
            (none-handled (held (history c w.pieces) c) x (come-fits halted past now x t));
      }

-- a pass

module _ {W : Type 0} (k : Ghosts W) (f : k.Fixed) (g : Config) (l : Limits) (old : PassView) (run : CoreRun W) (d : IsDriven k (Some Step.Take) f g l old run) where
  pub pass-untaken : taken old.fixed.declarations (board.history old.seen) old.core ≡ []
  pass-untaken =
      subst (λ (x : Fixed). taken x.declarations (board.history old.seen) old.core ≡ []) (sym d.graph.fixed)
      (nothing-taken (declarations_of g) l (board.history old.seen) d.graph.burst d.graph.lawful.each d.graph.lawful.whole old.core)

  module _ (new : PassView) (reply : Reply) (t : IsTaken old new reply) where
    abbrev items : List LogItem
    items = old.seen ++ t.between

    working : IsWorking k f g (board.history items) old.core run
    working = working-between k (Some Step.Take) f g l old new run d t.between _ t.turn

    takes : Takes (declarations_of g) l (board.is_marked items) (board.history items) old.core reply.answer (board.history new.seen)
    takes =
        subst (λ (x : Fixed). Takes x.declarations x.limits (board.is_marked items) (board.history items) old.core reply.answer (board.history new.seen))
        d.graph.fixed t.answered.takes

    taken-comes : Comes g l (board.is_marked items) (board.history items) old.core reply.answer (board.history new.seen)
    taken-comes =
        comes g l (board.is_marked items) (board.history items) (board.history new.seen) old.core reply.answer d.graph.burst
        (closed-now k f g l old.core (board.history items) run working d.unreplied)
        (λ i. subst (λ (x : Fixed). IsWaited x.declarations x.limits (board.history items) old.core) d.graph.fixed (t.answered.idle i)) takes

    pub taken-fits : FitsStep (unreplied k run) reply.answer
    taken-fits = come-told k f g l old.core (board.is_marked items) (board.history items) (board.history new.seen) run reply.answer d.unreplied taken-comes

    pub taken-rest : ToldNoRest reply.answer
    taken-rest = come-rest k f g l old.core (board.is_marked items) (board.history items) (board.history new.seen) reply.answer taken-comes

    pub taken-handles : HoldsHandles k run reply.answer
    taken-handles =
        come-handles k f g l old.core (board.is_marked items) (board.history items) (board.history new.seen) run reply.answer working d.unreplied taken-comes

    marked-after : board.is_marked items ≡ true → board.is_marked new.seen ≡ true
    marked-after marked =
        ap board.is_marked t.turn.seen ∙ marked-append items _ ∙ ap (λ (b : Bool). if b then true else board.is_marked (board.logged t.entries)) marked

    goes : (run' : CoreRun W) → unreplied k run' ≡ None → IsWorking k f g (board.history new.seen) old.core run' × (over run' ≡ None) → IsDriven k None f g l new run'
    goes run' none after =
        record {
          graph = graph-after k (Some Step.Take) f g l old new run d t.between _ t.turn;
          fit = subst (IsFitWork k f g) (sym t.turn.core) d.fit;
          working = subst (λ (c : ℕ). IsWorking k f g (board.history new.seen) c run') (sym t.turn.core) after.0;
          unreplied = none;
          over = after.1;
        }

    turned : (run' : CoreRun W) → unreplied k run' ≡ None → (x : Answer)
        → IsAfterTake k f g l old.core (board.is_marked items) (board.history new.seen) run' x → IsAfterTurn k f g l new run' (turned_by x)
    turned run' none Answer.Quiet after = record { graph = graph-after k (Some Step.Take) f g l old new run d t.between _ t.turn; worked = subst (λ (c : ℕ). EachWorked k f g c (board.history new.seen)) (sym t.turn.core) after.0; ended = after.1 }
    turned run' none Answer.Limit after = record { graph = graph-after k (Some Step.Take) f g l old new run d t.between _ t.turn; worked = subst (λ (c : ℕ). EachWorked k f g c (board.history new.seen)) (sym t.turn.core) after.0; ended = after.1 }
    turned run' none Answer.Halted after = marked-after after
    turned run' none Answer.Idle after = goes run' none after
    turned run' none x after = goes run' none after

    pub after-taken : (run' : CoreRun W) → IsTold k f g l old.core run run' reply.answer → unreplied k run' ≡ None → over run' ≡ over_by reply.answer
        → IsAfterTurn k f g l new run' (turned_by reply.answer)
    after-taken run' told none over_is =
        turned run' none reply.answer
        (after-take k f g l old.core (board.is_marked items) (board.history items) (board.history new.seen) run run' reply.answer working d.unreplied told
        (take-worked k f g l old.core (board.is_marked items) (board.history items) (board.history new.seen) reply.answer takes working.worked) over_is taken-comes)

-- a halt

mark-stands : (c : CoreId) (b : Bool) → (if b then true else board.is_marked (if b then [] else item.Halted c ∷ [])) ≡ true
mark-stands c true = refl
mark-stands c false = refl

pub halted-marked : (old new : PassView) → IsHalted old new → board.is_marked new.seen ≡ true
halted-marked old new (between, t) =
    ap board.is_marked t.seen ∙ marked-append (old.seen ++ between) _ ∙ mark-stands (core_id old.core) (board.is_marked (old.seen ++ between))
