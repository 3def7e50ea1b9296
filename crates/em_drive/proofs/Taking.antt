-- A run after the reply to a take.
use Rattle.std.proofs.Common.{◌≡◌, inl, inr, ℕ, ◌<◌, List, [], ◌∷◌, Option, Some, None, refl, sym, ap, subst, ◌∙◌, IsTrue}
use Rattle.em_log.specs.declared.ask.Answer.{Answer}
use Rattle.em_log.specs.declared.ask.Context.{Context}
use Rattle.em_log.specs.declared.declarations.Declarations.{Declarations}
use Rattle.em_log.specs.declared.entry.What.{What}
use Rattle.em_log.specs.declared.graph.Config.{Config}
use Rattle.em_log.specs.declared.ids.EndKind.{EndKind}
use Rattle.em_log.specs.declared.ids.Limits.{Limits}
use Rattle.em_log.specs.declared.ids.OpId.{OpId}
use Rattle.em_log.specs.Answers.{Takes, block, end_of}
use Rattle.em_log.specs.Contexts.{context}
use Rattle.em_log.specs.Declarations.{declarations_of}
use Rattle.em_log.specs.Handles.{held}
use Rattle.em_log.specs.History.{Past, entry_by, part}
use Rattle.em_log.specs.Lawful.{Lawful}
use Rattle.em_log.specs.Legal.{EndedFollow}
use Rattle.em_log.specs.Places.{taken}
use Rattle.em_log.specs.Tails.{tail_of}
use Rattle.em_core.specs.declared.core_run.CoreRun.{CoreRun}
use Rattle.em_core.specs.declared.core_run.Stage.{Stage}
use Rattle.em_core.specs.declared.core_run.Step.{Step}
use Rattle.em_core.specs.Pieces.{Piece, history, open_context, exchanges}
use Rattle.em_core.specs.Stands.{Stands, HoldsHandles, IsAtStage}
use Rattle.em_core.specs.Steps.{unreplied, over, over_by, fits_take, FitsStep, ToldNoRest, AreHandles, Grows, GrowsByTake}
use Rattle.em_core.proofs.Parts.{ack-grows, ack-part, ack-tail}
use Rattle.em_body.specs.contracts.run.BodyRunWork.TheImpl.{ghosts}
use Rattle.em_body.specs.Standings.{Made, Run}
use Rattle.em_laws.proofs.AllLaws.{keeps-laws}
use Rattle.em_laws.proofs.Single.{nothing-taken}
use Rattle.em_desk.specs.State.{DeskState, IsSameRun, IsWaited}
use Rattle.em_drive.specs.Going.{HasTurned, IsAwaiting, IsAfter, IsGoing, end_in}
use Rattle.em_drive.specs.Readings.{asked_entries, IsCurrent}
use Rattle.em_drive.specs.Runs.{IsRun}
use Rattle.em_drive.proofs.Asked.{keeps-context, keeps-ended, tail-keeps, AllKeep}
use Rattle.em_drive.proofs.Closed.{whole-run}
use Rattle.em_drive.proofs.Took.{Took, Opens, Acknowledges, Idles, EndsQuiet, EndsAtLimit, took, block-grows}
use Rattle.em_drive.proofs.Waiting.{taking}

-- before the take

-- no context is open, on the list and in the history
pub open-none : (g : Config) (l : Limits) (desk : DeskState) (c : ℕ) (run : CoreRun Run) (w : IsAwaiting (Some Step.Take) g l desk c run)
    → open_context w.going.pieces ≡ None
open-none g l desk c run w =
    let m = w.going.pieces in
    subst (λ (s : Stage). IsAtStage ghosts (record { graph = g; core = c }) (open_context m) (exchanges m) (ghosts.state run.work) s)
    (taking (ghosts.unanswered (ghosts.state run.work)) run.stage w.unreplied) w.going.stands.stage

pub closed-now : (g : Config) (l : Limits) (desk : DeskState) (c : ℕ) (run : CoreRun Run) → IsAwaiting (Some Step.Take) g l desk c run → context desk.past c ≡ None
closed-now g l desk c run w =
    let m = w.going.pieces in
    subst (λ (o : Option Context). IsCurrent g desk.past c o (exchanges m) (asked_entries m)) (open-none g l desk c run w) w.going.current

-- the core is one of the desk's
pub core-there : (g : Config) (l : Limits) (desk : DeskState) (c : ℕ) (run : CoreRun Run) → IsGoing g l desk c run → c < desk.declarations.cores
core-there g l desk c run going = subst (λ (k : Declarations). c < k.cores) (sym going.graph) going.core

-- nothing is taken
pub untaken-now : (g : Config) (l : Limits) (desk : DeskState) (c : ℕ) (run : CoreRun Run) → IsGoing g l desk c run
    → Lawful desk.declarations desk.limits desk.past → taken desk.declarations desk.past c ≡ []
untaken-now g l desk c run going lawful =
    nothing-taken desk.declarations desk.limits desk.past (ap (λ (m : Limits). m.burst) going.limits ∙ going.burst) lawful.each lawful.whole c

-- the reply

-- the history of a desk that runs this graph is lawful for it
pub lawful-of : (g : Config) (l : Limits) (desk : DeskState) → desk.declarations ≡ declarations_of g → desk.limits ≡ l
    → Lawful desk.declarations desk.limits desk.past → Lawful (declarations_of g) l desk.past
lawful-of g l desk graph limits lawful =
    subst (λ (m : Limits). Lawful (declarations_of g) m desk.past) limits (subst (λ (k : Declarations). Lawful k desk.limits desk.past) graph lawful)

pub took-now : (g : Config) (l : Limits) (desk now : DeskState) (c : ℕ) (run : CoreRun Run) (x : Answer) → IsAwaiting (Some Step.Take) g l desk c run
    → (x ≡ Answer.Idle → IsWaited desk.declarations desk.limits desk.past c)
    → Takes desk.declarations desk.limits desk.halted desk.past c x now.past → Took g l desk.past c x now.past
took-now g l desk now c run x w idle takes =
    let going = w.going in
    let graph = going.graph in
    took g l desk.past now.past c x going.burst (closed-now g l desk c run w)
    (λ i. subst (λ (m : Limits). IsWaited (declarations_of g) m desk.past c) going.limits
    (subst (λ (k : Declarations). IsWaited k desk.limits desk.past c) graph (idle i)))
    (subst (λ b. Takes (declarations_of g) l b desk.past c x now.past) going.running
    (subst (λ (m : Limits). Takes (declarations_of g) m desk.halted desk.past c x now.past) going.limits
    (subst (λ (k : Declarations). Takes k desk.limits desk.halted desk.past c x now.past) graph takes)))

-- it may be told

pub took-fits : (g : Config) (l : Limits) (past now : Past) (c : ℕ) (x : Answer) → Took g l past c x now → IsTrue (fits_take x)
took-fits g l past now c x (Opens opened is open' grows) = rw is refl
took-fits g l past now c x (Acknowledges op is new) = rw is refl
took-fits g l past now c x (Idles is same idle) = rw is refl
took-fits g l past now c x (EndsQuiet is same ended) = rw is refl
took-fits g l past now c x (EndsAtLimit is same ended) = rw is refl

pub fits-told : (g : Config) (l : Limits) (past now : Past) (c : ℕ) (run : CoreRun Run) (x : Answer) → unreplied ghosts run ≡ Some Step.Take
    → Took g l past c x now → FitsStep (unreplied ghosts run) x
fits-told g l past now c run x waits t = subst (λ (s : Option Step). FitsStep s x) (sym waits) (took-fits g l past now c x t)

pub rest-told : (g : Config) (l : Limits) (past now : Past) (c : ℕ) (x : Answer) → Took g l past c x now → ToldNoRest x
rest-told g l past now c x (Opens opened is open' grows) = subst ToldNoRest (sym is) open'.no_rest
rest-told g l past now c x (Acknowledges op is new) = subst ToldNoRest (sym is) tt
rest-told g l past now c x (Idles is same idle) = subst ToldNoRest (sym is) tt
rest-told g l past now c x (EndsQuiet is same ended) = subst ToldNoRest (sym is) tt
rest-told g l past now c x (EndsAtLimit is same ended) = subst ToldNoRest (sym is) tt

pub none-handled : (hs : List ℕ) (x : Answer) → IsTrue (fits_take x) → AreHandles hs (Some Step.Take) x
none-handled hs (Answer.Context k) fits = record { different = tt; among = tt; new = tt }
none-handled hs (Answer.Acked op) fits = record { different = tt; among = tt; new = tt }
none-handled hs Answer.Idle fits = record { different = tt; among = tt; new = tt }
none-handled hs Answer.Quiet fits = record { different = tt; among = tt; new = tt }
none-handled hs Answer.Limit fits = record { different = tt; among = tt; new = tt }
none-handled hs Answer.Halted fits = record { different = tt; among = tt; new = tt }
none-handled hs x fits = absurd cc

take-handles : (g : Config) (l : Limits) (past now : Past) (c : ℕ) (run : CoreRun Run) (hs : List ℕ) (x : Answer) → unreplied ghosts run ≡ Some Step.Take
    → Took g l past c x now → AreHandles hs (unreplied ghosts run) x
take-handles g l past now c run hs x waits t =
    subst (λ (s : Option Step). AreHandles hs s x) (sym waits) (none-handled hs x (took-fits g l past now c x t))

pub handles-told : (g : Config) (l : Limits) (desk : DeskState) (now : Past) (c : ℕ) (run : CoreRun Run) (x : Answer) → IsAwaiting (Some Step.Take) g l desk c run
    → Took g l desk.past c x now → HoldsHandles ghosts run x
handles-told g l desk now c run x w t =
    record {
      core = c;
      fixed = record { graph = g; core = c };
      pieces = w.going.pieces;
      stands = w.going.stands;
      handles = take-handles g l desk.past now c run (held (history c w.going.pieces) c) x w.unreplied t;
    }

-- after the reply

pub turned-told : (g : Config) (l : Limits) (past now : Past) (c : ℕ) (x : Answer) → Took g l past c x now → end_in x ≡ None → HasTurned g l past c now
turned-told g l past now c x (Opens opened is open' grows) none = inl grows
turned-told g l past now c x (Acknowledges op is new) none = inl (rw new (block-grows (declarations_of g) past (entry_by c (What.Ack op))))
turned-told g l past now c x (Idles is same idle) none = inr (same, idle)
turned-told g l past now c x (EndsQuiet is same ended) none = absurd (cc (ap end_in is, none))
turned-told g l past now c x (EndsAtLimit is same ended) none = absurd (cc (ap end_in is, none))

-- what the run's own clauses say of the reply x
abbrev pub Told : CoreRun Run → CoreRun Run → Answer → Type 0
Told run now x =
    (c : ℕ) (f : Made) (m n : List Piece) → Stands ghosts run c f m → AreHandles (held (history c m) c) (unreplied ghosts run) x
    → Grows c (unreplied ghosts run) x m n → Stands ghosts now c f n

module _ (g : Config) (l : Limits) (desk now : DeskState) (c : ℕ) (run run' : CoreRun Run) (x : Answer) (w : IsAwaiting (Some Step.Take) g l desk c run)
    (same : IsSameRun desk now) (lawful : Lawful now.declarations now.limits now.past) (told : Told run run' x) (none : unreplied ghosts run' ≡ None)
    (t : Took g l desk.past c x now.past) where
  graph-now : now.declarations ≡ declarations_of g
  graph-now = same.declarations ∙ w.going.graph

  limits-now : now.limits ≡ l
  limits-now = same.limits ∙ w.going.limits

  run-ended : (end : EndKind) → now.past ≡ desk.past → end_of (declarations_of g) l desk.past ≡ Some end → IsRun g l now end
  run-ended end still ended =
      let law = lawful-of g l now graph-now limits-now lawful in
      let ended-now : end_of (declarations_of g) l now.past ≡ Some end = subst (λ (h : Past). end_of (declarations_of g) l h ≡ Some end) (sym still) ended in
      record {
        graph = graph-now;
        limits = limits-now;
        legal = whole-run g l now.past end law (subst (EndedFollow g) (sym still) w.going.ended) ended-now;
        laws = keeps-laws (declarations_of g) l now.past law.each;
        ended = ended-now;
      }

  -- the list has grown so
  goes-on : (n : List Piece) → over run' ≡ None → GrowsByTake x w.going.pieces n → history c n ≡ part now.past c
      → IsCurrent g now.past c (open_context n) (exchanges n) (asked_entries n) → EndedFollow g now.past → IsAwaiting None g l now c run'
  goes-on n not_over grows own current ended =
      let going = w.going in
      let m = going.pieces in
      let handles = take-handles g l desk.past now.past c run (held (history c m) c) x w.unreplied t in
      let grown : Grows c (unreplied ghosts run) x m n = subst (λ (s : Option Step). Grows c s x m n) (sym w.unreplied) grows in
      record {
        going = record {
          well_formed = going.well_formed;
          servable = going.servable;
          burst = going.burst;
          graph = graph-now;
          limits = limits-now;
          running = same.halted ∙ going.running;
          core = going.core;
          pieces = n;
          stands = told c (record { graph = g; core = c }) m n going.stands handles grown;
          own = own;
          current = current;
          ended = ended;
        };
        unreplied = none;
        over = not_over;
      }

  acknowledged : (op : OpId) → x ≡ Answer.Acked op → over run' ≡ None → now.past ≡ block (declarations_of g) desk.past (entry_by c (What.Ack op))
      → IsAwaiting None g l now c run'
  acknowledged op is not_over new =
      let k = declarations_of g in
      let m = w.going.pieces in
      let past = desk.past in
      let after = tail_of k past (entry_by c (What.Ack op) ∷ past) c (What.Ack op) in
      let follow : AllKeep (What.Ack op ∷ after) = ((λ o. refl), tail-keeps after (ack-tail k (entry_by c (What.Ack op) ∷ past) c op)) in
      let closed : context now.past c ≡ None =
      ap (λ (h : Past). context h c) new ∙ keeps-context c (What.Ack op ∷ after) past follow ∙ closed-now g l desk c run w in
      goes-on (Piece.Acked op after ∷ m) not_over (subst (λ (y : Answer). GrowsByTake y m (Piece.Acked op after ∷ m)) (sym is) (ack-grows k past c op m))
      (ack-part k past c op m w.going.own ∙ ap (λ (h : Past). part h c) (sym new))
      (subst (λ (o : Option Context). IsCurrent g now.past c o (exchanges m) (asked_entries m)) (sym (open-none g l desk c run w)) closed)
      (subst (EndedFollow g) (sym new) (keeps-ended g c (What.Ack op ∷ after) past follow w.going.ended))

  pub after-take : over run' ≡ over_by x → IsAfter g l now c run' (end_in x)
  after-take over_is = by_case t
    where
      by_case : Took g l desk.past c x now.past → IsAfter g l now c run' (end_in x)
      by_case (Opens opened is open' grows) =
          let m = w.going.pieces in
          subst (λ (y : Answer). IsAfter g l now c run' (end_in y)) (sym is)
          (goes-on (Piece.Opened opened ∷ m) (over_is ∙ ap over_by is)
          (subst (λ (y : Answer). GrowsByTake y m (Piece.Opened opened ∷ m)) (sym is) refl)
          (open'.own m w.going.own) open'.reading (open'.kept w.going.ended))
      by_case (Acknowledges op is new) =
          subst (λ (y : Answer). IsAfter g l now c run' (end_in y)) (sym is) (acknowledged op is (over_is ∙ ap over_by is) new)
      by_case (Idles is still idle) =
          let m = w.going.pieces in
          subst (λ (y : Answer). IsAfter g l now c run' (end_in y)) (sym is)
          (goes-on m (over_is ∙ ap over_by is) (subst (λ (y : Answer). GrowsByTake y m m) (sym is) refl)
          (w.going.own ∙ ap (λ (h : Past). part h c) (sym still))
          (subst (λ (h : Past). IsCurrent g h c (open_context m) (exchanges m) (asked_entries m)) (sym still) w.going.current)
          (subst (EndedFollow g) (sym still) w.going.ended))
      by_case (EndsQuiet is still ended) =
          subst (λ (y : Answer). IsAfter g l now c run' (end_in y)) (sym is) (run-ended EndKind.Quiet still ended)
      by_case (EndsAtLimit is still ended) =
          subst (λ (y : Answer). IsAfter g l now c run' (end_in y)) (sym is) (run-ended EndKind.Limit still ended)
