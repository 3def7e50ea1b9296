-- The bodies of a graph as works: their asks are fit, and a run in which each core's contexts follow its body is a legal one.
use Rattle.std.proofs.Common.{◌≡◌, ◌⊎◌, inl, inr, ℕ, zero, suc, ◌+◌, ◌<◌, ◌≤◌, List, [], ◌∷◌, ◌++◌, length, Option, Some, None, Result, Ok, Err, IfOk, refl, sym, ap, ◌∙◌, subst, arith, IsTrue, is_some, slice_get}
use Rattle.std.specs.List.{sum_by}
use Rattle.std.specs.Option.{option_map_or}
use Rattle.em_log.specs.declared.ask.Ask.{Ask}
use Rattle.em_log.specs.declared.ask.Context.{Context}
use Rattle.em_log.specs.declared.entry.What.{What}
use Rattle.em_log.specs.declared.graph.Config.{Config}
use Rattle.em_log.specs.declared.ids.Cells.{Cells}
use Rattle.em_log.specs.declared.ids.EndKind.{EndKind}
use Rattle.em_log.specs.declared.ids.Limits.{Limits}
use Rattle.em_log.specs.declared.ids.NoMemory.{NoMemory}
use Rattle.em_log.specs.Allowance.{cost_of_ask}
use Rattle.em_log.specs.Declarations.{declarations_of}
use Rattle.em_log.specs.History.{Past}
use Rattle.em_log.specs.Lawful.{AllAllowed, is_placed}
use Rattle.em_log.specs.Legal.{EndFollows, EndedFollow}
use Rattle.em_log.specs.WellFormed.{IsWellFormed}
use Rattle.em_log.specs.Works.{Exchange}
use Rattle.em_core.specs.Stands.{IsOver}
use Rattle.em_laws.proofs.Cores.{some-inj}
use Rattle.em_body.specs.contracts.run.BodyRunWork.TheImpl.{ghosts}
use Rattle.em_body.specs.Standings.{Made, Run, Standing, carried, settled, unanswered}
use Rattle.em_body.proofs.AsksStand.{asks-stand}
use Rattle.em_body.proofs.Bounds.{bounded}
use Rattle.em_body.proofs.Settled.{settled-cells}
use Rattle.em_desk.specs.State.{DeskState}
use Rattle.em_drive.specs.Driven.{EachWorked, EndIsWorked, IsFitWork}
use Rattle.em_drive.specs.Bodies.{AreBodies}
use Rattle.em_drive.specs.Parallel.{AreFit, IsWorkedRun}
use Rattle.em_drive.specs.Readings.{has_cells}
use Rattle.em_drive.specs.Runs.{IsRun}
use Rattle.em_drive.specs.Servable.{IsServable}
use Rattle.em_drive.proofs.Asking.{carried-some, cells_of, end-same, none-of}
use Rattle.em_drive.proofs.Cells.{reached-cells}
use Rattle.em_drive.proofs.Closed.{whole-run}
use Rattle.em_drive.proofs.Ended.{ended-follows, same-entry}

-- what a body asks

fit-body : (g : Config) (c : ℕ) → IsWellFormed g → IsServable g → IsFitWork ghosts (record { graph = g; core = c }) g c
fit-body g c formed servable =
    let f : Made = record { graph = g; core = c } in
    record {
      asks = λ context es now a reached asks.
          let stand = asks-stand f formed context es now reached a asks in
          let all : sum_by (λ (x : Exchange). cost_of_ask x.ask) es + option_map_or cost_of_ask (unanswered now) 0 ≤ 256 =
          (bounded f formed context es now reached).0 in
          let this : option_map_or cost_of_ask (unanswered now) 0 ≡ cost_of_ask a = ap (λ o. option_map_or cost_of_ask o 0) asks in
          record {
            declared = stand.declared;
            placed = λ atomic same.
                subst (λ (b : What). IsTrue (is_placed (Some b) atomic a)) (sym (same-entry context))
                (stand.placed atomic (λ none. none-of atomic now.env.cells (same ∙ sym (reached-cells f context es now reached)) none));
            within = omega (arith, all, this);
            served = servable.asks c context es now a reached asks;
          };
      ends = λ context es now cells over.
          let carries : cells ≡ carried over.was =
          over.carried ∙ ap carried (end-same (settled over.was) now over.ends) ∙ ap cells_of (settled-cells over.was) in
          ap (λ (o : Option Cells). is_some o) carries ∙ carried-some over.was.env.cells ∙ reached-cells f over.context es over.was over.reached
          ∙ ap (λ (x : Context). has_cells c x es) (sym (some-inj context over.context over.is_open));
    }

pub fit-bodies : (g : Config) (n : ℕ) (bodies : List Run) → IsWellFormed g → IsServable g → AreBodies g n bodies → AreFit ghosts g bodies
fit-bodies g n bodies formed servable are c run at =
    subst (λ (f : Made). IsFitWork ghosts f g c) (sym (are.each c run at)) (fit-body g c formed servable)

-- lists of bodies

pub none-bodies : (g : Config) → AreBodies g 0 []
none-bodies g = record { count = refl; each = λ c run at. absurd cc }

pushed-body : (g : Config) (n : ℕ) (bodies : List Run) (run : Run) (c : ℕ) (r : Run) → ((d : ℕ) (s : Run) → slice_get bodies d ≡ Some s → s.made ≡ record { graph = g; core = n + d })
    → run.made ≡ record { graph = g; core = n + length bodies } → slice_get (bodies ++ run ∷ []) c ≡ Some r → r.made ≡ record { graph = g; core = n + c }
pushed-body g n [] run zero r each made at = ap (λ (s : Run). s.made) (some-inj r run (sym at)) ∙ made
pushed-body g n [] run (suc c) r each made at = absurd cc
pushed-body g n (b ∷ bodies) run zero r each made at = each 0 r at
pushed-body g n (b ∷ bodies) run (suc c) r each made at =
    let first : n + suc (length bodies) ≡ suc n + length bodies = omega arith in
    let last : suc n + c ≡ n + suc c = omega arith in
    pushed-body g (suc n) bodies run c r
    (λ d s is. let more : n + suc d ≡ suc n + d = omega arith in each (suc d) s is ∙ ap (λ m. record { graph = g; core = m }) more)
    (made ∙ ap (λ m. record { graph = g; core = m }) first) at
    ∙ ap (λ m. record { graph = g; core = m }) last

pub more-bodies : (g : Config) (n : ℕ) (bodies : List Run) (run : Run) → AreBodies g n bodies → run.made ≡ record { graph = g; core = n } → AreBodies g (n + 1) (bodies ++ run ∷ [])
more-bodies g n bodies run are made =
    record {
      count = length-last bodies ∙ ap (λ m. m + 1) are.count;
      each = λ c r at.
          let first : n ≡ 0 + length bodies = let count = are.count in omega (arith, count) in
          let last : 0 + c ≡ c = omega arith in
          pushed-body g 0 bodies run c r (λ d s is. let same : d ≡ 0 + d = omega arith in are.each d s is ∙ ap (λ m. record { graph = g; core = m }) same)
          (made ∙ ap (λ m. record { graph = g; core = m }) first) at
          ∙ ap (λ m. record { graph = g; core = m }) last;
    }
  where
    length-last : (xs : List Run) → length (xs ++ run ∷ []) ≡ length xs + 1
    length-last [] = refl
    length-last (x ∷ xs) = let rest = length-last xs in omega (arith, rest)

-- whole runs

get-within : {X : Type 0} (xs : List X) (i : ℕ) → i < length xs → (x : X) × (slice_get xs i ≡ Some x)
get-within [] i lt = absurd (omega (arith, lt))
get-within (x ∷ xs) zero lt = (x, refl)
get-within (x ∷ xs) (suc i) lt = get-within xs i (omega (arith, lt))

entry-follows : (g : Config) (past : Past) (c : ℕ) (w : What) → EndIsWorked ghosts (record { graph = g; core = c }) g past c w → EndFollows g past c w
entry-follows g past c (What.End lost cells) w = ended-follows g past c w.context w.exchanges w.entries w.now cells w.reading w.ends
entry-follows g past c w worked = tt

each-follows : (g : Config) (l : Limits) (past : Past) → AllAllowed (declarations_of g) l past
    → ((c : ℕ) → c < g.cores → EachWorked ghosts (record { graph = g; core = c }) g c past) → EndedFollow g past
each-follows g l [] all worked = tt
each-follows g l (e ∷ past) all worked = (
  entry-follows g past e.core.0 e.what ((worked e.core.0 all.0.core).0 refl),
  each-follows g l past all.1 (λ c lt. (worked c lt).1),
)

is-run : (g : Config) (l : Limits) (bodies : List Run) (desk : DeskState) (end : EndKind) → AreBodies g g.cores bodies → IsWorkedRun ghosts g l bodies desk end → IsRun g l desk end
is-run g l bodies desk end are run =
    record {
      graph = run.graph;
      limits = run.limits;
      legal = whole-run g l desk.past end run.lawful (each-follows g l desk.past run.lawful.each worked) run.ended;
      laws = run.laws;
      ended = run.ended;
    }
  where
    worked : (c : ℕ) → c < g.cores → EachWorked ghosts (record { graph = g; core = c }) g c desk.past
    worked c lt =
        let body = get-within bodies c (let count = are.count in omega (arith, lt, count)) in
        subst (λ (f : Made). EachWorked ghosts f g c desk.past) (are.each c body.0 body.1) (run.worked c body.0 body.1)

pub ran-bodies : (g : Config) (l : Limits) (bodies : List Run) → AreBodies g g.cores bodies → (r : Result (DeskState × EndKind) NoMemory)
    → IfOk r (λ run. IsWorkedRun ghosts g l bodies run.0 run.1) → IfOk r (λ run. IsRun g l run.0 run.1)
ran-bodies g l bodies are (Ok run) h = is-run g l bodies run.0 run.1 are h
ran-bodies g l bodies are (Err e) h = tt
