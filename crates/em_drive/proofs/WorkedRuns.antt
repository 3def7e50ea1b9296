-- Runs with a work for each core: their workers at first, and the desk at the end.
use Rattle.std.proofs.Common.{◌≡◌, ℕ, zero, suc, ◌+◌, ◌<◌, ◌≤◌, ◌==◌, Bool, true, false, List, [], ◌∷◌, ◌++◌, length, Option, Some, None, Result, IfOk, refl, sym, ap, ◌∙◌, subst, arith, slice_get, append_assoc, if◌then◌else◌}
use Rattle.std.proofs.lemmas.Option.{slice_get_within}
use Rattle.em_log.specs.declared.declarations.Declarations.{Declarations}
use Rattle.em_log.specs.declared.graph.Config.{Config}
use Rattle.em_log.specs.declared.ids.EndKind.{EndKind}
use Rattle.em_log.specs.declared.ids.Limits.{Limits}
use Rattle.em_log.specs.declared.ids.NoMemory.{NoMemory}
use Rattle.em_log.specs.declared.work.Work.{Ghosts}
use Rattle.em_log.specs.Answers.{end_of}
use Rattle.em_log.specs.Declarations.{declarations_of}
use Rattle.em_log.specs.History.{Past, onto}
use Rattle.em_log.specs.Items.{Fixed}
use Rattle.em_log.specs.Lawful.{AllAllowed, Lawful}
use Rattle.em_log.specs.WellFormed.{IsWellFormed}
use Rattle.em_core.specs.declared.core_run.CoreRun.{CoreRun}
use Rattle.em_core.specs.Stands.{Stands}
use Rattle.em_core.specs.Steps.{unreplied, over}
use Rattle.em_laws.specs.AllLaws.{KeepsLaws}
use Rattle.em_laws.proofs.Cores.{Compared, Same, Other, compared, some-inj, none-some}
use Rattle.em_desk.specs.State.{DeskState}
use Rattle.em_turn.specs.Seats.{TableId}
use Rattle.em_board.specs.Calls.{Closes, ClosesEach}
use Rattle.em_board.specs.Marked as board
use Rattle.em_board.specs.Passes.{PassView, AreAll, AreOf, count_of, first_pass, passes_from}
use Rattle.em_board.specs.SharedDesks.{fixed_of}
use Rattle.em_board.proofs.Builds.{first-all, passes-last, passes-length}
use Rattle.em_drive.specs.declared.workers.Ends.{Ends}
use Rattle.em_drive.specs.declared.workers.Plan.{Plan}
use Rattle.em_drive.specs.declared.workers.Worker.{Worker}
use Rattle.em_drive.specs.Driven.{EachWorked, IsDriven, IsFitWork}
use Rattle.em_drive.specs.Parallel.{AreAtWork, AreFit, AreOver, AreReady, CanRun, HaveRun, IsAtWork, IsOver, IsPlanned, IsWorkedRun, first_passes, weigh, weigh_workers}
use Rattle.em_drive.proofs.LastEntries.{ended-whole}
use Rattle.em_drive.proofs.WorkerLists.{at_work-join, length-join, weigh-last, weigh-one, weigh-workers-last}

-- at first

-- a run that has done nothing goes on over a pass that has seen nothing
pub first-driven : {W : Type 0} (k : Ghosts W) (f : k.Fixed) (g : Config) (l : Limits) (table : TableId) (c : ℕ) (run : CoreRun W) → IsWellFormed g → l.burst ≡ 1
    → IsFitWork k f g c → Stands k run c f [] → unreplied k run ≡ None → over run ≡ None
    → IsDriven k None f g l (first_pass table (fixed_of (declarations_of g) l) c) run
first-driven k f g l table c run formed burst fit stands none not_over =
    record {
      graph = record { well_formed = formed; burst = burst; fixed = refl; lawful = record { each = tt; whole = refl } };
      fit = fit;
      working = record { pieces = []; stands = stands; own = refl; current = refl; worked = tt };
      unreplied = none;
      over = not_over;
    }

get-last : {X : Type 0} (xs ys : List X) (x : X) → slice_get ((xs ++ x ∷ []) ++ ys) (length xs) ≡ Some x
get-last [] ys x = refl
get-last (z ∷ xs) ys x = get-last xs ys x

pub last-same : {X : Type 0} (xs ys : List X) (x y : X) → xs ++ x ∷ [] ≡ ys ++ y ∷ [] → (xs ≡ ys) × (x ≡ y)
last-same [] [] x y e = (refl, cc)
last-same [] (v ∷ []) x y e = absurd cc
last-same [] (v ∷ w ∷ ys) x y e = absurd cc
last-same (u ∷ []) [] x y e = absurd cc
last-same (u ∷ w ∷ xs) [] x y e = absurd cc
last-same (u ∷ xs) (v ∷ ys) x y e =
    let first : u ≡ v = cc in
    let rest = last-same xs ys x y cc in
    ((λ i. first i ∷ rest.0 i), rest.1)

module _ {W : Type 0} (k : Ghosts W) (plan : Plan W) where
  pub is-planned : (g : Config) (works : List W) → plan.config.value ≡ g → plan.works.value.items ≡ works → IsWellFormed g → plan.limits.burst ≡ 1
      → length works ≡ g.cores → AreFit k g works → IsPlanned k plan
  is-planned g works graph same formed burst count fit =
      record {
        well_formed = subst IsWellFormed (sym graph) formed;
        burst = burst;
        count = ap length same ∙ count ∙ ap (λ (h : Config). h.cores) (sym graph);
        fit = subst (λ (h : Config). AreFit k h plan.works.value.items) (sym graph) (subst (AreFit k g) (sym same) fit);
      }

  pub ran-as-planned : (g : Config) (l : Limits) (works : List W) → plan.config.value ≡ g → plan.limits ≡ l → plan.works.value.items ≡ works
      → (r : Result (DeskState × EndKind) NoMemory)
      → IfOk r (λ run. IsWorkedRun k plan.config.value plan.limits plan.works.value.items run.0 run.1) → IfOk r (λ run. IsWorkedRun k g l works run.0 run.1)
  ran-as-planned g l works graph limits same r run =
      subst (λ (xs : List W). IfOk r (λ run. IsWorkedRun k g l xs run.0 run.1)) same
      (subst (λ (m : Limits). IfOk r (λ run. IsWorkedRun k g m plan.works.value.items run.0 run.1)) limits
      (subst (λ (h : Config). IfOk r (λ run. IsWorkedRun k h plan.limits plan.works.value.items run.0 run.1)) graph run))

module _ {W : Type 0} (k : Ghosts W) (plan : Plan W) (table : TableId) where
  -- all workers are to run, and no core has ended yet
  pub ready-can : (all ws : List (Worker W)) (ends : Ends) → AreReady k plan table all → all ≡ ws → ends.passes ≡ [] → CanRun k plan table ws ends
  ready-can all ws ends ready same none =
      let count = ready.count in
      let a = ap length same in
      let b = ap length none in
      record {
        at_work = subst (AreAtWork k plan table) same ready.at_work;
        over = λ is. subst (AreOver k plan table) (sym none) tt;
        room = omega (arith, count, a, b);
      }

  pub ready-cores : (all ws : List (Worker W)) (ends now : Ends) → AreReady k plan table all → all ≡ ws → ends.passes ≡ [] → HaveRun k plan table ws ends now
      → (h : ℕ → ℕ) → weigh h now.passes ≡ weigh h (first_passes table plan.config.value plan.limits)
  ready-cores all ws ends now ready same none run h =
      let a = run.cores h in
      let b = ap (weigh_workers h) same in
      let c = ap (weigh h) none in
      let d = ready.cores h in
      omega (arith, a, b, c, d)

  -- some works and passes are left, and the workers of the others were made
  pub record AreLeft (works : List W) (passes : List PassView) (ws : List (Worker W)) : Type 0 where
    pub done : List W
    pub all : works ++ done ≡ plan.works.value.items
    pub given : passes ≡ passes_from table (fixed_of (declarations_of plan.config.value) plan.limits) 0 (length works)
    pub at_work : AreAtWork k plan table ws
    pub count : length ws + length works ≡ plan.config.value.cores
    pub cores : (h : ℕ → ℕ) → weigh_workers h ws + weigh h passes ≡ weigh h (first_passes table plan.config.value plan.limits)

  pub all-left : (works : List W) (passes : List PassView) → IsPlanned k plan → works ≡ plan.works.value.items
      → passes ≡ first_passes table plan.config.value plan.limits → AreLeft works passes []
  all-left works passes planned is these =
      let count = ap length is ∙ planned.count in
      record {
        done = [];
        all = append-none works ∙ is;
        given = these ∙ ap (passes_from table (fixed_of (declarations_of plan.config.value) plan.limits) 0) (sym count);
        at_work = tt;
        count = omega (arith, count);
        cores = λ h. let same = ap (weigh h) these in omega (arith, same);
      }
    where
      append-none : (xs : List W) → xs ++ [] ≡ xs
      append-none [] = refl
      append-none (x ∷ xs) = ap (λ ys. x ∷ ys) (append-none xs)

  module _ (works : List W) (work : W) (passes : List PassView) (ws : List (Worker W)) (left : AreLeft (works ++ work ∷ []) passes ws) where
    abbrev fixed : Fixed
    fixed = fixed_of (declarations_of plan.config.value) plan.limits

    pub left-count : length ws + (length works + 1) ≡ plan.config.value.cores
    left-count = let count = left.count in let join = length-join works (work ∷ []) in omega (arith, count, join)

    pub left-passes : passes ≡ passes_from table fixed 0 (length works) ++ first_pass table fixed (length works) ∷ []
    left-passes =
        let join = length-join works (work ∷ []) in
        let more : length (works ++ work ∷ []) ≡ suc (length works) = omega (arith, join) in
        let first : 0 + length works ≡ length works = omega arith in
        left.given ∙ ap (passes_from table fixed 0) more ∙ passes-last table fixed 0 (length works)
        ∙ ap (λ c. passes_from table fixed 0 (length works) ++ first_pass table fixed c ∷ []) first

    pub left-last : passes ≡ [] → ⊥
    left-last none = by_list (passes_from table fixed 0 (length works)) (sym none ∙ left-passes)
      where
        by_list : (ps : List PassView) → [] ≡ ps ++ first_pass table fixed (length works) ∷ [] → ⊥
        by_list [] e = cc e
        by_list (p ∷ ps) e = cc e

    pub left-next : (rest : List PassView) (w : Worker W) → IsPlanned k plan → passes ≡ rest ++ w.pass ∷ [] → w.core.0 ≡ length works
        → Stands k w.run w.core.0 (k.fixed work) [] → unreplied k w.run ≡ None → over w.run ≡ None → AreLeft works rest (ws ++ w ∷ [])
    left-next rest w planned cut core stands none not_over =
        let same = last-same rest (passes_from table fixed 0 (length works)) w.pass (first_pass table fixed (length works)) (sym cut ∙ left-passes) in
        let at : slice_get plan.works.value.items (length works) ≡ Some work =
        ap (λ (xs : List W). slice_get xs (length works)) (sym left.all) ∙ get-last works left.done work in
        let fit = planned.fit (length works) work at in
        let driven : IsDriven k None (k.fixed work) plan.config.value plan.limits (first_pass table fixed (length works)) w.run =
        first-driven k (k.fixed work) plan.config.value plan.limits table (length works) w.run planned.well_formed planned.burst fit
        (subst (λ (c : ℕ). Stands k w.run c (k.fixed work) []) core stands) none not_over in
        let worker : IsAtWork k plan table w =
        record {
          here = ap (λ (p : PassView). p.board) same.1;
          core = ap (λ (p : PassView). p.core) same.1 ∙ sym core;
          work = work;
          planned = ap (slice_get plan.works.value.items) core ∙ at;
          driven = subst (λ (p : PassView). IsDriven k None (k.fixed work) plan.config.value plan.limits p w.run) (sym same.1) driven;
        } in
        record {
          done = work ∷ left.done;
          all = sym (append_assoc works (work ∷ []) left.done) ∙ left.all;
          given = same.0;
          at_work = at_work-join k plan table ws (w ∷ []) left.at_work (worker, tt);
          count = let count = left-count in let join = length-join ws (w ∷ []) in omega (arith, count, join);
          cores = λ h.
              let all = left.cores h in
              let last = weigh-workers-last h ws w in
              let more = ap (weigh h) cut ∙ weigh-last h rest w.pass in
              let same_core = ap h (ap (λ (p : PassView). p.core) same.1 ∙ sym core) in
              omega (arith, all, last, more, same_core);
        }

  pub none-left : (passes : List PassView) (ws : List (Worker W)) → AreLeft [] passes ws → AreReady k plan table ws × (passes ≡ [])
  none-left passes ws left = (
    record {
      at_work = left.at_work;
      count = let count = left.count in omega (arith, count);
      cores = λ h. let all = left.cores h in let none = ap (weigh h) left.given in omega (arith, all, none);
    },
    left.given,
  )

  -- at the end

  weigh-count : (c : ℕ) (ps : List PassView) → weigh (λ n. if n == c then 1 else 0) ps ≡ count_of c ps
  weigh-count c [] = refl
  weigh-count c (p ∷ ps) = ap (λ n. (if p.core == c then 1 else 0) + n) (weigh-count c ps)

  over-of : (ps : List PassView) → AreOver k plan table ps → AreOf table (fixed_of (declarations_of plan.config.value) plan.limits) ps
  over-of [] all = tt
  over-of (p ∷ ps) all = (all.0.here, all.0.fixed, over-of ps all.1)

  -- the passes of all cores are back
  module _ (ps : List PassView) (planned : IsPlanned k plan) (cores : (h : ℕ → ℕ) → weigh h ps ≡ weigh h (first_passes table plan.config.value plan.limits)) where
    some-cores : 0 < plan.config.value.cores
    some-cores = let one = planned.well_formed.few.cores.0 in omega (arith, one)

    back-count : length ps ≡ plan.config.value.cores
    back-count =
        let n = plan.config.value.cores in
        let fixed = fixed_of (declarations_of plan.config.value) plan.limits in
        sym (weigh-one ps) ∙ cores (λ n. 1) ∙ weigh-one (passes_from table fixed 0 n) ∙ passes-length table fixed 0 n

    back-one : (c : ℕ) → c < plan.config.value.cores → count_of c ps ≡ 1
    back-one c lt =
        let n = plan.config.value.cores in
        let fixed = fixed_of (declarations_of plan.config.value) plan.limits in
        let first = first-all table fixed some-cores in
        let same = sym first.count ∙ passes-length table fixed 0 n in
        sym (weigh-count c ps) ∙ cores (λ n. if n == c then 1 else 0) ∙ weigh-count c (passes_from table fixed 0 n) ∙ first.each c (omega (arith, lt, same))

    pub all-back : AreOver k plan table ps → AreAll table ps
    all-back all =
        record {
          fixed = fixed_of (declarations_of plan.config.value) plan.limits;
          of = over-of ps all;
          some = some-cores;
          count = back-count;
          each = back-one;
        }

  module _ (desk : DeskState) (lawful : Lawful desk.declarations desk.limits desk.past) where
    -- the desk's history is what a pass has seen whose core is over
    record IsLast (p : PassView) : Type 0 where
      graph : desk.declarations ≡ declarations_of plan.config.value
      limits : desk.limits ≡ plan.limits
      past : desk.past ≡ board.history p.seen

    last-seen : (p : PassView) → IsOver k plan table p → Closes desk p → IsLast p
    last-seen p o closes =
        let g = plan.config.value in
        let k' = declarations_of g in
        let graph : desk.declarations ≡ k' = closes.declarations ∙ ap (λ (f : Fixed). f.declarations) o.fixed in
        let limits : desk.limits ≡ plan.limits = closes.limits ∙ ap (λ (f : Fixed). f.limits) o.fixed in
        let all : AllAllowed k' plan.limits (onto closes.rest (board.history p.seen)) =
        subst (AllAllowed k' plan.limits) closes.seen
        (subst (λ (m : Limits). AllAllowed k' m desk.past) limits (subst (λ (d : Declarations). AllAllowed d desk.limits desk.past) graph lawful.each)) in
        record {
          graph = graph;
          limits = limits;
          past = closes.seen ∙ ended-whole k' plan.limits closes.rest (board.history p.seen) o.end o.done.graph.lawful all o.done.ended;
        }

    -- the work of core c, whose pass is among these
    worked-by : (c : ℕ) (work : W) (ps : List PassView) → slice_get plan.works.value.items c ≡ Some work → count_of c ps ≡ 1 → AreOver k plan table ps → ClosesEach desk ps
        → EachWorked k (k.fixed work) plan.config.value c desk.past
    worked-by c work [] at one all each = absurd cc
    worked-by c work (p ∷ ps) at one all each = by_core (compared p.core c) (λ rest. worked-by c work ps at rest all.1 each.1)
      where
        by_core : Compared p.core c → (count_of c ps ≡ 1 → EachWorked k (k.fixed work) plan.config.value c desk.past)
            → EachWorked k (k.fixed work) plan.config.value c desk.past
        by_core (Other f apart) later =
            let less : (if false then 1 else 0) + count_of c ps ≡ 1 = ap (λ (b : Bool). (if b then 1 else 0) + count_of c ps) (sym f) ∙ one in
            later (omega (arith, less))
        by_core (Same t e) later =
            let o = all.0 in
            let last = last-seen p o each.0 in
            let same : o.work ≡ work = some-inj o.work work (sym o.planned ∙ ap (slice_get plan.works.value.items) e ∙ at) in
            subst (λ (w : W). EachWorked k (k.fixed w) plan.config.value c desk.past) same
            (subst (λ (d : ℕ). EachWorked k (k.fixed o.work) plan.config.value d desk.past) e
            (subst (EachWorked k (k.fixed o.work) plan.config.value p.core) (sym last.past) o.done.worked))

    module _ (ps : List PassView) (planned : IsPlanned k plan) (cores : (h : ℕ → ℕ) → weigh h ps ≡ weigh h (first_passes table plan.config.value plan.limits))
        (all : AreOver k plan table ps) (each : ClosesEach desk ps) where
      -- some pass is back
      some-back : (p : PassView) × (IsOver k plan table p × Closes desk p)
      some-back = by_list ps (back-count ps planned cores) all each
        where
          by_list : (qs : List PassView) → length qs ≡ plan.config.value.cores → AreOver k plan table qs → ClosesEach desk qs
              → (p : PassView) × (IsOver k plan table p × Closes desk p)
          by_list [] count all each = let some = some-cores ps planned cores in absurd (omega (arith, count, some))
          by_list (p ∷ qs) count all each = (p, (all.0, each.0))

      of-graph : IsLast some-back.0
      of-graph = last-seen some-back.0 some-back.1.0 some-back.1.1

      pub closed-ended : end_of desk.declarations desk.limits desk.past ≡ None → ⊥
      closed-ended none =
          let o = some-back.1.0 in
          let last = of-graph in
          none-some o.end (sym none ∙ (λ i. end_of (last.graph i) (last.limits i) (last.past i)) ∙ o.done.ended)

      pub closed-run : (end : EndKind) → KeepsLaws desk.declarations desk.past → end_of desk.declarations desk.limits desk.past ≡ Some end
          → IsWorkedRun k plan.config.value plan.limits plan.works.value.items desk end
      closed-run end laws ended =
          let graph = of-graph.graph in
          let limits = of-graph.limits in
          record {
            graph = graph;
            limits = limits;
            lawful = subst (λ (m : Limits). Lawful (declarations_of plan.config.value) m desk.past) limits
                (subst (λ (d : Declarations). Lawful d desk.limits desk.past) graph lawful);
            laws = subst (λ (d : Declarations). KeepsLaws d desk.past) graph laws;
            worked = λ c work at.
                let lt = slice_get_within plan.works.value.items c work at in
                let count = planned.count in
                worked-by c work ps at (back-one ps planned cores c (omega (arith, lt, count))) all each;
            ended = sym (λ i. end_of (graph i) (limits i) desk.past) ∙ ended;
          }
