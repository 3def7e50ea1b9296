-- Workers that run: lists of them, and what cores weigh on the way.
use Rattle.std.proofs.Common.{◌≡◌, ℕ, ◌+◌, ◌<◌, ◌≤◌, ◌&&◌, Bool, true, false, List, [], ◌∷◌, ◌++◌, length, refl, sym, ap, ◌∙◌, subst, arith, slice_index_or}
use Rattle.std.specs.List.{remove}
use Rattle.em_log.specs.declared.work.Work.{Ghosts}
use Rattle.em_turn.specs.Seats.{TableId}
use Rattle.em_board.specs.Passes.{PassView}
use Rattle.em_drive.specs.declared.driver.CoreEnd.{CoreEnd}
use Rattle.em_drive.specs.declared.workers.Came.{Came}
use Rattle.em_drive.specs.declared.workers.Ends.{Ends}
use Rattle.em_drive.specs.declared.workers.Plan.{Plan}
use Rattle.em_drive.specs.declared.workers.Worker.{Worker}
use Rattle.em_drive.specs.Parallel.{AreAtWork, AreOver, CanRun, HaveRun, IsAtWork, IsCame, IsEnded, IsOver, IsSetAside, IsSettled, is_over, weigh, weigh_workers}

-- lists

pub length-join : {X : Type 0} (xs ys : List X) → length (xs ++ ys) ≡ length xs + length ys
length-join [] ys = omega arith
length-join (x ∷ xs) ys = let rest = length-join xs ys in omega (arith, rest)

pub weigh-last : (h : ℕ → ℕ) (ps : List PassView) (p : PassView) → weigh h (ps ++ p ∷ []) ≡ weigh h ps + h p.core
weigh-last h [] p = omega arith
weigh-last h (q ∷ ps) p = let rest = weigh-last h ps p in omega (arith, rest)

pub weigh-workers-join : {W : Type 0} (h : ℕ → ℕ) (xs ys : List (Worker W)) → weigh_workers h (xs ++ ys) ≡ weigh_workers h xs + weigh_workers h ys
weigh-workers-join h [] ys = omega arith
weigh-workers-join h (x ∷ xs) ys = let rest = weigh-workers-join h xs ys in omega (arith, rest)

pub weigh-workers-last : {W : Type 0} (h : ℕ → ℕ) (ws : List (Worker W)) (w : Worker W) → weigh_workers h (ws ++ w ∷ []) ≡ weigh_workers h ws + h w.core.0
weigh-workers-last h ws w = let join = weigh-workers-join h ws (w ∷ []) in omega (arith, join)

pub weigh-one : (ps : List PassView) → weigh (λ n. 1) ps ≡ length ps
weigh-one [] = refl
weigh-one (p ∷ ps) = let rest = weigh-one ps in omega (arith, rest)

pub workers-one : {W : Type 0} (ws : List (Worker W)) → weigh_workers (λ n. 1) ws ≡ length ws
workers-one [] = refl
workers-one (w ∷ ws) = let rest = workers-one ws in omega (arith, rest)

pub first-cut : {X : Type 0} (xs ys : List X) (x : X) → 0 < length xs → x ≡ slice_index_or xs 0 x → ys ≡ remove xs 0 → xs ≡ x ∷ ys
first-cut [] ys x some first rest = absurd (omega (arith, some))
first-cut (z ∷ xs) ys x some first rest = λ i. sym first i ∷ sym rest i

module _ {W : Type 0} (k : Ghosts W) (plan : Plan W) (board : TableId) where
  pub at_work-join : (xs ys : List (Worker W)) → AreAtWork k plan board xs → AreAtWork k plan board ys → AreAtWork k plan board (xs ++ ys)
  at_work-join [] ys a b = b
  at_work-join (x ∷ xs) ys a b = (a.0, at_work-join xs ys a.1 b)

  pub at_work-cut : (xs ys : List (Worker W)) → AreAtWork k plan board (xs ++ ys) → AreAtWork k plan board xs × AreAtWork k plan board ys
  at_work-cut [] ys a = (tt, a)
  at_work-cut (x ∷ xs) ys a = let rest = at_work-cut xs ys a.1 in ((a.0, rest.0), rest.1)

  over-last : (ps : List PassView) (p : PassView) → AreOver k plan board ps → IsOver k plan board p → AreOver k plan board (ps ++ p ∷ [])
  over-last [] p a b = (b, tt)
  over-last (q ∷ ps) p a b = (a.0, over-last ps p a.1 b)

  over-pass : (p : PassView) (end : CoreEnd) → IsEnded k plan board p end → is_over end ≡ true → IsOver k plan board p
  over-pass p (CoreEnd.Over end) e is = record { here = e.here; fixed = e.fixed; work = e.work; planned = e.planned; end = end; done = e.ended }
  over-pass p CoreEnd.Halted e is = absurd cc
  over-pass p CoreEnd.NoMemory e is = absurd cc

  -- one more core has ended
  pub more-over : (over : Bool) (ps : List PassView) (p : PassView) (end : CoreEnd) → IsEnded k plan board p end → (over ≡ true → AreOver k plan board ps)
      → (over && is_over end) ≡ true → AreOver k plan board (ps ++ p ∷ [])
  more-over true ps p end e all is = over-last ps p (all refl) (over-pass p end e is)
  more-over false ps p end e all is = absurd cc

  -- the last of several workers

  pub last-at_work : (ws : List (Worker W)) (w : Worker W) (ends : Ends) → CanRun k plan board (ws ++ w ∷ []) ends → IsAtWork k plan board w
  last-at_work ws w ends can = (at_work-cut ws (w ∷ []) can.at_work).1.0

  pub last-room : (ws : List (Worker W)) (w : Worker W) (ends : Ends) → CanRun k plan board (ws ++ w ∷ []) ends → length ends.passes < plan.config.value.cores
  last-room ws w ends can = let room = can.room in let join = length-join ws (w ∷ []) in omega (arith, room, join)

  -- it has ended
  module _ (ws : List (Worker W)) (w : Worker W) (ends now : Ends) (p : PassView) (passes : now.passes ≡ ends.passes ++ p ∷ []) where
    pub last-can : (over : (ends.over ≡ true → AreOver k plan board ends.passes) → now.over ≡ true → AreOver k plan board now.passes)
        → CanRun k plan board (ws ++ w ∷ []) ends → CanRun k plan board ws now
    last-can over can =
        let room = can.room in
        let join = length-join ws (w ∷ []) in
        let more = ap length passes ∙ length-join ends.passes (p ∷ []) in
        record { at_work = (at_work-cut ws (w ∷ []) can.at_work).0; over = over can.over; room = omega (arith, room, join, more) }

    pub last-run : (later : Ends) → p.core ≡ w.core.0 → HaveRun k plan board ws now later → HaveRun k plan board (ws ++ w ∷ []) ends later
    last-run later core run =
        record {
          over = run.over;
          cores = λ h.
              let all = run.cores h in
              let last = weigh-workers-last h ws w in
              let more = ap (weigh h) passes ∙ weigh-last h ends.passes p in
              let same = ap h core in
              omega (arith, all, last, more, same);
        }

  pub none-run : (ends : Ends) → (ends.over ≡ true → AreOver k plan board ends.passes) → HaveRun k plan board [] ends ends
  none-run ends over = record { over = over; cores = λ h. omega arith }

  -- the first of several workers

  pub first-room : (w : Worker W) (ws : List (Worker W)) (ends : Ends) → CanRun k plan board (w ∷ ws) ends → length ends.passes < plan.config.value.cores
  first-room w ws ends can = let room = can.room in omega (arith, room)

  -- it has ended
  module _ (w : Worker W) (ws : List (Worker W)) (ends now : Ends) (p : PassView) (passes : now.passes ≡ ends.passes ++ p ∷ []) where
    pub first-can : (over : (ends.over ≡ true → AreOver k plan board ends.passes) → now.over ≡ true → AreOver k plan board now.passes)
        → CanRun k plan board (w ∷ ws) ends → CanRun k plan board ws now
    first-can over can =
        let room = can.room in
        let more = ap length passes ∙ length-join ends.passes (p ∷ []) in
        record { at_work = can.at_work.1; over = over can.over; room = omega (arith, room, more) }

    pub first-run : (later : Ends) → p.core ≡ w.core.0 → HaveRun k plan board ws now later → HaveRun k plan board (w ∷ ws) ends later
    first-run later core run =
        record {
          over = run.over;
          cores = λ h.
              let all = run.cores h in
              let more = ap (weigh h) passes ∙ weigh-last h ends.passes p in
              let same = ap h core in
              omega (arith, all, more, same);
        }

  -- it goes on, behind the others
  module _ (w v : Worker W) (ws : List (Worker W)) (ends : Ends) where
    pub turned-can : IsAtWork k plan board v → CanRun k plan board (w ∷ ws) ends → CanRun k plan board (ws ++ v ∷ []) ends
    turned-can at can =
        let room = can.room in
        let join = length-join ws (v ∷ []) in
        record { at_work = at_work-join ws (v ∷ []) can.at_work.1 (at, tt); over = can.over; room = omega (arith, room, join) }

    pub turned-run : (later : Ends) → v.core ≡ w.core → HaveRun k plan board (ws ++ v ∷ []) ends later → HaveRun k plan board (w ∷ ws) ends later
    turned-run later core run =
        record {
          over = run.over;
          cores = λ h.
              let all = run.cores h in
              let last = weigh-workers-last h ws v in
              let same = ap (λ c. h c.0) core in
              omega (arith, all, last, same);
        }

  -- what a thread has handed on

  pub ended-core : (c : ℕ) (p : PassView) (end : CoreEnd) (came : Came W) → came ≡ Came.Ended p end → IsCame k plan board c came → (p.core ≡ c) × IsEnded k plan board p end
  ended-core c p end came is h = subst (IsCame k plan board c) is h

  pub untouched-core : (c : ℕ) (w : Worker W) (came : Came W) → came ≡ Came.Untouched w → IsCame k plan board c came → (w.core.0 ≡ c) × IsAtWork k plan board w
  untouched-core c w came is h = subst (IsCame k plan board c) is h

  pub settled : (c : ℕ) (p : PassView) (ends now : Ends) → p.core ≡ c → now.passes ≡ ends.passes ++ p ∷ []
      → ((ends.over ≡ true → AreOver k plan board ends.passes) → now.over ≡ true → AreOver k plan board now.passes) → IsSettled k plan board c ends now
  settled c p ends now core passes over =
      record {
        over = over;
        cores = λ h.
            let more = ap (weigh h) passes ∙ weigh-last h ends.passes p in
            let same = ap h core in
            omega (arith, more, same);
      }

  pub aside-ended : (c : ℕ) (p : PassView) (here : List (Worker W)) (ends now : Ends) → p.core ≡ c → now.passes ≡ ends.passes ++ p ∷ []
      → ((ends.over ≡ true → AreOver k plan board ends.passes) → now.over ≡ true → AreOver k plan board now.passes)
      → length here + length ends.passes < plan.config.value.cores → CanRun k plan board here ends → IsSetAside k plan board c here here ends now
  aside-ended c p here ends now core passes over room can =
      let more = ap length passes ∙ length-join ends.passes (p ∷ []) in
      let taken = settled c p ends now core passes over in
      record {
        can = record { at_work = can.at_work; over = over can.over; room = omega (arith, room, more) };
        cores = λ h. let all = taken.cores h in omega (arith, all);
      }

  pub aside-untouched : (c : ℕ) (w : Worker W) (here now : List (Worker W)) (ends : Ends) → w.core.0 ≡ c → IsAtWork k plan board w → now ≡ here ++ w ∷ []
      → length here + length ends.passes < plan.config.value.cores → CanRun k plan board here ends → IsSetAside k plan board c here now ends ends
  aside-untouched c w here now ends core at is room can =
      let more = ap length is ∙ length-join here (w ∷ []) in
      record {
        can = record {
          at_work = subst (AreAtWork k plan board) (sym is) (at_work-join here (w ∷ []) can.at_work (at, tt));
          over = can.over;
          room = omega (arith, room, more);
        };
        cores = λ h.
            let last = ap (weigh_workers h) is ∙ weigh-workers-last h here w in
            let same = ap h core in
            omega (arith, last, same);
      }

  -- one worker of several in a thread

  module _ (ws here : List (Worker W)) (w : Worker W) (ends : Ends) (can : CanRun k plan board ((ws ++ w ∷ []) ++ here) ends) where
    parts : AreAtWork k plan board (ws ++ w ∷ []) × AreAtWork k plan board here
    parts = at_work-cut (ws ++ w ∷ []) here can.at_work

    pub thread-at_work : IsAtWork k plan board w
    thread-at_work = (at_work-cut ws (w ∷ []) parts.0).1.0

    pub others-can : CanRun k plan board (ws ++ here) ends
    others-can =
        let room = can.room in
        let a = length-join (ws ++ w ∷ []) here in
        let b = length-join ws (w ∷ []) in
        let c = length-join ws here in
        record {
          at_work = at_work-join ws here (at_work-cut ws (w ∷ []) parts.0).0 parts.1;
          over = can.over;
          room = omega (arith, room, a, b, c);
        }

    pub here-can : CanRun k plan board here ends
    here-can =
        let room = can.room in
        let a = length-join (ws ++ w ∷ []) here in
        record { at_work = parts.1; over = can.over; room = omega (arith, room, a) }

    pub here-room : length here + length ends.passes < plan.config.value.cores
    here-room =
        let room = can.room in
        let a = length-join (ws ++ w ∷ []) here in
        let b = length-join ws (w ∷ []) in
        omega (arith, room, a, b)

    pub settled-room : (later : Ends) → HaveRun k plan board (ws ++ here) ends later → length later.passes < plan.config.value.cores
    settled-room later run =
        let room = can.room in
        let all = run.cores (λ n. 1) in
        let a = length-join (ws ++ w ∷ []) here in
        let b = length-join ws (w ∷ []) in
        let c = length-join ws here in
        let d = workers-one (ws ++ here) in
        let e = weigh-one later.passes in
        let f = weigh-one ends.passes in
        omega (arith, room, all, a, b, c, d, e, f)

    pub settled-run : (later now : Ends) → HaveRun k plan board (ws ++ here) ends later → IsSettled k plan board w.core.0 later now
        → HaveRun k plan board ((ws ++ w ∷ []) ++ here) ends now
    settled-run later now run taken =
        record {
          over = taken.over run.over;
          cores = λ h.
              let all = run.cores h in
              let more = taken.cores h in
              let a = weigh-workers-join h ws here in
              let b = weigh-workers-join h (ws ++ w ∷ []) here in
              let c = weigh-workers-last h ws w in
              omega (arith, all, more, a, b, c);
        }

    pub aside-can : (now : List (Worker W)) (left : Ends) → IsSetAside k plan board w.core.0 here now ends left → CanRun k plan board (ws ++ now) left
    aside-can now left aside =
        let room = can.room in
        let a = length-join (ws ++ w ∷ []) here in
        let b = length-join ws (w ∷ []) in
        let c = length-join ws now in
        let one = counts (aside.cores (λ n. 1)) in
        record {
          at_work = at_work-join ws now (at_work-cut ws (w ∷ []) parts.0).0 aside.can.at_work;
          over = aside.can.over;
          room = omega (arith, room, a, b, c, one);
        }
      where
        counts : weigh_workers (λ n. 1) now + weigh (λ n. 1) left.passes ≡ weigh_workers (λ n. 1) here + weigh (λ n. 1) ends.passes + 1
            → length now + length left.passes ≡ length here + length ends.passes + 1
        counts e =
            let a = workers-one now in
            let b = weigh-one left.passes in
            let c = workers-one here in
            let d = weigh-one ends.passes in
            omega (arith, e, a, b, c, d)

    pub aside-run : (now : List (Worker W)) (left later : Ends) → IsSetAside k plan board w.core.0 here now ends left → HaveRun k plan board (ws ++ now) left later
        → HaveRun k plan board ((ws ++ w ∷ []) ++ here) ends later
    aside-run now left later aside run =
        record {
          over = run.over;
          cores = λ h.
              let all = run.cores h in
              let more = aside.cores h in
              let a = weigh-workers-join h ws now in
              let b = weigh-workers-join h (ws ++ w ∷ []) here in
              let c = weigh-workers-last h ws w in
              omega (arith, all, more, a, b, c);
        }
