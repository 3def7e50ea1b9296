use Rattle.std.proofs.Common.{◌≡◌, ◌+◌, ◌++◌, ◌∷◌, [], true, false, Result, Ok, Err, refl, sym, subst}
use Rattle.std.specs.Result.{is_ok, is_err}
use Rattle.em_drive.specs.Runs.{AreNew}
use Rattle.em_drive.proofs.Rounds.{more-new, none-new, new-run}
use Rattle.em_drive.proofs.run.new_runs.Goals as goal

ok-of : {A B : Type 0} (r : Result A B) → is_err r ≡ false → is_ok r ≡ true
ok-of (Ok x) h = refl
ok-of (Err e) h = absurd cc

pub loop-core-init : goal.loop-core-init
loop-core-init c = subst (AreNew c.args.config.now 0) (sym c.new-runs.ensures.items) (none-new c.args.config.now)

pub loop-core-preserved : goal.loop-core-preserved
loop-core-preserved c =
    let run = c.new-in-loop-core.result in
    let ok = ok-of c.push.result (sym c.if-is_err.ensures.value) in
    let items : c.push.new.self.items ≡ c.loop-core.runs.items ++ run ∷ [] = rw ok at c.push.ensures.items in
    subst (AreNew c.args.config.now (c.loop-core.core + 1)) (sym items)
    (more-new c.args.config.now c.loop-core.core c.loop-core.runs.items run c.loop-core.invariant
    (new-run c.args.config.now c.loop-core.core run _ c.new.ensures.made c.new-in-loop-core.ensures.stands c.new-in-loop-core.ensures.unreplied c.new-in-loop-core.ensures.over))
