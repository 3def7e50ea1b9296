use Rattle.std.proofs.Common.{◌≡◌, ◌+◌, ◌++◌, ◌∷◌, [], true, false, Result, Ok, Err, refl, sym, subst}
use Rattle.std.specs.Result.{is_ok, is_err}
use Rattle.em_drive.specs.Bodies.{AreBodies}
use Rattle.em_drive.proofs.BodyWorks.{more-bodies, none-bodies}
use Rattle.em_drive.proofs.bodies.bodies.Goals as goal

ok-of : {A B : Type 0} (r : Result A B) → is_err r ≡ false → is_ok r ≡ true
ok-of (Ok x) h = refl
ok-of (Err e) h = absurd cc

pub loop-core-init : goal.loop-core-init
loop-core-init c = subst (AreBodies c.args.config.now 0) (sym c.new-bodies.ensures.items) (none-bodies c.args.config.now)

pub loop-core-preserved : goal.loop-core-preserved
loop-core-preserved c =
    let run = c.new.result in
    let ok = ok-of c.push.result (sym c.if-is_err.ensures.value) in
    let items : c.push.new.self.items ≡ c.loop-core.bodies.items ++ run ∷ [] = rw ok at c.push.ensures.items in
    subst (AreBodies c.args.config.now (c.loop-core.core + 1)) (sym items)
    (more-bodies c.args.config.now c.loop-core.core c.loop-core.bodies.items run c.loop-core.invariant c.new.ensures.made)
