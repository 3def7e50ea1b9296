use Rattle.std.proofs.Common.{subst}
use Rattle.em_drive.specs.declared.driver.Turned.{Turned}
use Rattle.em_drive.specs.Driven.{IsAfterTurn}
use Rattle.em_drive.proofs.Working.{passes-on}
use Rattle.em_drive.proofs.driver.drive.Goals as goal

pub turn-requires-clause-driven : goal.turn-requires-clause-driven
turn-requires-clause-driven g c =
    let d = c.requires.driven in (d.0, d.1, d.2, c.loop.invariant.driven d.0 d.1 d.2 d.3)

pub loop-preserved-in-On : goal.loop-preserved-in-On
loop-preserved-in-On g c =
    record {
      driven = λ f h l d.
          subst (λ (t : Turned). IsAfterTurn g.W.Work f h l c.turn.new.pass c.turn.new.run t) c.in-On.is
          (c.turn.ensures.after f h l (c.loop.invariant.driven f h l d));
      pass = passes-on c.args.pass.now c.loop.pass c.turn.new.pass c.loop.invariant.pass c.turn.ensures.pass;
    }

pub loop-preserved : goal.loop-preserved
loop-preserved g c =
    record {
      driven = λ f h l d.
          subst (λ (t : Turned). IsAfterTurn g.W.Work f h l c.turn.new.pass c.turn.new.run t) c.in-Idle.is
          (c.turn.ensures.after f h l (c.loop.invariant.driven f h l d));
      pass = passes-on c.args.pass.now c.loop.pass c.turn.new.pass c.loop.invariant.pass c.turn.ensures.pass;
    }

pub returns-in-Ended-clause-ended : goal.returns-in-Ended-clause-ended
returns-in-Ended-clause-ended g c f h l d =
    subst (λ (t : Turned). IsAfterTurn g.W.Work f h l c.turn.new.pass c.turn.new.run t) c.in-Ended.is
    (c.turn.ensures.after f h l (c.loop.invariant.driven f h l d))
