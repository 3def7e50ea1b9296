use Rattle.std.proofs.Common.{arith, refl, sym, subst}
use Rattle.em_io.specs.Source.{Takes}
use Rattle.em_io.proofs.Taking.{Takes-nil, Takes-end}
use Rattle.em_io.proofs.reading.read_all.Goals as goal

pub loop-count-init : goal.loop-count-init
loop-count-init g c = record {
  taken = subst (Takes _ _ _ _) (sym c.new-bytes.ensures.items) (Takes-nil _ _);
  within = omega (arith, c.new-bytes.ensures.len);
  sound = refl;
  room = omega arith;
}

pub returns-then-count-eq0-clause-end : goal.returns-then-count-eq0-clause-end
returns-then-count-eq0-clause-end g c = Takes-end _ c.in-Ok.ensures.moved c.if-count-eq0.true (c.in-Ok.ensures.end (omega (arith, c.read.auto.buf)))
