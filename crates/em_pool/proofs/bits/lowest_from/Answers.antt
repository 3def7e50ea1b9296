use Rattle.std.proofs.Common.{arith}
use Rattle.std.proofs.lemmas.Nat.Bits.{bit_at_above}
use Rattle.em_pool.proofs.BitLemmas.{none_left, lowest}
use Rattle.em_pool.proofs.bits.lowest_from.Goals as goal

pub returns-then-from-ge64-clause-found : goal.returns-then-from-ge64-clause-found
returns-then-from-ge64-clause-found c = λ i le. bit_at_above c.args.bits 64 i c.ranges.bits.fits (let h = c.if-from-ge64.true in omega arith)

pub returns-then-rest-eq0-clause-found : goal.returns-then-rest-eq0-clause-found
returns-then-rest-eq0-clause-found c = λ i le. none_left c.args.bits c.args.from i c.ranges.bits.fits (omega arith) c.if-rest-eq0.true le

pub returns-clause-found : goal.returns-clause-found
returns-clause-found c = let l = lowest c.args.bits c.args.from c.ranges.bits.fits (omega arith) (omega arith) in (l.from, l.below, l.is_set)

pub returns-clause-least : goal.returns-clause-least
returns-clause-least c = let l = lowest c.args.bits c.args.from c.ranges.bits.fits (omega arith) (omega arith) in l.none_before
