use Rattle.std.proofs.Common.{w64, ⊎_elim, sym, ◌∙◌, ap, cond}
use Rattle.std.proofs.lemmas.Bool.{cases_lt}
use Rattle.std.proofs.lemmas.Nat.Bits.{bit_at_set_same, bit_at_set_other, bit_at_clear_same, bit_at_clear_other, bit_at_above}
use Rattle.em_pool.proofs.BitLemmas.{masked_fits}
use Rattle.em_pool.proofs.bits.with_bit.Goals as goal

pub returns-then-is_one-clause-same : goal.returns-then-is_one-clause-same
returns-then-is_one-clause-same c = bit_at_set_same w64 c.args.bits c.args.k c.requires ∙ ap (λ b. cond b 1 0) (sym c.if-is_one.true)

pub returns-then-is_one-clause-others : goal.returns-then-is_one-clause-others
returns-then-is_one-clause-others c = λ i ne. bit_at_set_other w64 c.args.bits c.args.k c.requires i ne

pub returns-else-is_one-clause-same : goal.returns-else-is_one-clause-same
returns-else-is_one-clause-same c = bit_at_clear_same w64 c.args.bits c.args.k c.requires ∙ ap (λ b. cond b 1 0) (sym c.if-is_one.false)

pub returns-else-is_one-clause-others : goal.returns-else-is_one-clause-others
returns-else-is_one-clause-others c = λ i ne.
    ⊎_elim (λ lt. bit_at_clear_other w64 c.args.bits c.args.k c.requires i lt ne)
    (λ ge. bit_at_above _ 64 i (masked_fits c.args.bits _ c.ranges.bits.fits) ge ∙ sym (bit_at_above c.args.bits 64 i c.ranges.bits.fits ge))
    (cases_lt i 64)
