use Rattle.std.proofs.Common.{arith, ap, sym, ◌∙◌, slice_index}
use Rattle.em_pool.proofs.IndexLemmas.{zero_from_bits}
use Rattle.em_pool.proofs.indices.lowest_in.Goals as goal

pub returns-in-None : goal.returns-in-None
returns-in-None c = λ k le.
    let zero = ap (slice_index c.args.words.now) (sym c.from.ensures) ∙ zero_from_bits _ c.in-None.ensures.found in
    let some = c.requires.nonempty in absurd (omega arith)
