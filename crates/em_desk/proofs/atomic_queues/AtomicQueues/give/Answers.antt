use Rattle.std.proofs.Common.{◌≡◌, ℕ, get_or, subst, sym, arith}
use Rattle.em_desk.proofs.HeldAtomics.{given}
use Rattle.em_desk.proofs.atomic_queues.AtomicQueues.give.Goals as goal

pub index-requires : goal.index-requires
index-requires c =
    let st = c.requires.stands in
    let below = st.holdings c.args.core.0 c.in-Some.atomic.0 (sym (c.in-Some.ensures.answer c.requires.steps st.contexts)) in
    let count = st.count in
    let from = c.from.ensures in
    omega (arith, below, count, from)

pub returns-in-Some : goal.returns-in-Some
returns-in-Some c = λ k s st.
    let v = c.args.self.now in
    let set = c.index.result.now in
    given k v c.give-given.new.self c.without-self.result set c.give-given.result s c.in-Some.atomic.0 c.args.core.0 c.args.cells.0 st c.in-Some.ensures.answer
    c.give-given.ensures.answer c.give-given.ensures.stands c.give-given.ensures.same_shape
    (subst (λ (i : ℕ). set ≡ get_or v.members.items i set) c.from.ensures c.index.ensures) c.without-self.ensures
