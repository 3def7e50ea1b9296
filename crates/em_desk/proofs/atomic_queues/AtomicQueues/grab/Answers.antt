use Rattle.std.proofs.Common.{◌≡◌, ℕ, get_or, subst}
use Rattle.em_desk.proofs.HeldAtomics.{grabbed}
use Rattle.em_desk.proofs.atomic_queues.AtomicQueues.grab.Goals as goal

pub returns-in-Some-clause-stands : goal.returns-in-Some-clause-stands
returns-in-Some-clause-stands c = λ k s st.
    let v = c.args.self.now in
    let set = c.index.result.now in
    grabbed k v c.grab.new.self c.union-self.result set s c.in-Some.atomic.0 c.args.core.0 c.args.queue.0 st c.in-Some.ensures c.grab.ensures.stands c.grab.ensures.same_shape
    (subst (λ (i : ℕ). set ≡ get_or v.members.items i set) c.from.ensures c.index.ensures) c.union-self.ensures
