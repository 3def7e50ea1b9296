use Rattle.std.proofs.Common.{◌∷◌, refl}
use Rattle.em_groups.specs.Steps.{Finished}
use Rattle.em_operations.proofs.MovedTargets.{with-groups}
use Rattle.em_operations.proofs.operations.Operations.settle.Goals as goal

pub returns : goal.returns
returns c = λ k o g a b st.
    let now = Finished c.args.group.0 ∷ g in
    let finished = c.finish.ensures.stands k g st.groups in
    with-groups k c.args.self.now o g a b c.finish.new.self c.mask.new.self now st finished c.finish.ensures.same_shape
    (c.mask.ensures k o g (Finished c.args.group.0) st.queues refl (c.effective-effective.ensures.answer k now finished))
