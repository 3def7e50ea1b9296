use Rattle.std.proofs.Common.{◌∷◌}
use Rattle.em_objects.specs.Steps.{Moved}
use Rattle.em_operations.proofs.MovedTargets.{with-objects}
use Rattle.em_operations.proofs.operations.Operations.move_to.Goals as goal

pub returns : goal.returns
returns c = λ k o g a b st.
    with-objects k c.args.self.now o g a b c.set.new.self c.move_to.new.self (Moved c.args.eo.0 c.args.to ∷ o) st (c.set.ensures.stands k o st.objects) c.set.ensures.same_shape
    (c.move_to.ensures k o g st.queues)
