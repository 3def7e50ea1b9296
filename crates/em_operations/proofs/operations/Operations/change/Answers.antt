use Rattle.std.proofs.Common.{◌∷◌, refl}
use Rattle.em_log.specs.Leads.{mask_fault}
use Rattle.em_groups.specs.Stands as groups
use Rattle.em_groups.specs.Steps.{Began}
use Rattle.em_operations.proofs.MovedTargets.{with-groups, unrefused}
use Rattle.em_operations.proofs.operations.Operations.change.Goals as goal

pub returns : goal.returns
returns c = λ k o g a b st.
    let now = Began c.args.group.0 c.args.mask ∷ g in
    let begun : groups.Stands k c.begin-begun.new.self now =
    unrefused c.begin-begun.result (mask_fault c.requires.graph c.args.mask) (groups.Stands k c.begin-begun.new.self now) (groups.Stands k c.begin-begun.new.self g) c.requires.mask
    (c.begin-begun.ensures.answer c.requires.graph c.requires.group c.requires.stands.groups) (c.begin-begun.ensures.stands k g st.groups) in
    with-groups k c.args.self.now o g a b c.begin-begun.new.self c.mask.new.self now st begun c.begin-begun.ensures.same_shape
    (c.mask.ensures k o g (Began c.args.group.0 c.args.mask) st.queues refl (c.effective-shared.ensures.answer k now begun))
