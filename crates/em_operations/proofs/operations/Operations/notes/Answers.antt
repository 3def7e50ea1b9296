use Rattle.std.proofs.Common.{◌∙◌, None, Some, ap, slice_get}
use Rattle.em_log.specs.Operations.{notes_of}
use Rattle.em_operations.proofs.OwedSteps.{begun-is, found, missed}
use Rattle.em_operations.proofs.operations.Operations.notes.Goals as goal

pub returns-in-Some : goal.returns-in-Some
returns-in-Some c = λ k l past all st.
    c.copy.ensures
    ∙ ap notes_of
    (begun-is k l past c.args.self.now c.args.op.0 (Some c.in-Some.begun.now) all st
    (found c.as_slice.result.now c.from.result c.in-Some.begun.now c.in-Some.ensures.lookup.0 c.in-Some.ensures.lookup.1
    ∙ (λ i. slice_get (c.as_slice.ensures.value i) (c.from.ensures i))))

pub returns-in-None : goal.returns-in-None
returns-in-None c = λ k l past all st.
    c.new.ensures
    ∙ ap notes_of
    (begun-is k l past c.args.self.now c.args.op.0 None all st
    (missed c.as_slice.result.now c.from.result c.in-None.ensures.lookup.0 ∙ (λ i. slice_get (c.as_slice.ensures.value i) (c.from.ensures i))))
