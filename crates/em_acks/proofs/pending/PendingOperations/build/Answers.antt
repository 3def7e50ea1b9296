use Rattle.std.proofs.Common.{◌≡◌, List, Option, None, get_or, ap, ◌∙◌}
use Rattle.em_log.specs.declared.ids.OpId.{OpId}
use Rattle.em_acks.specs.declared.job.Target.{Target}
use Rattle.em_acks.specs.Pending.{pending_at}
use Rattle.em_acks.proofs.Places.{replicate-at}
use Rattle.em_acks.proofs.pending.PendingOperations.build.Goals as goal

pub returns-clause-none : goal.returns-clause-none
returns-clause-none c = λ t. by_target t
  where
    by_target : (t : Target) → pending_at (record { eos = c.in_ok-places.field-0; groups = c.in_ok-places-2.field-0 }) t ≡ None
    by_target (Target.Eo x) = ap (λ (l : List (Option OpId)). get_or l x.0 None) c.in_ok-places.ensures ∙ replicate-at None 256 x.0
    by_target (Target.Group g) = ap (λ (l : List (Option OpId)). get_or l g.0 None) c.in_ok-places-2.ensures ∙ replicate-at None 256 g.0
