use Rattle.std.proofs.Common.{◌+◌, refl, ap, ◌∙◌, map}
use Rattle.em_log.specs.Declarations.{queue_shape, lone_count}
use Rattle.parts_bench.proofs.Lone.{lone-count-push}
use Rattle.parts_bench.proofs.graphs.with_atomic_queues.Goals as goal

pub loop-preserved : goal.loop-preserved
loop-preserved c =
    ap (λ qs. lone_count (map queue_shape qs)) c.in_ok-push.ensures.ok
    ∙ (lone-count-push c.loop.queues _ refl ∙ ap (λ n. n + 1) c.loop.invariant)
