use Rattle.std.proofs.Common.{◌≡◌, [], map, refl, ap, sym, ◌∙◌, subst}
use Rattle.em_log.specs.Declarations.{declarations_of, eo_shape, agroup_shape, queue_shape}
use Rattle.em_log.specs.declared.declarations.PoolShape.{PoolShape}
use Rattle.em_desk_rows.specs.declared.tests.TheConstants.{POOL_EMPTY}
use Rattle.em_desk_rows.specs.Graphs.{graph_of}
use Rattle.em_desk_rows.specs.Moves.{fresh, Drives}
use Rattle.em_desk_rows.proofs.Deciding.{drives-by}
use Rattle.em_desk_rows.proofs.tests.pool_empty.Goals as goal

pub run-requires-clause-drives : goal.run-requires-clause-drives
run-requires-clause-drives c =
    let pool : PoolShape = record { events = 1; words = 0 } in
    let is : declarations_of c.in_ok-config.config ≡ graph_of 1 pool [] [] [] =
    c.in_ok-config.ensures
    ∙ (ap (λ eos. graph_of 1 pool (map eo_shape eos) (map agroup_shape c.new-2.result) (map queue_shape c.new-3.result)) c.new.ensures
    ∙ (ap (λ agroups. graph_of 1 pool [] (map agroup_shape agroups) (map queue_shape c.new-3.result)) c.new-2.ensures
    ∙ ap (λ queues. graph_of 1 pool [] [] (map queue_shape queues)) c.new-3.ensures))
    in
    subst (λ k. Drives (fresh k 10) POOL_EMPTY) (sym is)
    (drives-by (fresh (graph_of 1 pool [] [] []) 10) POOL_EMPTY refl)
