use Rattle.std.proofs.Common.{[], ◌∷◌, map, refl, ap}
use Rattle.std.specs.List.{range_with_len}
use Rattle.em_log.specs.declared.graph.Decl.{Decl}
use Rattle.em_generated.proofs.Numbers.{one-more}
use Rattle.em_generated.proofs.graph.order_of.Goals as goal

pub loop-i-preserved : goal.loop-i-preserved
loop-i-preserved c = one-more (λ i. Decl.Eo i) (Decl.Pool 0 ∷ []) c.loop-i.order c.push-in-loop-i.new.self (Decl.Eo c.loop-i.i) c.loop-i.i c.in_ok-push-2.ensures.ok c.loop-i.invariant refl

pub loop-i-2-preserved : goal.loop-i-2-preserved
loop-i-2-preserved c =
    one-more (λ i. Decl.Queue i) (Decl.Pool 0 ∷ map (λ i. Decl.Eo i) (range_with_len 0 c.args.n)) c.loop-i-2.order c.push-in-loop-i-2.new.self
    (Decl.Queue c.from.result) c.loop-i-2.i c.in_ok-push-3.ensures.ok c.loop-i-2.invariant (ap (λ i. Decl.Queue i) c.from.ensures)
