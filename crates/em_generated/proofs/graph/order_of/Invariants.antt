use Rattle.std.proofs.Common.{◌≡◌, ◌∷◌, ◌++◌, map}
use Rattle.std.specs.List.{range_with_len}
use Rattle.em_log.specs.declared.graph.Decl.{Decl}
use Rattle.em_generated.proofs.graph.order_of.Given as goal

abbrev pub invariant-loop-i : goal.invariant-loop-i
invariant-loop-i l = l.order ≡ Decl.Pool 0 ∷ map (λ i. Decl.Eo i) (range_with_len 0 l.i)

abbrev pub invariant-loop-i-2 : goal.invariant-loop-i-2
invariant-loop-i-2 l = l.order ≡ Decl.Pool 0 ∷ (map (λ i. Decl.Eo i) (range_with_len 0 l.n) ++ map (λ i. Decl.Queue i) (range_with_len 0 l.i))
