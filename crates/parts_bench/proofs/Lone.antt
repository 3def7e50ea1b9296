-- Atomic queues of their own are counted one by one.
use Rattle.std.proofs.Common.{◌≡◌, suc, ◌+◌, Bool, true, false, List, [], ◌∷◌, ◌++◌, map, if◌then◌else◌, arith, ap}
use Rattle.em_log.specs.declared.graph.QueueDecl.{QueueDecl}
use Rattle.em_log.specs.Declarations.{queue_shape, is_lone, lone_count}

pub lone-count-push : (qs : List QueueDecl) (q : QueueDecl) → is_lone (queue_shape q) ≡ true → lone_count (map queue_shape (qs ++ q ∷ [])) ≡ lone_count (map queue_shape qs) + 1
lone-count-push [] q e = ap (λ (b : Bool). if b then 1 else 0) e
lone-count-push (x ∷ xs) q e = by_test (is_lone (queue_shape x)) (lone-count-push xs q e)
  where
    by_test : (b : Bool) → lone_count (map queue_shape (xs ++ q ∷ [])) ≡ lone_count (map queue_shape xs) + 1
        → (if b then suc (lone_count (map queue_shape (xs ++ q ∷ []))) else lone_count (map queue_shape (xs ++ q ∷ []))) ≡ (if b then suc (lone_count (map queue_shape xs)) else lone_count (map queue_shape xs)) + 1
    by_test true rest = omega arith
    by_test false rest = rest
