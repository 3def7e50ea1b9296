-- The order in which cores take turns.
use Rattle.std.specs.Prelude.{ℕ, ◌≡◌, ◌<◌, nat_lt, not, true, List, ◌++◌}
use Rattle.std.specs.List.{filter}
use Rattle.em_log.specs.Declarations.{below}
use Rattle.em_log.specs.History.{has}
use Rattle.em_log.specs.Laws.{AreDifferent}

-- the numbers of the list that are below n, in their order, and then the missing ones upwards
abbrev pub order_used : List ℕ → ℕ → List ℕ
order_used list n = filter (λ c. nat_lt c n) list ++ filter (λ c. not (has list c)) (below n)

-- each number below n once, and no other
pub record IsOrderOf (n : ℕ) (order : List ℕ) : Type 0 where
  pub below : (c : ℕ) → has order c ≡ true → c < n
  pub each : (c : ℕ) → c < n → has order c ≡ true
  pub once : AreDifferent order
