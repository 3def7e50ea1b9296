use Rattle.std.proofs.Common.{◌≡◌, ◌<◌, ℕ, take, get_or, Contains}
use Rattle.em_tool.proofs.words.order_of.Given as goal

abbrev pub invariant-loop-i : goal.invariant-loop-i
invariant-loop-i l = record {
  order : l.order ≡ take l.i l.numbers;
  cores : (k : ℕ) → k < l.i → get_or l.numbers k 0 < 64;
  different : (k : ℕ) → k < l.i → Contains (take k l.numbers) (get_or l.numbers k 0) → ⊥;
}
