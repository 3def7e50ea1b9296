use Rattle.std.proofs.Common.{◌≡◌, ◌≤◌, [], map, length, replicate}
use Rattle.std.specs.List.{AllByRecursion}
use Rattle.std.specs.VecDeque.{deque_capacity}
use Rattle.em_desk.proofs.lines.Lines.build.Given as goal

abbrev pub invariant-loop : goal.invariant-loop
invariant-loop l =
    record {
      many : length l.lists.items ≡ l.counter;
      empty : map (λ d. d.items) l.lists.items ≡ replicate l.counter [];
      room : AllByRecursion (λ d. l.room ≤ deque_capacity d) l.lists.items;
    }
