-- What is true of the fields of the ordered queues.
use Rattle.std.specs.Prelude.{ℕ, ◌+◌, ◌<◌, ◌≤◌, List, [], length, slice_index_or, Some, ◌≡◌}
use Rattle.std.specs.List.{sum_by}
use Rattle.em_log.specs.Order.{Ticket}
use Rattle.em_order.specs.declared.item_list.Item.{Item}
use Rattle.em_order.specs.declared.tickets.CoreOrder.{CoreOrder}
use Rattle.em_order.specs.declared.tickets.QueueOrder.{QueueOrder}
use Rattle.em_order.specs.State.{ticket_in}

abbrev pub held_total : List CoreOrder → ℕ
held_total cores = sum_by (λ c. length c.held) cores

abbrev pub rest_total : List QueueOrder → ℕ
rest_total queues = sum_by (λ q. length q.rest) queues

abbrev pub node_total : List (List Item) → ℕ
node_total nodes = sum_by length nodes

pub record IsWhole (cores : List CoreOrder) (queues : List QueueOrder) (nodes : List (List Item)) (due : List Item) : Type 0 where
  -- each open ticket is of a queue that is there
  pub named : (c : ℕ) (t : Ticket) → ticket_in cores c ≡ Some t → t.queue < length queues
  -- an event that is not held back has one node, and any other none
  pub single : (i : ℕ) → length (slice_index_or nodes i []) ≤ 1
  -- no more nodes are there than events
  pub enough : held_total cores + (rest_total queues + (length due + node_total nodes)) ≤ length nodes
  pub few : length nodes ≤ 4096
