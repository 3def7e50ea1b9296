-- The steps of the ordered queues: what a run does to their tickets and to what is sent under them, the newest step first.
use Rattle.std.specs.Prelude.{ℕ}
use Rattle.em_order.specs.declared.item_list.Item.{Item}

pub data OrderStep : Type 0 where
  -- a core drew the next ticket of a queue
  Drawn : (queue : ℕ) (core : ℕ) → OrderStep
  -- a core sent an item, under its open ticket if it had one
  Sent : (core : ℕ) (item : Item) → OrderStep
  -- a core's open ticket ended
  Finished : (core : ℕ) → OrderStep
  -- the first item that was due was released
  Released : OrderStep
