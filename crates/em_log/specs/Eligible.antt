-- Which queues a core may take from, which it takes from, and how many events.
use Rattle.std.specs.Prelude.{ℕ, ◌-◌, ◌^◌, ◌==◌, Bool, true, false, not, ◌&&◌, ◌||◌, nat_lt, nat_le, min, length, Option, Some, None, if◌then◌else◌, is_none, bit_and}
use Rattle.std.specs.List.{list_all, list_any}
use Rattle.std.specs.Option.{option_map_or}
use Rattle.em_log.specs.declared.declarations.Declarations.{Declarations}
use Rattle.em_log.specs.declared.ids.Limits.{Limits}
use Rattle.em_log.specs.History.{Past}
use Rattle.em_log.specs.Declarations.{below, kind_of, object_of, group_of, rank_of, atomic_of, is_served, is_atomic, is_ordered}
use Rattle.em_log.specs.Contexts.{context, boot_ended}
use Rattle.em_log.specs.Operations.{step, all_done}
use Rattle.em_log.specs.States.{state, flag, is_running, effective}
use Rattle.em_log.specs.Order.{takes}
use Rattle.em_log.specs.Places.{waiting, taken, started, promised}
use Rattle.em_log.specs.Atomic.{is_empty, holder}

-- whether the mask has core c
abbrev pub has_core : ℕ → ℕ → Bool
has_core m c = not (bit_and m (2 ^ c) == 0)

-- boot has ended, and core c has no open context and nothing taken
abbrev pub is_between : Declarations → Past → ℕ → Bool
is_between k past c = boot_ended past && is_none (context past c) && is_empty (taken k past c)

-- the queue's object runs
abbrev pub runs : Declarations → Past → ℕ → Bool
runs k past q = option_map_or (λ x. is_running (state k past x)) (object_of k q) false

-- core c is in the effective mask of the queue's group, where it has one
abbrev pub is_in_group : Declarations → Past → ℕ → ℕ → Bool
is_in_group k past c q = option_map_or (λ g. has_core (effective k past g) c) (group_of k q) true

-- no core holds the queue's atomic context, where it has one
abbrev pub is_unheld : Declarations → Past → ℕ → Bool
is_unheld k past q = option_map_or (λ a. is_none (holder k past a)) (atomic_of k q) true

-- core c could take from queue q, but for the limit on receives
abbrev pub ready : Declarations → Past → ℕ → ℕ → Bool
ready k past c q =
    is_between k past c && is_none (step k past c) && is_served (kind_of k q)
    && runs k past q && flag past q && not (is_empty (waiting k past q c))
    && is_in_group k past c q && is_unheld k past q

-- core c may take from queue q
abbrev pub eligible : Declarations → Limits → Past → ℕ → ℕ → Bool
eligible k l past c q = ready k past c q && nat_lt (promised k past) l.receives

-- no queue that is eligible for core c has a higher priority than q
abbrev pub is_best : Declarations → Limits → Past → ℕ → ℕ → Bool
is_best k l past c q =
    list_all (λ r. not (eligible k l past c r) || nat_le (rank_of k r) (rank_of k q)) (below (length k.queues))

-- core c may take from queue q, and takes: between equal priorities the choice is free
abbrev pub is_choice : Declarations → Limits → Past → ℕ → ℕ → Bool
is_choice k l past c q = eligible k l past c q && is_best k l past c q

-- how many events such a take takes
abbrev pub take_size : Declarations → Limits → Past → ℕ → ℕ → ℕ
take_size k l past c q =
    if is_atomic (kind_of k q)
    then min l.burst (min (length (waiting k past q c)) (l.receives - promised k past))
    else 1

-- the ticket that such a take draws: of an ordered queue the number of its earlier takes
abbrev pub ticket_drawn : Declarations → Past → ℕ → Option ℕ
ticket_drawn k past q = if is_ordered (kind_of k q) then Some (takes past q) else None

-- the end

-- boot has ended, no context is open, nothing is taken, and no operation is pending
abbrev pub is_idle : Declarations → Past → Bool
is_idle k past = boot_ended past && list_all (is_between k past) (below k.cores) && all_done past

-- some queue would be served but for the limit on receives
abbrev pub is_wanted : Declarations → Past → Bool
is_wanted k past = list_any (λ c. list_any (ready k past c) (below (length k.queues))) (below k.cores)

-- nothing is left to do
abbrev pub is_quiet : Declarations → Past → Bool
is_quiet k past = is_idle k past && not (is_wanted k past)

-- exactly the stated number of receives has started, and one more would be served but for that
abbrev pub is_at_limit : Declarations → Limits → Past → Bool
is_at_limit k l past = is_idle k past && (started past == l.receives) && is_wanted k past
