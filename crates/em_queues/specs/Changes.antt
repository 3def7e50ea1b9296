-- What each call does to the values of the queues.
use Rattle.std.specs.Prelude.{ℕ, true, false, nat_lt, [], ◌∷◌, ◌++◌, take, drop, slice_set, Option, Some, None, if◌then◌else◌}
use Rattle.em_queues.specs.State.{QueueState, core_at, taken_at}
use Rattle.em_queues.specs.Waiting.{items_in, with_items}

-- the event of index i is at the end of the list of queue q, and is in a list

abbrev pub arrived_local : QueueState → ℕ → ℕ → ℕ → QueueState
arrived_local v q c i =
    record v {
      cores = slice_set v.cores c (record (core_at v c) { local = with_items (core_at v c).local q (items_in (core_at v c).local q ++ i ∷ []) });
      listed = slice_set v.listed i true;
    }

abbrev pub arrived_shared : QueueState → ℕ → ℕ → QueueState
arrived_shared v q i =
    record v { shared = with_items v.shared q (items_in v.shared q ++ i ∷ []); listed = slice_set v.listed i true }

-- core c has taken the first n out of the list of queue q

abbrev pub took_local : QueueState → ℕ → ℕ → ℕ → QueueState
took_local v q c n =
    record v {
      cores = slice_set v.cores c (record {
        local = with_items (core_at v c).local q (drop n (items_in (core_at v c).local q));
        taken = take n (items_in (core_at v c).local q);
        source = Some (record { 0 = q });
      });
    }

abbrev pub took_shared : QueueState → ℕ → ℕ → ℕ → QueueState
took_shared v q c n =
    record v {
      shared = with_items v.shared q (drop n (items_in v.shared q));
      cores = slice_set v.cores c (record (core_at v c) { taken = take n (items_in v.shared q); source = Some (record { 0 = q }) });
    }

-- what core c has taken is at the front of the list of queue q

abbrev pub gave_local : QueueState → ℕ → ℕ → QueueState
gave_local v c q =
    record v {
      cores = slice_set v.cores c (record (core_at v c) {
        local = with_items (core_at v c).local q (taken_at v c ++ items_in (core_at v c).local q);
        taken = [];
      });
    }

abbrev pub gave_shared : QueueState → ℕ → ℕ → QueueState
gave_shared v c q =
    record v {
      shared = with_items v.shared q (taken_at v c ++ items_in v.shared q);
      cores = slice_set v.cores c (record (core_at v c) { taken = [] });
    }

-- the first event that core c has taken is out, and that of index i is in no list
abbrev pub started : QueueState → ℕ → ℕ → QueueState
started v c i =
    record v {
      cores = slice_set v.cores c (record (core_at v c) { taken = drop 1 (taken_at v c) });
      listed = slice_set v.listed i false;
    }

-- the first event of the list of queue q is out, and that of index i is in no list
abbrev pub dequeued : QueueState → ℕ → ℕ → QueueState
dequeued v q i =
    record v {
      shared = with_items v.shared q (drop 1 (items_in v.shared q));
      listed = slice_set v.listed i false;
    }

-- the lesser of two numbers that may be missing
abbrev pub lesser_number : Option ℕ → Option ℕ → Option ℕ
lesser_number (Some a) (Some b) = if nat_lt b a then Some b else Some a
lesser_number (Some a) None = Some a
lesser_number None b = b
