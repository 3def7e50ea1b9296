-- Minted and spent handles, and the rule by which a word may be used, on the steps of the pools.
use Rattle.std.specs.Prelude.{ℕ, ◌+◌, ◌==◌, Bool, true, false, List, [], ◌∷◌, Option, Some, None, if◌then◌else◌}
use Rattle.std.specs.Option.{option_or, option_map, option_and_then}
use Rattle.em_log.specs.declared.entry.Event.{Event}
use Rattle.em_log.specs.declared.fault.Fault.{Fault}
use Rattle.em_log.specs.History.{has, handle_of}
use Rattle.em_log.specs.Handles.{one_more, minting_by, last_handle_by, Minting, unspent_fault}
use Rattle.em_pool.specs.declared.place.Place.{Place}
use Rattle.em_pool.specs.declared.place.Spend.{Spend}
use Rattle.em_pool.specs.Steps.{PoolStep, Minted, Spent, Shifted, Lost, minted_in, minter, held}

-- minted

-- the generation of an index: the number of its mintings
abbrev pub generation : List PoolStep → ℕ → ℕ
generation [] i = 0
generation (s ∷ steps) i = one_more i (minted_in s) (generation steps i)

-- the handle that the next minting of this index gives
abbrev pub next_handle : List PoolStep → ℕ → ℕ
next_handle steps i = handle_of (generation steps i + 1) i

-- the minting of a handle, if it was minted
abbrev pub minting : List PoolStep → ℕ → Option Minting
minting [] h = None
minting (s ∷ steps) h = minting_by h (minter s) (minted_in s) (minting steps h)

-- the handle of the last minting of this index
abbrev pub last_handle : List PoolStep → ℕ → Option ℕ
last_handle [] i = None
last_handle (s ∷ steps) i = last_handle_by i (minted_in s) (last_handle steps i)

abbrev pub event_of : Minting → Event
event_of m = m.event

-- the event of this index, with the handle of its last minting
abbrev pub last_event : List PoolStep → ℕ → Option Event
last_event steps i = option_map event_of (option_and_then (minting steps) (last_handle steps i))

-- spent

-- how a handle was spent: by a free or at the end of its context, or else by a send, a keep or a hand-in; the place of
-- the entry that did it; and where the event went
pub record Spending : Type 0 where
  pub freed : Bool
  pub place : ℕ
  pub to : Place

abbrev pub is_freed : Spend → Bool
is_freed Spend.Freed = true
is_freed how = false

-- where the event of a spent handle goes
abbrev pub place_of_spend : Spend → Place
place_of_spend (Spend.Sent q) = Place.Waiting q
place_of_spend (Spend.Delayed q) = Place.Delayed q
place_of_spend Spend.Freed = Place.Free
place_of_spend (Spend.Kept x) = Place.Kept x
place_of_spend Spend.Noted = Place.Noted

abbrev pub spending_of : Spend → ℕ → Spending
spending_of how p = record { freed = is_freed how; place = p; to = place_of_spend how }

abbrev pub losing : ℕ → Spending
losing p = record { freed = true; place = p; to = Place.Lost }

-- how this step after the others spends the handle, if it does
abbrev pub spending_in : List PoolStep → PoolStep → ℕ → Option Spending
spending_in steps (Minted c e) h = None
spending_in steps (Spent c w how p) h = if w == h then Some (spending_of how p) else None
spending_in steps (Shifted i to) h = None
spending_in steps (Lost c p) h = if has (held steps c) h then Some (losing p) else None

-- how a handle was spent, if it was: the first step that did
abbrev pub spending : List PoolStep → ℕ → Option Spending
spending [] h = None
spending (s ∷ steps) h = option_or (spending steps h) (spending_in steps s h)

-- the rule

abbrev pub spent_fault : Bool → ℕ → Fault
spent_fault freed place = if freed then Fault.SpentByFree place else Fault.SpentBySend place

abbrev pub rule_of : ℕ → ℕ → Option Minting → Option Spending → Option Fault
rule_of c w None s = Some (Fault.NeverMinted w)
rule_of c w (Some m) (Some s) = Some (spent_fault s.freed s.place)
rule_of c w (Some m) None = unspent_fault c m

-- why core c may not use the word, if it may not: never minted, spent, or held by another core
abbrev pub rule : List PoolStep → ℕ → ℕ → Option Fault
rule steps c w = rule_of c w (minting steps w) (spending steps w)
