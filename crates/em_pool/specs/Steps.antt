-- The steps of the pools: what a run does to its events, the newest step first.
use Rattle.std.specs.Prelude.{ℕ, suc, ◌==◌, List, [], ◌∷◌, ◌++◌, Option, Some, None, if◌then◌else◌}
use Rattle.em_log.specs.declared.entry.Event.{Event}
use Rattle.em_log.specs.History.{without}
use Rattle.em_pool.specs.declared.place.Place.{Place}
use Rattle.em_pool.specs.declared.place.Spend.{Spend}

pub data PoolStep : Type 0 where
  -- a core minted a handle, and holds its event
  Minted : (core : ℕ) (event : Event) → PoolStep
  -- a core spent a handle by the entry at this place of the history
  Spent : (core : ℕ) (handle : ℕ) (how : Spend) (place : ℕ) → PoolStep
  -- an event that no core holds went to a place
  Shifted : (index : ℕ) (to : Place) → PoolStep
  -- all that a core held was lost by the entry at this place of the history
  Lost : (core : ℕ) (place : ℕ) → PoolStep

-- the event that a step mints a handle for, if it does
abbrev pub minted_in : PoolStep → Option Event
minted_in (Minted c e) = Some e
minted_in _ = None

-- the core that mints it
abbrev pub minter : PoolStep → ℕ
minter (Minted c e) = c
minter _ = 0

abbrev pub mintings_after : PoolStep → ℕ → ℕ
mintings_after (Minted c e) n = suc n
mintings_after s n = n

-- how many handles were minted
abbrev pub mintings : List PoolStep → ℕ
mintings [] = 0
mintings (s ∷ steps) = mintings_after s (mintings steps)

abbrev pub held_after : ℕ → PoolStep → List ℕ → List ℕ
held_after c (Minted d e) held = if d == c then held ++ e.handle.0 ∷ [] else held
held_after c (Spent d h how p) held = without h held
held_after c (Shifted i to) held = held
held_after c (Lost d p) held = if d == c then [] else held

-- the handles that core c has minted and that are not spent
abbrev pub held : List PoolStep → ℕ → List ℕ
held [] c = []
held (s ∷ steps) c = held_after c s (held steps c)
