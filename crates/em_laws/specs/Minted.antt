-- All handles that a history has minted.
use Rattle.std.specs.Prelude.{ℕ, ◌≤◌, List, [], ◌∷◌, Option, Some, None}
use Rattle.em_log.specs.declared.declarations.Declarations.{Declarations}
use Rattle.em_log.specs.declared.entry.Event.{Event}
use Rattle.em_log.specs.Declarations.{event_total}
use Rattle.em_log.specs.History.{Past, minted_in}

abbrev pub with_handle : Option Event → List ℕ → List ℕ
with_handle None hs = hs
with_handle (Some e) hs = e.handle.0 ∷ hs

-- the handles that were minted, the newest first
abbrev pub minted : Past → List ℕ
minted [] = []
minted (e ∷ past) = with_handle (minted_in e.what) (minted past)

-- the indices of all events are below 65,536, so that a handle shows its index
abbrev pub HasSmallIndices : Declarations → Type 0
HasSmallIndices k = event_total k.pools ≤ 65536
