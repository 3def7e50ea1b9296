-- The words of a command.
use Rattle.std.specs.Prelude.{◌≡◌, ◌<◌, ◌≤◌, ℕ, List, [], ◌∷◌, length, codes, Contains, slice_index, take}
use Rattle.std.specs.Fmt.{decimal}
use Rattle.em_tool.specs.Decimal.{spelled}
use Rattle.em_tool.specs.declared.commands.Command.{Command}
use Rattle.em_tool.specs.declared.commands.Command.TheVariants as commands
use Rattle.em_tool.specs.declared.commands.Solo.{Solo}

-- 1 to 64 different numbers below 64
pub record IsOrder (order : List ℕ) : Type 0 where
  pub some : 0 < length order
  pub most : length order ≤ 64
  pub cores : (i : ℕ) → i < length order → slice_index order i < 64
  pub different : (i : ℕ) → i < length order → ¬ (Contains (take i order) (slice_index order i))

-- `solo`, the greatest number of receives, the burst, which is 1, and the order, joined by commas
pub record IsSolo (texts : List (List ℕ)) (solo : Solo) : Type 0 where
  pub words : texts ≡ codes "solo" ∷ decimal solo.limits.receives ∷ decimal solo.limits.burst ∷ spelled 44 solo.order ∷ []
  pub at_least : 1 ≤ solo.limits.receives
  pub at_most : solo.limits.receives ≤ 10000
  pub burst : solo.limits.burst ≡ 1
  pub order : IsOrder solo.order

-- `check` alone
abbrev pub IsCheck : List (List ℕ) → Type 0
IsCheck texts = texts ≡ codes "check" ∷ []

-- the texts are the words of this command
abbrev pub IsCommand : List (List ℕ) → Command → Type 0
IsCommand texts (commands.Solo solo) = IsSolo texts solo
IsCommand texts commands.Check = IsCheck texts

-- some words are this command
abbrev pub IsSomeCommand : Command → Type 0
IsSomeCommand asked = (texts : List (List ℕ)) × IsCommand texts asked
