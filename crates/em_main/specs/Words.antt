-- The words of a run with a thread for each core.
use Rattle.std.specs.Prelude.{◌≡◌, ◌≤◌, ℕ, List, [], ◌∷◌, codes}
use Rattle.std.specs.Fmt.{decimal}
use Rattle.em_log.specs.declared.ids.Limits.{Limits}
use Rattle.em_tool.specs.Decimal.{spelled}
use Rattle.em_tool.specs.declared.commands.Solo.{Solo}

-- `run`, the greatest number of receives, and the burst, which is 1
pub record IsRun (texts : List (List ℕ)) (l : Limits) : Type 0 where
  pub words : texts ≡ codes "run" ∷ decimal l.receives ∷ decimal l.burst ∷ []
  pub at_least : 1 ≤ l.receives
  pub at_most : l.receives ≤ 10000
  pub burst : l.burst ≡ 1

-- what is promised of a run with threads is what is promised of the run in turns under its limits, in whatever order its cores
-- take turns: here that of core 0 and then the others
abbrev pub in_turns : Limits → Solo
in_turns l = record { limits = l; order = 0 ∷ [] }

-- the words of that
abbrev pub words_in_turns : Limits → List (List ℕ)
words_in_turns l = codes "solo" ∷ decimal l.receives ∷ decimal l.burst ∷ spelled 44 (in_turns l).order ∷ []
