-- Which cores may take from a queue by its group, on the steps of queue groups, and which group a step is of.
use Rattle.std.specs.Prelude.{ℕ, Bool, true, List}
use Rattle.std.specs.Option.{option_map_or}
use Rattle.em_log.specs.declared.declarations.Declarations.{Declarations}
use Rattle.em_log.specs.Declarations.{group_of}
use Rattle.em_log.specs.Eligible.{has_core}
use Rattle.em_groups.specs.Masks.{effective}
use Rattle.em_groups.specs.Steps.{GroupStep, Began, Finished}

-- core c is in the mask in force of the queue's group, where it has one
abbrev pub in_group : Declarations → List GroupStep → ℕ → ℕ → Bool
in_group k steps c q = option_map_or (λ g. has_core (effective k steps g) c) (group_of k q) true

abbrev pub group_of_step : GroupStep → ℕ
group_of_step (Began g m) = g
group_of_step (Finished g) = g
