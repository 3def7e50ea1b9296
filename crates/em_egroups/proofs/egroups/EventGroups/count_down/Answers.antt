use Rattle.std.proofs.Common.{◌∙◌, sym}
use Rattle.em_egroups.proofs.Leaving.{stale-stands}
use Rattle.em_egroups.proofs.egroups.EventGroups.count_down.Goals as goal

pub returns-else-is_current-clause-stands : goal.returns-else-is_current-clause-stands
returns-else-is_current-clause-stands c = λ s stands. stale-stands stands c.args.stamp (sym c.is_current.ensures.value ∙ c.if-is_current.false)
