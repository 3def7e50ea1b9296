use Rattle.std.proofs.Common.{◌≡◌, List, length}
use Rattle.em_log.specs.declared.entry.What.{What}
use Rattle.em_desk.specs.declared.acts.Act.{Act}
use Rattle.em_desk.specs.Standing.{IsReleasing}
use Rattle.em_desk.proofs.Released.{Follows}
use Rattle.em_desk.proofs.parts.Parts.release.Given as goal

abbrev pub invariant-loop-item : goal.invariant-loop-item
invariant-loop-item l = record {
  follows : (acts : List Act) (rest : List What) → IsReleasing l.initial.self l.core.0 acts rest → Follows l.initial.self l.self l.core.0 acts rest;
  declarations : l.self.declarations ≡ l.initial.self.declarations;
  limits : l.self.limits ≡ l.initial.self.limits;
}

abbrev pub decreases-loop-item : goal.decreases-loop-item
decreases-loop-item l = length l.self.orders.due
