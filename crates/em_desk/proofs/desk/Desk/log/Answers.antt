use Rattle.std.proofs.Common.{◌≤◌, length, subst}
use Rattle.em_laws.specs.AllLaws.{KeepsLaws}
use Rattle.em_laws.proofs.AllLaws.{keeps-laws}
use Rattle.em_desk.specs.State.{DeskState}
use Rattle.em_bounds.specs.Bound.{history_limit}
use Rattle.em_bounds.proofs.Bound.{history-bounded}
use Rattle.em_desk.proofs.desk.Desk.log.Goals as goal

pub returns-clause-few : goal.returns-clause-few
returns-clause-few c =
    let p = c.self.inside.parts in
    let s = c.self.invariant in
    subst (λ (t : DeskState). length t.past ≤ history_limit t.declarations t.limits) c.self.view_is
    (history-bounded p.declarations p.limits p.history.past s.fixed.limits.some_burst (record { each = s.all; whole = s.due }) s.afforded)

pub returns-clause-laws : goal.returns-clause-laws
returns-clause-laws c =
    let p = c.self.inside.parts in
    subst (λ (t : DeskState). KeepsLaws t.declarations t.past) c.self.view_is
    (keeps-laws p.declarations p.limits p.history.past c.self.invariant.all)
