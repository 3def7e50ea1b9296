use Rattle.std.proofs.Common.{◌≡◌, None, sym, subst}
use Rattle.em_body.specs.Kept.{standing_of}
use Rattle.em_body.specs.Runs.{IsSound}
use Rattle.em_body.specs.Standings.{Moves, unanswered}
use Rattle.em_body.proofs.SoundRuns.{settled-sound, next-room, next-small, does-sound}
use Rattle.em_body.proofs.Carried.{moves-of}
use Rattle.em_body.proofs.run.BodyRunWork.next.Goals as goal

pub carry_out-requires-clause-small : goal.carry_out-requires-clause-small
carry_out-requires-clause-small c =
    let g = c.self.inside.config.now in
    let sound = subst (IsSound g) (sym c.settle.ensures) (settled-sound g (standing_of c.self.inside.standing) c.self.invariant) in
    next-small g (standing_of c.settle.new.self) c.in-Some.statement.now sound c.in-Some.ensures.first

pub carry_out-requires-clause-room : goal.carry_out-requires-clause-room
carry_out-requires-clause-room c =
    let g = c.self.inside.config.now in
    let sound = subst (IsSound g) (sym c.settle.ensures) (settled-sound g (standing_of c.self.inside.standing) c.self.invariant) in
    next-room g (standing_of c.settle.new.self) c.in-Some.statement.now _ sound c.in-Some.ensures.first c.take.ensures.rest

pub invariant_of-self-2 : goal.invariant_of-self-2
invariant_of-self-2 c =
    let g = c.self.inside.config.now in
    let sound = subst (IsSound g) (sym c.settle.ensures) (settled-sound g (standing_of c.self.inside.standing) c.self.invariant) in
    does-sound g (standing_of c.settle.new.self) c.in-Some.statement.now _ _ _ sound c.in-Some.ensures.first c.take.ensures.rest c.carry_out.ensures

pub returns-clause-moves : goal.returns-clause-moves
returns-clause-moves c =
    let was = standing_of c.self.inside.standing in
    subst (λ r. Moves r.made r.standing c.carry_out.result (standing_of c.carry_out.new.self)) c.self.view_is
    (moves-of (record { graph = c.self.inside.config.now; core = c.self.inside.core.0 }) was (standing_of c.settle.new.self) _ c.in-Some.statement.now _ _ (subst (λ r. unanswered r.standing ≡ None) (sym c.self.view_is) c.requires)
    c.settle.ensures c.in-Some.ensures.first c.take.ensures.rest c.carry_out.ensures)
