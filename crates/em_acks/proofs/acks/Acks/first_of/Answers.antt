use Rattle.std.proofs.Common.{ap, ◌∙◌}
use Rattle.em_acks.specs.State.{AckState, first_at}
use Rattle.em_acks.proofs.Places.{first-pending-at}
use Rattle.em_acks.proofs.acks.Acks.first_of.Goals as goal

pub returns : goal.returns
returns c =
    let is = c.self.invariant.indexed in
    c.of.ensures
    ∙ (first-pending-at c.self.inside.begun.items is.numbered c.self.inside.pending is.told is.found c.args.target
    ∙ ap (λ (v : AckState). first_at c.args.target v.unfinished) c.self.view_is)
