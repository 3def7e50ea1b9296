use Rattle.std.proofs.Common.{◌∙◌, ap, refl}
use Rattle.em_drive.proofs.WorkedRuns.{is-planned, ran-as-planned, ready-cores}
use Rattle.em_drive.proofs.parallel.works_in_turns.Goals as goal

pub closed-requires-clause-plan : goal.closed-requires-clause-plan
closed-requires-clause-plan g c =
    is-planned g.W.Work (record { config = c.of.result; limits = c.args.limits; works = c.of-2.result }) c.args.config.now c.args.works.items c.of.ensures
    (ap (λ v. v.items) c.of-2.ensures) c.requires.well_formed c.requires.burst c.requires.count c.requires.fit

pub closed-requires-clause-cores : goal.closed-requires-clause-cores
closed-requires-clause-cores g c =
    ready-cores g.W.Work (record { config = c.of.result; limits = c.args.limits; works = c.of-2.result }) c.in_ok-board.board c.in_ok-workers.workers.items
    c.in_ok-workers.workers.items c.new.result c.drive_in_turns-ends.result c.in_ok-workers.ensures.ready refl (ap (λ e. e.passes) c.new.ensures ∙ c.in_ok-workers.ensures.passes)
    c.drive_in_turns-ends.ensures

pub returns : goal.returns
returns g c =
    ran-as-planned g.W.Work (record { config = c.of.result; limits = c.args.limits; works = c.of-2.result }) c.args.config.now c.args.limits c.args.works.items c.of.ensures refl
    (ap (λ v. v.items) c.of-2.ensures) c.closed.result c.closed.ensures
