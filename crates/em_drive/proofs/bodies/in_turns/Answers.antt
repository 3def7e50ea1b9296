use Rattle.em_drive.proofs.BodyWorks.{fit-bodies, ran-bodies}
use Rattle.em_drive.proofs.bodies.in_turns.Goals as goal

pub works_in_turns-requires-clause-fit : goal.works_in_turns-requires-clause-fit
works_in_turns-requires-clause-fit g c =
    fit-bodies c.args.config.now c.args.config.now.cores c.in_ok-bodies.bodies.items c.requires.well_formed c.requires.servable c.in_ok-bodies.ensures

pub returns : goal.returns
returns g c =
    ran-bodies c.args.config.now c.args.limits c.in_ok-bodies.bodies.items c.in_ok-bodies.ensures c.works_in_turns.result c.works_in_turns.ensures
