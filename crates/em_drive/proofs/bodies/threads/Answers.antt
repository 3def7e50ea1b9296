use denote.Param.Send.{sendable}
use Rattle.em_drive.proofs.BodyWorks.{fit-bodies, ran-bodies}
use Rattle.em_drive.proofs.Crossing.{body-send}
use Rattle.em_drive.proofs.bodies.threads.Goals as goal

pub works-requires-clause-fit : goal.works-requires-clause-fit
works-requires-clause-fit g c κs within =
    fit-bodies c.args.config.now c.args.config.now.cores c.in_ok-bodies.bodies.items c.requires.well_formed c.requires.servable c.in_ok-bodies.ensures

pub returns : goal.returns
returns g c =
    ran-bodies c.args.config.now c.args.limits c.in_ok-bodies.bodies.items c.in_ok-bodies.ensures c.works.result c.works.ensures

pub works-requires-send-W : goal.works-requires-send-W
works-requires-send-W g c κs = search (body-send, sendable) depth 30
