use Rattle.std.proofs.Common.{subst}
use Rattle.em_drive.specs.Going.{IsAfter}
use Rattle.em_drive.proofs.Rounds.{run-of, turned-going, turned-ended}
use Rattle.em_drive.proofs.run.turn_of.Goals as goal

pub turn-requires : goal.turn-requires
turn-requires g c =
    let r = c.requires.going in
    (r.0, r.1, run-of r.0 r.1 c.args.desk.now c.args.core.0 c.from.result c.args.runs.now c.index-runs-from.result c.from.ensures c.requires.core r.2)

pub returns-clause-going : goal.returns-clause-going
returns-clause-going g c h l are none =
    let was = run-of h l c.args.desk.now c.args.core.0 c.from.result c.args.runs.now c.index-runs-from.result c.from.ensures c.requires.core are in
    let after = c.in_ok-end.ensures.after h l was in
    turned-going h l c.args.desk.now c.turn.new.desk c.args.core.0 c.from.result c.args.runs.now c.turn.new.run c.from.ensures c.requires.core are
    (subst (IsAfter h l c.turn.new.desk c.args.core.0 c.turn.new.run) none after) c.in_ok-end.ensures.grown c.history_is_lawful.ensures.lawful

pub returns-clause-ended : goal.returns-clause-ended
returns-clause-ended g c h l are =
    let was = run-of h l c.args.desk.now c.args.core.0 c.from.result c.args.runs.now c.index-runs-from.result c.from.ensures c.requires.core are in
    turned-ended h l c.turn.new.desk c.args.core.0 c.turn.new.run c.in_ok-end.end (c.in_ok-end.ensures.after h l was)

pub returns-clause-turned : goal.returns-clause-turned
returns-clause-turned g c h l are none =
    let was = run-of h l c.args.desk.now c.args.core.0 c.from.result c.args.runs.now c.index-runs-from.result c.from.ensures c.requires.core are in
    c.in_ok-end.ensures.turned h l was none
