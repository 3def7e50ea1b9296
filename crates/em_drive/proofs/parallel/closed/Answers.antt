use Rattle.std.proofs.Common.{◌≡◌, Bool, true, false, not, refl, sym, ◌∙◌}
use Rattle.em_drive.proofs.WorkedRuns.{all-back, closed-ended, closed-run}
use Rattle.em_drive.proofs.parallel.closed.Goals as goal

is-over : (b : Bool) → not b ≡ false → b ≡ true
is-over true h = refl
is-over false h = absurd cc

pub close-desk-requires : goal.close-desk-requires
close-desk-requires g c =
    record {
      all = all-back g.W.Work c.args.plan.now c.args.board c.args.ends.passes c.requires.plan c.requires.cores
          (c.requires.over (is-over c.args.ends.over c.if-not-ends.false));
    }

pub unreachable-requires : goal.unreachable-requires
unreachable-requires g c =
    closed-ended g.W.Work c.args.plan.now c.args.board c.close-desk.result c.close-desk.ensures.lawful c.args.ends.passes c.requires.plan c.requires.cores
    (c.requires.over (is-over c.args.ends.over c.if-not-ends.false)) c.close-desk.ensures.each (sym c.end_kind.ensures ∙ c.in-None.is)

pub returns : goal.returns
returns g c =
    closed-run g.W.Work c.args.plan.now c.args.board c.close-desk.result c.close-desk.ensures.lawful c.args.ends.passes c.requires.plan c.requires.cores
    (c.requires.over (is-over c.args.ends.over c.if-not-ends.false)) c.close-desk.ensures.each c.in-Some.end c.close-desk.ensures.laws
    (sym c.end_kind.ensures ∙ c.in-Some.is)
