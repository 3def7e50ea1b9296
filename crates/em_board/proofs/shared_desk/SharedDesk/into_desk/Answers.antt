use Rattle.std.proofs.Common.{sym, ◌∙◌}
use Rattle.em_board.proofs.SharedDesks.{told-desk}
use Rattle.em_board.proofs.shared_desk.SharedDesk.into_desk.Goals as goal

pub returns : goal.returns
returns c = c.into_inner.ensures ∙ sym (told-desk c.self.inside.desk.value c.self.inside.mark c.args.self c.self.invariant c.self.view_is)
