use Rattle.std.proofs.Common.{ap, ◌∙◌}
use Rattle.std.specs.FinMap.{insert}
use Rattle.em_script.proofs.Table.{inserted}
use Rattle.em_script.proofs.names.Names.insert.Goals as goal
use Rattle.em_script.proofs.names.Names.insert.Goals.{in-Ok-insert, in-Err}

pub returns : goal.returns
returns c = elim c.match-insert.branch [
  | in-Ok-insert w ↦
      let h = w.in-Ok-insert.ensures.updates in
      rw w.result-is
      (inserted (λ k. k.items) c.in-Ok.key.items c.args.meaning c.self.inside.meanings.entries c.insert.new.self.entries h.1 h.3
      ∙ ap (λ m. insert m c.in-Ok.key.items c.args.meaning) c.self.view_is
      ∙ ap (λ n. insert c.args.self.now n c.args.meaning) c.in-Ok.ensures.items)
  | in-Err w ↦ rw w.result-is tt
]
