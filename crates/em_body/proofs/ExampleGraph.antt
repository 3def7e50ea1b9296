-- The example is well formed.
use Rattle.std.proofs.Common.{◌≡◌, ◌∙◌, List, refl, sym, ap, subst, arith}
use Rattle.std.specs.Prelude.{Result, Ok, Err, IfOk}
use Rattle.em_log.specs.declared.body.Stmt.{Stmt}
use Rattle.em_log.specs.declared.graph.Config.{Config}
use Rattle.em_log.specs.WellFormed.{IsWellFormed}
use Rattle.em_body.specs.Example.{example, counting}

pub counting-well : IsWellFormed (example counting)
unfolding Rattle.em_log.specs.declared.body.Expr.TheBlock.hidden-the_row-Expr-0 denote.Hole.Carrier.hidden Rattle.em_log.specs.declared.body.Stmt.TheBlock.hidden-the_row-Stmt-0
counting-well =
    record {
      few = record {
        cores = (omega arith, omega arith);
        pools = omega arith;
        events = omega arith;
        groups = omega arith;
        eos = omega arith;
        agroups = omega arith;
        queues = omega arith;
        egroups = omega arith;
      };
      names = refl;
      order = refl;
      pools = refl;
      groups = refl;
      agroups = refl;
      queues = refl;
      boot = refl;
      error = refl;
      eos = refl;
    }

pub if-well : {E : Type 0} (r : Result Config E) (receive : List Stmt) → receive ≡ counting → IfOk r (λ g. g ≡ example receive)
    → IfOk r IsWellFormed
if-well (Ok g) receive is same = subst (λ x. IsWellFormed x) (sym (same ∙ ap example is)) counting-well
if-well (Err e) receive is same = same
