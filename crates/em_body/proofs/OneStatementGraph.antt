-- The graph of one statement is well formed where the statement fits.
use Rattle.std.proofs.Common.{◌≡◌, ◌&&◌, List, true, refl, sym, subst, arith}
use Rattle.std.specs.Prelude.{Result, Ok, Err, IfOk, IsTrue}
use Rattle.em_log.specs.declared.body.Stmt.{Stmt}
use Rattle.em_log.specs.declared.graph.Config.{Config}
use Rattle.em_log.specs.WellFormed.{IsWellFormed}
use Rattle.em_body.specs.OneStatement.{around, stating, fits_there}

pub stating-well : (s : Stmt) → IsTrue (fits_there s) → IsWellFormed (stating (around s))
unfolding fits_there Rattle.em_log.specs.declared.body.Expr.TheBlock.hidden-the_row-Expr-0 denote.Hole.Carrier.hidden Rattle.em_log.specs.declared.body.Stmt.TheBlock.hidden-the_row-Stmt-0
stating-well s fits =
    record {
      few = record {
        cores = (omega arith, omega arith);
        pools = omega arith;
        events = omega arith;
        groups = omega arith;
        eos = omega arith;
        agroups = omega arith;
        queues = omega arith;
        egroups = omega arith;
      };
      names = refl;
      order = refl;
      pools = refl;
      groups = refl;
      agroups = refl;
      queues = refl;
      boot = refl;
      error = refl;
      eos = subst (λ b. IsTrue (b && true && true && true && true && true && true && true)) (sym fits) refl;
    }

pub if-stating : {E : Type 0} (r : Result Config E) (s : Stmt) → IsTrue (fits_there s) → IfOk r (λ g. g ≡ stating (around s))
    → IfOk r IsWellFormed
if-stating (Ok g) s fits same = subst (λ x. IsWellFormed x) (sym same) (stating-well s fits)
if-stating (Err e) s fits same = same

-- with the body that is meant
pub with-body : {E : Type 0} (r : Result Config E) (body : List Stmt) (s : Stmt) → body ≡ around s
    → IfOk r (λ g. g ≡ stating body) → IfOk r (λ g. g ≡ stating (around s))
with-body r body s is same = subst (λ b. IfOk r (λ g. g ≡ stating b)) is same
