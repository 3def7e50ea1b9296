-- Up to 255 times 256 rounds are a body of a script.
use Rattle.std.proofs.Common.{◌≡◌, ℕ, ◌+◌, ◌*◌, ◌≤◌, List, [], true, None, refl, sym, subst, arith}
use Rattle.std.proofs.lemmas.Bool.{le-leb}
use Rattle.std.specs.Prelude.{Result, Ok, Err, IfOk, IsTrue, nat_le}
use Rattle.em_log.specs.declared.body.Stmt.{Stmt}
use Rattle.em_log.specs.declared.graph.Config.{Config}
use Rattle.em_log.specs.Weights.{weight_of, steps_of}
use Rattle.em_log.specs.WellFormed.{Boot, is_body, IsWellFormed}
use Rattle.body_bench.specs.Rounds.{booting, rounds, counting}

booting-well : (boot : List Stmt) → IsTrue (is_body (booting boot) Boot None boot) → IsWellFormed (booting boot)
booting-well boot fits =
    record {
      few = record {
        cores = (omega arith, omega arith);
        pools = omega arith;
        events = omega arith;
        groups = omega arith;
        eos = omega arith;
        agroups = omega arith;
        queues = omega arith;
        egroups = omega arith;
      };
      names = refl;
      order = refl;
      pools = refl;
      groups = refl;
      agroups = refl;
      queues = refl;
      boot = fits;
      error = refl;
      eos = refl;
    }

counting-fits : (n : ℕ) → 1 ≤ n → n ≤ 255 → IsTrue (is_body (booting (rounds n counting)) Boot None (rounds n counting))
unfolding Rattle.em_log.specs.declared.body.Expr.TheBlock.hidden-the_row-Expr-0 denote.Hole.Carrier.hidden Rattle.em_log.specs.declared.body.Stmt.TheBlock.hidden-the_row-Stmt-0
counting-fits n some few =
    let low : nat_le 1 n ≡ true = le-leb 1 n some in
    let high : nat_le n 256 ≡ true = le-leb n 256 (omega arith) in
    let weight : nat_le (weight_of 0 (rounds n counting)) 256 ≡ true = le-leb (n * 0 + 0) 256 (omega arith) in
    let steps : nat_le (steps_of 0 (rounds n counting)) 65536 ≡ true = le-leb (1 + n * 257 + 0) 65536 (omega arith) in
    rw (low, high, weight, steps) refl

pub counting-well : (n : ℕ) → 1 ≤ n → n ≤ 255 → IsWellFormed (booting (rounds n counting))
counting-well n some few = booting-well (rounds n counting) (counting-fits n some few)

empty-fits : (n : ℕ) → 1 ≤ n → n ≤ 255 → IsTrue (is_body (booting (rounds n [])) Boot None (rounds n []))
unfolding Rattle.em_log.specs.declared.body.Expr.TheBlock.hidden-the_row-Expr-0 denote.Hole.Carrier.hidden Rattle.em_log.specs.declared.body.Stmt.TheBlock.hidden-the_row-Stmt-0
empty-fits n some few =
    let low : nat_le 1 n ≡ true = le-leb 1 n some in
    let high : nat_le n 256 ≡ true = le-leb n 256 (omega arith) in
    let weight : nat_le (weight_of 0 (rounds n [])) 256 ≡ true = le-leb (n * 0 + 0) 256 (omega arith) in
    let steps : nat_le (steps_of 0 (rounds n [])) 65536 ≡ true = le-leb (1 + n * 1 + 0) 65536 (omega arith) in
    rw (low, high, weight, steps) refl

pub empty-well : (n : ℕ) → 1 ≤ n → n ≤ 255 → IsWellFormed (booting (rounds n []))
empty-well n some few = booting-well (rounds n []) (empty-fits n some few)

pub if-well : {E : Type 0} (r : Result Config E) (boot : List Stmt) → IsWellFormed (booting boot) → IfOk r (λ g. g ≡ booting boot)
    → IfOk r IsWellFormed
if-well (Ok g) boot well same = subst (λ x. IsWellFormed x) (sym same) well
if-well (Err e) boot well same = same

-- with the block that is meant
pub with-block : {E : Type 0} (r : Result Config E) (n : ℕ) (block meant : List Stmt) → block ≡ meant
    → IfOk r (λ g. g ≡ booting (rounds n block)) → IfOk r (λ g. g ≡ booting (rounds n meant))
with-block r n block meant is same = subst (λ b. IfOk r (λ g. g ≡ booting (rounds n b))) is same
