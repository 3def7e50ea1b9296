-- Each graph is well formed.
use Rattle.std.proofs.Common.{ℕ, ◌≤◌, arith, refl}
use Rattle.em_log.specs.WellFormed.{AreFew, IsWellFormed}
use Rattle.em_generated.specs.Graph.{generated_graph}
use Rattle.em_generated.proofs.Bodies as bodies
use Rattle.em_generated.proofs.Names.{names}
use Rattle.em_generated.proofs.Order.{objects-length, order, queues-length}

few : (n : ℕ) → n ≤ 40 → AreFew (generated_graph n)
unfolding generated_graph
few n le =
    let objects = objects-length n in
    let queues = queues-length n in
    record {
      cores = (omega arith, omega arith);
      pools = omega arith;
      events = omega arith;
      groups = omega arith;
      eos = omega arith;
      agroups = omega arith;
      queues = omega arith;
      egroups = omega arith;
    }

pub well-formed : (n : ℕ) → n ≤ 40 → IsWellFormed (generated_graph n)
unfolding generated_graph
well-formed n le =
    record {
      few = few n le;
      names = names n le;
      order = order n;
      pools = refl;
      groups = refl;
      agroups = refl;
      queues = bodies.queues n;
      boot = bodies.boot n le;
      error = refl;
      eos = bodies.objects n;
    }
