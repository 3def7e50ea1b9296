-- A small graph with a body of many empty rounds.
use Rattle.std.specs.Prelude.{true, false, List, [], ◌∷◌, Some, None}
use Rattle.em_log.specs.declared.body.Expr.TheVariants as expr
use Rattle.em_log.specs.declared.body.Stmt.{Stmt}
use Rattle.em_log.specs.declared.body.Stmt.TheVariants as stmt
use Rattle.em_log.specs.declared.graph.Config.{Config}
use Rattle.em_log.specs.declared.graph.Decl.{Decl}
use Rattle.em_log.specs.declared.graph.Priority.{Priority}
use Rattle.em_log.specs.declared.ids.Kind.{Kind}

-- one object with this body, and its queue
abbrev pub example : List Stmt → Config
example receive =
    record {
      cores = 1;
      order = Decl.Eo 0 ∷ Decl.Queue 0 ∷ [];
      pools = [];
      groups = [];
      eos =
          record {
            name = 120 ∷ [];
            running = true;
            receive = receive;
            start = [];
            stop = [];
            lstart = [];
            lstop = [];
            error = None;
            given = record { receive = true; start = false; stop = false; lstart = false; lstop = false };
          } ∷ [];
      agroups = [];
      queues =
          record {
            name = 113 ∷ [];
            kind = Kind.Parallel;
            eo = Some (record { 0 = 0 });
            priority = Some Priority.Normal;
            group = Some (record { 0 = 0 });
            agroup = None;
          } ∷ [];
      egroups = [];
      boot = [];
      error = None;
    }

-- 256 times 256 empty rounds, and then a free
abbrev pub counting : List Stmt
counting = stmt.Repeat 256 (stmt.Repeat 256 [] ∷ []) ∷ stmt.Free expr.Me ∷ []
