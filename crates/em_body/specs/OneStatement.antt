-- A small graph whose receive body carries out one statement and shows what it leaves.
use Rattle.std.specs.Prelude.{Bool, true, false, List, [], ◌∷◌, Some, None}
use Rattle.em_log.specs.declared.body.Expr.TheVariants as expr
use Rattle.em_log.specs.declared.body.Stmt.{Stmt}
use Rattle.em_log.specs.declared.body.Stmt.TheVariants as stmt
use Rattle.em_log.specs.declared.graph.Config.{Config}
use Rattle.em_log.specs.declared.graph.Decl.{Decl}
use Rattle.em_log.specs.declared.graph.Priority.{Priority}
use Rattle.em_log.specs.declared.ids.Kind.{Kind}
use Rattle.em_log.specs.WellFormed.{Receive, is_body}

-- variable 0 is 9 before, and after it whether its ask was accepted, that variable, and the event's kind and size are shown
abbrev pub around : Stmt → List Stmt
around s =
    stmt.Set 0 (expr.Number 9) ∷ s ∷ stmt.Say expr.LastOk ∷ stmt.Say (expr.Var 0) ∷ stmt.Say expr.Kind ∷ stmt.Say expr.Size ∷ []

abbrev pub begun_with : Stmt → List Stmt
begun_with s = stmt.Set 0 (expr.Number 9) ∷ s ∷ stmt.Say expr.LastOk ∷ []

abbrev pub showing : List Stmt
showing = stmt.Say (expr.Var 0) ∷ stmt.Say expr.Kind ∷ stmt.Say expr.Size ∷ []

-- one object with this receive body, whose start fails, with its queue, a pool and an event group
abbrev pub stating : List Stmt → Config
stating receive =
    record {
      cores = 1;
      order = Decl.Pool 0 ∷ Decl.Eo 0 ∷ Decl.Queue 0 ∷ Decl.Egroup 0 ∷ [];
      pools = record { name = 112 ∷ []; events = 4; words = 4 } ∷ [];
      groups = [];
      eos =
          record {
            name = 120 ∷ [];
            running = true;
            receive = receive;
            start = around stmt.Fail;
            stop = [];
            lstart = [];
            lstop = [];
            error = None;
            given = record { receive = true; start = true; stop = false; lstart = false; lstop = false };
          } ∷ [];
      agroups = [];
      queues =
          record {
            name = 113 ∷ [];
            kind = Kind.Parallel;
            eo = Some (record { 0 = 0 });
            priority = Some Priority.Normal;
            group = Some (record { 0 = 0 });
            agroup = None;
          } ∷ [];
      egroups = (103 ∷ []) ∷ [];
      boot = [];
      error = None;
    }

-- whether this statement may stand in that graph
unfoldable pub fits_there : Stmt → Bool
fits_there s = is_body (stating (around s)) Receive None (around s)
