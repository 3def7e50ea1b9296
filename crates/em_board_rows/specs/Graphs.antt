-- The graph of boot alone.
use Rattle.std.specs.Prelude.{[]}
use Rattle.em_log.specs.declared.declarations.Declarations.{Declarations}

-- one core, and nothing declared
abbrev pub boot_graph : Declarations
boot_graph =
    record {
      cores = 1;
      pools = [];
      groups = [];
      running = [];
      agroups = [];
      queues = [];
      egroups = 0;
    }
