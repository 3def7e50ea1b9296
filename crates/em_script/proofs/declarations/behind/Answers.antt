use Rattle.em_script.specs.Names.{reading}
use Rattle.em_script.proofs.declarations.behind.Goals as goal

pub returns-in-Cores : goal.returns-in-Cores
returns-in-Cores c = rw c.in-Cores.is (c.cores.ensures (reading c.args.names.now) c.args.cores)

pub returns-in-Pool : goal.returns-in-Pool
returns-in-Pool c = rw c.in-Pool.is (c.pool.ensures c.args.cores)

pub returns-in-Eo : goal.returns-in-Eo
returns-in-Eo c = rw c.in-Eo.is (c.object.ensures c.args.cores)

pub returns-in-Agroup : goal.returns-in-Agroup
returns-in-Agroup c = rw c.in-Agroup.is (c.atomic_group.ensures c.args.cores)

pub returns-in-Egroup : goal.returns-in-Egroup
returns-in-Egroup c = rw c.in-Egroup.is (c.event_group.ensures c.args.cores)

pub returns-in-Boot : goal.returns-in-Boot
returns-in-Boot c = rw c.in-Boot.is (c.boot.ensures (reading c.args.names.now) c.args.cores)

pub returns-in-Error : goal.returns-in-Error
returns-in-Error c = rw c.in-Error.is (c.error.ensures (reading c.args.names.now) c.args.cores)

pub returns-in-Body : goal.returns-in-Body
returns-in-Body c = rw c.in-Body.is (c.body.ensures c.args.cores)

pub returns-in-Done : goal.returns-in-Done
returns-in-Done c = rw c.in-Done.is (c.done.ensures (reading c.args.names.now) c.args.cores)
