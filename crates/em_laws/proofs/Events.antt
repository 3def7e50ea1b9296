-- Each event once.
use Rattle.em_log.specs.declared.declarations.Declarations.{Declarations}
use Rattle.em_log.specs.declared.ids.Limits.{Limits}
use Rattle.em_log.specs.History.{Past}
use Rattle.em_log.specs.Lawful.{AllAllowed}
use Rattle.em_log.specs.Laws.{Once}
use Rattle.em_laws.proofs.Notified.{notified-once}
use Rattle.em_laws.proofs.Fresh.{starts-next}
use Rattle.em_laws.proofs.Started.{started-first}
use Rattle.em_laws.proofs.Entering.{enters-once}
use Rattle.em_laws.proofs.Sends.{sends-in-turn}

-- each event enters, starts and is notified once, in turn
pub each-once : (k : Declarations) (l : Limits) (past : Past) → AllAllowed k l past → Once k past
each-once k l past all = record {
  different = enters-once k l past all;
  sent = sends-in-turn k l past all;
  started = started-first k l past all;
  renewed = starts-next k l past all;
  notified = notified-once k l past all;
}
