-- What a kept environment means.
use Rattle.std.specs.Option.{option_map}
use Rattle.em_log.specs.declared.entry.Event.{Event}
use Rattle.em_log.specs.Expressions.{Env, truth}
use Rattle.em_body.specs.declared.environment.Environment.{Environment}

abbrev pub env_of : Environment → Env
env_of v = record {
  vars = v.variables;
  event = record { kind = v.kind; words = v.words };
  me = v.me;
  queue = v.queue.0;
  core = v.core.0;
  cells = option_map (λ cs. cs.0) v.cells;
  ok = truth v.ok;
  fault = v.fault;
  detail = v.detail;
}

abbrev pub with_event : Event → Env → Env
with_event e v = record v { event = record { kind = e.kind; words = e.words } }
