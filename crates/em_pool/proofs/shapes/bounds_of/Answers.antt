use Rattle.std.proofs.Common.{◌≡◌, ◌+◌, take, get_or, ap, sym, ◌∙◌, arith}
use Rattle.em_log.specs.Declarations.{event_total}
use Rattle.em_pool.specs.Places.{events_of}
use Rattle.em_pool.proofs.FirstFree.{total-take, pool-within, events-read}
use Rattle.em_pool.proofs.shapes.bounds_of.Goals as goal

pub total-first-requires : goal.total-first-requires
total-first-requires c = let le = total-take c.args.pools.now c.from-number.result in let few = c.requires.few in omega arith

first_is : (c : goal.After-total-first) → c.total-first.result ≡ event_total (take c.args.pool.0 c.args.pools.now)
first_is c = c.total-first.ensures ∙ ap (λ n. event_total (take n c.args.pools.now)) c.from-number.ensures

end_is : (c : goal.After-total-first) → c.total-first.result + (get_or c.args.pools.now c.from-number.result (record { events = 0; words = 0 })).events
    ≡ event_total (take c.args.pool.0 c.args.pools.now) + events_of c.args.pools.now c.args.pool.0
end_is c =
    let at = events-read c.args.pools.now c.args.pool.0 (record { events = 0; words = 0 }) c.requires.pool in
    (λ i. first_is c i + (get_or c.args.pools.now (c.from-number.ensures i) (record { events = 0; words = 0 })).events)
    ∙ ap (λ n. event_total (take c.args.pool.0 c.args.pools.now) + n) (sym at)

pub overflow_add-result : goal.overflow_add-result
overflow_add-result c =
    let e = end_is c in let le = pool-within c.args.pools.now c.args.pool.0 in let few = c.requires.few in omega arith

pub returns-clause-end : goal.returns-clause-end
returns-clause-end c = end_is c

pub returns-clause-within : goal.returns-clause-within
returns-clause-within c = let e = end_is c in let le = pool-within c.args.pools.now c.args.pool.0 in omega arith
