use Rattle.std.proofs.Common.{◌≡◌, ℕ, Option, Some, None, find, sym, subst}
use Rattle.em_pool.specs.Places.{is_free, indices_of}
use Rattle.em_pool.specs.State.{PoolState, place_at}
use Rattle.em_pool.proofs.FirstFree.{bounds-from, pool-none, pool-found, pool-past}
use Rattle.em_pool.proofs.pools.Pools.first_free.Goals as goal

pub returns-in-None : goal.returns-in-None
returns-in-None c =
    let b = c.bounds_of-first.ensures in
    subst (λ (v : PoolState). ◌≡◌ {A = Option ℕ} None (find (λ i. is_free (place_at v i)) (indices_of v.pools c.args.pool.0))) c.self.view_is
    (sym (pool-none c.self.invariant c.args.pool.0 c.bounds_of-first.result.0 c.bounds_of-first.result.1
    (bounds-from c.as_slice.result.now c.self.inside.pools c.args.pool.0 _ _ c.as_slice.ensures b.first b.end b.within) c.in-None.ensures))

pub returns-then-index-end : goal.returns-then-index-end
returns-then-index-end c =
    let b = c.bounds_of-first.ensures in
    subst (λ (v : PoolState). Some c.in-Some.index ≡ find (λ i. is_free (place_at v i)) (indices_of v.pools c.args.pool.0)) c.self.view_is
    (sym (pool-found c.self.invariant c.args.pool.0 c.bounds_of-first.result.0 c.bounds_of-first.result.1
    (bounds-from c.as_slice.result.now c.self.inside.pools c.args.pool.0 _ _ c.as_slice.ensures b.first b.end b.within) c.in-Some.index c.in-Some.ensures
    c.if-index-end.true))

pub returns-else-index-end : goal.returns-else-index-end
returns-else-index-end c =
    let b = c.bounds_of-first.ensures in
    subst (λ (v : PoolState). ◌≡◌ {A = Option ℕ} None (find (λ i. is_free (place_at v i)) (indices_of v.pools c.args.pool.0))) c.self.view_is
    (sym (pool-past c.self.invariant c.args.pool.0 c.bounds_of-first.result.0 c.bounds_of-first.result.1
    (bounds-from c.as_slice.result.now c.self.inside.pools c.args.pool.0 _ _ c.as_slice.ensures b.first b.end b.within) c.in-Some.index c.in-Some.ensures
    c.if-index-end.false))
