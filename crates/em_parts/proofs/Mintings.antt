-- The mintings of a history are those of its steps of the pools.
use Rattle.std.proofs.Common.{◌≡◌, ℕ, [], ◌∷◌, List, refl, ◌∙◌, ap}
use Rattle.em_log.specs.declared.declarations.Declarations.{Declarations}
use Rattle.em_log.specs.declared.entry.What.{What}
use Rattle.em_log.specs.History.{Past, minted_in}
use Rattle.em_log.specs.Handles as log
use Rattle.em_pool.specs.Steps.{PoolStep}
use Rattle.em_pool.specs.Handles as pool
use Rattle.em_parts.specs.PoolSteps.{moves, direct, pool_steps}
use Rattle.em_parts.proofs.StepLemmas.{moved-generation, moved-minting, moved-last, noted-generation, noted-minting, noted-last, minted-generation, minted-minting, minted-last}

direct-generation : (k : Declarations) (past : Past) (c : ℕ) (w : What) (steps : List PoolStep) (i : ℕ)
    → pool.generation (direct k past c w steps) i ≡ log.one_more i (minted_in w) (pool.generation steps i)
direct-generation k past c (What.Claim e) steps i = minted-generation c i e steps
direct-generation k past c (What.Dequeue q e) steps i = minted-generation c i e steps
direct-generation k past c (What.Begin op job notes) steps i = noted-generation c _ notes steps i
direct-generation k past c (What.Apply g a n notes) steps i = noted-generation c _ notes steps i
direct-generation k past c w steps i = refl

pub same-generation : (k : Declarations) (past : Past) (i : ℕ) → pool.generation (pool_steps k past) i ≡ log.generation past i
same-generation k [] i = refl
same-generation k (e ∷ past) i =
    moved-generation (moves k past e.core.0 e.what) (direct k past e.core.0 e.what (pool_steps k past)) i
    ∙ (direct-generation k past e.core.0 e.what (pool_steps k past) i ∙ ap (log.one_more i (minted_in e.what)) (same-generation k past i))

direct-minting : (k : Declarations) (past : Past) (c : ℕ) (w : What) (steps : List PoolStep) (h : ℕ)
    → pool.minting (direct k past c w steps) h ≡ log.minting_by h c (minted_in w) (pool.minting steps h)
direct-minting k past c (What.Claim e) steps h = minted-minting c h e steps
direct-minting k past c (What.Dequeue q e) steps h = minted-minting c h e steps
direct-minting k past c (What.Begin op job notes) steps h = noted-minting c _ notes steps h
direct-minting k past c (What.Apply g a n notes) steps h = noted-minting c _ notes steps h
direct-minting k past c w steps h = refl

pub same-minting : (k : Declarations) (past : Past) (h : ℕ) → pool.minting (pool_steps k past) h ≡ log.minting past h
same-minting k [] h = refl
same-minting k (e ∷ past) h =
    moved-minting (moves k past e.core.0 e.what) (direct k past e.core.0 e.what (pool_steps k past)) h
    ∙ (direct-minting k past e.core.0 e.what (pool_steps k past) h ∙ ap (log.minting_by h e.core.0 (minted_in e.what)) (same-minting k past h))

direct-last : (k : Declarations) (past : Past) (c : ℕ) (w : What) (steps : List PoolStep) (i : ℕ)
    → pool.last_handle (direct k past c w steps) i ≡ log.last_handle_by i (minted_in w) (pool.last_handle steps i)
direct-last k past c (What.Claim e) steps i = minted-last c i e steps
direct-last k past c (What.Dequeue q e) steps i = minted-last c i e steps
direct-last k past c (What.Begin op job notes) steps i = noted-last c _ notes steps i
direct-last k past c (What.Apply g a n notes) steps i = noted-last c _ notes steps i
direct-last k past c w steps i = refl

pub same-last : (k : Declarations) (past : Past) (i : ℕ) → pool.last_handle (pool_steps k past) i ≡ log.last_handle past i
same-last k [] i = refl
same-last k (e ∷ past) i =
    moved-last (moves k past e.core.0 e.what) (direct k past e.core.0 e.what (pool_steps k past)) i
    ∙ (direct-last k past e.core.0 e.what (pool_steps k past) i ∙ ap (log.last_handle_by i (minted_in e.what)) (same-last k past i))
