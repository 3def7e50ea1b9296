-- What a core holds by a history is what it holds by the steps of the pools.
use Rattle.std.proofs.Common.{◌≡◌, ℕ, ◌==◌, Bool, true, false, [], ◌∷◌, ◌++◌, List, Option, Some, None, refl, ◌∙◌, subst, ap, if◌then◌else◌}
use Rattle.em_laws.proofs.Usable.{closed-held}
use Rattle.em_log.specs.declared.declarations.Declarations.{Declarations}
use Rattle.em_log.specs.declared.entry.Body.{Body}
use Rattle.em_log.specs.declared.entry.Event.{Event}
use Rattle.em_log.specs.declared.entry.What.{What}
use Rattle.em_log.specs.declared.ids.Limits.{Limits}
use Rattle.em_log.specs.declared.ids.Note.{Note}
use Rattle.em_log.specs.History.{Past, names, note_words, without, without_all}
use Rattle.em_log.specs.Handles as log
use Rattle.em_log.specs.Contexts.{context}
use Rattle.em_log.specs.Lawful.{AllAllowed}
use Rattle.em_moments.proofs.Moments.{Moment, EnterMoment, EntersBoot, EntersStep, allowed-moment}
use Rattle.em_laws.proofs.Cores.{compared, Compared, Same, Other}
use Rattle.em_pool.specs.Steps.{PoolStep, held}
use Rattle.em_parts.specs.PoolSteps.{moves, direct, minted_steps, noted_steps, pool_steps}
use Rattle.em_parts.proofs.StepLemmas.{moved-held, noted-held}

-- mintings

open-minted : (b : Bool) (context : Option What) (e : Event) (hs : List ℕ) → (b ≡ true → (w : What) × (context ≡ Some w))
    → (if b then hs ++ e.handle.0 ∷ [] else hs) ≡ (if b then log.with_minted context (Some e) hs else hs)
open-minted true context e hs begun = let s = (begun refl).1 in rw s refl
open-minted false context e hs begun = refl

started-minted : (b : Bool) (e : Event) (hs : List ℕ) → (b ≡ true → hs ≡ [])
    → (if b then hs ++ e.handle.0 ∷ [] else hs) ≡ (if b then e.handle.0 ∷ [] else hs)
started-minted true e hs none = let n = none refl in rw n refl
started-minted false e hs none = refl

nothing-minted : (b : Bool) (o : Option What) (hs : List ℕ) → hs ≡ (if b then log.with_minted o None hs else hs)
nothing-minted true None hs = refl
nothing-minted true (Some w) hs = refl
nothing-minted false o hs = refl

entered-empty : (b : Bool) (hs : List ℕ) → (b ≡ true → hs ≡ []) → hs ≡ (if b then [] else hs)
entered-empty true hs none = none refl
entered-empty false hs none = refl

-- a fact of core d is one of core c, where the test says that they are one
pub at-core : (P : ℕ → Type 0) (d c : ℕ) → (d == c) ≡ true → P d → P c
at-core P d c test h = by_test (compared d c)
  where
    by_test : Compared d c → P c
    by_test (Same _ e) = subst P e h
    by_test (Other f _) = absurd (cc (f, test))

open-at : (past : Past) (d c : ℕ) (b : What) → context past d ≡ Some b → (d == c) ≡ true → (w : What) × (context past c ≡ Some w)
open-at past d c b is test = at-core (λ n. (w : What) × (context past n ≡ Some w)) d c test (b, is)

-- what an entry of core d leaves of what core c holds
abbrev HeldNow : Past → ℕ → ℕ → What → List ℕ
HeldNow past c d w =
    if d == c then log.held_after w (context past c) (without_all (names w) (log.held past c)) else without_all (names w) (log.held past c)

claim-held : (past : Past) (c d : ℕ) (o : Option Event) (steps : List PoolStep) (b : What) → context past d ≡ Some b → held steps c ≡ log.held past c
    → held (minted_steps d o steps) c ≡ (if d == c then log.with_minted (context past c) o (log.held past c) else log.held past c)
claim-held past c d None steps b begun same = same ∙ nothing-minted (d == c) (context past c) (log.held past c)
claim-held past c d (Some e) steps b begun same =
    ap (λ hs. if d == c then hs ++ e.handle.0 ∷ [] else hs) same
    ∙ open-minted (d == c) (context past c) e (log.held past c) (λ t. open-at past d c b begun t)

enters-held : (k : Declarations) (past : Past) (c d : ℕ) (b : Body) → EnterMoment k past d b → log.held past c ≡ (if d == c then [] else log.held past c)
enters-held k past c d b (EntersBoot none core is) = entered-empty (d == c) (log.held past c) (λ t. ap (λ (h : Past). log.held h c) none)
enters-held k past c d b (EntersStep between owed owes) =
    entered-empty (d == c) (log.held past c) (λ t. at-core (λ n. log.held past n ≡ []) d c t (closed-held past d between.closed))

notes-held : (past : Past) (c d p : ℕ) (ns : List Note) (steps : List PoolStep) → held steps c ≡ log.held past c
    → held (noted_steps d p ns steps) c ≡ (if d == c then log.with_minted (context past c) None (without_all (note_words ns) (log.held past c)) else without_all (note_words ns) (log.held past c))
notes-held past c d p ns steps same =
    noted-held d p ns steps c ∙ (ap (without_all (note_words ns)) same ∙ nothing-minted (d == c) (context past c) _)

direct-held : (k : Declarations) (l : Limits) (past : Past) (c d : ℕ) (w : What) → Moment k l past d w → held (pool_steps k past) c ≡ log.held past c
    → held (direct k past d w (pool_steps k past)) c ≡ HeldNow past c d w
direct-held k l past c d (What.Enter b) m same = same ∙ enters-held k past c d b m
direct-held k l past c d (What.Start q e s) m same =
    ap (λ hs. if d == c then hs ++ e.handle.0 ∷ [] else hs) same
    ∙ started-minted (d == c) e (log.held past c) (λ t. at-core (λ n. log.held past n ≡ []) d c t (closed-held past d m.closed))
direct-held k l past c d (What.End lost cells) m same = ap (λ hs. if d == c then [] else hs) same
direct-held k l past c d (What.Alloc p e) m same =
    ap (λ hs. if d == c then hs ++ e.handle.0 ∷ [] else hs) same
    ∙ open-minted (d == c) (context past c) e (log.held past c) (λ t. open-at past d c m.open_context.began m.open_context.context t)
direct-held k l past c d (What.Claim o) m same = claim-held past c d o (pool_steps k past) m.open_context.began m.open_context.context same
direct-held k l past c d (What.Dequeue q o) m same = claim-held past c d o (pool_steps k past) m.open_context.began m.open_context.context same
direct-held k l past c d (What.Free h) m same = ap (without h.0) same ∙ nothing-minted (d == c) (context past c) _
direct-held k l past c d (What.Send h q t s) m same = ap (without h.0) same ∙ nothing-minted (d == c) (context past c) _
direct-held k l past c d (What.Keep h) m same = ap (without h.0) same ∙ nothing-minted (d == c) (context past c) _
direct-held k l past c d (What.Begin op job notes) m same = notes-held past c d _ notes (pool_steps k past) same
direct-held k l past c d (What.Apply g a n notes) m same = notes-held past c d _ notes (pool_steps k past) same
direct-held k l past c d w m same = same ∙ nothing-minted (d == c) (context past c) (log.held past c)

-- the handles that a core holds
pub same-held : (k : Declarations) (l : Limits) (past : Past) (c : ℕ) → AllAllowed k l past → held (pool_steps k past) c ≡ log.held past c
same-held k l [] c all = refl
same-held k l (e ∷ past) c all =
    moved-held (moves k past e.core.0 e.what) (direct k past e.core.0 e.what (pool_steps k past)) c
    ∙ direct-held k l past c e.core.0 e.what (allowed-moment k l past e all.1 all.0) (same-held k l past c all.1)
