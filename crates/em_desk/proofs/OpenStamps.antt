-- Where each ask was served, no open context has a stamp.
use Rattle.std.proofs.Common.{◌≡◌, ℕ, [], ◌∷◌, Option, None, refl, subst, ◌∙◌}
use Rattle.em_log.specs.declared.declarations.Declarations.{Declarations}
use Rattle.em_log.specs.declared.entry.What.{What}
use Rattle.em_log.specs.declared.ids.Limits.{Limits}
use Rattle.em_log.specs.declared.ids.Stamp.{Stamp}
use Rattle.em_log.specs.History.{Past}
use Rattle.em_log.specs.EventGroups.{open_stamp, stamp_after}
use Rattle.em_log.specs.Lawful.{AllAllowed}
use Rattle.em_moments.proofs.Moments.{Moment, allowed-moment}
use Rattle.em_laws.proofs.Cores.{Compared, Same, Other, compared}
use Rattle.em_context_parts.specs.SentStamps.{AllItems, IsSentWith}
use Rattle.em_context_parts.proofs.SentStamps.{stamps-kept}
use Rattle.em_desk.specs.Served.{AllServed}
use Rattle.em_desk.proofs.Unstamped.{spent-unstamped}

next-stamp : (k : Declarations) (l : Limits) (past : Past) (c : ℕ) (w : What) (was : Option Stamp) → AllAllowed k l past → AllServed k past → Moment k l past c w
    → was ≡ None → stamp_after w was ≡ None
next-stamp k l past c (What.Start q e s) was all served m none =
    let first = (subst (AllItems (λ x. IsSentWith past x.handle x.stamp)) m.taken ((stamps-kept k l past all).taken c)).0 in
    m.stamp ∙ (first.stamp ∙ spent-unstamped k past m.item.handle first.how served first.spent)
next-stamp k l past c (What.Enter b) was all served m none = refl
next-stamp k l past c What.EndGroup was all served m none = refl
next-stamp k l past c (What.End lost cells) was all served m none = refl
next-stamp k l past c w was all served m none = none

pub no-open-stamp : (k : Declarations) (l : Limits) (past : Past) (c : ℕ) → AllAllowed k l past → AllServed k past → open_stamp past c ≡ None
no-open-stamp k l [] c all served = refl
no-open-stamp k l (e ∷ past) c all served = by_core (compared e.core.0 c) (no-open-stamp k l past c all.1 served.1)
  where
    by_core : Compared e.core.0 c → open_stamp past c ≡ None → open_stamp (e ∷ past) c ≡ None
    by_core (Same t same) older =
        rw t (next-stamp k l past e.core.0 e.what (open_stamp past c) all.1 served.1 (allowed-moment k l past e all.1 all.0) older)
    by_core (Other f other) older = rw f older
