-- Where each ask was served, nothing has a stamp.
use Rattle.std.proofs.Common.{◌≡◌, ℕ, Bool, true, false, [], ◌∷◌, List, Option, Some, None, refl, subst, ◌∙◌, IsTrue}
use Rattle.em_log.specs.declared.declarations.Declarations.{Declarations}
use Rattle.em_log.specs.declared.entry.What.{What}
use Rattle.em_log.specs.declared.ids.Limits.{Limits}
use Rattle.em_log.specs.History.{Past}
use Rattle.em_log.specs.Handles.{Spending, spending, spends, spent_by}
use Rattle.em_log.specs.Arrivals.{Item}
use Rattle.em_log.specs.Places.{waiting}
use Rattle.em_log.specs.Lawful.{AllAllowed}
use Rattle.em_laws.proofs.Cores.{none-some, some-inj}
use Rattle.em_context_parts.specs.SentStamps.{AllItems, IsSentWith, stamp_in}
use Rattle.em_context_parts.proofs.SentStamps.{stamps-kept}
use Rattle.em_desk.specs.Served.{AllServed, is_served_entry}

served-stamp : (k : Declarations) (w : What) → IsTrue (is_served_entry k w) → stamp_in w ≡ None
served-stamp k (What.Send h q t None) served = refl
served-stamp k (What.Send h q t (Some s)) served = absurd (cc served)
served-stamp k w served = refl

-- no spending has a stamp
pub spent-unstamped : (k : Declarations) (past : Past) (h : ℕ) (s : Spending) → AllServed k past → spending past h ≡ Some s → stamp_in s.what ≡ None
spent-unstamped k [] h s all is = absurd (none-some s is)
spent-unstamped k (e ∷ past) h s all is = by_spent (spends past e.core.0 e.what h) (spending past h) (λ t known. spent-unstamped k past h t all.1 known) is
  where
    by_spent : (b : Bool) (was : Option Spending) → ((t : Spending) → was ≡ Some t → stamp_in t.what ≡ None) → spent_by b past e was ≡ Some s → stamp_in s.what ≡ None
    by_spent false was older is = older s is
    by_spent true None older is = subst (λ (t : Spending). stamp_in t.what ≡ None) (some-inj _ _ is) (served-stamp k e.what all.0)
    by_spent true (Some t) older is = older s is

-- the first item that waits has none
pub unstamped-first : (k : Declarations) (l : Limits) (past : Past) (q c : ℕ) (x : Item) (xs : List Item) → AllAllowed k l past → AllServed k past
    → waiting k past q c ≡ x ∷ xs → x.stamp ≡ None
unstamped-first k l past q c x xs all served is =
    let first = (subst (AllItems (λ y. IsSentWith past y.handle y.stamp)) is ((stamps-kept k l past all).waiting q c)).0 in
    first.stamp ∙ spent-unstamped k past x.handle first.how served first.spent
