-- The stamps of what was sent: each is that of the send by which its handle was spent, so that neither the lists of the
-- queues nor the ordered queues need to keep them.
use Rattle.std.specs.Prelude.{ℕ, ◌≡◌, List, [], ◌∷◌, Option, Some, None}
use Rattle.em_log.specs.declared.declarations.Declarations.{Declarations}
use Rattle.em_log.specs.declared.entry.What.{What}
use Rattle.em_log.specs.declared.ids.Stamp.{Stamp}
use Rattle.em_log.specs.History.{Past}
use Rattle.em_log.specs.Handles.{Spending, spending}
use Rattle.em_log.specs.Order.{Ticket, sends_under, let_in}
use Rattle.em_log.specs.Arrivals.{Item}
use Rattle.em_log.specs.Places.{waiting, taken}
use Rattle.em_arrivals.proofs.Lists.{AllSent}

-- P holds of each item
abbrev pub AllItems : (Item → Type 0) → List Item → Type 0
AllItems P [] = Unit {0}
AllItems P (x ∷ xs) = P x × AllItems P xs

-- the stamp that a spending gives an event: that of a send, and none of a note
abbrev pub stamp_in : What → Option Stamp
stamp_in (What.Send h q t s) = s
stamp_in w = None

-- the handle was spent with this stamp
pub record IsSentWith (past : Past) (h : ℕ) (s : Option Stamp) : Type 0 where
  pub how : Spending
  pub spent : spending past h ≡ Some how
  pub stamp : s ≡ stamp_in how.what

pub record StampsKept (k : Declarations) (past : Past) : Type 0 where
  pub sent : (q m : ℕ) → AllSent (λ s. IsSentWith past s.handle s.stamp) (sends_under past q m)
  -- so too what the end of a ticket lets in
  pub let_in : (now : Past) (t : Option Ticket) → AllSent (λ s. IsSentWith past s.handle s.stamp) (let_in past now t)
  pub waiting : (q c : ℕ) → AllItems (λ x. IsSentWith past x.handle x.stamp) (waiting k past q c)
  pub taken : (c : ℕ) → AllItems (λ x. IsSentWith past x.handle x.stamp) (taken k past c)
