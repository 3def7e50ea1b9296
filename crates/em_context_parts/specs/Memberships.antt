-- What every history keeps of event groups: stamps are of applications that have come, an application that is not over has
-- some of its count left, and no more receives are open or have left than members were sent.
use Rattle.std.specs.Prelude.{ℕ, ◌+◌, ◌≤◌, ◌<◌, ◌≡◌, Bool, true, false, [], Option, Some, None}
use Rattle.std.specs.List.{sum_by}
use Rattle.em_log.specs.declared.declarations.Declarations.{Declarations}
use Rattle.em_log.specs.declared.entry.What.{What}
use Rattle.em_log.specs.declared.ids.Stamp.{Stamp}
use Rattle.em_log.specs.History.{Past}
use Rattle.em_log.specs.Declarations.{below}
use Rattle.em_log.specs.EventGroups.{is_stamp, applications, busy, members, open_stamp, departed, count}
use Rattle.em_log.specs.Order.{sends_under}
use Rattle.em_log.specs.Places.{waiting, taken}
use Rattle.em_log.specs.Lawful.{due}
use Rattle.em_log.specs.Laws.{Each}
use Rattle.em_arrivals.proofs.Lists.{AllSent}
use Rattle.em_context_parts.specs.SentStamps.{AllItems}

-- the stamp, if there is one, is of an application of its group that has come: they are numbered from 1
abbrev pub HasCome : Past → Option Stamp → Type 0
HasCome past None = Unit {0}
HasCome past (Some s) = (1 ≤ s.app) × (s.app ≤ applications past s.group.0)

abbrev pub SendHasCome : Past → ℕ → What → Type 0
SendHasCome past c (What.Send h q t s) = HasCome past s
SendHasCome past c w = Unit {0}

pub record StampsHaveCome (k : Declarations) (past : Past) : Type 0 where
  pub sends : Each SendHasCome past
  pub sent : (q m : ℕ) → AllSent (λ s. HasCome past s.stamp) (sends_under past q m)
  pub waiting : (q c : ℕ) → AllItems (λ x. HasCome past x.stamp) (waiting k past q c)
  pub taken : (c : ℕ) → AllItems (λ x. HasCome past x.stamp) (taken k past c)
  pub open_stamp : (c : ℕ) → HasCome past (open_stamp past c)

-- a group whose application is neither notified nor given up has some count left, where nothing is due
abbrev pub CountsLeft : Declarations → Past → Type 0
CountsLeft k past = due k past ≡ [] → (g : ℕ) → busy past g ≡ true → 0 < count past g

abbrev pub one_if : Bool → ℕ
one_if true = 1
one_if false = 0

-- how many cores have an open receive with the stamp of this application
abbrev pub open_members : Declarations → Past → ℕ → ℕ → ℕ
open_members k past g a = sum_by (λ c. one_if (is_stamp g a (open_stamp past c))) (below k.cores)

abbrev pub MembersWithin : Declarations → Past → Type 0
MembersWithin k past = (g a : ℕ) → departed past g a + open_members k past g a ≤ members past g a
