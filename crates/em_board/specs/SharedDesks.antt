-- What the lock's value shows, and what a call does to it.
use Rattle.std.specs.Prelude.{ℕ, ◌≡◌, ◌≤◌, ◌<◌, true, List, ◌++◌, [], ◌∷◌, length, Option, IfSome, is_some}
use Rattle.em_log.specs.declared.ask.Ask.{Ask}
use Rattle.em_log.specs.declared.ask.Answer.{Answer}
use Rattle.em_log.specs.declared.ask.Reply.{Reply}
use Rattle.em_log.specs.declared.declarations.Declarations.{Declarations}
use Rattle.em_log.specs.declared.entry.Entry.{Entry}
use Rattle.em_log.specs.declared.ids.Limits.{Limits}
use Rattle.em_log.specs.Answers.{Takes}
use Rattle.em_log.specs.Items.{LogItem, Fixed}
use Rattle.em_log.specs.Lawful.{Lawful}
use Rattle.em_log.specs.Leads.{lead}
use Rattle.em_log.specs.Operations.{step}
use Rattle.em_desk.specs.State.{DeskState, IsAnswered, IsWaited}
use Rattle.em_turn.specs.Numbers.{OnlyOf}
use Rattle.em_board.specs.declared.shared_desk.Mark.{Mark}
use Rattle.em_board.specs.Marked.{history, is_marked, items_of, logged}

pub record SharedState : Type 0 where
  pub fixed : Fixed
  pub items : List LogItem

abbrev pub fixed_of : Declarations → Limits → Fixed
fixed_of k l = record { declarations = k; limits = l }

-- the desk whose history these items are
abbrev pub desk_at : Fixed → List LogItem → DeskState
desk_at f xs = record { declarations = f.declarations; limits = f.limits; past = history xs; halted = is_marked xs }

abbrev pub desk_in : SharedState → DeskState
desk_in s = desk_at s.fixed s.items

-- the desk is halted where there is a mark, which stands in its history and is of one of its cores
pub record IsMarked (desk : DeskState) (mark : Option Mark) : Type 0 where
  pub halted : desk.halted ≡ is_some mark
  pub place : IfSome mark (λ m. m.place ≤ length desk.past)
  pub core : IfSome mark (λ m. m.core.0 < desk.declarations.cores)

-- where there is a mark, it stands among the items of one of the cores
abbrev pub HasOwner : SharedState → Type 0
HasOwner s = is_marked s.items ≡ true → (d : ℕ) × (d < s.fixed.declarations.cores) × (is_marked (items_of d s.items) ≡ true)

-- these entries of core c were added
pub record Grows (old new : SharedState) (c : ℕ) (es : List Entry) : Type 0 where
  pub items : new.items ≡ old.items ++ logged es
  pub only : OnlyOf (c ∷ []) (logged es)
  pub fixed : new.fixed ≡ old.fixed
  pub lawful : Lawful new.fixed.declarations new.fixed.limits (history new.items)

-- a take answered so, by the desk's rules: its answer, whether a step is owed, and when it is to wait
pub record TakeAnswered (old new : DeskState) (c : ℕ) (reply : Reply) : Type 0 where
  pub takes : Takes old.declarations old.limits old.halted old.past c reply.answer new.past
  pub owed : reply.owed ≡ is_some (step old.declarations new.past c)
  pub idle : reply.answer ≡ Answer.Idle → IsWaited old.declarations old.limits old.past c

pub record SharedTook (old new : SharedState) (c : ℕ) (reply : Reply) : Type 0 where
  pub entries : List Entry
  pub grows : Grows old new c entries
  pub answered : TakeAnswered (desk_in old) (desk_in new) c reply

pub record SharedAnswered (old new : SharedState) (c : ℕ) (ask : Ask) (reply : Reply) : Type 0 where
  pub entries : List Entry
  pub grows : Grows old new c entries
  pub answered : IsAnswered (desk_in old) (desk_in new) c (lead old.fixed.declarations (history old.items) c ask) reply
