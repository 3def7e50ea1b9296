-- What a call does to a pass.
use Rattle.std.specs.Prelude.{ℕ, ◌≡◌, ◌+◌, Bool, true, false, List, [], ◌∷◌, ◌++◌, if◌then◌else◌}
use Rattle.em_log.specs.declared.ask.Ask.{Ask}
use Rattle.em_log.specs.declared.ask.Reply.{Reply}
use Rattle.em_log.specs.declared.entry.Entry.{Entry}
use Rattle.em_log.specs.declared.ids.CoreId.{CoreId}
use Rattle.em_log.specs.Items.{LogItem, Halted}
use Rattle.em_log.specs.History.{part, onto}
use Rattle.em_log.specs.Lawful.{Lawful}
use Rattle.em_log.specs.Leads.{lead}
use Rattle.em_desk.specs.State.{DeskState, IsAnswered}
use Rattle.em_turn.specs.Numbers.{NoneOf}
use Rattle.em_board.specs.Marked.{history, is_marked, logged}
use Rattle.em_board.specs.SharedDesks.{desk_at, TakeAnswered}
use Rattle.em_board.specs.Passes.{PassView, mine}

-- one turn of the pass: items of other cores come between, and then those of the call
pub record IsTurn (old new : PassView) (between added : List LogItem) : Type 0 where
  pub others : NoneOf (old.core ∷ []) between
  pub before : Lawful old.fixed.declarations old.fixed.limits (history (old.seen ++ between))
  pub seen : new.seen ≡ (old.seen ++ between) ++ added
  pub own : mine new ≡ mine old ++ added
  pub own_part : part (history new.seen) new.core ≡ history (mine new)
  pub turns : new.turns ≡ old.turns + 1
  pub board : new.board ≡ old.board
  pub core : new.core ≡ old.core
  pub fixed : new.fixed ≡ old.fixed
  pub lawful : Lawful new.fixed.declarations new.fixed.limits (history new.seen)

-- the ask was answered by the desk of all items before the call, and the pass has seen what the desk added
pub record IsAsked (old new : PassView) (ask : Ask) (reply : Reply) : Type 0 where
  pub between : List LogItem
  pub entries : List Entry
  pub turn : IsTurn old new between (logged entries)
  pub answered : IsAnswered (desk_at old.fixed (old.seen ++ between)) (desk_at new.fixed new.seen) old.core (lead old.fixed.declarations (history (old.seen ++ between)) old.core ask) reply

-- the same of a take
pub record IsTaken (old new : PassView) (reply : Reply) : Type 0 where
  pub between : List LogItem
  pub entries : List Entry
  pub turn : IsTurn old new between (logged entries)
  pub answered : TakeAnswered (desk_at old.fixed (old.seen ++ between)) (desk_at new.fixed new.seen) old.core reply

-- a take found no memory, and added nothing
abbrev pub IsUntaken : PassView → PassView → Type 0
IsUntaken old new = (between : List LogItem) × IsTurn old new between []

abbrev pub core_id : ℕ → CoreId
core_id c = record { 0 = c }

-- a halt put its mark where there was none
abbrev pub IsHalted : PassView → PassView → Type 0
IsHalted old new = (between : List LogItem) × IsTurn old new between (if is_marked (old.seen ++ between) then [] else Halted (core_id old.core) ∷ [])

-- the closed desk's history begins with what the pass has seen, and has the pass's entries, and no others, of its core
pub record Closes (desk : DeskState) (p : PassView) : Type 0 where
  pub declarations : desk.declarations ≡ p.fixed.declarations
  pub limits : desk.limits ≡ p.fixed.limits
  pub rest : List Entry
  pub seen : desk.past ≡ onto rest (history p.seen)
  pub own_part : part desk.past p.core ≡ history (mine p)
  pub halted : is_marked p.seen ≡ true → desk.halted ≡ true

abbrev pub ClosesEach : DeskState → List PassView → Type 0
ClosesEach desk [] = Unit {0}
ClosesEach desk (p ∷ ps) = Closes desk p × ClosesEach desk ps

-- the mark stands among the items of some pass
abbrev pub any_marked : List PassView → Bool
any_marked [] = false
any_marked (p ∷ ps) = if is_marked (mine p) then true else any_marked ps
