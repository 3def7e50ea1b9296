-- What a core does, one move after another, and when the desk takes it.
use Rattle.std.specs.Prelude.{ℕ, ◌≡◌, ◌≤◌, ◌<◌, false, List, [], ◌∷◌, Option, Some, None, IsTrue}
use Rattle.em_log.specs.declared.ask.Answer.{Answer}
use Rattle.em_log.specs.declared.ask.Ask.{Ask}
use Rattle.em_log.specs.declared.declarations.Declarations.{Declarations}
use Rattle.em_log.specs.declared.ids.Cells.{Cells}
use Rattle.em_log.specs.History.{Past, entry_by}
use Rattle.em_log.specs.Contexts.{context}
use Rattle.em_log.specs.Places.{taken}
use Rattle.em_log.specs.Leads.{lead}
use Rattle.em_log.specs.Lawful.{may_ask}
use Rattle.em_log.specs.Allowance.{cost_of_ask, left}
use Rattle.em_log.specs.Answers.{Takes, block}
use Rattle.em_desk.specs.State.{DeskState}
use Rattle.em_desk.specs.Served.{served}
use Rattle.em_desk_rows.specs.declared.moves.Move.{Move}

-- a run that has not begun, of at most n receives
abbrev pub fresh : Declarations → ℕ → DeskState
fresh k n = record { declarations = k; limits = record { receives = n; burst = 1 }; past = []; halted = false }

-- moves

-- eight cells, all but the first of them 0
abbrev pub first_cell : ℕ → Cells
first_cell v = record { 0 = v ∷ 0 ∷ 0 ∷ 0 ∷ 0 ∷ 0 ∷ 0 ∷ 0 ∷ [] }

-- the ask of a move: none where it takes
abbrev pub ask_of : Move → Option Ask
ask_of Move.Take = None
ask_of (Move.Alloc kind) = Some (Ask.Alloc (record { 0 = 0 }) kind [])
ask_of (Move.Free w) = Some (Ask.Free w)
ask_of (Move.Send w) = Some (Ask.Send w (record { 0 = 0 }) None)
ask_of (Move.SendTo w q) = Some (Ask.Send w (record { 0 = q }) None)
ask_of (Move.Keep w) = Some (Ask.Keep w)
ask_of Move.Claim = Some Ask.Claim
ask_of (Move.Dequeue q) = Some (Ask.Dequeue (record { 0 = q }))
ask_of Move.Cell = Some Ask.Cell
ask_of (Move.Say v) = Some (Ask.Say v)
ask_of (Move.EndAtomic v) = Some (Ask.EndAtomic (first_cell v))
ask_of Move.End = Some (Ask.End None)
ask_of (Move.EndWith v) = Some (Ask.End (Some (first_cell v)))

-- core c of this run may take
pub record MayTake (d : DeskState) (c : ℕ) : Type 0 where
  pub core : c < d.declarations.cores
  pub closed : context d.past c ≡ None
  pub untaken : taken d.declarations d.past c ≡ []

-- core c of this run may make this ask
pub record MayAsk (d : DeskState) (c : ℕ) (ask : Ask) : Type 0 where
  pub core : c < d.declarations.cores
  pub may_ask : IsTrue (may_ask d.declarations d.past c ask)
  pub allowance : cost_of_ask ask ≤ left d.declarations d.past c
  pub served : IsTrue (served d.declarations ask)

-- the run with another history
abbrev pub with_past : DeskState → Past → DeskState
with_past d past = record d { past = past }

-- core c takes where there is no ask, else it asks: it may, and whatever history comes of it, more holds there
abbrev pub Moves : DeskState → ℕ → Option Ask → (DeskState → Type 0) → Type 0
Moves d c None more =
    MayTake d c
    × ((answer : Answer) (now : Past) → Takes d.declarations d.limits d.halted d.past c answer now → more (with_past d now))
Moves d c (Some ask) more =
    MayAsk d c ask × more (with_past d (block d.declarations d.past (entry_by c (lead d.declarations d.past c ask))))

-- each of these moves may be made when its turn comes, whatever the takes before it have answered
abbrev pub Drives : DeskState → List (ℕ × Move) → Type 0
Drives d [] = Unit {0}
Drives d (m ∷ ms) = Moves d m.0 (ask_of m.1) (λ now. Drives now ms)

-- a move of core c leads to a run where more holds: a take by one of its answers
abbrev pub Leads : DeskState → ℕ → Option Ask → (DeskState → Type 0) → Type 0
Leads d c None more =
    (answer : Answer)
    × ((now : Past) × (Takes d.declarations d.limits d.halted d.past c answer now × more (with_past d now)))
Leads d c (Some ask) more = more (with_past d (block d.declarations d.past (entry_by c (lead d.declarations d.past c ask))))

-- these moves, made in turn, lead from one run to the other
abbrev pub Makes : DeskState → List (ℕ × Move) → DeskState → Type 0
Makes old [] new = new ≡ old
Makes old (m ∷ ms) new = Leads old m.0 (ask_of m.1) (λ now. Makes now ms new)
