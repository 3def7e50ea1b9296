-- The steps of a run, and what it is told.
use Rattle.std.specs.Prelude.{ℕ, ◌≡◌, Bool, true, false, List, [], ◌∷◌, Option, Some, None, IsTrue}
use Rattle.std.specs.Option.{option_map}
use Rattle.em_log.specs.declared.ask.Answer.{Answer}
use Rattle.em_log.specs.declared.ask.Ask.{Ask}
use Rattle.em_log.specs.declared.ids.Cells.{Cells}
use Rattle.em_log.specs.declared.ids.EndKind.{EndKind}
use Rattle.em_log.specs.declared.entry.What.{What}
use Rattle.em_log.specs.declared.work.Move.{Move}
use Rattle.em_log.specs.declared.work.Work.{Ghosts}
use Rattle.em_log.specs.Works.{fits}
use Rattle.em_core.specs.declared.core_run.CoreRun.{CoreRun}
use Rattle.em_core.specs.declared.core_run.Stage.{Stage}
use Rattle.em_core.specs.declared.core_run.Step.{Step}
use Rattle.em_core.specs.Pieces.{Piece, HasNoRest, AreTail, IsLead}
use Rattle.em_core.specs.Spent.{spent, minted, Distinct, AreAmong, AreNew}

-- where a run stands

abbrev pub is_open_at : Stage → Bool
is_open_at (Stage.Open n) = true
is_open_at (Stage.Ending cells) = true
is_open_at _ = false

-- a context of the run is open
abbrev pub is_open : {W : Type 0} → CoreRun W → Bool
is_open run = is_open_at run.stage

abbrev pub over_at : Stage → Option Step
over_at (Stage.Over kind) = Some (Step.Over kind)
over_at Stage.Halted = Some Step.Halted
over_at _ = None

-- how the run was told that it has ended, if it was
abbrev pub over : {W : Type 0} → CoreRun W → Option Step
over run = over_at run.stage

abbrev pub unreplied_at : Option Ask → Stage → Option Step
unreplied_at a Stage.Taking = Some Step.Take
unreplied_at a (Stage.Open n) = option_map Step.Ask a
unreplied_at a (Stage.Ending cells) = Some (Step.Ask (Ask.End cells))
unreplied_at a _ = None

-- the step that wants a reply, if this one does
abbrev pub awaited : Step → Option Step
awaited Step.Take = Some Step.Take
awaited Step.Untake = Some Step.Untake
awaited (Step.Ask a) = Some (Step.Ask a)
awaited _ = None

-- what it may be told

-- the answers to a take
abbrev pub fits_take : Answer → Bool
fits_take (Answer.Context k) = true
fits_take (Answer.Acked op) = true
fits_take Answer.Idle = true
fits_take Answer.Quiet = true
fits_take Answer.Limit = true
fits_take Answer.Halted = true
fits_take _ = false

abbrev pub fits_step : Step → Answer → Bool
fits_step Step.Take x = fits_take x
fits_step (Step.Ask a) x = fits a x
fits_step _ x = false

-- a step is unreplied, and may be answered so
abbrev pub FitsStep : Option Step → Answer → Type 0
FitsStep None x = ⊥
FitsStep (Some s) x = IsTrue (fits_step s x)

-- the context of an answer has no further events
abbrev pub ToldNoRest : Answer → Type 0
ToldNoRest (Answer.Context k) = HasNoRest k
ToldNoRest _ = Unit {0}

-- how the answer ends the run, if it does
abbrev pub over_by : Answer → Option Step
over_by Answer.Quiet = Some (Step.Over EndKind.Quiet)
over_by Answer.Limit = Some (Step.Over EndKind.Limit)
over_by Answer.Halted = Some Step.Halted
over_by _ = None

abbrev pub spent_by : Option Step → Answer → List ℕ
spent_by (Some (Step.Ask a)) x = spent a x
spent_by _ x = []

-- the words that are spent are different handles that the context holds, and what is minted is none of these
pub record AreHandles (held : List ℕ) (step : Option Step) (x : Answer) : Type 0 where
  pub different : Distinct (spent_by step x)
  pub among : AreAmong (spent_by step x) held
  pub new : AreNew (minted x) held

-- what a reply adds to the list of a core
abbrev pub GrowsByTake : Answer → List Piece → List Piece → Type 0
GrowsByTake (Answer.Context k) m n = n ≡ Piece.Opened k ∷ m
GrowsByTake (Answer.Acked op) m n = (tail : List What) × AreTail tail × (n ≡ Piece.Acked op tail ∷ m)
GrowsByTake x m n = n ≡ m

-- an ask beside its answer and entry, and what follows
pub record GrowsByAsk (c : ℕ) (a : Ask) (x : Answer) (m n : List Piece) : Type 0 where
  pub entry : What
  pub tail : List What
  pub is_lead : IsLead c a x entry
  pub follow : AreTail tail
  pub is : n ≡ Piece.Answered entry tail a x ∷ m

abbrev pub Grows : ℕ → Option Step → Answer → List Piece → List Piece → Type 0
Grows c (Some Step.Take) x m n = GrowsByTake x m n
Grows c (Some (Step.Ask a)) x m n = GrowsByAsk c a x m n
Grows c _ x m n = ⊥

-- the steps that come

module _ {W : Type 0} (k : Ghosts W) where
  -- the step that has no reply yet
  abbrev pub unreplied : CoreRun W → Option Step
  unreplied run = unreplied_at (k.unanswered (k.state run.work)) run.stage

  -- the work makes this move
  abbrev pub Makes : W → Move → W → Type 0
  Makes was move now = k.Moves (k.fixed was) (k.state was) move (k.state now)

  -- the ask is one of the work, or the end of the context, with the work's cells
  pub data Asks (was now : W) (a : Ask) : Type 0 where
    Moved : Makes was (Move.Ask a) now → Asks was now a
    Ended : (cells : Option Cells) → a ≡ Ask.End cells → Makes was Move.End now → cells ≡ k.carried (k.state now)
        → Asks was now a

  -- the step that comes next, and the run after it
  abbrev pub Steps : CoreRun W → Step → CoreRun W → Type 0
  Steps was Step.Take now = (is_open was ≡ false) × (over was ≡ None) × (now ≡ record was { stage = Stage.Taking })
  Steps was Step.Untake now = ⊥
  Steps was (Step.Ask a) now = (is_open was ≡ true) × Asks was.work now.work a
  Steps was Step.Silent now = (is_open was ≡ true) × Makes was.work Move.Silent now.work × (now.stage ≡ was.stage)
  Steps was s now = (over was ≡ Some s) × (now ≡ was)
