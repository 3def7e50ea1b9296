-- The list of its core's entries that a run stands for.
use Rattle.std.specs.Prelude.{ℕ, ◌≡◌, Bool, true, not, List, [], ◌∷◌, length, Option, Some, None, IsTrue}
use Rattle.std.specs.Option.{option_map}
use Rattle.em_log.specs.declared.ask.Answer.{Answer}
use Rattle.em_log.specs.declared.ask.Ask.{Ask}
use Rattle.em_log.specs.declared.ask.Context.{Context}
use Rattle.em_log.specs.declared.ids.Cells.{Cells}
use Rattle.em_log.specs.declared.work.Move.{Move}
use Rattle.em_log.specs.declared.work.Work.{Ghosts}
use Rattle.em_log.specs.Contexts.{context}
use Rattle.em_log.specs.Handles.{held}
use Rattle.em_log.specs.Works.{Exchange, Reached, is_end}
use Rattle.em_core.specs.declared.core_run.CoreRun.{CoreRun}
use Rattle.em_core.specs.declared.core_run.Stage.{Stage}
use Rattle.em_core.specs.Pieces.{Piece, begun_by, history, ArePieces, open_context, exchanges}
use Rattle.em_core.specs.Spent.{words_in, Distinct, AreWords}
use Rattle.em_core.specs.Steps.{unreplied, AreHandles}

-- the ask that may be unanswered while a context is open is no end
abbrev pub is_no_end : Option Ask → Bool
is_no_end None = true
is_no_end (Some a) = not (is_end a)

-- the words that it would spend
abbrev pub words_of : Option Ask → List ℕ
words_of None = []
words_of (Some a) = words_in a

-- so many handles, no two the same
pub record AreCounted (n : ℕ) (handles : List ℕ) : Type 0 where
  pub count : n ≡ length handles
  pub distinct : Distinct handles
  pub words : AreWords handles

module _ {W : Type 0} (k : Ghosts W) where
  -- the work is in this state after these exchanges of a context
  abbrev pub IsReached : k.Fixed → Context → List Exchange → k.State → Type 0
  IsReached f context es now = Reached k.Begins k.Moves k.Leaves k.unanswered f context es now

  -- the open context has come so far; where an ask of it is unanswered, it would spend n words
  pub record IsAt (f : k.Fixed) (current : Option Context) (es : List Exchange) (now : k.State) (n : ℕ) : Type 0 where
    pub context : Context
    pub is_open : current ≡ Some context
    pub reached : IsReached f context es now
    pub no_end : IsTrue (is_no_end (k.unanswered now))
    pub words : n ≡ length (words_of (k.unanswered now))

  -- from the state that it has reached, in which each ask has its answer, the work has moved to its end, and these are
  -- its cells there
  pub record IsOver (f : k.Fixed) (current : Option Context) (es : List Exchange) (now : k.State) (cells : Option Cells) : Type 0 where
    pub context : Context
    pub was : k.State
    pub is_open : current ≡ Some context
    pub reached : IsReached f context es was
    pub answered : k.unanswered was ≡ None
    pub ends : k.Moves f was Move.End now
    pub carried : cells ≡ k.carried now

  abbrev pub IsAtStage : k.Fixed → Option Context → List Exchange → k.State → Stage → Type 0
  IsAtStage f current es now (Stage.Open n) = IsAt f current es now n
  IsAtStage f current es now (Stage.Ending cells) = IsOver f current es now cells
  IsAtStage f current es now _ = current ≡ None

  abbrev pub EndsSo : k.Fixed → Option Context → List Exchange → Ask → Type 0
  EndsSo f current es (Ask.End cells) = (now : k.State) × IsOver f current es now cells
  EndsSo f current es _ = Unit {0}

  -- the work came to the end of each context that has ended, and the end carries the work's cells
  abbrev pub EachEnded : k.Fixed → List Piece → Type 0
  EachEnded f [] = Unit {0}
  EachEnded f (Piece.Opened c ∷ m) = EachEnded f m
  EachEnded f (Piece.Acked op tail ∷ m) = EachEnded f m
  EachEnded f (Piece.Answered w tail a x ∷ m) = EndsSo f (open_context m) (exchanges m) a × EachEnded f m

  -- the run of core c, whose work was made with f, stands for these pieces
  pub record Stands (run : CoreRun W) (c : ℕ) (f : k.Fixed) (m : List Piece) : Type 0 where
    pub core : run.core.0 ≡ c
    pub fixed : k.fixed run.work ≡ f
    pub pieces : ArePieces c m
    pub opened : context (history c m) c ≡ option_map begun_by (open_context m)
    pub stage : IsAtStage f (open_context m) (exchanges m) (k.state run.work) run.stage
    pub ended : EachEnded f m
    pub held : AreCounted run.held (held (history c m) c)
    pub locals : run.locals ≡ []

  -- the run stands for some list, whose open context holds the handles that this answer spends
  pub record HoldsHandles (run : CoreRun W) (x : Answer) : Type 0 where
    pub core : ℕ
    pub fixed : k.Fixed
    pub pieces : List Piece
    pub stands : Stands run core fixed pieces
    pub handles : AreHandles (held (history core pieces) core) (unreplied k run) x
