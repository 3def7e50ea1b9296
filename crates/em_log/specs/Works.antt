-- The moves of a work, the answers that fit its asks, and the states that a context reaches.
use Rattle.std.specs.Prelude.{Bool, true, false, List, [], ◌∷◌, Option, Some, None, ◌≡◌, IsTrue}
use Rattle.em_log.specs.declared.ask.Answer.{Answer}
use Rattle.em_log.specs.declared.ask.Ask.{Ask}
use Rattle.em_log.specs.declared.ask.Context.{Context}
use Rattle.em_log.specs.declared.work.Move.{Move}

-- the ask that a move leaves unanswered
abbrev pub asked : Move → Option Ask
asked (Move.Ask a) = Some a
asked _ = None

abbrev pub is_end : Ask → Bool
is_end (Ask.End cells) = true
is_end _ = false

-- a context ends by a move of its own, and never by an ask
abbrev pub asks_no_end : Move → Bool
asks_no_end (Move.Ask (Ask.End cells)) = false
asks_no_end _ = true

-- claims, notes of a value and ends are never refused
abbrev pub may_be_refused : Ask → Bool
may_be_refused Ask.Claim = false
may_be_refused (Ask.Say v) = false
may_be_refused (Ask.End cells) = false
may_be_refused _ = true

abbrev pub may_mint : Ask → Bool
may_mint (Ask.Alloc p kind words) = true
may_mint Ask.Claim = true
may_mint (Ask.Dequeue q) = true
may_mint _ = false

abbrev pub may_find_nothing : Ask → Bool
may_find_nothing Ask.Claim = true
may_find_nothing (Ask.Dequeue q) = true
may_find_nothing _ = false

-- what mints is answered with its event, and to write a cell or to fail is always refused
abbrev pub may_be_done : Ask → Bool
may_be_done (Ask.Alloc p kind words) = false
may_be_done Ask.Claim = false
may_be_done (Ask.Dequeue q) = false
may_be_done Ask.Cell = false
may_be_done Ask.Fail = false
may_be_done _ = true

-- whether an ask may be answered so
abbrev pub fits : Ask → Answer → Bool
fits a (Answer.Refused f) = may_be_refused a
fits a (Answer.Minted e) = may_mint a
fits a Answer.Nothing = may_find_nothing a
fits a Answer.Done = may_be_done a
fits a _ = false

-- an ask is unanswered, and may be answered so
abbrev pub Fits : Option Ask → Answer → Type 0
Fits None x = ⊥
Fits (Some a) x = IsTrue (fits a x)

-- an ask and its answer
pub record Exchange : Type 0 where
  pub ask : Ask
  pub answer : Answer

-- the state in which a work stands after these exchanges of a context, the newest first: an ask that is not answered
-- yet is none of them
pub data Reached {Fixed State : Type 0} (Begins : Fixed → Context → State → Type 0) (Moves : Fixed → State → Move → State → Type 0)
    (Leaves : Fixed → State → Answer → State → Type 0) (unanswered : State → Option Ask) (f : Fixed) (context : Context)
    : List Exchange → State → Type 0 where
  Begun : (es : List Exchange) (now : State) → es ≡ [] → Begins f context now
      → Reached Begins Moves Leaves unanswered f context es now
  Silent : (es : List Exchange) (was now : State) → Reached Begins Moves Leaves unanswered f context es was
      → Moves f was Move.Silent now → Reached Begins Moves Leaves unanswered f context es now
  Asked : (es : List Exchange) (was now : State) (a : Ask) → Reached Begins Moves Leaves unanswered f context es was
      → Moves f was (Move.Ask a) now → Reached Begins Moves Leaves unanswered f context es now
  Answered : (es before : List Exchange) (was now : State) (a : Ask) (x : Answer)
      → Reached Begins Moves Leaves unanswered f context before was → unanswered was ≡ Some a → IsTrue (fits a x)
      → Leaves f was x now → es ≡ record { ask = a; answer = x } ∷ before
      → Reached Begins Moves Leaves unanswered f context es now
