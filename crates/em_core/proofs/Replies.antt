-- Which step has no reply yet at a stage, and the replies that fit it.
use Rattle.std.proofs.Common.{◌≡◌, ◌⊎◌, inl, inr, ℕ, ◌≤◌, true, List, length, Option, Some, None, refl, sym, subst, arith}
use Rattle.std.specs.Prelude.{IsTrue}
use Rattle.std.specs.Option.{option_map}
use Rattle.em_log.specs.declared.ask.Answer.{Answer}
use Rattle.em_log.specs.declared.ask.Ask.{Ask}
use Rattle.em_log.specs.declared.ask.Context.{Context}
use Rattle.em_log.specs.declared.ids.Cells.{Cells}
use Rattle.em_log.specs.declared.ids.OpId.{OpId}
use Rattle.em_log.specs.Works.{fits}
use Rattle.em_core.specs.declared.core_run.Stage.{Stage}
use Rattle.em_core.specs.declared.core_run.Step.{Step}
use Rattle.em_core.specs.Spent.{IsDone}
use Rattle.em_core.specs.Steps.{is_open_at, unreplied_at, FitsStep, fits_take, AreHandles}
use Rattle.em_core.specs.Stands.{AreCounted, words_of}
use Rattle.em_core.proofs.Handles.{length-without_all}

-- an open context whose last ask has its answer
pub record IsFree (u : Option Ask) (stage : Stage) : Type 0 where
  pub words : ℕ
  pub is : stage ≡ Stage.Open words
  pub answered : u ≡ None

unasked : (u : Option Ask) → option_map Step.Ask u ≡ None → u ≡ None
unasked None none = refl
unasked (Some a) none = absurd cc

pub open-free : (u : Option Ask) (stage : Stage) → is_open_at stage ≡ true → unreplied_at u stage ≡ None → IsFree u stage
open-free u (Stage.Open n) is none = record { words = n; is = refl; answered = unasked u none }
open-free u (Stage.Ending cells) is none = absurd cc
open-free u stage is none = absurd cc

-- an ask that has no answer yet
pub record OpenAsk (u : Option Ask) (unreplied : Option Step) (x : Answer) : Type 0 where
  pub ask : Ask
  pub unanswered : u ≡ Some ask
  pub step : unreplied ≡ Some (Step.Ask ask)
  pub fits : IsTrue (fits ask x)

open-asks-at : (u : Option Ask) (x : Answer) → FitsStep (option_map Step.Ask u) x → OpenAsk u (option_map Step.Ask u) x
open-asks-at None x fit = absurd fit
open-asks-at (Some a) x fit = record { ask = a; unanswered = refl; step = refl; fits = fit }

pub open-asks : (u : Option Ask) (stage : Stage) (n : ℕ) (x : Answer) → stage ≡ Stage.Open n → FitsStep (unreplied_at u stage) x
    → OpenAsk u (unreplied_at u stage) x
open-asks u stage n x is fit =
    subst (λ (g : Stage). OpenAsk u (unreplied_at u g) x) (sym is)
    (open-asks-at u x (subst (λ (g : Stage). FitsStep (unreplied_at u g) x) is fit))

-- otherwise nothing may be told
pub no-step : (u : Option Ask) (stage : Stage) (x : Answer) → FitsStep (unreplied_at u stage) x → (stage ≡ Stage.Taking → ⊥)
    → ((n : ℕ) → stage ≡ Stage.Open n → ⊥) → ((cells : Option Cells) → stage ≡ Stage.Ending cells → ⊥) → ⊥
no-step u Stage.Taking x fit taking at ending = taking refl
no-step u (Stage.Open n) x fit taking at ending = at n refl
no-step u (Stage.Ending cells) x fit taking at ending = ending cells refl
no-step u stage x fit taking at ending = fit

-- a take that begins no context and ends no run
pub take-rests : (x : Answer) → IsTrue (fits_take x) → ((k : Context) → x ≡ Answer.Context k → ⊥) → (x ≡ Answer.Quiet → ⊥)
    → (x ≡ Answer.Limit → ⊥) → (x ≡ Answer.Halted → ⊥) → (x ≡ Answer.Idle) ⊎ ((op : OpId) × (x ≡ Answer.Acked op))
take-rests (Answer.Context k) fit context quiet limit halted = absurd (context k refl)
take-rests (Answer.Acked op) fit context quiet limit halted = inr (op, refl)
take-rests Answer.Idle fit context quiet limit halted = inl refl
take-rests Answer.Quiet fit context quiet limit halted = absurd (quiet refl)
take-rests Answer.Limit fit context quiet limit halted = absurd (limit refl)
take-rests Answer.Halted fit context quiet limit halted = absurd (halted refl)
take-rests x fit context quiet limit halted = absurd cc

-- what an ask spends when it is done is held
few-done : (u : Option Ask) (n words : ℕ) (hs : List ℕ) → AreCounted n hs → words ≡ length (words_of u)
    → AreHandles hs (option_map Step.Ask u) Answer.Done → words ≤ n
few-done None n words hs counted is handles = omega arith
few-done (Some a) n words hs counted is handles =
    let less = length-without_all (words_of (Some a)) hs counted.distinct handles.different handles.among in
    omega (arith, less, counted.count)

pub few-words : (u : Option Ask) (stage : Stage) (n words : ℕ) (x : Answer) (hs : List ℕ) → IsDone x → stage ≡ Stage.Open words
    → AreCounted n hs → words ≡ length (words_of u) → AreHandles hs (unreplied_at u stage) x → words ≤ n
few-words u stage n words Answer.Done hs done is counted words_is handles =
    few-done u n words hs counted words_is (subst (λ (g : Stage). AreHandles hs (unreplied_at u g) Answer.Done) is handles)
few-words u stage n words x hs done is counted words_is handles = absurd done
