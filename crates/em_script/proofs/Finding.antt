-- What is found from a line on, by what the line comes to.
use Rattle.std.proofs.Common.{◌≡◌, ℕ, ◌+◌, List, [], ◌∷◌, Ok, Err, false, cond, refl, ap, ◌≢◌}
use Rattle.em_script.specs.declared.phase.Phase.{Phase}
use Rattle.em_script.specs.declared.phase.Phase.TheVariants as phases
use Rattle.em_script.specs.declared.line.Line.{Line}
use Rattle.em_script.specs.declared.judging.Judged.TheVariants as judgments
use Rattle.em_script.specs.Lines.{lines}
use Rattle.em_script.specs.State.{State, first_state, after}
use Rattle.em_script.specs.Judging.{judge}
use Rattle.em_script.specs.Reading.{followed, found_from, is_done, script_of}

pub found-end : (number : ℕ) (s : State) → found_from number s [] ≡ cond (is_done s.phase) (Ok s.graph) (Err (number, 11))
unfolding found_from
found-end number s = refl

pub found-refused : (number : ℕ) (s : State) (line : List ℕ) (more : List (List ℕ)) (rule : ℕ) → judge s line ≡ judgments.Refused rule → found_from number s (line ∷ more) ≡ Err (number, rule)
unfolding found_from
found-refused number s line more rule e = ap (λ j. followed number s j (λ next. found_from (number + 1) next more)) e

pub found-skipped : (number : ℕ) (s : State) (line : List ℕ) (more : List (List ℕ)) → judge s line ≡ judgments.Skipped → found_from number s (line ∷ more) ≡ found_from (number + 1) s more
unfolding found_from
found-skipped number s line more e = ap (λ j. followed number s j (λ next. found_from (number + 1) next more)) e

pub found-says : (number : ℕ) (s : State) (line : List ℕ) (more : List (List ℕ)) (says : Line) → judge s line ≡ judgments.Says says → found_from number s (line ∷ more) ≡ found_from (number + 1) (after says s) more
unfolding found_from
found-says number s line more says e = ap (λ j. followed number s j (λ next. found_from (number + 1) next more)) e

pub script-begins : (bytes : List ℕ) → found_from 1 first_state (lines bytes) ≡ script_of bytes
unfolding script_of
script-begins bytes = refl

pub lines-none : lines [] ≡ []
unfolding lines
lines-none = refl

pub not-done : (p : Phase) → p ≢ phases.Done → is_done p ≡ false
not-done phases.First h = refl
not-done phases.Declarations h = refl
not-done phases.Bodies h = refl
not-done (phases.Body p) h = refl
not-done phases.Done h = absurd (h refl)
