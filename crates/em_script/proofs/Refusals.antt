-- A refusal is decided by the lines up to the one that fails.
use Rattle.std.proofs.Common.{◌≡◌, ℕ, zero, suc, ◌+◌, ◌≤◌, Bool, true, false, cond, List, [], ◌∷◌, take, Result, Ok, Err, refl, sym, ap, subst, ◌∙◌, arith}
use Rattle.em_log.specs.declared.graph.Config.{Config}
use Rattle.em_script.specs.declared.judging.Judged.{Judged}
use Rattle.em_script.specs.declared.judging.Judged.TheVariants as judgments
use Rattle.em_script.specs.Lines.{lines}
use Rattle.em_script.specs.State.{State, first_state, after}
use Rattle.em_script.specs.Judging.{judge}
use Rattle.em_script.specs.Reading.{Found, is_done, followed, found_from, script_of}

err-is : (x y : ℕ × ℕ) → ◌≡◌ {A = Found} (Err x) (Err y) → x ≡ y
err-is x y e = cc

at-end : (b : Bool) (g : Config) (number line rule : ℕ) → ◌≡◌ {A = Found} (cond b (Ok g) (Err (number, 11))) (Err (line, rule)) → line ≡ number
at-end true g number line rule e = absurd cc
at-end false g number line rule e = sym (ap (λ p. p.0) (err-is (number, 11) (line, rule) e))

-- what fails is the line itself, or one behind it
followed-later : (number : ℕ) (s : State) (j : Judged) (f : State → Found) (line rule : ℕ)
    → ((next : State) → f next ≡ Err (line, rule) → number + 1 ≤ line) → followed number s j f ≡ Err (line, rule) → number ≤ line
followed-later number s judgments.Skipped f line rule later e = let h = later s e in omega (arith, h)
followed-later number s (judgments.Says l) f line rule later e = let h = later (after l s) e in omega (arith, h)
followed-later number s (judgments.Refused r) f line rule later e =
    let same : number ≡ line = ap (λ p. p.0) (err-is (number, r) (line, rule) e) in omega (arith, same)

-- no line before the first fails
later : (ls : List (List ℕ)) (number : ℕ) (s : State) (line rule : ℕ) → found_from number s ls ≡ Err (line, rule) → number ≤ line
unfolding found_from
later [] number s line rule e = let same = at-end (is_done s.phase) s.graph number line rule e in omega (arith, same)
later (l ∷ more) number s line rule e =
    followed-later number s (judge s l) (λ next. found_from (number + 1) next more) line rule (λ next. later more (number + 1) next line rule) e

followed-same : (number : ℕ) (s : State) (j : Judged) (f g : State → Found) (line rule : ℕ)
    → ((next : State) → f next ≡ Err (line, rule) → g next ≡ Err (line, rule))
    → followed number s j f ≡ Err (line, rule) → followed number s j g ≡ Err (line, rule)
followed-same number s judgments.Skipped f g line rule same e = same s e
followed-same number s (judgments.Says l) f g line rule same e = same (after l s) e
followed-same number s (judgments.Refused r) f g line rule same e = e

-- where n lines are the same, and the one that fails is among them
refused-again : (n : ℕ) (ls ms : List (List ℕ)) (number : ℕ) (s : State) (line rule : ℕ) → line + 1 ≡ number + n
    → found_from number s ls ≡ Err (line, rule) → take n ls ≡ take n ms → found_from number s ms ≡ Err (line, rule)
unfolding found_from
refused-again zero ls ms number s line rule reach e same = let h = later ls number s line rule e in absurd (omega (arith, h, reach))
refused-again (suc n) [] [] number s line rule reach e same = e
refused-again (suc n) [] (m ∷ ms) number s line rule reach e same = absurd cc
refused-again (suc n) (l ∷ ls) [] number s line rule reach e same = absurd cc
refused-again (suc n) (l ∷ ls) (m ∷ ms) number s line rule reach e same =
    let first : l ≡ m = cc in
    let others : take n ls ≡ take n ms = cc in
    let next = λ (t : State). refused-again n ls ms (number + 1) t line rule (omega (arith, reach)) in
    subst (λ x. followed number s (judge s x) (λ t. found_from (number + 1) t ms) ≡ Err (line, rule)) first
    (followed-same number s (judge s l) (λ t. found_from (number + 1) t ls) (λ t. found_from (number + 1) t ms) line rule (λ t h. next t h others) e)

pub refused-by-first-lines : (bytes others : List ℕ) (line rule : ℕ) → script_of bytes ≡ Err (line, rule)
    → take line (lines bytes) ≡ take line (lines others) → script_of others ≡ Err (line, rule)
unfolding script_of
refused-by-first-lines bytes others line rule e same =
    refused-again line (lines bytes) (lines others) 1 first_state line rule (omega arith) e same
