-- A script that is read: its lines are those of the graph, arranged.
use Rattle.std.proofs.Common.{◌≡◌, ℕ, Bool, true, false, not, cond, ◌≤◌, List, [], ◌∷◌, ◌++◌, Ok, arith, refl, sym, ap, subst, ◌∙◌, append_assoc, append-nil, inl, inr}
use Rattle.std.specs.Prelude.{map}
use Rattle.em_log.specs.declared.graph.Config.{Config}
use Rattle.em_script.specs.declared.line.Line.{Line}
use Rattle.em_script.specs.Lines.{lines, tokens}
use Rattle.em_script.specs.Names.{writing}
use Rattle.em_script.specs.Spelling.{line_tokens}
use Rattle.em_script.specs.State.{State, first_state, after, after_all}
use Rattle.em_script.specs.Judging.{is_skipped}
use Rattle.em_script.specs.Reading.{script_of}
use Rattle.em_script.specs.Scripts.{IsScript}
use Rattle.em_script.proofs.Judgments.{Said, said-rule}
use Rattle.em_script.proofs.Running.{Steps, Run, run-of-script, steps-plain, shown_lines}
use Rattle.em_script.proofs.Agreeing.{Agree, Extends, agree-first, agree-after, extends-after, extends-same, extends-then}
use Rattle.em_script.proofs.Standing.{said-stands}
use Rattle.em_script.proofs.PlacesRead.{said-place}
use Rattle.em_script.proofs.CoresRead.{said-cores}
use Rattle.em_script.proofs.Lowering.{said-met}
use Rattle.em_script.proofs.Taken.{ArePlain, plain-first, said-plain, said-tokens}
use Rattle.em_script.proofs.Arranging.{Arrangement, Arranged, arrangement-first, arrangement-after, arranged-at_end}

-- the names that stand for something are tokens, and mean what the graph declares
pub record Sound (s : State) : Type 0 where
  pub agree : Agree s.graph s.table
  pub plain : ArePlain s.table
  pub cores : s.graph.cores ≤ 8

pub sound-first : Sound first_state
sound-first = record { agree = agree-first; plain = plain-first; cores = omega arith }

pub sound-after : (s : State) (bytes : List ℕ) (l : Line) → Said s bytes l → Sound s → Sound (after l s)
sound-after s bytes l said sound = record {
  agree = agree-after l s sound.agree;
  plain = said-plain s bytes l said (said-met s bytes l said) sound.agree sound.plain sound.cores;
  cores = said-cores s bytes l said sound.cores;
}

-- what holds of a state that lines from the first one have reached
pub record Reached (s : State) (says : List Line) : Type 0 where
  pub sound : Sound s
  pub arrangement : Arrangement s says

pub reached-after : (s : State) (bytes : List ℕ) (l : Line) (says : List Line) → Said s bytes l → Reached s says → Reached (after l s) (says ++ l ∷ [])
reached-after s bytes l says said r = record {
  sound = sound-after s bytes l said r.sound;
  arrangement = arrangement-after l s says (said-stands s bytes l said) (said-rule s bytes l said) (said-place s bytes l said r.sound.agree) r.arrangement;
}

reached-by : (ls : List (List ℕ)) (s : State) (front says : List Line) → Steps s ls says → Reached s front → Reached (after_all says s) (front ++ says)
reached-by [] s front says h r = rw h (subst (Reached s) (sym (append-nil front)) r)
reached-by (line ∷ more) s front says (inl h) r = reached-by more s front says h.2 r
reached-by (line ∷ more) s front says (inr h) r =
    let next = reached-by more (after h.0 s) (front ++ h.0 ∷ []) h.1 h.4 (reached-after s line h.0 front h.3 r) in
    let whole = subst (Reached (after_all h.1 (after h.0 s))) (append_assoc front (h.0 ∷ []) h.1) next in
    subst (λ ls. Reached (after_all ls s) (front ++ ls)) (sym h.2) whole

pub run-arranged : (bytes : List ℕ) (g : Config) (run : Run first_state (lines bytes) g) → Arranged g run.says
run-arranged bytes g run =
    let r = reached-by (lines bytes) first_state [] run.says run.steps (record { sound = sound-first; arrangement = arrangement-first }) in
    subst (λ (h : Config). Arranged h run.says) run.graph (arranged-at_end (after_all run.says first_state) run.says run.done r.arrangement)

-- ---- tokens

extends-all : (ls : List Line) (s : State) → Extends s.graph (after_all ls s).graph
extends-all [] s = extends-same s.graph
extends-all (l ∷ ls) s = extends-then s.graph (after l s).graph (after_all ls (after l s)).graph (extends-after l s) (extends-all ls (after l s))

shown-skipped : (t : Bool) (ts : List (List ℕ)) (more : List (List (List ℕ))) → t ≡ true → cond (not t) (ts ∷ more) more ≡ more
shown-skipped t ts more e = rw e refl

shown-said : (t : Bool) (ts : List (List ℕ)) (more : List (List (List ℕ))) → t ≡ false → cond (not t) (ts ∷ more) more ≡ ts ∷ more
shown-said t ts more e = rw e refl

steps-written : (ls : List (List ℕ)) (s : State) (says : List Line) → Steps s ls says → Sound s → (g : Config) → Extends (after_all says s).graph g → shown_lines ls ≡ map (line_tokens (writing g)) says
steps-written [] s says h sound g ext = rw h refl
steps-written (line ∷ more) s says (inl h) sound g ext =
    shown-skipped (is_skipped (tokens line)) (tokens line) (shown_lines more) h.1 ∙ steps-written more s says h.2 sound g ext
steps-written (line ∷ more) s says (inr h) sound g ext =
    let l = h.0 in
    let further = subst (λ ls. Extends (after_all ls s).graph g) h.2 ext in
    let here = said-tokens s line l h.3 (said-met s line l h.3) sound.agree sound.plain sound.cores g (extends-then (after l s).graph (after_all h.1 (after l s)).graph g (extends-all h.1 (after l s)) further) in
    shown-said (is_skipped (tokens line)) (tokens line) (shown_lines more) h.3.shown
    ∙ (λ i. here i ∷ steps-written more (after l s) h.1 h.4 (sound-after s line l h.3 sound) g further i)
    ∙ ap (map (line_tokens (writing g))) (sym h.2)

-- what is read is a script of the graph that is found
pub script-found : (bytes : List ℕ) (g : Config) → script_of bytes ≡ Ok g → IsScript bytes g
script-found bytes g e =
    let run = run-of-script bytes g e in
    let arranged = run-arranged bytes g run in
    let written = steps-written (lines bytes) first_state run.says run.steps sound-first g (subst (λ (h : Config). Extends h g) (sym run.graph) (extends-same g)) in
    record {
      plain = steps-plain (lines bytes) first_state run.says run.steps;
      bodies = arranged.bodies;
      same = arranged.same;
      written = written ∙ ap (map (line_tokens (writing g))) arranged.lines;
    }
