-- The lines that were read, where a graph is found.
use Rattle.std.proofs.Common.{◌≡◌, ℕ, ◌+◌, Bool, true, false, not, cond, List, [], ◌∷◌, Some, None, Ok, Err, refl, sym, ◌∙◌, inl, inr, ◌⊎◌}
use Rattle.std.specs.Prelude.{◌&&◌, filter, map}
use Rattle.std.specs.List.{list_all}
use Rattle.em_log.specs.declared.graph.Config.{Config}
use Rattle.em_script.specs.declared.line.Line.{Line}
use Rattle.em_script.specs.declared.judging.Judged.{Judged}
use Rattle.em_script.specs.declared.judging.Judged.TheVariants as judgments
use Rattle.em_script.specs.declared.phase.Phase.{Phase}
use Rattle.em_script.specs.declared.phase.Phase.TheVariants as phases
use Rattle.em_script.specs.Lines.{lines, tokens, is_plain_line}
use Rattle.em_script.specs.State.{State, first_state, after, after_all}
use Rattle.em_script.specs.Judging.{judge, judge_tokens, is_skipped, resolved, read_by_phase}
use Rattle.em_script.specs.Reading.{Found, found_from, is_done, script_of}
use Rattle.em_script.proofs.Judgments.{Said, whole, judge-says}
use Rattle.em_script.proofs.Finding.{found-end, found-refused, found-skipped, found-says, script-begins}

-- What the lines from this state on say. A line without tokens, or with a comment, says nothing.
abbrev pub Steps : State → List (List ℕ) → List Line → Type 0
Steps s [] says = says ≡ []
Steps s (line ∷ more) says =
    ((is_plain_line line ≡ true) × (is_skipped (tokens line) ≡ true) × Steps s more says)
    ⊎ ((first : Line) × (rest : List Line) × (says ≡ first ∷ rest) × Said s line first × Steps (after first s) more rest)

-- the lines of a script, and the graph to which they lead
pub record Run (s : State) (ls : List (List ℕ)) (g : Config) : Type 0 where
  pub says : List Line
  pub steps : Steps s ls says
  pub done : (after_all says s).phase ≡ phases.Done
  pub graph : (after_all says s).graph ≡ g

told-tells : (t : Bool) (line : Line) (rule : ℕ) → cond t (judgments.Says line) (judgments.Refused rule) ≡ judgments.Skipped → ⊥
told-tells true line rule e = cc
told-tells false line rule e = cc

resolved-tells : (s : State) (r : _) → resolved s r ≡ judgments.Skipped → ⊥
resolved-tells s None e = cc
resolved-tells s (Some x) e = told-tells _ _ _ e

tokens-skipped : (t : Bool) (s : State) (r : _) → cond t judgments.Skipped (resolved s r) ≡ judgments.Skipped → t ≡ true
tokens-skipped true s r e = refl
tokens-skipped false s r e = absurd (resolved-tells s r e)

plain-skipped : (t : Bool) (j : Judged) → cond t j (judgments.Refused 1) ≡ judgments.Skipped → (t ≡ true) × (j ≡ judgments.Skipped)
plain-skipped true j e = (refl, e)
plain-skipped false j e = absurd cc

judge-skipped : (s : State) (bytes : List ℕ) → judge s bytes ≡ judgments.Skipped → (is_plain_line bytes ≡ true) × (is_skipped (tokens bytes) ≡ true)
unfolding judge
judge-skipped s bytes e =
    let p = plain-skipped (is_plain_line bytes) (judge_tokens s (tokens bytes)) e in
    (p.0, tokens-skipped (is_skipped (tokens bytes)) s (read_by_phase s.phase s (whole (tokens bytes))) p.1)

done-is : (p : Phase) → is_done p ≡ true → p ≡ phases.Done
done-is phases.First e = absurd cc
done-is phases.Declarations e = absurd cc
done-is phases.Bodies e = absurd cc
done-is (phases.Body p) e = absurd cc
done-is phases.Done e = refl

end-ok : (t : Bool) (number : ℕ) (g h : Config) → ◌≡◌ {A = Found} (cond t (Ok g) (Err (number, 11))) (Ok h) → (t ≡ true) × (g ≡ h)
end-ok true number g h e = (refl, cc)
end-ok false number g h e = absurd cc

err-ok : (x : ℕ × ℕ) (g : Config) → ◌≡◌ {A = Found} (Err x) (Ok g) → ⊥
err-ok x g e = cc

run-line : (j : Judged) (line : List ℕ) (more : List (List ℕ)) (number : ℕ) (s : State) (g : Config) → ((t : State) → found_from (number + 1) t more ≡ Ok g → Run t more g) → judge s line ≡ j → found_from number s (line ∷ more) ≡ Ok g → Run s (line ∷ more) g
run-line judgments.Skipped line more number s g run j e =
    let k = judge-skipped s line j in
    let r = run s (sym (found-skipped number s line more j) ∙ e) in
    record { says = r.says; steps = inl (k.0, k.1, r.steps); done = r.done; graph = r.graph }
run-line (judgments.Says first) line more number s g run j e =
    let r = run (after first s) (sym (found-says number s line more first j) ∙ e) in
    record { says = first ∷ r.says; steps = inr (first, r.says, refl, judge-says s line first j, r.steps); done = r.done; graph = r.graph }
run-line (judgments.Refused rule) line more number s g run j e = absurd (err-ok (number, rule) g (sym (found-refused number s line more rule j) ∙ e))

pub run-of : (ls : List (List ℕ)) (number : ℕ) (s : State) (g : Config) → found_from number s ls ≡ Ok g → Run s ls g
run-of [] number s g e =
    let t = end-ok (is_done s.phase) number s.graph g (sym (found-end number s) ∙ e) in
    record { says = []; steps = refl; done = done-is s.phase t.0; graph = t.1 }
run-of (line ∷ more) number s g e = run-line (judge s line) line more number s g (λ t h. run-of more (number + 1) t g h) refl e

pub run-of-script : (bytes : List ℕ) (g : Config) → script_of bytes ≡ Ok g → Run first_state (lines bytes) g
run-of-script bytes g e = run-of (lines bytes) 1 first_state g (script-begins bytes ∙ e)

-- ---- what is said of each line

both-true : (a b : Bool) → a ≡ true → b ≡ true → (a && b) ≡ true
both-true a b p q = rw (p, q) refl

pub steps-plain : (ls : List (List ℕ)) (s : State) (says : List Line) → Steps s ls says → list_all is_plain_line ls ≡ true
steps-plain [] s says h = refl
steps-plain (line ∷ more) s says (inl h) = both-true (is_plain_line line) (list_all is_plain_line more) h.0 (steps-plain more s says h.2)
steps-plain (line ∷ more) s says (inr h) = both-true (is_plain_line line) (list_all is_plain_line more) h.3.plain (steps-plain more (after h.0 s) h.1 h.4)

-- a property of states that each line keeps
pub steps-keep : (P : State → Type 0) → ((s : State) (bytes : List ℕ) (line : Line) → Said s bytes line → P s → P (after line s)) → (ls : List (List ℕ)) (s : State) (says : List Line) → Steps s ls says → P s → P (after_all says s)
steps-keep P keeps [] s says h p = rw h p
steps-keep P keeps (line ∷ more) s says (inl h) p = steps-keep P keeps more s says h.2 p
steps-keep P keeps (line ∷ more) s says (inr h) p = rw h.2 (steps-keep P keeps more (after h.0 s) h.1 h.4 (keeps s line h.0 h.3 p))

-- the tokens of the lines that say something
abbrev pub shown_lines : List (List ℕ) → List (List (List ℕ))
shown_lines ls = filter (λ ts. not (is_skipped ts)) (map tokens ls)
