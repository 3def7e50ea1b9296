-- A text whose lines say what they are written for is read as what they say.
use Rattle.std.proofs.Common.{◌≡◌, ℕ, ◌+◌, true, false, List, [], ◌∷◌, map, Some, Ok, refl, ap, ◌∙◌}
use Rattle.std.specs.List.{AllByRecursion}
use Rattle.em_log.specs.WellFormed.{IsWellFormed}
use Rattle.em_log.specs.declared.graph.Config.{Config}
use Rattle.em_script.specs.declared.judging.Judged.TheVariants as judgments
use Rattle.em_script.specs.declared.line.Line.{Line}
use Rattle.em_script.specs.Judging.{is_skipped, judge, read_by_phase, resolved}
use Rattle.em_script.specs.Lines.{joined}
use Rattle.em_script.specs.Names.{writing}
use Rattle.em_script.specs.Reading.{found_from, is_done, script_of}
use Rattle.em_script.specs.Spelling.{arranged, bodies_of, line_tokens, spelling}
use Rattle.em_script.specs.State.{State, after, after_all, first_state}
use Rattle.em_script.proofs.RulesMet.{AreMet}
use Rattle.em_script.proofs.ScriptMet.{arranged_met}
use Rattle.em_script.proofs.ScriptRead.{arranged_read}
use Rattle.em_script.proofs.TextsRead.{AreTokens, IsToken, is_plain_line-joined, lines-spelled, tokens-joined}

-- in this state the tokens of a line say this line
abbrev pub IsSaid : Config → State → Line → Type 0
IsSaid g s line =
    AllByRecursion IsToken (line_tokens (writing g) line) × (is_skipped (line_tokens (writing g) line) ≡ false) × (resolved s (read_by_phase s.phase s (record { tokens = line_tokens (writing g) line; rule = 12 })) ≡ judgments.Says line)

-- each line does, in the state after those before it
abbrev pub AreSaid : Config → List Line → State → Type 0
AreSaid g [] s = Unit {0}
AreSaid g (line ∷ more) s = IsSaid g s line × AreSaid g more (after line s)

judge-said : (g : Config) (s : State) (line : Line) → IsSaid g s line → judge s (joined (line_tokens (writing g) line)) ≡ judgments.Says line
unfolding judge
judge-said g s line said =
    rw (is_plain_line-joined (line_tokens (writing g) line) said.0, tokens-joined (line_tokens (writing g) line) said.0, said.1) said.2

found-nil : (number : ℕ) (s : State) → is_done s.phase ≡ true → found_from number s [] ≡ Ok s.graph
unfolding found_from
found-nil number s done = rw done refl

found-cons : (number : ℕ) (s : State) (line : Line) (text : List ℕ) (more : List (List ℕ)) → judge s text ≡ judgments.Says line → found_from number s (text ∷ more) ≡ found_from (number + 1) (after line s) more
unfolding found_from
found-cons number s line text more e = rw e refl

abbrev texts : Config → List Line → List (List ℕ)
texts g ls = map joined (map (line_tokens (writing g)) ls)

found-said : (g : Config) (ls : List Line) (number : ℕ) (s : State) → AreSaid g ls s → is_done (after_all ls s).phase ≡ true → found_from number s (texts g ls) ≡ Ok (after_all ls s).graph
found-said g [] number s said done = found-nil number s done
found-said g (line ∷ more) number s said done =
    found-cons number s line (joined (line_tokens (writing g) line)) (texts g more) (judge-said g s line said.0) ∙ found-said g more (number + 1) (after line s) said.1 done

tokens-of : (g : Config) (ls : List Line) (s : State) → AreSaid g ls s → AreTokens (map (line_tokens (writing g)) ls)
tokens-of g [] s said = tt
tokens-of g (line ∷ more) s said = (said.0.0, tokens-of g more (after line s) said.1)

-- so it is enough that each line of a script says what it is written for
pub spelling_read : (g : Config) → IsWellFormed g → AreSaid g (arranged g (bodies_of g)) first_state → script_of (spelling g) ≡ Ok g
unfolding script_of spelling
spelling_read g well said =
    let ls = arranged g (bodies_of g) in
    let whole = arranged_read g well in
    let done : is_done (after_all (arranged g (bodies_of g)) first_state).phase ≡ true = ap (λ s. is_done s.phase) (arranged_read g well) in
    ap (found_from 1 first_state) (lines-spelled (map (line_tokens (writing g)) ls) (tokens-of g ls first_state said)) ∙ found-said g ls 1 first_state said done ∙ ap (λ s. Ok s.graph) whole

-- ---- where the rules of the state are met, it is enough that each line is read

-- in this state the tokens of a line are read as this line, and no rule of its names and numbers fails
pub record IsSpelled (g : Config) (s : State) (line : Line) : Type 0 where
  pub plain : AllByRecursion IsToken (line_tokens (writing g) line)
  pub some : is_skipped (line_tokens (writing g) line) ≡ false
  pub read : read_by_phase s.phase s (record { tokens = line_tokens (writing g) line; rule = 12 }) ≡ Some (line, record { tokens = []; rule = 12 })

abbrev pub AreSpelled : Config → List Line → State → Type 0
AreSpelled g [] s = Unit {0}
AreSpelled g (line ∷ more) s = IsSpelled g s line × AreSpelled g more (after line s)

pub said-of : (g : Config) (ls : List Line) (s : State) → AreSpelled g ls s → AreMet ls s → AreSaid g ls s
said-of g [] s spelled met = tt
said-of g (line ∷ more) s spelled met =
    let first = spelled.0 in
    ((first.plain, first.some, ap (resolved s) first.read ∙ rw met.0 refl), said-of g more (after line s) spelled.1 met.1)

pub spelled_read : (g : Config) → IsWellFormed g → AreSpelled g (arranged g (bodies_of g)) first_state → script_of (spelling g) ≡ Ok g
spelled_read g well spelled = spelling_read g well (said-of g (arranged g (bodies_of g)) first_state spelled (arranged_met g well))
