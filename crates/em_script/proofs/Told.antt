-- What is known of each line that says something: what it names is declared, no rule refuses it, and it may stand there.
use Rattle.std.proofs.Common.{◌≡◌, ℕ, ◌≤◌, Bool, true, List, length, ◌⊎◌, inl, inr, le-leb}
use Rattle.em_log.specs.declared.graph.Config.{Config}
use Rattle.em_script.specs.declared.line.Line.{Line}
use Rattle.em_script.specs.declared.line.Line.TheVariants as lines
use Rattle.em_script.specs.declared.named.Named.TheVariants as named
use Rattle.em_script.specs.declared.phase.Phase.{Phase}
use Rattle.em_script.specs.declared.phase.Phase.TheVariants as phases
use Rattle.em_script.specs.Lines.{tokens}
use Rattle.em_script.specs.Names.{Naming, name_in}
use Rattle.em_script.specs.State.{State, first_state, after}
use Rattle.em_script.specs.Judging.{may_else, rule_of}
use Rattle.em_script.proofs.Judgments.{Said, said-rule}
use Rattle.em_script.proofs.Agreeing.{Agree, Extends, extends-after}
use Rattle.em_script.proofs.Standing.{declares, tells_cores, Stands, said-stands}
use Rattle.em_script.proofs.Arranging.{Held}
use Rattle.em_script.proofs.Taken.{ArePlain, naming, is-naming, phase-taken}
use Rattle.em_script.proofs.Lowering.{said-met}
use Rattle.em_script.proofs.DeclarationForms.{TopFits}
use Rattle.em_script.proofs.StatementForms.{BodyLineFits}
use Rattle.em_script.proofs.Fitting.{KnowsOnly}

-- the names of a line, as they are read in this state
abbrev pub names_at : State → Line → Naming
names_at s l = naming s.table (after l s).graph

pub record Told (s : State) (l : Line) : Type 0 where
  pub fits : TopFits (names_at s l) s.graph.cores l ⊎ BodyLineFits (names_at s l) (may_else s.nest) l
  pub named : declares l ≡ true → TopFits (names_at s l) s.graph.cores l
  pub rule : rule_of s l ≡ 12
  pub stands : Stands s.phase (may_else s.nest) l
  pub agree : Agree s.graph s.table
  pub first : tells_cores l ≡ true → s ≡ first_state

-- the cores are told in the first state
first-at : (p : Phase) (may : Bool) (s : State) (says : List Line) (l : Line) → Stands p may l → Held p s says → tells_cores l ≡ true → s ≡ first_state
first-at phases.First may s says l stands held e = held.1
first-at phases.Declarations may s says (lines.Cores n) stands held e = absurd cc
first-at phases.Bodies may s says (lines.Cores n) stands held e = absurd cc
first-at (phases.Body p) may s says (lines.Cores n) stands held e = absurd stands
first-at phases.Done may s says (lines.Cores n) stands held e = absurd stands
first-at phases.Declarations may s says (lines.Pool d) stands held e = absurd cc
first-at phases.Declarations may s says (lines.Group name mask) stands held e = absurd cc
first-at phases.Declarations may s says (lines.Eo name running) stands held e = absurd cc
first-at phases.Declarations may s says (lines.Agroup d) stands held e = absurd cc
first-at phases.Declarations may s says (lines.Queue d) stands held e = absurd cc
first-at phases.Declarations may s says (lines.Egroup name) stands held e = absurd cc
first-at phases.Declarations may s says (lines.Body q) stands held e = absurd cc
first-at phases.Declarations may s says lines.Done stands held e = absurd cc
first-at phases.Declarations may s says (lines.Statement x) stands held e = absurd cc
first-at phases.Declarations may s says (lines.If x) stands held e = absurd cc
first-at phases.Declarations may s says (lines.Repeat n) stands held e = absurd cc
first-at phases.Declarations may s says lines.Else stands held e = absurd cc
first-at phases.Declarations may s says lines.End stands held e = absurd cc
first-at phases.Bodies may s says (lines.Pool d) stands held e = absurd cc
first-at phases.Bodies may s says (lines.Group name mask) stands held e = absurd cc
first-at phases.Bodies may s says (lines.Eo name running) stands held e = absurd cc
first-at phases.Bodies may s says (lines.Agroup d) stands held e = absurd cc
first-at phases.Bodies may s says (lines.Queue d) stands held e = absurd cc
first-at phases.Bodies may s says (lines.Egroup name) stands held e = absurd cc
first-at phases.Bodies may s says (lines.Body q) stands held e = absurd cc
first-at phases.Bodies may s says lines.Done stands held e = absurd cc
first-at phases.Bodies may s says (lines.Statement x) stands held e = absurd cc
first-at phases.Bodies may s says (lines.If x) stands held e = absurd cc
first-at phases.Bodies may s says (lines.Repeat n) stands held e = absurd cc
first-at phases.Bodies may s says lines.Else stands held e = absurd cc
first-at phases.Bodies may s says lines.End stands held e = absurd cc
first-at (phases.Body p) may s says (lines.Pool d) stands held e = absurd cc
first-at (phases.Body p) may s says (lines.Group name mask) stands held e = absurd cc
first-at (phases.Body p) may s says (lines.Eo name running) stands held e = absurd cc
first-at (phases.Body p) may s says (lines.Agroup d) stands held e = absurd cc
first-at (phases.Body p) may s says (lines.Queue d) stands held e = absurd cc
first-at (phases.Body p) may s says (lines.Egroup name) stands held e = absurd cc
first-at (phases.Body p) may s says (lines.Body q) stands held e = absurd cc
first-at (phases.Body p) may s says lines.Done stands held e = absurd cc
first-at (phases.Body p) may s says (lines.Statement x) stands held e = absurd cc
first-at (phases.Body p) may s says (lines.If x) stands held e = absurd cc
first-at (phases.Body p) may s says (lines.Repeat n) stands held e = absurd cc
first-at (phases.Body p) may s says lines.Else stands held e = absurd cc
first-at (phases.Body p) may s says lines.End stands held e = absurd cc
first-at phases.Done may s says (lines.Pool d) stands held e = absurd cc
first-at phases.Done may s says (lines.Group name mask) stands held e = absurd cc
first-at phases.Done may s says (lines.Eo name running) stands held e = absurd cc
first-at phases.Done may s says (lines.Agroup d) stands held e = absurd cc
first-at phases.Done may s says (lines.Queue d) stands held e = absurd cc
first-at phases.Done may s says (lines.Egroup name) stands held e = absurd cc
first-at phases.Done may s says (lines.Body q) stands held e = absurd cc
first-at phases.Done may s says lines.Done stands held e = absurd cc
first-at phases.Done may s says (lines.Statement x) stands held e = absurd cc
first-at phases.Done may s says (lines.If x) stands held e = absurd cc
first-at phases.Done may s says (lines.Repeat n) stands held e = absurd cc
first-at phases.Done may s says lines.Else stands held e = absurd cc
first-at phases.Done may s says lines.End stands held e = absurd cc

pub said-told : (s : State) (bytes : List ℕ) (l : Line) (says : List Line) → Said s bytes l → Agree s.graph s.table → ArePlain s.table → s.graph.cores ≤ 8 → Held s.phase s says → Told s l
said-told s bytes l says said agree plain few held =
    let is = is-naming s (after l s).graph agree plain (extends-after l s) in
    let t = phase-taken s.phase s (after l s).graph is few (tokens bytes) l said.rest said.read (said-met s bytes l said) in
    record { fits = t.fits; named = t.named; rule = said-rule s bytes l said; stands = said-stands s bytes l said; agree = agree; first = first-at s.phase (may_else s.nest) s says l (said-stands s bytes l said) held }

-- what is known is declared, in each graph that goes on from here
pub knows-only : (s : State) (names : Config) (h : Config) → Agree s.graph s.table → Extends s.graph h → KnowsOnly (naming s.table names) h
knows-only s names h agree grows = record {
  pools = λ id k. grows.declared (named.Pool id) (agree.declared (name_in names (named.Pool id)) (named.Pool id) k);
  groups = λ id k. le-leb id.0 (length h.groups) (grows.declared (named.Group id) (agree.declared (name_in names (named.Group id)) (named.Group id) k));
  eos = λ id k. grows.declared (named.Eo id) (agree.declared (name_in names (named.Eo id)) (named.Eo id) k);
  agroups = λ n k. grows.declared (named.Agroup n) (agree.declared (name_in names (named.Agroup n)) (named.Agroup n) k);
  queues = λ id k. grows.declared (named.Queue id) (agree.declared (name_in names (named.Queue id)) (named.Queue id) k);
  egroups = λ id k. grows.declared (named.Egroup id) (agree.declared (name_in names (named.Egroup id)) (named.Egroup id) k);
}

-- a line that tells the cores tells at least one
pub cores-told : (s : State) (n : ℕ) → Told s (lines.Cores n) → 1 ≤ n
cores-told s n told = by told.fits
  where
    by : ((1 ≤ n) × (n ≤ 8)) × Unit {0} ⊎ ⊥ → 1 ≤ n
    by (inl f) = f.0.0
    by (inr f) = absurd f
