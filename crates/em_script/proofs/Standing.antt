-- Which lines may stand where, by how far the reading has come.
use Rattle.std.proofs.Common.{◌≡◌, ℕ, Bool, true, false, cond, List, [], ◌∷◌, Some, None, Option, refl, subst}
use Rattle.std.specs.Prelude.{◌||◌}
use Rattle.em_log.specs.declared.ids.Kind.{Kind}
use Rattle.em_log.specs.declared.ids.Kind.TheVariants as kinds
use Rattle.em_script.specs.declared.line.Line.{Line}
use Rattle.em_script.specs.declared.line.Line.TheVariants as lines
use Rattle.em_script.specs.declared.phase.Phase.{Phase}
use Rattle.em_script.specs.declared.phase.Phase.TheVariants as phases
use Rattle.em_script.specs.declared.words.TopWord.{TopWord}
use Rattle.em_script.specs.declared.words.TopWord.TheVariants as top
use Rattle.em_script.specs.declared.words.BodyWord.{BodyWord}
use Rattle.em_script.specs.declared.words.BodyWord.TheVariants as body
use Rattle.em_script.specs.Lines.{Rest}
use Rattle.em_script.specs.Names.{Naming, reading}
use Rattle.em_script.specs.Form.{◌>>=◌, given, new_name}
use Rattle.em_script.specs.Words.{kind, top_word, body_word}
use Rattle.em_script.specs.Declarations.{queue_behind, read_queue, top_line_behind, read_top_line, may_stand}
use Rattle.em_script.specs.Statements.{body_line_behind, read_body_line}
use Rattle.em_script.specs.Spelling.{statement_lines}
use Rattle.em_script.specs.State.{State}
use Rattle.em_script.specs.Judging.{read_by_phase, may_else}
use Rattle.em_script.proofs.Binds.{bind-some, given-some, test-some}
use Rattle.em_script.proofs.Judgments.{Said}

abbrev pub tells_cores : Line → Bool
tells_cores (lines.Cores n) = true
tells_cores _ = false

abbrev pub declares : Line → Bool
declares (lines.Pool d) = true
declares (lines.Group name mask) = true
declares (lines.Eo name running) = true
declares (lines.Agroup d) = true
declares (lines.Queue d) = true
declares (lines.Egroup name) = true
declares _ = false

abbrev pub begins : Line → Bool
begins (lines.Body p) = true
begins lines.Done = true
begins _ = false

-- a line in a body: a statement there is no block, and an `else` may stand there
abbrev pub InBody : Bool → Line → Type 0
InBody may (lines.Statement x) = statement_lines x ≡ lines.Statement x ∷ []
InBody may (lines.If e) = Unit {0}
InBody may (lines.Repeat n) = Unit {0}
InBody may lines.Else = may ≡ true
InBody may lines.End = Unit {0}
InBody may _ = ⊥

-- the lines that may stand in a phase
abbrev pub Stands : Phase → Bool → Line → Type 0
Stands phases.First may l = tells_cores l ≡ true
Stands phases.Declarations may l = (declares l || begins l) ≡ true
Stands phases.Bodies may l = begins l ≡ true
Stands (phases.Body p) may l = InBody may l
Stands phases.Done may l = ⊥

-- the lines of a word outside bodies
abbrev OfWord : TopWord → Line → Type 0
OfWord top.Cores l = tells_cores l ≡ true
OfWord top.Boot l = begins l ≡ true
OfWord top.Error l = begins l ≡ true
OfWord top.Body l = begins l ≡ true
OfWord top.Done l = begins l ≡ true
OfWord _ l = declares l ≡ true

-- what holds of each line that a form gives holds of what is read in it
pub given-all : {A : Type 0} (P : Line → Type 0) (to : A → Line) (read : Option (A × Rest)) (l : Line) (s' : Rest) → ((x : A) → P (to x)) → given to read ≡ Some (l, s') → P l
given-all P to read l s' h e = let v = given-some to read l s' e in subst P v.2 (h v.0)

queue-declares : (names : Naming) (name : List ℕ) (k : Kind) (s : Rest) (l : Line) (s' : Rest) → queue_behind names name k s ≡ Some (l, s') → declares l ≡ true
unfolding queue_behind
queue-declares names name kinds.Atomic s l s' e = given-all (λ l. declares l ≡ true) _ _ l s' (λ x. refl) e
queue-declares names name kinds.Parallel s l s' e = given-all (λ l. declares l ≡ true) _ _ l s' (λ x. refl) e
queue-declares names name kinds.Ordered s l s' e = given-all (λ l. declares l ≡ true) _ _ l s' (λ x. refl) e
queue-declares names name kinds.Local s l s' e = given-all (λ l. declares l ≡ true) _ _ l s' (λ x. refl) e
queue-declares names name kinds.Unscheduled s l s' e = given-all (λ l. declares l ≡ true) _ _ l s' (λ x. refl) e
queue-declares names name kinds.Output s l s' e = given-all (λ l. declares l ≡ true) _ _ l s' (λ x. refl) e

pub read_queue-declares : (names : Naming) (s : Rest) (l : Line) (s' : Rest) → read_queue names s ≡ Some (l, s') → declares l ≡ true
unfolding read_queue
read_queue-declares names s l s' e =
    let x = bind-some ((new_name names).read s) (λ name. kind.read name.1 >>= λ k. queue_behind names name.0 k.0 k.1) (l, s') e in
    let y = bind-some (kind.read x.0.1) (λ k. queue_behind names x.0.0 k.0 k.1) (l, s') x.2 in
    queue-declares names x.0.0 y.0.0 y.0.1 l s' y.2

of-word : (names : Naming) (cores : ℕ) (w : TopWord) (s : Rest) (l : Line) (s' : Rest) → top_line_behind names cores w s ≡ Some (l, s') → OfWord w l
unfolding top_line_behind
of-word names cores top.Cores s l s' e = given-all (λ l. tells_cores l ≡ true) _ _ l s' (λ x. refl) e
of-word names cores top.Queue s l s' e = read_queue-declares names s l s' e
of-word names cores top.Pool s l s' e = given-all (λ l. declares l ≡ true) _ _ l s' (λ x. refl) e
of-word names cores top.Group s l s' e = given-all (λ l. declares l ≡ true) _ _ l s' (λ x. refl) e
of-word names cores top.Eo s l s' e = given-all (λ l. declares l ≡ true) _ _ l s' (λ x. refl) e
of-word names cores top.Agroup s l s' e = given-all (λ l. declares l ≡ true) _ _ l s' (λ x. refl) e
of-word names cores top.Egroup s l s' e = given-all (λ l. declares l ≡ true) _ _ l s' (λ x. refl) e
of-word names cores top.Boot s l s' e = given-all (λ l. begins l ≡ true) _ _ l s' (λ x. refl) e
of-word names cores top.Error s l s' e = given-all (λ l. begins l ≡ true) _ _ l s' (λ x. refl) e
of-word names cores top.Body s l s' e = given-all (λ l. begins l ≡ true) _ _ l s' (λ x. refl) e
of-word names cores top.Done s l s' e = given-all (λ l. begins l ≡ true) _ _ l s' (λ x. refl) e

or-first : (a b : Bool) → a ≡ true → (a || b) ≡ true
or-first true b e = refl
or-first false b e = absurd cc

or-second : (a b : Bool) → b ≡ true → (a || b) ≡ true
or-second true b e = refl
or-second false b e = e

-- a word that may stand gives lines that may stand
word-stands : (phase : Phase) (may : Bool) (w : TopWord) (l : Line) → may_stand phase w ≡ true → OfWord w l → Stands phase may l
word-stands phases.First may top.Cores l m o = o
word-stands phases.First may top.Pool l m o = absurd cc
word-stands phases.First may top.Group l m o = absurd cc
word-stands phases.First may top.Eo l m o = absurd cc
word-stands phases.First may top.Agroup l m o = absurd cc
word-stands phases.First may top.Queue l m o = absurd cc
word-stands phases.First may top.Egroup l m o = absurd cc
word-stands phases.First may top.Boot l m o = absurd cc
word-stands phases.First may top.Error l m o = absurd cc
word-stands phases.First may top.Body l m o = absurd cc
word-stands phases.First may top.Done l m o = absurd cc
word-stands phases.Declarations may top.Cores l m o = absurd cc
word-stands phases.Declarations may top.Pool l m o = or-first (declares l) (begins l) o
word-stands phases.Declarations may top.Group l m o = or-first (declares l) (begins l) o
word-stands phases.Declarations may top.Eo l m o = or-first (declares l) (begins l) o
word-stands phases.Declarations may top.Agroup l m o = or-first (declares l) (begins l) o
word-stands phases.Declarations may top.Queue l m o = or-first (declares l) (begins l) o
word-stands phases.Declarations may top.Egroup l m o = or-first (declares l) (begins l) o
word-stands phases.Declarations may top.Boot l m o = or-second (declares l) (begins l) o
word-stands phases.Declarations may top.Error l m o = or-second (declares l) (begins l) o
word-stands phases.Declarations may top.Body l m o = or-second (declares l) (begins l) o
word-stands phases.Declarations may top.Done l m o = or-second (declares l) (begins l) o
word-stands phases.Bodies may top.Cores l m o = absurd cc
word-stands phases.Bodies may top.Pool l m o = absurd cc
word-stands phases.Bodies may top.Group l m o = absurd cc
word-stands phases.Bodies may top.Eo l m o = absurd cc
word-stands phases.Bodies may top.Agroup l m o = absurd cc
word-stands phases.Bodies may top.Queue l m o = absurd cc
word-stands phases.Bodies may top.Egroup l m o = absurd cc
word-stands phases.Bodies may top.Boot l m o = o
word-stands phases.Bodies may top.Error l m o = o
word-stands phases.Bodies may top.Body l m o = o
word-stands phases.Bodies may top.Done l m o = o
word-stands (phases.Body p) may top.Cores l m o = absurd cc
word-stands (phases.Body p) may top.Pool l m o = absurd cc
word-stands (phases.Body p) may top.Group l m o = absurd cc
word-stands (phases.Body p) may top.Eo l m o = absurd cc
word-stands (phases.Body p) may top.Agroup l m o = absurd cc
word-stands (phases.Body p) may top.Queue l m o = absurd cc
word-stands (phases.Body p) may top.Egroup l m o = absurd cc
word-stands (phases.Body p) may top.Boot l m o = absurd cc
word-stands (phases.Body p) may top.Error l m o = absurd cc
word-stands (phases.Body p) may top.Body l m o = absurd cc
word-stands (phases.Body p) may top.Done l m o = absurd cc
word-stands phases.Done may top.Cores l m o = absurd cc
word-stands phases.Done may top.Pool l m o = absurd cc
word-stands phases.Done may top.Group l m o = absurd cc
word-stands phases.Done may top.Eo l m o = absurd cc
word-stands phases.Done may top.Agroup l m o = absurd cc
word-stands phases.Done may top.Queue l m o = absurd cc
word-stands phases.Done may top.Egroup l m o = absurd cc
word-stands phases.Done may top.Boot l m o = absurd cc
word-stands phases.Done may top.Error l m o = absurd cc
word-stands phases.Done may top.Body l m o = absurd cc
word-stands phases.Done may top.Done l m o = absurd cc

top-stands : (names : Naming) (cores : ℕ) (phase : Phase) (may : Bool) (s : Rest) (l : Line) (s' : Rest) → read_top_line names cores phase s ≡ Some (l, s') → Stands phase may l
unfolding read_top_line
top-stands names cores phase may s l s' e =
    let w = bind-some (top_word.read s) (λ w. cond (may_stand phase w.0) (top_line_behind names cores w.0 w.1) None) (l, s') e in
    let c = test-some (may_stand phase w.0.0) (top_line_behind names cores w.0.0 w.0.1) (l, s') w.2 in
    word-stands phase may w.0.0 l c.0 (of-word names cores w.0.0 w.0.1 l s' c.1)

in-body : (names : Naming) (may : Bool) (w : BodyWord) (s : Rest) (l : Line) (s' : Rest) → body_line_behind names may w s ≡ Some (l, s') → InBody may l
unfolding body_line_behind
in-body names may body.Set s l s' e = given-all (InBody may) _ _ l s' (λ x. refl) e
in-body names may body.Cell s l s' e = given-all (InBody may) _ _ l s' (λ x. refl) e
in-body names may body.Say s l s' e = given-all (InBody may) _ _ l s' (λ x. refl) e
in-body names may body.Alloc s l s' e = given-all (InBody may) _ _ l s' (λ x. refl) e
in-body names may body.Free s l s' e = given-all (InBody may) _ _ l s' (λ x. refl) e
in-body names may body.Keep s l s' e = given-all (InBody may) _ _ l s' (λ x. refl) e
in-body names may body.Send s l s' e = given-all (InBody may) _ _ l s' (λ x. refl) e
in-body names may body.SendG s l s' e = given-all (InBody may) _ _ l s' (λ x. refl) e
in-body names may body.Claim s l s' e = given-all (InBody may) _ _ l s' (λ x. refl) e
in-body names may body.Dequeue s l s' e = given-all (InBody may) _ _ l s' (λ x. refl) e
in-body names may body.Enable s l s' e = given-all (InBody may) _ _ l s' (λ x. refl) e
in-body names may body.Disable s l s' e = given-all (InBody may) _ _ l s' (λ x. refl) e
in-body names may body.EndAtomic s l s' e = given-all (InBody may) _ _ l s' (λ x. refl) e
in-body names may body.EndOrdered s l s' e = given-all (InBody may) _ _ l s' (λ x. refl) e
in-body names may body.EndGroup s l s' e = given-all (InBody may) _ _ l s' (λ x. refl) e
in-body names may body.Apply s l s' e = given-all (InBody may) _ _ l s' (λ x. refl) e
in-body names may body.Increment s l s' e = given-all (InBody may) _ _ l s' (λ x. refl) e
in-body names may body.Abort s l s' e = given-all (InBody may) _ _ l s' (λ x. refl) e
in-body names may body.Start s l s' e = given-all (InBody may) _ _ l s' (λ x. refl) e
in-body names may body.Stop s l s' e = given-all (InBody may) _ _ l s' (λ x. refl) e
in-body names may body.Modify s l s' e = given-all (InBody may) _ _ l s' (λ x. refl) e
in-body names may body.Fail s l s' e = given-all (InBody may) _ _ l s' (λ x. refl) e
in-body names may body.If s l s' e = given-all (InBody may) _ _ l s' (λ x. tt) e
in-body names may body.End s l s' e = given-all (InBody may) _ _ l s' (λ x. tt) e
in-body names may body.Repeat s l s' e = given-all (InBody may) _ _ l s' (λ x. tt) e
in-body names true body.Else s l s' e = given-all (InBody true) _ _ l s' (λ x. refl) e
in-body names false body.Else s l s' e = absurd cc

pub body-stands : (names : Naming) (may : Bool) (s : Rest) (l : Line) (s' : Rest) → read_body_line names may s ≡ Some (l, s') → InBody may l
unfolding read_body_line
body-stands names may s l s' e =
    let w = bind-some (body_word.read s) (λ w. body_line_behind names may w.0 w.1) (l, s') e in
    in-body names may w.0.0 w.0.1 l s' w.2

phase-stands : (p : Phase) (s : State) (rest : Rest) (l : Line) (s' : Rest) → read_by_phase p s rest ≡ Some (l, s') → Stands p (may_else s.nest) l
phase-stands phases.First s rest l s' e = top-stands (reading s.table) s.graph.cores phases.First (may_else s.nest) rest l s' e
phase-stands phases.Declarations s rest l s' e = top-stands (reading s.table) s.graph.cores phases.Declarations (may_else s.nest) rest l s' e
phase-stands phases.Bodies s rest l s' e = top-stands (reading s.table) s.graph.cores phases.Bodies (may_else s.nest) rest l s' e
phase-stands (phases.Body p) s rest l s' e = body-stands (reading s.table) (may_else s.nest) rest l s' e
phase-stands phases.Done s rest l s' e = top-stands (reading s.table) s.graph.cores phases.Done (may_else s.nest) rest l s' e

-- a line that is said may stand there
pub said-stands : (s : State) (bytes : List ℕ) (l : Line) → Said s bytes l → Stands s.phase (may_else s.nest) l
said-stands s bytes l said = phase-stands s.phase s _ l said.rest said.read
