-- The number of cores that a line may tell.
use Rattle.std.proofs.Common.{◌≡◌, ℕ, ◌≤◌, Bool, true, false, cond, List, [], ◌∷◌, leb, None, Some, Option, refl, ap, subst, arith}
use Rattle.std.specs.Prelude.{◌&&◌}
use Rattle.std.proofs.lemmas.Bool.{leb-true}
use Rattle.em_script.specs.declared.line.Line.{Line}
use Rattle.em_script.specs.declared.line.Line.TheVariants as lines
use Rattle.em_script.specs.declared.line.Place.TheVariants as places
use Rattle.em_script.specs.declared.phase.Phase.{Phase}
use Rattle.em_script.specs.declared.phase.Phase.TheVariants as phases
use Rattle.em_script.specs.declared.words.TopWord.{TopWord}
use Rattle.em_script.specs.declared.words.TopWord.TheVariants as top
use Rattle.em_script.specs.declared.words.BodyWord.{BodyWord}
use Rattle.em_script.specs.declared.words.BodyWord.TheVariants as body
use Rattle.em_script.specs.declared.draft.Frame.{Frame}
use Rattle.em_script.specs.declared.judging.Judged.TheVariants as judgments
use Rattle.em_log.specs.declared.ids.Kind.{Kind}
use Rattle.em_log.specs.declared.ids.Kind.TheVariants as kinds
use Rattle.em_script.specs.Lines.{Rest}
use Rattle.em_script.specs.Names.{Naming, reading}
use Rattle.em_script.specs.Numerals.{is_digits, is_within, value}
use Rattle.em_script.specs.Form.{ended as nothing_left}
use Rattle.em_script.specs.Form.{◌>>=◌, given, number, read_number, number_of, token_at, new_name}
use Rattle.em_script.specs.Words.{kind, top_word, body_word}
use Rattle.em_script.specs.Declarations.{queue_behind, read_queue, top_line_behind, read_top_line, may_stand, cores_form}
use Rattle.em_script.specs.Statements.{body_line_behind, read_body_line}
use Rattle.em_script.specs.State.{State, after, ended, turned, body_ended}
use Rattle.em_script.specs.Judging.{judge, read_by_phase, may_else}
use Rattle.em_script.proofs.Binds.{bind-some, given-some, test-some, cond-some, some-is}
use Rattle.em_script.proofs.Judgments.{Said, judge-says}

abbrev pub TellsFew : Line → Type 0
TellsFew (lines.Cores n) = n ≤ 8
TellsFew _ = Unit {0}

given-few : {A : Type 0} (to : A → Line) (read : Option (A × Rest)) (l : Line) (s' : Rest) → ((x : A) → TellsFew (to x)) → given to read ≡ Some (l, s') → TellsFew l
given-few to read l s' h e = let v = given-some to read l s' e in subst TellsFew v.2 (h v.0)

least-or-none : (t : Bool) (v high : ℕ) → (t ≡ true → v ≤ high) → cond t v 0 ≤ high
least-or-none true v high h = h refl
least-or-none false v high h = omega arith

last-of : (a b : Bool) → (a && b) ≡ true → b ≡ true
last-of true b e = e
last-of false b e = absurd cc

within-most : (low high : ℕ) (token : List ℕ) → is_within low high token ≡ true → value token ≤ high
unfolding is_within
within-most low high token e = leb-true (value token) high (last-of _ (leb (value token) high) e)

number-few : (low high : ℕ) (s : Rest) (n : ℕ) (s' : Rest) → (number low high).read s ≡ Some (n, s') → n ≤ high
unfolding read_number number_of
number-few low high s n s' e =
    let t = bind-some (token_at s) (λ t. number_of low high t.0 t.1) (n, s') e in
    let c = cond-some (is_digits t.0.0) _ (n, s') t.2 in
    let v : cond (is_within low high t.0.0) (value t.0.0) 0 ≡ n = ap (λ p. p.0) c.1 in
    subst (λ m. m ≤ high) v (least-or-none (is_within low high t.0.0) (value t.0.0) high (within-most low high t.0.0))

cores-few : (s : Rest) (l : Line) (s' : Rest) → given (λ p. lines.Cores p.0) (cores_form.read s) ≡ Some (l, s') → TellsFew l
cores-few s l s' e =
    let v = given-some (λ p. lines.Cores p.0) (cores_form.read s) l s' e in
    let x = bind-some ((number 1 8).read s) (λ x. nothing_left.read x.1 >>= λ y. Some ((x.0, y.0), y.1)) (v.0, s') v.1 in
    let y = bind-some (nothing_left.read x.0.1) (λ y. Some ((x.0.0, y.0), y.1)) (v.0, s') x.2 in
    let same = some-is ((x.0.0, y.0.0), y.0.1) (v.0, s') y.2 in
    let value : x.0.0 ≡ v.0.0 = ap (λ p. p.0.0) same in
    subst TellsFew v.2 (subst (λ m. m ≤ 8) value (number-few 1 8 s x.0.0 x.0.1 x.1))

queue-few : (names : Naming) (name : List ℕ) (k : Kind) (s : Rest) (l : Line) (s' : Rest) → queue_behind names name k s ≡ Some (l, s') → TellsFew l
unfolding queue_behind
queue-few names name kinds.Atomic s l s' e = given-few _ _ l s' (λ x. tt) e
queue-few names name kinds.Parallel s l s' e = given-few _ _ l s' (λ x. tt) e
queue-few names name kinds.Ordered s l s' e = given-few _ _ l s' (λ x. tt) e
queue-few names name kinds.Local s l s' e = given-few _ _ l s' (λ x. tt) e
queue-few names name kinds.Unscheduled s l s' e = given-few _ _ l s' (λ x. tt) e
queue-few names name kinds.Output s l s' e = given-few _ _ l s' (λ x. tt) e

read_queue-few : (names : Naming) (s : Rest) (l : Line) (s' : Rest) → read_queue names s ≡ Some (l, s') → TellsFew l
unfolding read_queue
read_queue-few names s l s' e =
    let x = bind-some ((new_name names).read s) (λ name. kind.read name.1 >>= λ k. queue_behind names name.0 k.0 k.1) (l, s') e in
    let y = bind-some (kind.read x.0.1) (λ k. queue_behind names x.0.0 k.0 k.1) (l, s') x.2 in
    queue-few names x.0.0 y.0.0 y.0.1 l s' y.2

top-few : (names : Naming) (cores : ℕ) (w : TopWord) (s : Rest) (l : Line) (s' : Rest) → top_line_behind names cores w s ≡ Some (l, s') → TellsFew l
unfolding top_line_behind
top-few names cores top.Cores s l s' e = cores-few s l s' e
top-few names cores top.Queue s l s' e = read_queue-few names s l s' e
top-few names cores top.Pool s l s' e = given-few _ _ l s' (λ x. tt) e
top-few names cores top.Group s l s' e = given-few _ _ l s' (λ x. tt) e
top-few names cores top.Eo s l s' e = given-few _ _ l s' (λ x. tt) e
top-few names cores top.Agroup s l s' e = given-few _ _ l s' (λ x. tt) e
top-few names cores top.Egroup s l s' e = given-few _ _ l s' (λ x. tt) e
top-few names cores top.Boot s l s' e = given-few _ _ l s' (λ x. tt) e
top-few names cores top.Error s l s' e = given-few _ _ l s' (λ x. tt) e
top-few names cores top.Body s l s' e = given-few _ _ l s' (λ x. tt) e
top-few names cores top.Done s l s' e = given-few _ _ l s' (λ x. tt) e

read_top-few : (names : Naming) (cores : ℕ) (phase : Phase) (s : Rest) (l : Line) (s' : Rest) → read_top_line names cores phase s ≡ Some (l, s') → TellsFew l
unfolding read_top_line
read_top-few names cores phase s l s' e =
    let w = bind-some (top_word.read s) (λ w. cond (may_stand phase w.0) (top_line_behind names cores w.0 w.1) None) (l, s') e in
    let c = test-some (may_stand phase w.0.0) (top_line_behind names cores w.0.0 w.0.1) (l, s') w.2 in
    top-few names cores w.0.0 w.0.1 l s' c.1

body-few : (names : Naming) (may : Bool) (w : BodyWord) (s : Rest) (l : Line) (s' : Rest) → body_line_behind names may w s ≡ Some (l, s') → TellsFew l
unfolding body_line_behind
body-few names may body.Set s l s' e = given-few _ _ l s' (λ x. tt) e
body-few names may body.If s l s' e = given-few _ _ l s' (λ x. tt) e
body-few names may body.End s l s' e = given-few _ _ l s' (λ x. tt) e
body-few names may body.Repeat s l s' e = given-few _ _ l s' (λ x. tt) e
body-few names may body.Cell s l s' e = given-few _ _ l s' (λ x. tt) e
body-few names may body.Say s l s' e = given-few _ _ l s' (λ x. tt) e
body-few names may body.Alloc s l s' e = given-few _ _ l s' (λ x. tt) e
body-few names may body.Free s l s' e = given-few _ _ l s' (λ x. tt) e
body-few names may body.Keep s l s' e = given-few _ _ l s' (λ x. tt) e
body-few names may body.Send s l s' e = given-few _ _ l s' (λ x. tt) e
body-few names may body.SendG s l s' e = given-few _ _ l s' (λ x. tt) e
body-few names may body.Claim s l s' e = given-few _ _ l s' (λ x. tt) e
body-few names may body.Dequeue s l s' e = given-few _ _ l s' (λ x. tt) e
body-few names may body.Enable s l s' e = given-few _ _ l s' (λ x. tt) e
body-few names may body.Disable s l s' e = given-few _ _ l s' (λ x. tt) e
body-few names may body.EndAtomic s l s' e = given-few _ _ l s' (λ x. tt) e
body-few names may body.EndOrdered s l s' e = given-few _ _ l s' (λ x. tt) e
body-few names may body.EndGroup s l s' e = given-few _ _ l s' (λ x. tt) e
body-few names may body.Apply s l s' e = given-few _ _ l s' (λ x. tt) e
body-few names may body.Increment s l s' e = given-few _ _ l s' (λ x. tt) e
body-few names may body.Abort s l s' e = given-few _ _ l s' (λ x. tt) e
body-few names may body.Start s l s' e = given-few _ _ l s' (λ x. tt) e
body-few names may body.Stop s l s' e = given-few _ _ l s' (λ x. tt) e
body-few names may body.Modify s l s' e = given-few _ _ l s' (λ x. tt) e
body-few names may body.Fail s l s' e = given-few _ _ l s' (λ x. tt) e
body-few names true body.Else s l s' e = given-few _ _ l s' (λ x. tt) e
body-few names false body.Else s l s' e = absurd cc

read_body-few : (names : Naming) (may : Bool) (s : Rest) (l : Line) (s' : Rest) → read_body_line names may s ≡ Some (l, s') → TellsFew l
unfolding read_body_line
read_body-few names may s l s' e =
    let w = bind-some (body_word.read s) (λ w. body_line_behind names may w.0 w.1) (l, s') e in
    body-few names may w.0.0 w.0.1 l s' w.2

phase-few : (p : Phase) (s : State) (rest : Rest) (l : Line) (s' : Rest) → read_by_phase p s rest ≡ Some (l, s') → TellsFew l
phase-few phases.First s rest l s' e = read_top-few (reading s.table) s.graph.cores phases.First rest l s' e
phase-few phases.Declarations s rest l s' e = read_top-few (reading s.table) s.graph.cores phases.Declarations rest l s' e
phase-few phases.Bodies s rest l s' e = read_top-few (reading s.table) s.graph.cores phases.Bodies rest l s' e
phase-few (phases.Body p) s rest l s' e = read_body-few (reading s.table) (may_else s.nest) rest l s' e
phase-few phases.Done s rest l s' e = read_top-few (reading s.table) s.graph.cores phases.Done rest l s' e

-- ---- a line leaves few cores

body_ended-cores : (p : Phase) (s : State) → (body_ended p s).graph.cores ≡ s.graph.cores
body_ended-cores phases.First s = refl
body_ended-cores phases.Declarations s = refl
body_ended-cores phases.Bodies s = refl
body_ended-cores (phases.Body places.Boot) s = refl
body_ended-cores (phases.Body places.Error) s = refl
body_ended-cores (phases.Body (places.Object eo p)) s = refl
body_ended-cores phases.Done s = refl

pub ended-cores : (nest : List Frame) (s : State) → (ended nest s).graph.cores ≡ s.graph.cores
ended-cores [] s = body_ended-cores s.phase s
ended-cores (f ∷ fs) s = refl

pub turned-cores : (nest : List Frame) (s : State) → (turned nest s).graph.cores ≡ s.graph.cores
turned-cores [] s = refl
turned-cores (f ∷ fs) s = refl

after-cores : (l : Line) (s : State) → TellsFew l → s.graph.cores ≤ 8 → (after l s).graph.cores ≤ 8
after-cores (lines.Cores n) s few h = few
after-cores lines.Else s few h = rw (turned-cores s.nest s) h
after-cores lines.End s few h = rw (ended-cores s.nest s) h
after-cores (lines.Pool d) s few h = h
after-cores (lines.Group name mask) s few h = h
after-cores (lines.Eo name running) s few h = h
after-cores (lines.Agroup d) s few h = h
after-cores (lines.Queue d) s few h = h
after-cores (lines.Egroup name) s few h = h
after-cores (lines.Body p) s few h = h
after-cores lines.Done s few h = h
after-cores (lines.Statement x) s few h = h
after-cores (lines.If e) s few h = h
after-cores (lines.Repeat n) s few h = h

pub said-cores : (s : State) (bytes : List ℕ) (l : Line) → Said s bytes l → s.graph.cores ≤ 8 → (after l s).graph.cores ≤ 8
said-cores s bytes l said h = after-cores l s (phase-few s.phase s _ l said.rest said.read) h

pub says-cores : (s : State) (bytes : List ℕ) (l : Line) → judge s bytes ≡ judgments.Says l → s.graph.cores ≤ 8 → (after l s).graph.cores ≤ 8
says-cores s bytes l e h = let said = judge-says s bytes l e in after-cores l s (phase-few s.phase s _ l said.rest said.read) h
