-- The object whose body begins has been declared.
use Rattle.std.proofs.Common.{◌≡◌, ℕ, ◌≤◌, Bool, true, false, cond, List, [], ◌∷◌, Some, None, Option, refl, sym, ap, subst, ◌∙◌, arith}
use Rattle.std.specs.Prelude.{is_some, unwrap_or}
use Rattle.em_log.specs.declared.ids.EoId.{EoId}
use Rattle.em_script.specs.declared.line.Line.{Line}
use Rattle.em_script.specs.declared.line.Line.TheVariants as lines
use Rattle.em_script.specs.declared.line.Part.{Part}
use Rattle.em_script.specs.declared.line.Place.{Place}
use Rattle.em_script.specs.declared.line.Place.TheVariants as places
use Rattle.em_script.specs.declared.named.Named.{Named}
use Rattle.em_script.specs.declared.named.Named.TheVariants as named
use Rattle.em_script.specs.declared.phase.Phase.{Phase}
use Rattle.em_script.specs.declared.phase.Phase.TheVariants as phases
use Rattle.em_script.specs.declared.words.TopWord.{TopWord}
use Rattle.em_script.specs.declared.words.TopWord.TheVariants as top
use Rattle.em_script.specs.Lines.{Rest}
use Rattle.em_script.specs.Names.{Naming, reading, as_eo}
use Rattle.em_script.specs.Form.{◌>>=◌, given, token_at, first_token, lowered, used, is_over, ◌▷◌, lookup, eo_name}
use Rattle.em_script.specs.Form.{ended as nothing_left}
use Rattle.em_script.specs.Words.{part, part_words, top_word}
use Rattle.em_script.specs.Declarations.{body_form, top_line_behind, read_top_line, may_stand}
use Rattle.em_script.specs.State.{State}
use Rattle.em_script.specs.Judging.{read_by_phase, may_else}
use Rattle.em_script.proofs.Binds.{some-is, bind-some, given-some, test-some, cond-some}
use Rattle.em_script.proofs.Judgments.{Said}
use Rattle.em_script.proofs.Agreeing.{Agree}
use Rattle.em_script.proofs.Standing.{declares, InBody, given-all, read_queue-declares, body-stands}
use Rattle.em_script.proofs.Written.{IsPlace}
use Rattle.em_script.proofs.Arranging.{PlaceIsKnown}

-- a name stands for the object whose body begins
abbrev IsKnownPlace : Naming → Place → Type 0
IsKnownPlace names (places.Object eo p) = (token : List ℕ) × (names.find token ≡ Some (named.Eo eo))
IsKnownPlace names _ = Unit {0}

abbrev IsKnownLine : Naming → Line → Type 0
IsKnownLine names (lines.Body p) = IsKnownPlace names p
IsKnownLine names _ = Unit {0}

first-rule : (rule : ℕ) (tokens : List (List ℕ)) (t : List ℕ) (s' : Rest) → first_token rule tokens ≡ Some (t, s') → s'.rule ≡ rule
first-rule rule [] t s' e = absurd cc
first-rule rule (token ∷ tokens) t s' e = sym (ap (λ (p : List ℕ × Rest). p.1.rule) (some-is (token, record { tokens = tokens; rule = rule }) (t, s') e))

pub token-rule : (s : Rest) (t : List ℕ) (s' : Rest) → token_at s ≡ Some (t, s') → s'.rule ≡ s.rule
unfolding token_at
token-rule s t s' e = first-rule s.rule s.tokens t s' e

part-rule : (s : Rest) (x : Part) (s' : Rest) → part.read s ≡ Some (x, s') → s'.rule ≡ s.rule
part-rule s x s' e =
    let t = bind-some (token_at s) (λ t. lookup t.0 part_words >>= λ x. Some (x, t.1)) (x, s') e in
    let y = bind-some (lookup t.0.0 part_words) (λ x. Some (x, t.0.1)) (x, s') t.2 in
    let same : t.0.1 ≡ s' = ap (λ (p : Part × Rest). p.1) (some-is (y.0, t.0.1) (x, s') y.2) in
    ap (λ (r : Rest). r.rule) (sym same) ∙ token-rule s t.0.0 t.0.1 t.1

left-rule : (s : Rest) (x : Unit {0}) (s' : Rest) → nothing_left.read s ≡ Some (x, s') → s'.rule ≡ s.rule
left-rule s x s' e = let c = cond-some (is_over s) (tt, s) (x, s') e in ap (λ (p : Unit {0} × Rest). p.1.rule) (sym c.1)

met : (good : Bool) (least : ℕ) → 12 ≤ lowered 5 good least → good ≡ true
met true least le = refl
met false least le = absurd (omega arith)

found-eo : (o : Option Named) (id : EoId) → (o >>= as_eo) ≡ Some id → o ≡ Some (named.Eo id)
found-eo None id e = absurd cc
found-eo (Some (named.Pool x)) id e = absurd cc
found-eo (Some (named.Group x)) id e = absurd cc
found-eo (Some (named.Eo x)) id e = ap (λ y. Some (named.Eo y)) (some-is x id e)
found-eo (Some (named.Agroup x)) id e = absurd cc
found-eo (Some (named.Queue x)) id e = absurd cc
found-eo (Some (named.Egroup x)) id e = absurd cc

some-of : (o : Option EoId) (d : EoId) → is_some o ≡ true → o ≡ Some (unwrap_or o d)
some-of None d e = absurd cc
some-of (Some x) d e = refl

eo-known : (names : Naming) (s : Rest) (eo : EoId) (s' : Rest) → (eo_name names).read s ≡ Some (eo, s') → 12 ≤ s'.rule → (token : List ℕ) × (names.find token ≡ Some (named.Eo eo))
eo-known names s eo s' e le =
    let t = bind-some (token_at s) (λ t. Some (used (record { 0 = 0 }) (names.find t.0 >>= as_eo) t.1)) (eo, s') e in
    let found = names.find t.0.0 >>= as_eo in
    let same = some-is (used (record { 0 = 0 }) found t.0.1) (eo, s') t.2 in
    let rule : lowered 5 (is_some found) t.0.1.rule ≡ s'.rule = ap (λ (p : EoId × Rest). p.1.rule) same in
    let good = met (is_some found) t.0.1.rule (rw rule le) in
    let value : unwrap_or found (record { 0 = 0 }) ≡ eo = ap (λ (p : EoId × Rest). p.0) same in
    (t.0.0, found-eo (names.find t.0.0) eo (some-of found (record { 0 = 0 }) good ∙ ap (λ x. Some x) value))

body-known : (names : Naming) (s : Rest) (l : Line) (s' : Rest) → given (λ p. lines.Body (places.Object p.0 p.1.0)) ((body_form names).read s) ≡ Some (l, s') → 12 ≤ s'.rule → IsKnownLine names l
body-known names s l s' e le =
    let v = given-some (λ p. lines.Body (places.Object p.0 p.1.0)) ((body_form names).read s) l s' e in
    let x = bind-some ((eo_name names).read s) (λ x. (part ▷ nothing_left).read x.1 >>= λ y. Some ((x.0, y.0), y.1)) (v.0, s') v.1 in
    let y = bind-some ((part ▷ nothing_left).read x.0.1) (λ y. Some ((x.0.0, y.0), y.1)) (v.0, s') x.2 in
    let same = some-is ((x.0.0, y.0.0), y.0.1) (v.0, s') y.2 in
    let a = bind-some (part.read x.0.1) (λ a. nothing_left.read a.1 >>= λ b. Some ((a.0, b.0), b.1)) y.0 y.1 in
    let b = bind-some (nothing_left.read a.0.1) (λ b. Some ((a.0.0, b.0), b.1)) y.0 a.2 in
    let last : b.0.1 ≡ s' = ap (λ (p : (Part × Unit {0}) × Rest). p.1) (some-is ((a.0.0, b.0.0), b.0.1) y.0 b.2) ∙ ap (λ (p : (EoId × (Part × Unit {0})) × Rest). p.1) same in
    let first : s'.rule ≡ b.0.1.rule = ap (λ (r : Rest). r.rule) (sym last) in
    let second : b.0.1.rule ≡ a.0.1.rule = left-rule a.0.1 b.0.0 b.0.1 b.1 in
    let third : a.0.1.rule ≡ x.0.1.rule = part-rule x.0.1 a.0.0 a.0.1 a.1 in
    let rule : s'.rule ≡ x.0.1.rule = first ∙ second ∙ third in
    let eo : x.0.0 ≡ v.0.0 = ap (λ (p : (EoId × (Part × Unit {0})) × Rest). p.0.0) same in
    let known = eo-known names s x.0.0 x.0.1 x.1 (rw (sym rule) le) in
    subst (IsKnownLine names) v.2 (known.0, known.1 ∙ ap (λ z. Some (named.Eo z)) eo)

declares-known : (names : Naming) (l : Line) → declares l ≡ true → IsKnownLine names l
declares-known names (lines.Body q) e = absurd cc
declares-known names (lines.Cores n) e = tt
declares-known names (lines.Pool d) e = tt
declares-known names (lines.Group name mask) e = tt
declares-known names (lines.Eo name running) e = tt
declares-known names (lines.Agroup d) e = tt
declares-known names (lines.Queue d) e = tt
declares-known names (lines.Egroup name) e = tt
declares-known names lines.Done e = tt
declares-known names (lines.Statement x) e = tt
declares-known names (lines.If x) e = tt
declares-known names (lines.Repeat n) e = tt
declares-known names lines.Else e = tt
declares-known names lines.End e = tt

in_body-known : (names : Naming) (may : Bool) (l : Line) → InBody may l → IsKnownLine names l
in_body-known names may (lines.Body q) h = absurd h
in_body-known names may (lines.Cores n) h = tt
in_body-known names may (lines.Pool d) h = tt
in_body-known names may (lines.Group name mask) h = tt
in_body-known names may (lines.Eo name running) h = tt
in_body-known names may (lines.Agroup d) h = tt
in_body-known names may (lines.Queue d) h = tt
in_body-known names may (lines.Egroup name) h = tt
in_body-known names may lines.Done h = tt
in_body-known names may (lines.Statement x) h = tt
in_body-known names may (lines.If x) h = tt
in_body-known names may (lines.Repeat n) h = tt
in_body-known names may lines.Else h = tt
in_body-known names may lines.End h = tt

top-known : (names : Naming) (cores : ℕ) (w : TopWord) (s : Rest) (l : Line) (s' : Rest) → top_line_behind names cores w s ≡ Some (l, s') → 12 ≤ s'.rule → IsKnownLine names l
unfolding top_line_behind
top-known names cores top.Body s l s' e le = body-known names s l s' e le
top-known names cores top.Queue s l s' e le = declares-known names l (read_queue-declares names s l s' e)
top-known names cores top.Cores s l s' e le = given-all (IsKnownLine names) _ _ l s' (λ x. tt) e
top-known names cores top.Pool s l s' e le = given-all (IsKnownLine names) _ _ l s' (λ x. tt) e
top-known names cores top.Group s l s' e le = given-all (IsKnownLine names) _ _ l s' (λ x. tt) e
top-known names cores top.Eo s l s' e le = given-all (IsKnownLine names) _ _ l s' (λ x. tt) e
top-known names cores top.Agroup s l s' e le = given-all (IsKnownLine names) _ _ l s' (λ x. tt) e
top-known names cores top.Egroup s l s' e le = given-all (IsKnownLine names) _ _ l s' (λ x. tt) e
top-known names cores top.Boot s l s' e le = given-all (IsKnownLine names) _ _ l s' (λ x. tt) e
top-known names cores top.Error s l s' e le = given-all (IsKnownLine names) _ _ l s' (λ x. tt) e
top-known names cores top.Done s l s' e le = given-all (IsKnownLine names) _ _ l s' (λ x. tt) e

read_top-known : (names : Naming) (cores : ℕ) (phase : Phase) (s : Rest) (l : Line) (s' : Rest) → read_top_line names cores phase s ≡ Some (l, s') → 12 ≤ s'.rule → IsKnownLine names l
unfolding read_top_line
read_top-known names cores phase s l s' e le =
    let w = bind-some (top_word.read s) (λ w. cond (may_stand phase w.0) (top_line_behind names cores w.0 w.1) None) (l, s') e in
    let c = test-some (may_stand phase w.0.0) (top_line_behind names cores w.0.0 w.0.1) (l, s') w.2 in
    top-known names cores w.0.0 w.0.1 l s' c.1 le

phase-known : (p : Phase) (s : State) (rest : Rest) (l : Line) (s' : Rest) → read_by_phase p s rest ≡ Some (l, s') → 12 ≤ s'.rule → IsKnownLine (reading s.table) l
phase-known phases.First s rest l s' e le = read_top-known (reading s.table) s.graph.cores phases.First rest l s' e le
phase-known phases.Declarations s rest l s' e le = read_top-known (reading s.table) s.graph.cores phases.Declarations rest l s' e le
phase-known phases.Bodies s rest l s' e le = read_top-known (reading s.table) s.graph.cores phases.Bodies rest l s' e le
phase-known (phases.Body p) s rest l s' e le = in_body-known (reading s.table) (may_else s.nest) l (body-stands (reading s.table) (may_else s.nest) rest l s' e)
phase-known phases.Done s rest l s' e le = read_top-known (reading s.table) s.graph.cores phases.Done rest l s' e le

known-place : (s : State) (p : Place) → Agree s.graph s.table → IsKnownPlace (reading s.table) p → IsPlace s.graph p
known-place s places.Boot agree h = tt
known-place s places.Error agree h = tt
known-place s (places.Object eo p) agree h = agree.declared h.0 (named.Eo eo) h.1

known-line : (s : State) (l : Line) → Agree s.graph s.table → IsKnownLine (reading s.table) l → PlaceIsKnown s l
known-line s (lines.Body q) agree h = known-place s q agree h
known-line s (lines.Cores n) agree h = tt
known-line s (lines.Pool d) agree h = tt
known-line s (lines.Group name mask) agree h = tt
known-line s (lines.Eo name running) agree h = tt
known-line s (lines.Agroup d) agree h = tt
known-line s (lines.Queue d) agree h = tt
known-line s (lines.Egroup name) agree h = tt
known-line s lines.Done agree h = tt
known-line s (lines.Statement x) agree h = tt
known-line s (lines.If x) agree h = tt
known-line s (lines.Repeat n) agree h = tt
known-line s lines.Else agree h = tt
known-line s lines.End agree h = tt

-- where a body begins its place is in the graph
pub said-place : (s : State) (bytes : List ℕ) (l : Line) → Said s bytes l → Agree s.graph s.table → PlaceIsKnown s l
said-place s bytes l said agree =
    let rule = said.rule in
    let le : 12 ≤ said.rest.rule = omega arith in
    known-line s l agree (phase-known s.phase s _ l said.rest said.read le)
