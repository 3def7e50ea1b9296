-- Each line that is said was written so.
use Rattle.std.proofs.Common.{◌≡◌, ℕ, zero, suc, ◌-◌, ◌^◌, ◌<◌, ◌≤◌, Bool, true, List, length, Some, refl, sym, subst, ◌∙◌, arith, inl, inr, ◌⊎◌}
use Rattle.std.specs.Prelude.{codes}
use Rattle.std.specs.FinMap as map
use Rattle.em_log.specs.declared.graph.Config.{Config}
use Rattle.em_script.specs.declared.line.Line.{Line}
use Rattle.em_script.specs.declared.line.Line.TheVariants as lines
use Rattle.em_script.specs.declared.named.Named.{Named}
use Rattle.em_script.specs.declared.named.Named.TheVariants as named
use Rattle.em_script.specs.declared.phase.Phase.{Phase}
use Rattle.em_script.specs.declared.phase.Phase.TheVariants as phases
use Rattle.em_script.specs.Lines.{Rest, tokens}
use Rattle.em_script.specs.Names.{Naming, Table, name_in, no_meaning, no_name, reading, writing}
use Rattle.em_script.specs.Declarations.{read_top_line}
use Rattle.em_script.specs.Statements.{read_body_line}
use Rattle.em_script.specs.Spelling.{line_tokens}
use Rattle.em_script.specs.State.{State, first_state, after}
use Rattle.em_script.specs.Judging.{read_by_phase, may_else}
use Rattle.em_script.proofs.Judgments.{Said, whole}
use Rattle.em_script.proofs.Agreeing.{Agree, Extends, inserted, no-group, extends-then, extends-after, turned-table, ended-table}
use Rattle.em_script.proofs.Standing.{declares}
use Rattle.em_script.proofs.Forms.{IsPlain}
use Rattle.em_script.proofs.NameForms.{IsNaming}
use Rattle.em_script.proofs.SlotForms.{IsFree, name-plain}
use Rattle.em_script.proofs.DeclarationForms.{TopFits, top_line-took}
use Rattle.em_script.proofs.StatementForms.{BodyLineFits, body_line-took}
use Rattle.em_script.proofs.BothWays.{body_line-same, top_line-same, line-same}
use Rattle.em_script.proofs.WordForms.{plain-word}

-- the names that stand for something are tokens
abbrev pub ArePlain : Table → Type 0
ArePlain table = (name : List ℕ) (x : Named) → map.get table name ≡ Some x → IsPlain name

-- names as they are read in this state, and written in this graph
abbrev pub naming : Table → Config → Naming
naming table g = record { find = map.get table; name = name_in g }

pub is-naming : (s : State) (g : Config) → Agree s.graph s.table → ArePlain s.table → Extends s.graph g → IsNaming (naming s.table g)
is-naming s g agree plain ext = record {
  named = λ token x e. ext.same x (agree.declared token x e) ∙ agree.named token x e;
  plain = λ x known. plain (name_in g x) x known;
}

pub powers : (c : ℕ) → c ≤ 8 → 2 ^ c - 1 < 2 ^ 64
powers zero le = omega arith
powers (suc zero) le = omega arith
powers (suc (suc zero)) le = omega arith
powers (suc (suc (suc zero))) le = omega arith
powers (suc (suc (suc (suc zero)))) le = omega arith
powers (suc (suc (suc (suc (suc zero))))) le = omega arith
powers (suc (suc (suc (suc (suc (suc zero)))))) le = omega arith
powers (suc (suc (suc (suc (suc (suc (suc zero))))))) le = omega arith
powers (suc (suc (suc (suc (suc (suc (suc (suc zero)))))))) le = omega arith
powers (suc (suc (suc (suc (suc (suc (suc (suc (suc c))))))))) le = absurd (omega arith)

-- what a line said, by its names and where it stands
pub record Taken (names : Naming) (cores : ℕ) (may : Bool) (ts : List (List ℕ)) (l : Line) : Type 0 where
  pub tokens : ts ≡ line_tokens names l
  pub named : declares l ≡ true → TopFits names cores l
  pub fits : TopFits names cores l ⊎ BodyLineFits names may l

top-taken : (table : Table) (g : Config) → IsNaming (naming table g) → (cores : ℕ) → cores ≤ 8 → (phase : Phase) (may : Bool) (ts : List (List ℕ)) (l : Line) (s' : Rest) → read_top_line (reading table) cores phase (whole ts) ≡ Some (l, s') → s'.rule ≡ 12 → Taken (naming table g) cores may ts l
top-taken table g is cores few phase may ts l s' e rule =
    let t = top_line-took (naming table g) is cores (powers cores few) phase (whole ts) l s' (sym (top_line-same (map.get table) no_name (name_in g) cores phase (whole ts)) ∙ e) (let e = rule in omega arith) in
    record { tokens = t.tokens; named = λ d. t.fits; fits = inl t.fits }

no-declaration : (names : Naming) (cores : ℕ) (may : Bool) (l : Line) → BodyLineFits names may l → declares l ≡ true → TopFits names cores l
no-declaration names cores may (lines.Cores n) fits e = absurd cc
no-declaration names cores may (lines.Pool d) fits e = absurd fits
no-declaration names cores may (lines.Group name mask) fits e = absurd fits
no-declaration names cores may (lines.Eo name running) fits e = absurd fits
no-declaration names cores may (lines.Agroup d) fits e = absurd fits
no-declaration names cores may (lines.Queue d) fits e = absurd fits
no-declaration names cores may (lines.Egroup name) fits e = absurd fits
no-declaration names cores may (lines.Body q) fits e = absurd cc
no-declaration names cores may lines.Done fits e = absurd cc
no-declaration names cores may (lines.Statement x) fits e = absurd cc
no-declaration names cores may (lines.If x) fits e = absurd cc
no-declaration names cores may (lines.Repeat n) fits e = absurd cc
no-declaration names cores may lines.Else fits e = absurd cc
no-declaration names cores may lines.End fits e = absurd cc

body-taken : (table : Table) (g : Config) → IsNaming (naming table g) → (cores : ℕ) (may : Bool) (ts : List (List ℕ)) (l : Line) (s' : Rest) → read_body_line (reading table) may (whole ts) ≡ Some (l, s') → s'.rule ≡ 12 → Taken (naming table g) cores may ts l
body-taken table g is cores may ts l s' e rule =
    let t = body_line-took (naming table g) is may (whole ts) l s' (sym (body_line-same (map.get table) no_name (name_in g) may (whole ts)) ∙ e) (let e = rule in omega arith) in
    record { tokens = t.tokens; named = λ d. no-declaration (naming table g) cores may l t.fits d; fits = inr t.fits }

pub phase-taken : (p : Phase) (s : State) (g : Config) → IsNaming (naming s.table g) → s.graph.cores ≤ 8 → (ts : List (List ℕ)) (l : Line) (s' : Rest) → read_by_phase p s (whole ts) ≡ Some (l, s') → s'.rule ≡ 12 → Taken (naming s.table g) s.graph.cores (may_else s.nest) ts l
phase-taken phases.First s g is few ts l s' e rule = top-taken s.table g is s.graph.cores few phases.First (may_else s.nest) ts l s' e rule
phase-taken phases.Declarations s g is few ts l s' e rule = top-taken s.table g is s.graph.cores few phases.Declarations (may_else s.nest) ts l s' e rule
phase-taken phases.Bodies s g is few ts l s' e rule = top-taken s.table g is s.graph.cores few phases.Bodies (may_else s.nest) ts l s' e rule
phase-taken (phases.Body p) s g is few ts l s' e rule = body-taken s.table g is s.graph.cores (may_else s.nest) ts l s' e rule
phase-taken phases.Done s g is few ts l s' e rule = top-taken s.table g is s.graph.cores few phases.Done (may_else s.nest) ts l s' e rule

-- where no rule failed, a line was written as what it says, by the names of each graph that goes on from here
pub said-tokens : (s : State) (bytes : List ℕ) (l : Line) (said : Said s bytes l) → said.rest.rule ≡ 12 → Agree s.graph s.table → ArePlain s.table → s.graph.cores ≤ 8 → (g : Config) → Extends (after l s).graph g → tokens bytes ≡ line_tokens (writing g) l
said-tokens s bytes l said rule agree plain few g ext =
    let is = is-naming s g agree plain (extends-then s.graph (after l s).graph g (extends-after l s) ext) in
    (phase-taken s.phase s g is few (tokens bytes) l said.rest said.read rule).tokens ∙ line-same (map.get s.table) no_meaning (name_in g) l

-- ---- the names that are declared are tokens

plain-more : (table : Table) (name : List ℕ) (meaning : Named) → ArePlain table → IsPlain name → ArePlain (map.insert table name meaning)
plain-more table name meaning plain p q x e = elim (inserted table name meaning q x e) [
  | inl k ↦ subst IsPlain (sym k.0) p
  | inr k ↦ plain q x k
]

free-plain : (names : Naming) (name : List ℕ) → IsFree names name → IsPlain name
free-plain names name free = name-plain name free.name-is

plain-after : (names : Naming) (cores : ℕ) (l : Line) (s : State) → (declares l ≡ true → TopFits names cores l) → ArePlain s.table → ArePlain (after l s).table
plain-after names cores (lines.Cores n) s fits plain = plain
plain-after names cores (lines.Pool d) s fits plain = plain-more s.table d.name (named.Pool (record { 0 = length s.graph.pools })) plain (free-plain names d.name (fits refl).0)
plain-after names cores (lines.Group name mask) s fits plain = plain-more s.table name (named.Group (record { 0 = suc (length s.graph.groups) })) plain (free-plain names name (fits refl).0)
plain-after names cores (lines.Eo name running) s fits plain = plain-more s.table name (named.Eo (record { 0 = length s.graph.eos })) plain (free-plain names name (fits refl).0)
plain-after names cores (lines.Agroup d) s fits plain = plain-more s.table d.name (named.Agroup (length s.graph.agroups)) plain (free-plain names d.name (fits refl).0)
plain-after names cores (lines.Queue d) s fits plain = plain-more s.table d.name (named.Queue (record { 0 = length s.graph.queues })) plain (free-plain names d.name (fits refl).0)
plain-after names cores (lines.Egroup name) s fits plain = plain-more s.table name (named.Egroup (record { 0 = length s.graph.egroups })) plain (free-plain names name (fits refl).0)
plain-after names cores (lines.Body q) s fits plain = plain
plain-after names cores lines.Done s fits plain = plain
plain-after names cores (lines.Statement x) s fits plain = plain
plain-after names cores (lines.If x) s fits plain = plain
plain-after names cores (lines.Repeat n) s fits plain = plain
plain-after names cores lines.Else s fits plain = subst ArePlain (sym (turned-table s.nest s)) plain
plain-after names cores lines.End s fits plain = subst ArePlain (sym (ended-table s.nest s)) plain

pub said-plain : (s : State) (bytes : List ℕ) (l : Line) (said : Said s bytes l) → said.rest.rule ≡ 12 → Agree s.graph s.table → ArePlain s.table → s.graph.cores ≤ 8 → ArePlain (after l s).table
said-plain s bytes l said rule agree plain few =
    let g = (after l s).graph in
    let is = is-naming s g agree plain (extends-after l s) in
    plain-after (naming s.table g) s.graph.cores l s (phase-taken s.phase s g is few (tokens bytes) l said.rest said.read rule).named plain

pub plain-first : ArePlain first_state.table
plain-first name x e = elim (inserted map.empty (codes "all") (named.Group (record { 0 = 0 })) name x e) [
  | inl k ↦ subst IsPlain (sym k.0) (plain-word (codes "all") refl refl)
  | inr k ↦ absurd (no-group name x k)
]
