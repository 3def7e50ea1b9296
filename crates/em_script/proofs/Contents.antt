-- What is declared is as a graph may declare it: pools, queue groups and atomic groups.
use Rattle.std.proofs.Common.{◌≡◌, ℕ, ◌-◌, ◌^◌, ◌≤◌, Bool, true, eqb, ltb, leb, List, [], ◌∷◌, ◌++◌, length, refl, ap, arith, length-append, le-leb, lt-ltb, leb-true}
use Rattle.std.specs.Prelude.{not, ◌&&◌}
use Rattle.std.specs.List.{list_all}
use Rattle.std.proofs.lemmas.Bool.{ne_eqb}
use Rattle.em_log.specs.WellFormed.{is_pool, is_group}
use Rattle.em_log.specs.declared.graph.Config.{Config}
use Rattle.em_log.specs.declared.graph.PoolDecl.{PoolDecl}
use Rattle.em_log.specs.declared.graph.GroupDecl.{GroupDecl}
use Rattle.em_log.specs.declared.graph.AgroupDecl.{AgroupDecl}
use Rattle.em_log.specs.declared.body.Stmt.{Stmt}
use Rattle.em_script.specs.declared.draft.Frame.{Frame}
use Rattle.em_script.specs.declared.line.Line.{Line}
use Rattle.em_script.specs.declared.line.Line.TheVariants as lines
use Rattle.em_script.specs.declared.line.Place.{Place}
use Rattle.em_script.specs.declared.line.Place.TheVariants as places
use Rattle.em_script.specs.declared.phase.Phase.{Phase}
use Rattle.em_script.specs.declared.phase.Phase.TheVariants as phases
use Rattle.em_script.specs.Names.{Naming}
use Rattle.em_script.specs.State.{State, first_state, after, ended, turned, body_ended, with_body}
use Rattle.em_script.proofs.Forms.{and-both, and-true}
use Rattle.em_script.proofs.Standing.{declares, tells_cores}
use Rattle.em_script.proofs.DeclarationForms.{TopFits}

-- pools, queue groups and atomic groups are as a graph may declare them
pub record AreGood (g : Config) : Type 0 where
  pub pools : list_all is_pool g.pools ≡ true
  pub groups : list_all (is_group g.cores) g.groups ≡ true
  pub agroups : list_all (λ d. leb d.group.0 (length g.groups)) g.agroups ≡ true

pub all-more : {A : Type 0} (p : A → Bool) (xs : List A) (y : A) → list_all p xs ≡ true → p y ≡ true → list_all p (xs ++ y ∷ []) ≡ true
all-more p [] y h e = and-both (p y) true e refl
all-more p (x ∷ xs) y h e = let k = and-true (p x) (list_all p xs) h in and-both (p x) (list_all p (xs ++ y ∷ [])) k.0 (all-more p xs y k.1 e)

agroups-grow : (ds : List AgroupDecl) (n m : ℕ) → n ≤ m → list_all (λ d. leb d.group.0 n) ds ≡ true → list_all (λ d. leb d.group.0 m) ds ≡ true
agroups-grow [] n m le h = refl
agroups-grow (d ∷ ds) n m le h =
    let k = and-true (leb d.group.0 n) (list_all (λ d. leb d.group.0 n) ds) h in
    let small = leb-true d.group.0 n k.0 in
    and-both (leb d.group.0 m) (list_all (λ d. leb d.group.0 m) ds) (le-leb d.group.0 m (omega arith)) (agroups-grow ds n m le k.1)

pool-good : (d : PoolDecl) → 1 ≤ d.events → d.events ≤ 4096 → d.words ≤ 16 → is_pool d ≡ true
pool-good d a b c = and-both (leb 1 d.events && leb d.events 4096) (leb d.words 16) (and-both (leb 1 d.events) (leb d.events 4096) (le-leb 1 d.events a) (le-leb d.events 4096 b)) (le-leb d.words 16 c)

not-zero : (k : ℕ) → 1 ≤ k → not (eqb k 0) ≡ true
not-zero k le = ap not (ne_eqb k 0 (λ e. absurd (omega arith)))

group-good : (cores k : ℕ) → 1 ≤ k → k ≤ 2 ^ cores - 1 → (not (eqb k 0) && ltb k (2 ^ cores)) ≡ true
group-good cores k a b = and-both (not (eqb k 0)) (ltb k (2 ^ cores)) (not-zero k a) (lt-ltb k (2 ^ cores) (omega arith))

good-body : (p : Place) (b : List Stmt) (g : Config) → AreGood g → AreGood (with_body p b g)
good-body places.Boot b g h = record { pools = h.pools; groups = h.groups; agroups = h.agroups }
good-body places.Error b g h = record { pools = h.pools; groups = h.groups; agroups = h.agroups }
good-body (places.Object eo p) b g h = record { pools = h.pools; groups = h.groups; agroups = h.agroups }

good-body_ended : (p : Phase) (s : State) → AreGood s.graph → AreGood (body_ended p s).graph
good-body_ended phases.First s h = h
good-body_ended phases.Declarations s h = h
good-body_ended phases.Bodies s h = h
good-body_ended (phases.Body p) s h = good-body p s.block s.graph h
good-body_ended phases.Done s h = h

good-ended : (nest : List Frame) (s : State) → AreGood s.graph → AreGood (ended nest s).graph
good-ended [] s h = good-body_ended s.phase s h
good-ended (f ∷ fs) s h = h

good-turned : (nest : List Frame) (s : State) → AreGood s.graph → AreGood (turned nest s).graph
good-turned [] s h = h
good-turned (f ∷ fs) s h = h

-- the queue group of an atomic group has been declared
abbrev pub GroupIsKnown : State → Line → Type 0
GroupIsKnown s (lines.Agroup d) = d.group.0 ≤ length s.graph.groups
GroupIsKnown s _ = Unit {0}

pub good-first : AreGood first_state.graph
good-first = record { pools = refl; groups = refl; agroups = refl }

-- each line keeps this, where it fits, and where the cores are told before any queue group
pub good-after : (names : Naming) (l : Line) (s : State) → (declares l ≡ true → TopFits names s.graph.cores l) → GroupIsKnown s l → (tells_cores l ≡ true → s.graph.groups ≡ []) → AreGood s.graph → AreGood (after l s).graph
good-after names (lines.Cores n) s fits known first h = record { pools = h.pools; groups = ap (list_all (is_group n)) (first refl); agroups = h.agroups }
good-after names (lines.Pool d) s fits known first h =
    let f = fits refl in
    record { pools = all-more is_pool s.graph.pools d h.pools (pool-good d f.1.0.0 f.1.0.1 f.1.1.0.1); groups = h.groups; agroups = h.agroups }
good-after names (lines.Group name mask) s fits known first h =
    let f = fits refl in
    let d : GroupDecl = record { name = name; mask = record { 0 = mask } } in
    record {
      pools = h.pools;
      groups = all-more (is_group s.graph.cores) s.graph.groups d h.groups (group-good s.graph.cores mask f.1.0.0 f.1.0.1);
      agroups = agroups-grow s.graph.agroups (length s.graph.groups) (length (s.graph.groups ++ d ∷ [])) (omega (arith, length-append s.graph.groups (d ∷ []))) h.agroups;
    }
good-after names (lines.Eo name running) s fits known first h = record { pools = h.pools; groups = h.groups; agroups = h.agroups }
good-after names (lines.Agroup d) s fits known first h =
    record { pools = h.pools; groups = h.groups; agroups = all-more (λ d. leb d.group.0 (length s.graph.groups)) s.graph.agroups d h.agroups (le-leb d.group.0 (length s.graph.groups) known) }
good-after names (lines.Queue d) s fits known first h = record { pools = h.pools; groups = h.groups; agroups = h.agroups }
good-after names (lines.Egroup name) s fits known first h = record { pools = h.pools; groups = h.groups; agroups = h.agroups }
good-after names (lines.Body p) s fits known first h = h
good-after names lines.Done s fits known first h = h
good-after names (lines.Statement x) s fits known first h = h
good-after names (lines.If e) s fits known first h = h
good-after names (lines.Repeat n) s fits known first h = h
good-after names lines.Else s fits known first h = good-turned s.nest s h
good-after names lines.End s fits known first h = good-ended s.nest s h
