-- The laws of the lines outside bodies.
use Rattle.std.proofs.Common.{◌≡◌, ℕ, ◌-◌, ◌^◌, ◌<◌, ◌≤◌, true, cond, List, [], ◌∷◌, ◌++◌, Some, None, refl, sym, ap, subst, ◌∙◌, arith, append-nil}
use Rattle.std.specs.List.{AllByRecursion}
use Rattle.std.specs.Prelude.{codes}
use Rattle.em_log.specs.declared.graph.QueueDecl.{QueueDecl}
use Rattle.em_log.specs.declared.graph.Priority.{Priority}
use Rattle.em_log.specs.declared.ids.Kind.{Kind}
use Rattle.em_log.specs.declared.ids.Kind.TheVariants as kinds
use Rattle.em_log.specs.declared.ids.GroupId.{GroupId}
use Rattle.em_log.specs.declared.ids.EoId.{EoId}
use Rattle.em_script.specs.declared.line.Line.{Line}
use Rattle.em_script.specs.declared.line.Line.TheVariants as lines
use Rattle.em_script.specs.declared.line.Place.TheVariants as places
use Rattle.em_script.specs.declared.line.Membership.{Membership}
use Rattle.em_script.specs.declared.line.Membership.TheVariants as memberships
use Rattle.em_script.specs.declared.phase.Phase.{Phase}
use Rattle.em_script.specs.declared.words.TopWord.{TopWord}
use Rattle.em_script.specs.declared.words.TopWord.TheVariants as top
use Rattle.em_script.specs.declared.named.Named.TheVariants as named
use Rattle.em_script.specs.Lines.{Rest}
use Rattle.em_script.specs.Names.{Naming}
use Rattle.em_script.specs.Words.{top_text, top_word, kind_text, kind}
use Rattle.em_script.specs.Form.{◌>>=◌, Form, given, ◌▷◌, ended, new_name}
use Rattle.em_script.specs.Spelling.{line_tokens}
use Rattle.em_script.specs.Declarations.{cores_form, pool_form, group_form, eo_form, agroup_form, egroup_form, body_form, membership, atomic_form, grouped_form, local_form, atomic_queue, grouped_queue, local_queue, free_queue, queue_behind, read_queue, membership_of, kind_tokens, queue_tokens, top_line_behind, may_stand, read_top_line}
use Rattle.em_script.proofs.Binds.{bind-some, test-some, given-some}
use Rattle.em_script.proofs.Forms.{IsPlain, well_rest, IsForm, Any, Nothing, then-form, ended-form}
use Rattle.em_script.proofs.NumberForms.{number-form}
use Rattle.em_script.proofs.WordForms.{plain-word}
use Rattle.em_script.proofs.NameForms.{IsKnown, IsNaming, group_name-form, eo_name-form}
use Rattle.em_script.proofs.SlotForms.{IsFree, new_name-form, top_word-form, priority-form, part-form, kind-form, last-form, flag-last, MembershipFits, membership-last}

-- ---- the forms behind the first words

then-law : {A B : Type 0} {f : Form A} {g : Form B} {F : A → Type 0} {G : B → Type 0} {E : List (List ℕ) → Type 0} → IsForm f F Any → IsForm g G E → IsForm (f ▷ g) (λ p. F p.0 × G p.1) E
then-law {f = f} {g = g} {F = F} {G = G} {E = E} a b = then-form f g F G E a b

cores-law : IsForm cores_form (λ p. ((1 ≤ p.0) × (p.0 ≤ 8)) × Unit {0}) Nothing
cores-law = then-law (number-form 1 8 (omega arith)) ended-form

pool-law : (names : Naming) → IsForm (pool_form names) (λ p. IsFree names p.0 × (((1 ≤ p.1.0) × (p.1.0 ≤ 4096)) × (((0 ≤ p.1.1.0) × (p.1.1.0 ≤ 16)) × Unit {0}))) Nothing
pool-law names = then-law (new_name-form names) (then-law (number-form 1 4096 (omega arith)) (then-law (number-form 0 16 (omega arith)) ended-form))

group-law : (names : Naming) (cores : ℕ) → 2 ^ cores - 1 < 2 ^ 64 → IsForm (group_form names cores) (λ p. IsFree names p.0 × (((1 ≤ p.1.0) × (p.1.0 ≤ 2 ^ cores - 1)) × Unit {0})) Nothing
group-law names cores few = then-law (new_name-form names) (then-law (number-form 1 (2 ^ cores - 1) few) ended-form)

eo-law : (names : Naming) → IsForm (eo_form names) (λ p. IsFree names p.0 × (Unit {0} × Unit {0})) Nothing
eo-law names = then-law (new_name-form names) (last-form _ (λ _. Unit {0}) (flag-last (codes "running") (plain-word (codes "running") refl refl)))

agroup-law : (names : Naming) → IsNaming names → IsForm (agroup_form names) (λ p. IsFree names p.0 × (IsKnown names (named.Group p.1.0) × Unit {0})) Nothing
agroup-law names is = then-law (new_name-form names) (then-law (group_name-form names is) ended-form)

egroup-law : (names : Naming) → IsForm (egroup_form names) (λ p. IsFree names p.0 × Unit {0}) Nothing
egroup-law names = then-law (new_name-form names) ended-form

body-law : (names : Naming) → IsNaming names → IsForm (body_form names) (λ p. IsKnown names (named.Eo p.0) × (Unit {0} × Unit {0})) Nothing
body-law names is = then-law (eo_name-form names is) (then-law part-form ended-form)

atomic-law : (names : Naming) → IsNaming names → IsForm (atomic_form names) (λ p. IsKnown names (named.Eo p.0) × (Unit {0} × (MembershipFits names p.1.1.0 × Unit {0}))) Nothing
atomic-law names is = then-law (eo_name-form names is) (then-law priority-form (last-form (membership names) (MembershipFits names) (membership-last names is)))

grouped-law : (names : Naming) → IsNaming names → IsForm (grouped_form names) (λ p. IsKnown names (named.Eo p.0) × (Unit {0} × (IsKnown names (named.Group p.1.1.0) × Unit {0}))) Nothing
grouped-law names is = then-law (eo_name-form names is) (then-law priority-form (then-law (group_name-form names is) ended-form))

local-law : (names : Naming) → IsNaming names → IsForm (local_form names) (λ p. IsKnown names (named.Eo p.0) × (Unit {0} × Unit {0})) Nothing
local-law names is = then-law (eo_name-form names is) (then-law priority-form ended-form)

whole : {P : Type 0} {F : P → Type 0} (f : Form P) → IsForm f F Nothing → (p : P) → F p → f.read (well_rest (f.write p)) ≡ Some (p, well_rest [])
whole f law p fits = ap (λ ts. f.read (well_rest ts)) (sym (append-nil (f.write p))) ∙ law.again p fits [] refl

-- ---- queues

pub record AtomicFits (names : Naming) (d : QueueDecl) : Type 0 where
  pub eo : EoId
  pub priority : Priority
  pub member : Membership
  pub is : atomic_queue d.name eo priority member ≡ d
  pub known : IsKnown names (named.Eo eo)
  pub fits : MembershipFits names member

pub record GroupedFits (names : Naming) (k : Kind) (d : QueueDecl) : Type 0 where
  pub eo : EoId
  pub priority : Priority
  pub group : GroupId
  pub is : grouped_queue d.name k eo priority group ≡ d
  pub known : IsKnown names (named.Eo eo)
  pub fits : IsKnown names (named.Group group)

pub record LocalFits (names : Naming) (d : QueueDecl) : Type 0 where
  pub eo : EoId
  pub priority : Priority
  pub is : local_queue d.name eo priority ≡ d
  pub known : IsKnown names (named.Eo eo)

-- what a queue of this kind has
abbrev pub KindFits : Naming → QueueDecl → Kind → Type 0
KindFits names d kinds.Atomic = AtomicFits names d
KindFits names d kinds.Parallel = GroupedFits names kinds.Parallel d
KindFits names d kinds.Ordered = GroupedFits names kinds.Ordered d
KindFits names d kinds.Local = LocalFits names d
KindFits names d kinds.Unscheduled = free_queue d.name kinds.Unscheduled ≡ d
KindFits names d kinds.Output = free_queue d.name kinds.Output ≡ d

abbrev pub QueueFits : Naming → QueueDecl → Type 0
QueueFits names d = IsFree names d.name × KindFits names d d.kind

member-back : (name : List ℕ) (eo : EoId) (p : Priority) (m : Membership) → membership_of (atomic_queue name eo p m) ≡ m
member-back name eo p (memberships.Group g) = refl
member-back name eo p (memberships.Agroup a) = refl

kind-again : (names : Naming) → IsNaming names → (d : QueueDecl) (k : Kind) → KindFits names d k → queue_behind names d.name k (well_rest (kind_tokens names d k)) ≡ Some (lines.Queue d, well_rest [])
unfolding queue_behind
kind-again names is d kinds.Atomic a =
    let law = whole (atomic_form names) (atomic-law names is) (a.eo, (a.priority, (a.member, tt))) (a.known, (tt, (a.fits, tt))) in
    let back : membership_of (atomic_queue d.name a.eo a.priority a.member) ≡ a.member = member-back d.name a.eo a.priority a.member in
    subst (λ e. queue_behind names d.name kinds.Atomic (well_rest (kind_tokens names e kinds.Atomic)) ≡ Some (lines.Queue e, well_rest [])) a.is
    (ap (λ m. queue_behind names d.name kinds.Atomic (well_rest ((atomic_form names).write (a.eo, (a.priority, (m, tt)))))) back
    ∙ ap (given (λ p. lines.Queue (atomic_queue d.name p.0 p.1.0 p.1.1.0))) law)
kind-again names is d kinds.Parallel a =
    let law = whole (grouped_form names) (grouped-law names is) (a.eo, (a.priority, (a.group, tt))) (a.known, (tt, (a.fits, tt))) in
    subst (λ e. queue_behind names d.name kinds.Parallel (well_rest (kind_tokens names e kinds.Parallel)) ≡ Some (lines.Queue e, well_rest [])) a.is
    (ap (given (λ p. lines.Queue (grouped_queue d.name kinds.Parallel p.0 p.1.0 p.1.1.0))) law)
kind-again names is d kinds.Ordered a =
    let law = whole (grouped_form names) (grouped-law names is) (a.eo, (a.priority, (a.group, tt))) (a.known, (tt, (a.fits, tt))) in
    subst (λ e. queue_behind names d.name kinds.Ordered (well_rest (kind_tokens names e kinds.Ordered)) ≡ Some (lines.Queue e, well_rest [])) a.is
    (ap (given (λ p. lines.Queue (grouped_queue d.name kinds.Ordered p.0 p.1.0 p.1.1.0))) law)
kind-again names is d kinds.Local a =
    let law = whole (local_form names) (local-law names is) (a.eo, (a.priority, tt)) (a.known, (tt, tt)) in
    subst (λ e. queue_behind names d.name kinds.Local (well_rest (kind_tokens names e kinds.Local)) ≡ Some (lines.Queue e, well_rest [])) a.is
    (ap (given (λ p. lines.Queue (local_queue d.name p.0 p.1.0))) law)
kind-again names is d kinds.Unscheduled a =
    ap (given (λ _. lines.Queue (free_queue d.name kinds.Unscheduled))) (whole ended ended-form tt tt) ∙ ap (λ e. Some (lines.Queue e, well_rest [])) a
kind-again names is d kinds.Output a =
    ap (given (λ _. lines.Queue (free_queue d.name kinds.Output))) (whole ended ended-form tt tt) ∙ ap (λ e. Some (lines.Queue e, well_rest [])) a

queue-begins : (names : Naming) (name : List ℕ) (k : Kind) (ts : List (List ℕ)) → IsFree names name → read_queue names (well_rest (name ∷ kind_text k ∷ ts)) ≡ queue_behind names name k (well_rest ts)
unfolding read_queue
queue-begins names name k ts free =
    ap (λ o. o >>= λ n. kind.read n.1 >>= λ k. queue_behind names n.0 k.0 k.1) ((new_name-form names).again name free (kind_text k ∷ ts) tt)
    ∙ ap (λ o. o >>= λ k. queue_behind names name k.0 k.1) (kind-form.again k tt ts tt)

queue-again : (names : Naming) → IsNaming names → (d : QueueDecl) → QueueFits names d → read_queue names (well_rest (queue_tokens names d)) ≡ Some (lines.Queue d, well_rest [])
queue-again names is d fits = queue-begins names d.name d.kind (kind_tokens names d d.kind) fits.0 ∙ kind-again names is d d.kind fits.1

record TookKind (names : Naming) (name : List ℕ) (k : Kind) (r : Rest) (line : Line) (s' : Rest) : Type 0 where
  decl : QueueDecl
  line-is : lines.Queue decl ≡ line
  name-is : decl.name ≡ name
  kind-is : decl.kind ≡ k
  tokens : r.tokens ≡ kind_tokens names decl k
  well : 12 ≤ r.rule
  fits : KindFits names decl k
  none : s'.tokens ≡ []

kind-took : (names : Naming) → IsNaming names → (name : List ℕ) (k : Kind) (r : Rest) (line : Line) (s' : Rest) → queue_behind names name k r ≡ Some (line, s') → 12 ≤ s'.rule → TookKind names name k r line s'
unfolding queue_behind
kind-took names is name kinds.Atomic r line s' e over =
    let f = atomic_form names in
    let g = given-some (λ p. lines.Queue (atomic_queue name p.0 p.1.0 p.1.1.0)) (f.read r) line s' e in
    let t = (atomic-law names is).took r g.0 s' g.1 over in
    let back = sym (member-back name g.0.0 g.0.1.0 g.0.1.1.0) in
    record {
      decl = atomic_queue name g.0.0 g.0.1.0 g.0.1.1.0;
      line-is = g.2;
      name-is = refl;
      kind-is = refl;
      tokens = t.tokens ∙ ap (λ ts. f.write g.0 ++ ts) t.ends ∙ append-nil (f.write g.0) ∙ ap (λ m. f.write (g.0.0, (g.0.1.0, (m, tt)))) back;
      well = t.well;
      fits = record { eo = g.0.0; priority = g.0.1.0; member = g.0.1.1.0; is = refl; known = t.fits.0; fits = t.fits.1.1.0 };
      none = t.ends;
    }
kind-took names is name kinds.Parallel r line s' e over =
    let f = grouped_form names in
    let g = given-some (λ p. lines.Queue (grouped_queue name kinds.Parallel p.0 p.1.0 p.1.1.0)) (f.read r) line s' e in
    let t = (grouped-law names is).took r g.0 s' g.1 over in
    record {
      decl = grouped_queue name kinds.Parallel g.0.0 g.0.1.0 g.0.1.1.0;
      line-is = g.2;
      name-is = refl;
      kind-is = refl;
      tokens = t.tokens ∙ ap (λ ts. f.write g.0 ++ ts) t.ends ∙ append-nil (f.write g.0);
      well = t.well;
      fits = record { eo = g.0.0; priority = g.0.1.0; group = g.0.1.1.0; is = refl; known = t.fits.0; fits = t.fits.1.1.0 };
      none = t.ends;
    }
kind-took names is name kinds.Ordered r line s' e over =
    let f = grouped_form names in
    let g = given-some (λ p. lines.Queue (grouped_queue name kinds.Ordered p.0 p.1.0 p.1.1.0)) (f.read r) line s' e in
    let t = (grouped-law names is).took r g.0 s' g.1 over in
    record {
      decl = grouped_queue name kinds.Ordered g.0.0 g.0.1.0 g.0.1.1.0;
      line-is = g.2;
      name-is = refl;
      kind-is = refl;
      tokens = t.tokens ∙ ap (λ ts. f.write g.0 ++ ts) t.ends ∙ append-nil (f.write g.0);
      well = t.well;
      fits = record { eo = g.0.0; priority = g.0.1.0; group = g.0.1.1.0; is = refl; known = t.fits.0; fits = t.fits.1.1.0 };
      none = t.ends;
    }
kind-took names is name kinds.Local r line s' e over =
    let f = local_form names in
    let g = given-some (λ p. lines.Queue (local_queue name p.0 p.1.0)) (f.read r) line s' e in
    let t = (local-law names is).took r g.0 s' g.1 over in
    record {
      decl = local_queue name g.0.0 g.0.1.0;
      line-is = g.2;
      name-is = refl;
      kind-is = refl;
      tokens = t.tokens ∙ ap (λ ts. f.write g.0 ++ ts) t.ends ∙ append-nil (f.write g.0);
      well = t.well;
      fits = record { eo = g.0.0; priority = g.0.1.0; is = refl; known = t.fits.0 };
      none = t.ends;
    }
kind-took names is name kinds.Unscheduled r line s' e over =
    let g = given-some (λ _. lines.Queue (free_queue name kinds.Unscheduled)) (ended.read r) line s' e in
    let t = ended-form.took r g.0 s' g.1 over in
    record { decl = free_queue name kinds.Unscheduled; line-is = g.2; name-is = refl; kind-is = refl; tokens = t.tokens ∙ t.ends; well = t.well; fits = refl; none = t.ends }
kind-took names is name kinds.Output r line s' e over =
    let g = given-some (λ _. lines.Queue (free_queue name kinds.Output)) (ended.read r) line s' e in
    let t = ended-form.took r g.0 s' g.1 over in
    record { decl = free_queue name kinds.Output; line-is = g.2; name-is = refl; kind-is = refl; tokens = t.tokens ∙ t.ends; well = t.well; fits = refl; none = t.ends }

-- ---- which lines there are

abbrev pub TopFits : Naming → ℕ → Line → Type 0
TopFits names cores (lines.Cores n) = ((1 ≤ n) × (n ≤ 8)) × Unit {0}
TopFits names cores (lines.Pool d) = IsFree names d.name × (((1 ≤ d.events) × (d.events ≤ 4096)) × (((0 ≤ d.words) × (d.words ≤ 16)) × Unit {0}))
TopFits names cores (lines.Group n k) = IsFree names n × (((1 ≤ k) × (k ≤ 2 ^ cores - 1)) × Unit {0})
TopFits names cores (lines.Eo n r) = IsFree names n × (Unit {0} × Unit {0})
TopFits names cores (lines.Agroup d) = IsFree names d.name × (IsKnown names (named.Group d.group) × Unit {0})
TopFits names cores (lines.Egroup n) = IsFree names n × Unit {0}
TopFits names cores (lines.Body places.Boot) = Unit {0}
TopFits names cores (lines.Body places.Error) = Unit {0}
TopFits names cores (lines.Body (places.Object eo p)) = IsKnown names (named.Eo eo) × (Unit {0} × Unit {0})
TopFits names cores lines.Done = Unit {0}
TopFits names cores (lines.Queue d) = QueueFits names d
TopFits names cores _ = ⊥

-- the first word of a line outside bodies
abbrev pub first_word : Line → TopWord
first_word (lines.Cores n) = top.Cores
first_word (lines.Pool d) = top.Pool
first_word (lines.Group n k) = top.Group
first_word (lines.Eo n r) = top.Eo
first_word (lines.Agroup d) = top.Agroup
first_word (lines.Egroup n) = top.Egroup
first_word (lines.Body places.Boot) = top.Boot
first_word (lines.Body places.Error) = top.Error
first_word (lines.Body (places.Object eo p)) = top.Body
first_word lines.Done = top.Done
first_word (lines.Queue d) = top.Queue
first_word _ = top.Done

-- ---- what is written is read again

begins : (names : Naming) (cores : ℕ) (phase : Phase) (w : TopWord) (ts : List (List ℕ)) → may_stand phase w ≡ true → read_top_line names cores phase (well_rest (top_text w ∷ ts)) ≡ top_line_behind names cores w (well_rest ts)
unfolding read_top_line
begins names cores phase w ts may =
    ap (λ o. o >>= λ w. cond (may_stand phase w.0) (top_line_behind names cores w.0 w.1) None) (top_word-form.again w tt ts tt)
    ∙ ap (λ b. cond b (top_line_behind names cores w (well_rest ts)) None) may

line-again : {P : Type 0} {F : P → Type 0} (names : Naming) (cores : ℕ) (phase : Phase) (w : TopWord) (f : Form P) (law : IsForm f F Nothing) (to : P → Line) → ((r : Rest) → top_line_behind names cores w r ≡ given to (f.read r)) → (p : P) → F p → may_stand phase w ≡ true
    → read_top_line names cores phase (well_rest (top_text w ∷ f.write p)) ≡ Some (to p, well_rest [])
line-again names cores phase w f law to behind p fits may = begins names cores phase w (f.write p) may ∙ behind (well_rest (f.write p)) ∙ ap (given to) (whole f law p fits)

behind-Cores : (names : Naming) (cores : ℕ) (r : Rest) → top_line_behind names cores top.Cores r ≡ given (λ p. lines.Cores p.0) (cores_form.read r)
unfolding top_line_behind
behind-Cores names cores r = refl

behind-Pool : (names : Naming) (cores : ℕ) (r : Rest) → top_line_behind names cores top.Pool r ≡ given (λ p. lines.Pool (record { name = p.0; events = p.1.0; words = p.1.1.0 })) ((pool_form names).read r)
unfolding top_line_behind
behind-Pool names cores r = refl

behind-Group : (names : Naming) (cores : ℕ) (r : Rest) → top_line_behind names cores top.Group r ≡ given (λ p. lines.Group p.0 p.1.0) ((group_form names cores).read r)
unfolding top_line_behind
behind-Group names cores r = refl

behind-Eo : (names : Naming) (cores : ℕ) (r : Rest) → top_line_behind names cores top.Eo r ≡ given (λ p. lines.Eo p.0 p.1.0) ((eo_form names).read r)
unfolding top_line_behind
behind-Eo names cores r = refl

behind-Agroup : (names : Naming) (cores : ℕ) (r : Rest) → top_line_behind names cores top.Agroup r ≡ given (λ p. lines.Agroup (record { name = p.0; group = p.1.0 })) ((agroup_form names).read r)
unfolding top_line_behind
behind-Agroup names cores r = refl

behind-Egroup : (names : Naming) (cores : ℕ) (r : Rest) → top_line_behind names cores top.Egroup r ≡ given (λ p. lines.Egroup p.0) ((egroup_form names).read r)
unfolding top_line_behind
behind-Egroup names cores r = refl

behind-Boot : (names : Naming) (cores : ℕ) (r : Rest) → top_line_behind names cores top.Boot r ≡ given (λ _. lines.Body places.Boot) (ended.read r)
unfolding top_line_behind
behind-Boot names cores r = refl

behind-Error : (names : Naming) (cores : ℕ) (r : Rest) → top_line_behind names cores top.Error r ≡ given (λ _. lines.Body places.Error) (ended.read r)
unfolding top_line_behind
behind-Error names cores r = refl

behind-Body : (names : Naming) (cores : ℕ) (r : Rest) → top_line_behind names cores top.Body r ≡ given (λ p. lines.Body (places.Object p.0 p.1.0)) ((body_form names).read r)
unfolding top_line_behind
behind-Body names cores r = refl

behind-Done : (names : Naming) (cores : ℕ) (r : Rest) → top_line_behind names cores top.Done r ≡ given (λ _. lines.Done) (ended.read r)
unfolding top_line_behind
behind-Done names cores r = refl

behind-Queue : (names : Naming) (cores : ℕ) (r : Rest) → top_line_behind names cores top.Queue r ≡ read_queue names r
unfolding top_line_behind
behind-Queue names cores r = refl

pub top_line-again : (names : Naming) → IsNaming names → (cores : ℕ) → 2 ^ cores - 1 < 2 ^ 64 → (phase : Phase) (line : Line) → TopFits names cores line → may_stand phase (first_word line) ≡ true → read_top_line names cores phase (well_rest (line_tokens names line)) ≡ Some (line, well_rest [])
top_line-again names is cores few phase (lines.Cores n) fits may = line-again names cores phase top.Cores cores_form cores-law (λ p. lines.Cores p.0) (behind-Cores names cores) (n, tt) fits may
top_line-again names is cores few phase (lines.Pool d) fits may = line-again names cores phase top.Pool (pool_form names) (pool-law names) (λ p. lines.Pool (record { name = p.0; events = p.1.0; words = p.1.1.0 })) (behind-Pool names cores) (d.name, (d.events, (d.words, tt))) fits may
top_line-again names is cores few phase (lines.Group n k) fits may = line-again names cores phase top.Group (group_form names cores) (group-law names cores few) (λ p. lines.Group p.0 p.1.0) (behind-Group names cores) (n, (k, tt)) fits may
top_line-again names is cores few phase (lines.Eo n r) fits may = line-again names cores phase top.Eo (eo_form names) (eo-law names) (λ p. lines.Eo p.0 p.1.0) (behind-Eo names cores) (n, (r, tt)) fits may
top_line-again names is cores few phase (lines.Agroup d) fits may = line-again names cores phase top.Agroup (agroup_form names) (agroup-law names is) (λ p. lines.Agroup (record { name = p.0; group = p.1.0 })) (behind-Agroup names cores) (d.name, (d.group, tt)) fits may
top_line-again names is cores few phase (lines.Egroup n) fits may = line-again names cores phase top.Egroup (egroup_form names) (egroup-law names) (λ p. lines.Egroup p.0) (behind-Egroup names cores) (n, tt) fits may
top_line-again names is cores few phase (lines.Body places.Boot) fits may = line-again names cores phase top.Boot ended ended-form (λ _. lines.Body places.Boot) (behind-Boot names cores) tt fits may
top_line-again names is cores few phase (lines.Body places.Error) fits may = line-again names cores phase top.Error ended ended-form (λ _. lines.Body places.Error) (behind-Error names cores) tt fits may
top_line-again names is cores few phase (lines.Body (places.Object eo p)) fits may = line-again names cores phase top.Body (body_form names) (body-law names is) (λ p. lines.Body (places.Object p.0 p.1.0)) (behind-Body names cores) (eo, (p, tt)) fits may
top_line-again names is cores few phase lines.Done fits may = line-again names cores phase top.Done ended ended-form (λ _. lines.Done) (behind-Done names cores) tt fits may
top_line-again names is cores few phase (lines.Queue d) fits may = begins names cores phase top.Queue (queue_tokens names d) may ∙ behind-Queue names cores (well_rest (queue_tokens names d)) ∙ queue-again names is d fits
top_line-again names is cores few phase (lines.Statement x) fits may = absurd fits
top_line-again names is cores few phase (lines.If e) fits may = absurd fits
top_line-again names is cores few phase (lines.Repeat n) fits may = absurd fits
top_line-again names is cores few phase lines.Else fits may = absurd fits
top_line-again names is cores few phase lines.End fits may = absurd fits

-- ---- what is read was written so

pub record TookBehind (names : Naming) (cores : ℕ) (w : TopWord) (r : Rest) (line : Line) (s' : Rest) : Type 0 where
  pub tokens : top_text w ∷ r.tokens ≡ line_tokens names line
  pub well : 12 ≤ r.rule
  pub fits : TopFits names cores line
  pub word : first_word line ≡ w
  pub none : s'.tokens ≡ []

line-took : {P : Type 0} {F : P → Type 0} (names : Naming) (cores : ℕ) (w : TopWord) (f : Form P) (law : IsForm f F Nothing) (to : P → Line) → ((p : P) → line_tokens names (to p) ≡ top_text w ∷ f.write p) → ((p : P) → F p → TopFits names cores (to p)) → ((p : P) → first_word (to p) ≡ w)
    → (r : Rest) (line : Line) (s' : Rest) → given to (f.read r) ≡ Some (line, s') → 12 ≤ s'.rule → TookBehind names cores w r line s'
line-took names cores w f law to written fit word r line s' e over =
    let g = given-some to (f.read r) line s' e in
    let t = law.took r g.0 s' g.1 over in
    let rest : r.tokens ≡ f.write g.0 = t.tokens ∙ ap (λ ts. f.write g.0 ++ ts) t.ends ∙ append-nil (f.write g.0) in
    record {
      tokens = ap (λ ts. top_text w ∷ ts) rest ∙ sym (written g.0) ∙ ap (line_tokens names) g.2;
      well = t.well;
      fits = subst (TopFits names cores) g.2 (fit g.0 t.fits);
      word = subst (λ l. first_word l ≡ w) g.2 (word g.0);
      none = t.ends;
    }

queue-took : (names : Naming) → IsNaming names → (cores : ℕ) (r : Rest) (line : Line) (s' : Rest) → read_queue names r ≡ Some (line, s') → 12 ≤ s'.rule → TookBehind names cores top.Queue r line s'
unfolding read_queue
queue-took names is cores r line s' e over =
    let n = bind-some ((new_name names).read r) (λ n. kind.read n.1 >>= λ k. queue_behind names n.0 k.0 k.1) (line, s') e in
    let k = bind-some (kind.read n.0.1) (λ k. queue_behind names n.0.0 k.0 k.1) (line, s') n.2 in
    let q = kind-took names is n.0.0 k.0.0 k.0.1 line s' k.2 over in
    let b = kind-form.took n.0.1 k.0.0 k.0.1 k.1 q.well in
    let a = (new_name-form names).took r n.0.0 n.0.1 n.1 b.well in
    let name-is = sym q.name-is in
    let kind-is = sym q.kind-is in
    let tokens : r.tokens ≡ n.0.0 ∷ kind_text k.0.0 ∷ kind_tokens names q.decl k.0.0 = a.tokens ∙ ap (λ ts. n.0.0 ∷ ts) (b.tokens ∙ ap (λ ts. kind_text k.0.0 ∷ ts) q.tokens) in
    let spelled : n.0.0 ∷ kind_text k.0.0 ∷ kind_tokens names q.decl k.0.0 ≡ queue_tokens names q.decl = λ i. name-is i ∷ kind_text (kind-is i) ∷ kind_tokens names q.decl (kind-is i) in
    let fits : QueueFits names q.decl = (subst (IsFree names) name-is a.fits, subst (KindFits names q.decl) kind-is q.fits) in
    record {
      tokens = ap (λ ts. codes "queue" ∷ ts) (tokens ∙ spelled) ∙ ap (line_tokens names) q.line-is;
      well = a.well;
      fits = subst (TopFits names cores) q.line-is fits;
      word = subst (λ l. first_word l ≡ top.Queue) q.line-is refl;
      none = q.none;
    }

behind-took : (names : Naming) → IsNaming names → (cores : ℕ) → 2 ^ cores - 1 < 2 ^ 64 → (w : TopWord) (r : Rest) (line : Line) (s' : Rest) → top_line_behind names cores w r ≡ Some (line, s') → 12 ≤ s'.rule → TookBehind names cores w r line s'
unfolding top_line_behind
behind-took names is cores few top.Cores r line s' e over = line-took names cores top.Cores cores_form cores-law (λ p. lines.Cores p.0) (λ p. refl) (λ p h. h) (λ p. refl) r line s' e over
behind-took names is cores few top.Pool r line s' e over = line-took names cores top.Pool (pool_form names) (pool-law names) (λ p. lines.Pool (record { name = p.0; events = p.1.0; words = p.1.1.0 })) (λ p. refl) (λ p h. h) (λ p. refl) r line s' e over
behind-took names is cores few top.Group r line s' e over = line-took names cores top.Group (group_form names cores) (group-law names cores few) (λ p. lines.Group p.0 p.1.0) (λ p. refl) (λ p h. h) (λ p. refl) r line s' e over
behind-took names is cores few top.Eo r line s' e over = line-took names cores top.Eo (eo_form names) (eo-law names) (λ p. lines.Eo p.0 p.1.0) (λ p. refl) (λ p h. h) (λ p. refl) r line s' e over
behind-took names is cores few top.Agroup r line s' e over = line-took names cores top.Agroup (agroup_form names) (agroup-law names is) (λ p. lines.Agroup (record { name = p.0; group = p.1.0 })) (λ p. refl) (λ p h. h) (λ p. refl) r line s' e over
behind-took names is cores few top.Egroup r line s' e over = line-took names cores top.Egroup (egroup_form names) (egroup-law names) (λ p. lines.Egroup p.0) (λ p. refl) (λ p h. h) (λ p. refl) r line s' e over
behind-took names is cores few top.Boot r line s' e over = line-took names cores top.Boot ended ended-form (λ _. lines.Body places.Boot) (λ p. refl) (λ p h. h) (λ p. refl) r line s' e over
behind-took names is cores few top.Error r line s' e over = line-took names cores top.Error ended ended-form (λ _. lines.Body places.Error) (λ p. refl) (λ p h. h) (λ p. refl) r line s' e over
behind-took names is cores few top.Body r line s' e over = line-took names cores top.Body (body_form names) (body-law names is) (λ p. lines.Body (places.Object p.0 p.1.0)) (λ p. refl) (λ p h. h) (λ p. refl) r line s' e over
behind-took names is cores few top.Done r line s' e over = line-took names cores top.Done ended ended-form (λ _. lines.Done) (λ p. refl) (λ p h. h) (λ p. refl) r line s' e over
behind-took names is cores few top.Queue r line s' e over = queue-took names is cores r line s' e over

pub record TookTopLine (names : Naming) (cores : ℕ) (phase : Phase) (s : Rest) (line : Line) (s' : Rest) : Type 0 where
  pub tokens : s.tokens ≡ line_tokens names line
  pub well : 12 ≤ s.rule
  pub fits : TopFits names cores line
  pub may : may_stand phase (first_word line) ≡ true
  pub none : s'.tokens ≡ []

pub top_line-took : (names : Naming) → IsNaming names → (cores : ℕ) → 2 ^ cores - 1 < 2 ^ 64 → (phase : Phase) (s : Rest) (line : Line) (s' : Rest) → read_top_line names cores phase s ≡ Some (line, s') → 12 ≤ s'.rule → TookTopLine names cores phase s line s'
unfolding read_top_line
top_line-took names is cores few phase s line s' e over =
    let b = bind-some (top_word.read s) (λ w. cond (may_stand phase w.0) (top_line_behind names cores w.0 w.1) None) (line, s') e in
    let c = test-some (may_stand phase b.0.0) (top_line_behind names cores b.0.0 b.0.1) (line, s') b.2 in
    let k = behind-took names is cores few b.0.0 b.0.1 line s' c.1 over in
    let t = top_word-form.took s b.0.0 b.0.1 b.1 k.well in
    record { tokens = t.tokens ∙ k.tokens; well = t.well; fits = k.fits; may = ap (may_stand phase) k.word ∙ c.0; none = k.none }

-- ---- and it is spelled in tokens

kind-plain : (names : Naming) → IsNaming names → (d : QueueDecl) (k : Kind) → KindFits names d k → AllByRecursion IsPlain (kind_tokens names d k)
kind-plain names is d kinds.Atomic a =
    let back = sym (member-back d.name a.eo a.priority a.member) in
    subst (λ e. AllByRecursion IsPlain (kind_tokens names e kinds.Atomic)) a.is
    (subst (λ m. AllByRecursion IsPlain ((atomic_form names).write (a.eo, (a.priority, (m, tt))))) back ((atomic-law names is).plain (a.eo, (a.priority, (a.member, tt))) (a.known, (tt, (a.fits, tt)))))
kind-plain names is d kinds.Parallel a = subst (λ e. AllByRecursion IsPlain (kind_tokens names e kinds.Parallel)) a.is ((grouped-law names is).plain (a.eo, (a.priority, (a.group, tt))) (a.known, (tt, (a.fits, tt))))
kind-plain names is d kinds.Ordered a = subst (λ e. AllByRecursion IsPlain (kind_tokens names e kinds.Ordered)) a.is ((grouped-law names is).plain (a.eo, (a.priority, (a.group, tt))) (a.known, (tt, (a.fits, tt))))
kind-plain names is d kinds.Local a = subst (λ e. AllByRecursion IsPlain (kind_tokens names e kinds.Local)) a.is ((local-law names is).plain (a.eo, (a.priority, tt)) (a.known, (tt, tt)))
kind-plain names is d kinds.Unscheduled a = tt
kind-plain names is d kinds.Output a = tt

line-plain : {P : Type 0} {F : P → Type 0} (w : TopWord) (f : Form P) → IsForm f F Nothing → (p : P) → F p → AllByRecursion IsPlain (top_text w ∷ f.write p)
line-plain w f law p fits = ((top_word-form.plain w tt).0, law.plain p fits)

pub top_line-plain : (names : Naming) → IsNaming names → (cores : ℕ) → 2 ^ cores - 1 < 2 ^ 64 → (line : Line) → TopFits names cores line → AllByRecursion IsPlain (line_tokens names line)
top_line-plain names is cores few (lines.Cores n) fits = line-plain top.Cores cores_form cores-law (n, tt) fits
top_line-plain names is cores few (lines.Pool d) fits = line-plain top.Pool (pool_form names) (pool-law names) (d.name, (d.events, (d.words, tt))) fits
top_line-plain names is cores few (lines.Group n k) fits = line-plain top.Group (group_form names cores) (group-law names cores few) (n, (k, tt)) fits
top_line-plain names is cores few (lines.Eo n r) fits = line-plain top.Eo (eo_form names) (eo-law names) (n, (r, tt)) fits
top_line-plain names is cores few (lines.Agroup d) fits = line-plain top.Agroup (agroup_form names) (agroup-law names is) (d.name, (d.group, tt)) fits
top_line-plain names is cores few (lines.Egroup n) fits = line-plain top.Egroup (egroup_form names) (egroup-law names) (n, tt) fits
top_line-plain names is cores few (lines.Body places.Boot) fits = line-plain top.Boot ended ended-form tt fits
top_line-plain names is cores few (lines.Body places.Error) fits = line-plain top.Error ended ended-form tt fits
top_line-plain names is cores few (lines.Body (places.Object eo p)) fits = line-plain top.Body (body_form names) (body-law names is) (eo, (p, tt)) fits
top_line-plain names is cores few lines.Done fits = line-plain top.Done ended ended-form tt fits
top_line-plain names is cores few (lines.Queue d) fits = ((top_word-form.plain top.Queue tt).0, (((new_name-form names).plain d.name fits.0).0, ((kind-form.plain d.kind tt).0, kind-plain names is d d.kind fits.1)))
top_line-plain names is cores few (lines.Statement x) fits = absurd fits
top_line-plain names is cores few (lines.If e) fits = absurd fits
top_line-plain names is cores few (lines.Repeat n) fits = absurd fits
top_line-plain names is cores few lines.Else fits = absurd fits
top_line-plain names is cores few lines.End fits = absurd fits
