-- The names that were read stand for what the graph declares under them.
use Rattle.std.proofs.Common.{◌≡◌, ℕ, zero, suc, ◌<◌, ◌≤◌, Bool, true, false, cond, List, [], ◌∷◌, ◌++◌, length, Option, Some, None, refl, sym, ap, subst, ◌∙◌, arith, inl, inr, ◌⊎◌, length-append}
use Rattle.std.specs.Prelude.{codes, slice_get, slice_set}
use Rattle.std.specs.Option.{option_map, option_map_or}
use Rattle.std.proofs.Common.{Ordering, Less, Equal, Greater}
use Rattle.std.specs.Ordering.{nat_cmp, is_eq}
use Rattle.std.specs.Cmp.Lexicographic.{slice_cmp}
use Rattle.std.specs.FinMap as map
use Rattle.std.specs.FinMap.{get-insert, get-empty}
use Rattle.std.proofs.lemmas.Cmp.{nat_list_cmp_total}
use Rattle.std.proofs.lemmas.Map.Lookups.{exact_bytes}
use Rattle.em_log.specs.declared.body.Stmt.{Stmt}
use Rattle.em_log.specs.declared.graph.Config.{Config}
use Rattle.em_log.specs.declared.graph.EoDecl.{EoDecl}
use Rattle.em_script.specs.declared.named.Named.{Named}
use Rattle.em_script.specs.declared.named.Named.TheVariants as named
use Rattle.em_script.specs.declared.line.Line.{Line}
use Rattle.em_script.specs.declared.line.Line.TheVariants as lines
use Rattle.em_script.specs.declared.line.Part.{Part}
use Rattle.em_script.specs.declared.line.Part.TheVariants as parts
use Rattle.em_script.specs.declared.line.Place.{Place}
use Rattle.em_script.specs.declared.line.Place.TheVariants as places
use Rattle.em_script.specs.declared.phase.Phase.{Phase}
use Rattle.em_script.specs.declared.phase.Phase.TheVariants as phases
use Rattle.em_script.specs.declared.draft.Frame.{Frame}
use Rattle.em_script.specs.Names.{Table, name_in, group_name}
use Rattle.em_script.specs.State.{State, first_state, after, ended, turned, body_ended, with_body, with_body_at, with_part, new_eo}
use Rattle.em_script.proofs.Binds.{some-is}
use Rattle.em_script.proofs.Table.{same_key}

-- what a name stands for is declared
abbrev pub IsDeclared : Config → Named → Type 0
IsDeclared g (named.Pool id) = id.0 < length g.pools
IsDeclared g (named.Group id) = id.0 ≤ length g.groups
IsDeclared g (named.Eo id) = id.0 < length g.eos
IsDeclared g (named.Agroup n) = n < length g.agroups
IsDeclared g (named.Queue id) = id.0 < length g.queues
IsDeclared g (named.Egroup id) = id.0 < length g.egroups

-- a name that stands for something is its name in the graph
pub record Agree (g : Config) (table : Table) : Type 0 where
  pub named : (name : List ℕ) (x : Named) → map.get table name ≡ Some x → name_in g x ≡ name
  pub declared : (name : List ℕ) (x : Named) → map.get table name ≡ Some x → IsDeclared g x

-- the second graph declares what the first does, under the same names
pub record Extends (g h : Config) : Type 0 where
  pub same : (x : Named) → IsDeclared g x → name_in h x ≡ name_in g x
  pub declared : (x : Named) → IsDeclared g x → IsDeclared h x

-- ---- lists that grow

pub get-first : {A : Type 0} (xs ys : List A) (n : ℕ) → n < length xs → slice_get (xs ++ ys) n ≡ slice_get xs n
get-first [] ys n lt = absurd (omega arith)
get-first (x ∷ xs) ys zero lt = refl
get-first (x ∷ xs) ys (suc n) lt = get-first xs ys n (omega arith)

pub get-last : {A : Type 0} (xs : List A) (y : A) → slice_get (xs ++ y ∷ []) (length xs) ≡ Some y
get-last [] y = refl
get-last (x ∷ xs) y = get-last xs y

-- the second list begins with the first
pub record Grown {A : Type 0} (xs ys : List A) : Type 0 where
  pub first : (n : ℕ) → n < length xs → slice_get ys n ≡ slice_get xs n
  pub longer : length xs ≤ length ys

pub grown-same : {A : Type 0} (xs : List A) → Grown xs xs
grown-same xs = record { first = λ n lt. refl; longer = omega arith }

pub grown-more : {A : Type 0} (xs : List A) (y : A) → Grown xs (xs ++ y ∷ [])
grown-more xs y = record { first = λ n lt. get-first xs (y ∷ []) n lt; longer = omega (arith, length-append xs (y ∷ [])) }

abbrev pub eo_name_at : List EoDecl → ℕ → List ℕ
eo_name_at eos n = option_map_or (λ d. d.name) (slice_get eos n) []

-- the line that declares an object
abbrev pub eo_line_at : List EoDecl → ℕ → Option Line
eo_line_at eos n = option_map (λ d. lines.Eo d.name d.running) (slice_get eos n)

group-same : (g h : Config) (n : ℕ) → Grown g.groups h.groups → n ≤ length g.groups → group_name h n ≡ group_name g n
group-same g h zero grown le = refl
group-same g h (suc n) grown le = ap (λ o. option_map_or (λ d. d.name) o []) (grown.first n (omega arith))

-- the parts of two graphs, where the second extends the first
pub record Parts (g h : Config) : Type 0 where
  pub pools : Grown g.pools h.pools
  pub groups : Grown g.groups h.groups
  pub eos : (n : ℕ) → n < length g.eos → eo_name_at h.eos n ≡ eo_name_at g.eos n
  pub eo_lines : (n : ℕ) → n < length g.eos → eo_line_at h.eos n ≡ eo_line_at g.eos n
  pub more_eos : length g.eos ≤ length h.eos
  pub agroups : Grown g.agroups h.agroups
  pub queues : Grown g.queues h.queues
  pub egroups : Grown g.egroups h.egroups

same-by : (g h : Config) → Parts g h → (x : Named) → IsDeclared g x → name_in h x ≡ name_in g x
same-by g h p (named.Pool id) d = ap (λ o. option_map_or (λ d. d.name) o []) (p.pools.first id.0 d)
same-by g h p (named.Group id) d = group-same g h id.0 p.groups d
same-by g h p (named.Eo id) d = p.eos id.0 d
same-by g h p (named.Agroup n) d = ap (λ o. option_map_or (λ d. d.name) o []) (p.agroups.first n d)
same-by g h p (named.Queue id) d = ap (λ o. option_map_or (λ d. d.name) o []) (p.queues.first id.0 d)
same-by g h p (named.Egroup id) d = ap (λ o. option_map_or (λ d. d) o []) (p.egroups.first id.0 d)

declared-by : (g h : Config) → Parts g h → (x : Named) → IsDeclared g x → IsDeclared h x
declared-by g h p (named.Pool id) d = let l = p.pools.longer in omega arith
declared-by g h p (named.Group id) d = let l = p.groups.longer in omega arith
declared-by g h p (named.Eo id) d = let l = p.more_eos in omega arith
declared-by g h p (named.Agroup n) d = let l = p.agroups.longer in omega arith
declared-by g h p (named.Queue id) d = let l = p.queues.longer in omega arith
declared-by g h p (named.Egroup id) d = let l = p.egroups.longer in omega arith

pub extends-by : (g h : Config) → Parts g h → Extends g h
extends-by g h p = record { same = same-by g h p; declared = declared-by g h p }

pub extends-then : (f g h : Config) → Extends f g → Extends g h → Extends f h
extends-then f g h a b = record { same = λ x d. b.same x (a.declared x d) ∙ a.same x d; declared = λ x d. b.declared x (a.declared x d) }

pub parts-same : (g : Config) → Parts g g
parts-same g = record {
  pools = grown-same g.pools;
  groups = grown-same g.groups;
  eos = λ n lt. refl;
  eo_lines = λ n lt. refl;
  more_eos = omega arith;
  agroups = grown-same g.agroups;
  queues = grown-same g.queues;
  egroups = grown-same g.egroups;
}

pub extends-same : (g : Config) → Extends g g
extends-same g = extends-by g g (parts-same g)

-- ---- bodies change no name

part-name : (p : Part) (b : List Stmt) (d : EoDecl) → (with_part p b d).name ≡ d.name
part-name parts.Receive b d = refl
part-name parts.Start b d = refl
part-name parts.Stop b d = refl
part-name parts.LocalStart b d = refl
part-name parts.LocalStop b d = refl
part-name parts.Error b d = refl

behind-first : (n : ℕ) (w : EoDecl → EoDecl) (d : EoDecl) (ds : List EoDecl) (o : Option EoDecl) → option_map_or (λ e. slice_set (d ∷ ds) (suc n) (w e)) o (d ∷ ds) ≡ d ∷ option_map_or (λ e. slice_set ds n (w e)) o ds
behind-first n w d ds None = refl
behind-first n w d ds (Some e) = refl

pub with_body_at-behind : (n : ℕ) (p : Part) (b : List Stmt) (d : EoDecl) (ds : List EoDecl) → with_body_at (suc n) p b (d ∷ ds) ≡ d ∷ with_body_at n p b ds
with_body_at-behind n p b d ds = behind-first n (with_part p b) d ds (slice_get ds n)

pub with_body_at-names : (n : ℕ) (p : Part) (b : List Stmt) (eos : List EoDecl) (m : ℕ) → eo_name_at (with_body_at n p b eos) m ≡ eo_name_at eos m
with_body_at-names n p b [] m = refl
with_body_at-names zero p b (d ∷ ds) zero = part-name p b d
with_body_at-names zero p b (d ∷ ds) (suc m) = refl
with_body_at-names (suc n) p b (d ∷ ds) zero = ap (λ eos. eo_name_at eos zero) (with_body_at-behind n p b d ds)
with_body_at-names (suc n) p b (d ∷ ds) (suc m) = ap (λ eos. eo_name_at eos (suc m)) (with_body_at-behind n p b d ds) ∙ with_body_at-names n p b ds m

part-line : (p : Part) (b : List Stmt) (d : EoDecl) → lines.Eo (with_part p b d).name (with_part p b d).running ≡ lines.Eo d.name d.running
part-line parts.Receive b d = refl
part-line parts.Start b d = refl
part-line parts.Stop b d = refl
part-line parts.LocalStart b d = refl
part-line parts.LocalStop b d = refl
part-line parts.Error b d = refl

pub with_body_at-lines : (n : ℕ) (p : Part) (b : List Stmt) (eos : List EoDecl) (m : ℕ) → eo_line_at (with_body_at n p b eos) m ≡ eo_line_at eos m
with_body_at-lines n p b [] m = refl
with_body_at-lines zero p b (d ∷ ds) zero = ap (λ l. Some l) (part-line p b d)
with_body_at-lines zero p b (d ∷ ds) (suc m) = refl
with_body_at-lines (suc n) p b (d ∷ ds) zero = ap (λ eos. eo_line_at eos zero) (with_body_at-behind n p b d ds)
with_body_at-lines (suc n) p b (d ∷ ds) (suc m) = ap (λ eos. eo_line_at eos (suc m)) (with_body_at-behind n p b d ds) ∙ with_body_at-lines n p b ds m

pub with_body_at-length : (n : ℕ) (p : Part) (b : List Stmt) (eos : List EoDecl) → length (with_body_at n p b eos) ≡ length eos
with_body_at-length n p b [] = refl
with_body_at-length zero p b (d ∷ ds) = refl
with_body_at-length (suc n) p b (d ∷ ds) = ap length (with_body_at-behind n p b d ds) ∙ let e = with_body_at-length n p b ds in omega arith

pub parts-body : (p : Place) (b : List Stmt) (g : Config) → Parts g (with_body p b g)
parts-body places.Boot b g = record { pools = grown-same g.pools; groups = grown-same g.groups; eos = λ n lt. refl; eo_lines = λ n lt. refl; more_eos = omega arith; agroups = grown-same g.agroups; queues = grown-same g.queues; egroups = grown-same g.egroups }
parts-body places.Error b g = record { pools = grown-same g.pools; groups = grown-same g.groups; eos = λ n lt. refl; eo_lines = λ n lt. refl; more_eos = omega arith; agroups = grown-same g.agroups; queues = grown-same g.queues; egroups = grown-same g.egroups }
parts-body (places.Object eo p) b g = record { pools = grown-same g.pools; groups = grown-same g.groups; eos = λ n lt. with_body_at-names eo.0 p b g.eos n; eo_lines = λ n lt. with_body_at-lines eo.0 p b g.eos n; more_eos = omega (arith, with_body_at-length eo.0 p b g.eos); agroups = grown-same g.agroups; queues = grown-same g.queues; egroups = grown-same g.egroups }

-- ---- a name that is inserted

equal-of : (o : Ordering) → is_eq o ≡ true → o ≡ Equal
equal-of Less e = absurd cc
equal-of Equal e = refl
equal-of Greater e = absurd cc

inserted-at : (t : Bool) (x y : Named) (o : Option Named) → cond t (Some x) o ≡ Some y → ((t ≡ true) × (x ≡ y)) ⊎ (o ≡ Some y)
inserted-at true x y o e = inl (refl, some-is x y e)
inserted-at false x y o e = inr e

pub inserted : (table : Table) (name : List ℕ) (meaning : Named) (q : List ℕ) (x : Named) → map.get (map.insert table name meaning) q ≡ Some x → ((q ≡ name) × (meaning ≡ x)) ⊎ (map.get table q ≡ Some x)
inserted table name meaning q x e =
    elim (inserted-at (same_key q name) meaning x (map.get table q) (sym (get-insert nat_list_cmp_total table name meaning q) ∙ e)) [
      | inl h ↦ inl (exact_bytes q name (equal-of (slice_cmp nat_cmp q name) h.0), h.1)
      | inr h ↦ inr h
    ]

pub agree-more : (g h : Config) (table : Table) (name : List ℕ) (meaning : Named) → Extends g h → name_in h meaning ≡ name → IsDeclared h meaning → Agree g table → Agree h (map.insert table name meaning)
agree-more g h table name meaning grows is declared agree = record {
  named = λ q x e. elim (inserted table name meaning q x e) [
    | inl k ↦ ap (name_in h) (sym k.1) ∙ is ∙ sym k.0
    | inr k ↦ grows.same x (agree.declared q x k) ∙ agree.named q x k
  ];
  declared = λ q x e. elim (inserted table name meaning q x e) [
    | inl k ↦ subst (IsDeclared h) k.1 declared
    | inr k ↦ grows.declared x (agree.declared q x k)
  ];
}

pub agree-extended : (g h : Config) (table : Table) → Extends g h → Agree g table → Agree h table
agree-extended g h table grows agree = record {
  named = λ q x e. grows.same x (agree.declared q x e) ∙ agree.named q x e;
  declared = λ q x e. grows.declared x (agree.declared q x e);
}

-- ---- each line keeps the agreement

body_ended-parts : (p : Phase) (s : State) → Parts s.graph (body_ended p s).graph
body_ended-parts phases.First s = parts-same s.graph
body_ended-parts phases.Declarations s = parts-same s.graph
body_ended-parts phases.Bodies s = parts-same s.graph
body_ended-parts (phases.Body p) s = parts-body p s.block s.graph
body_ended-parts phases.Done s = parts-same s.graph

ended-parts : (nest : List Frame) (s : State) → Parts s.graph (ended nest s).graph
ended-parts [] s = body_ended-parts s.phase s
ended-parts (f ∷ fs) s = parts-same s.graph

turned-parts : (nest : List Frame) (s : State) → Parts s.graph (turned nest s).graph
turned-parts [] s = parts-same s.graph
turned-parts (f ∷ fs) s = parts-same s.graph

body_ended-table : (p : Phase) (s : State) → (body_ended p s).table ≡ s.table
body_ended-table phases.First s = refl
body_ended-table phases.Declarations s = refl
body_ended-table phases.Bodies s = refl
body_ended-table (phases.Body p) s = refl
body_ended-table phases.Done s = refl

pub ended-table : (nest : List Frame) (s : State) → (ended nest s).table ≡ s.table
ended-table [] s = body_ended-table s.phase s
ended-table (f ∷ fs) s = refl

pub turned-table : (nest : List Frame) (s : State) → (turned nest s).table ≡ s.table
turned-table [] s = refl
turned-table (f ∷ fs) s = refl

-- a line only adds to the graph
pub parts-after : (l : Line) (s : State) → Parts s.graph (after l s).graph
parts-after (lines.Cores n) s = let g = s.graph in record { pools = grown-same g.pools; groups = grown-same g.groups; eos = λ n lt. refl; eo_lines = λ n lt. refl; more_eos = omega arith; agroups = grown-same g.agroups; queues = grown-same g.queues; egroups = grown-same g.egroups }
parts-after (lines.Pool d) s = let g = s.graph in record { pools = grown-more g.pools (d); groups = grown-same g.groups; eos = λ n lt. refl; eo_lines = λ n lt. refl; more_eos = omega arith; agroups = grown-same g.agroups; queues = grown-same g.queues; egroups = grown-same g.egroups }
parts-after (lines.Group name mask) s = let g = s.graph in record { pools = grown-same g.pools; groups = grown-more g.groups (record { name = name; mask = record { 0 = mask } }); eos = λ n lt. refl; eo_lines = λ n lt. refl; more_eos = omega arith; agroups = grown-same g.agroups; queues = grown-same g.queues; egroups = grown-same g.egroups }
parts-after (lines.Eo name running) s = let g = s.graph in record { pools = grown-same g.pools; groups = grown-same g.groups; eos = λ n lt. ap (λ o. option_map_or (λ d. d.name) o []) (get-first g.eos (new_eo name running ∷ []) n lt); eo_lines = λ n lt. ap (λ o. option_map (λ d. lines.Eo d.name d.running) o) (get-first g.eos (new_eo name running ∷ []) n lt); more_eos = omega (arith, length-append g.eos (new_eo name running ∷ [])); agroups = grown-same g.agroups; queues = grown-same g.queues; egroups = grown-same g.egroups }
parts-after (lines.Agroup d) s = let g = s.graph in record { pools = grown-same g.pools; groups = grown-same g.groups; eos = λ n lt. refl; eo_lines = λ n lt. refl; more_eos = omega arith; agroups = grown-more g.agroups (d); queues = grown-same g.queues; egroups = grown-same g.egroups }
parts-after (lines.Queue d) s = let g = s.graph in record { pools = grown-same g.pools; groups = grown-same g.groups; eos = λ n lt. refl; eo_lines = λ n lt. refl; more_eos = omega arith; agroups = grown-same g.agroups; queues = grown-more g.queues (d); egroups = grown-same g.egroups }
parts-after (lines.Egroup name) s = let g = s.graph in record { pools = grown-same g.pools; groups = grown-same g.groups; eos = λ n lt. refl; eo_lines = λ n lt. refl; more_eos = omega arith; agroups = grown-same g.agroups; queues = grown-same g.queues; egroups = grown-more g.egroups (name) }
parts-after (lines.Body p) s = parts-same s.graph
parts-after lines.Done s = parts-same s.graph
parts-after (lines.Statement x) s = parts-same s.graph
parts-after (lines.If e) s = parts-same s.graph
parts-after (lines.Repeat n) s = parts-same s.graph
parts-after lines.Else s = turned-parts s.nest s
parts-after lines.End s = ended-parts s.nest s

pub extends-after : (l : Line) (s : State) → Extends s.graph (after l s).graph
extends-after l s = extends-by s.graph (after l s).graph (parts-after l s)

pub agree-after : (l : Line) (s : State) → Agree s.graph s.table → Agree (after l s).graph (after l s).table
agree-after (lines.Cores n) s h = agree-extended s.graph (after (lines.Cores n) s).graph s.table (extends-after (lines.Cores n) s) h
agree-after (lines.Pool d) s h =
    let more = length-append s.graph.pools ((d) ∷ []) in
    agree-more s.graph (after (lines.Pool d) s).graph s.table d.name (named.Pool (record { 0 = length s.graph.pools })) (extends-after (lines.Pool d) s) (ap (λ o. option_map_or (λ d. d.name) o []) (get-last s.graph.pools (d))) (omega arith) h
agree-after (lines.Group name mask) s h =
    let more = length-append s.graph.groups ((record { name = name; mask = record { 0 = mask } }) ∷ []) in
    agree-more s.graph (after (lines.Group name mask) s).graph s.table name (named.Group (record { 0 = suc (length s.graph.groups) })) (extends-after (lines.Group name mask) s) (ap (λ o. option_map_or (λ d. d.name) o []) (get-last s.graph.groups (record { name = name; mask = record { 0 = mask } }))) (omega arith) h
agree-after (lines.Eo name running) s h =
    let more = length-append s.graph.eos ((new_eo name running) ∷ []) in
    agree-more s.graph (after (lines.Eo name running) s).graph s.table name (named.Eo (record { 0 = length s.graph.eos })) (extends-after (lines.Eo name running) s) (ap (λ o. option_map_or (λ d. d.name) o []) (get-last s.graph.eos (new_eo name running))) (omega arith) h
agree-after (lines.Agroup d) s h =
    let more = length-append s.graph.agroups ((d) ∷ []) in
    agree-more s.graph (after (lines.Agroup d) s).graph s.table d.name (named.Agroup (length s.graph.agroups)) (extends-after (lines.Agroup d) s) (ap (λ o. option_map_or (λ d. d.name) o []) (get-last s.graph.agroups (d))) (omega arith) h
agree-after (lines.Queue d) s h =
    let more = length-append s.graph.queues ((d) ∷ []) in
    agree-more s.graph (after (lines.Queue d) s).graph s.table d.name (named.Queue (record { 0 = length s.graph.queues })) (extends-after (lines.Queue d) s) (ap (λ o. option_map_or (λ d. d.name) o []) (get-last s.graph.queues (d))) (omega arith) h
agree-after (lines.Egroup name) s h =
    let more = length-append s.graph.egroups ((name) ∷ []) in
    agree-more s.graph (after (lines.Egroup name) s).graph s.table name (named.Egroup (record { 0 = length s.graph.egroups })) (extends-after (lines.Egroup name) s) (ap (λ o. option_map_or (λ d. d) o []) (get-last s.graph.egroups (name))) (omega arith) h
agree-after (lines.Body p) s h = h
agree-after lines.Done s h = h
agree-after (lines.Statement x) s h = h
agree-after (lines.If e) s h = h
agree-after (lines.Repeat n) s h = h
agree-after lines.Else s h = subst (Agree (turned s.nest s).graph) (sym (turned-table s.nest s)) (agree-extended s.graph (turned s.nest s).graph s.table (extends-by s.graph (turned s.nest s).graph (turned-parts s.nest s)) h)
agree-after lines.End s h = subst (Agree (ended s.nest s).graph) (sym (ended-table s.nest s)) (agree-extended s.graph (ended s.nest s).graph s.table (extends-by s.graph (ended s.nest s).graph (ended-parts s.nest s)) h)

pub no-group : (q : List ℕ) (x : Named) → map.get {R = slice_cmp nat_cmp} map.empty q ≡ Some x → ⊥
no-group q x e = let n : ◌≡◌ {A = Option Named} None (Some x) = sym (get-empty (slice_cmp nat_cmp) q) ∙ e in cc

-- at first there is the queue group of every core
pub agree-first : Agree first_state.graph first_state.table
agree-first = record {
  named = λ q x e. elim (inserted map.empty (codes "all") (named.Group (record { 0 = 0 })) q x e) [
    | inl k ↦ ap (name_in first_state.graph) (sym k.1) ∙ sym k.0
    | inr k ↦ absurd (no-group q x k)
  ];
  declared = λ q x e. elim (inserted map.empty (codes "all") (named.Group (record { 0 = 0 })) q x e) [
    | inl k ↦ subst (IsDeclared first_state.graph) k.1 (omega arith)
    | inr k ↦ absurd (no-group q x k)
  ];
}
