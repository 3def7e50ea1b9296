-- The names that a script declares are names, and differ.
use Rattle.std.proofs.Common.{◌≡◌, ℕ, zero, suc, Bool, true, false, cond, List, [], ◌∷◌, ◌++◌, length, map, Option, Some, None, refl, sym, ap, subst, ◌∙◌, ◌⊎◌, inl, inr, append_assoc, append-nil, eqb-true}
use Rattle.std.specs.Prelude.{not, ◌||◌}
use Rattle.std.specs.List.{list_all, list_any}
use Rattle.std.specs.Cmp.{eq_by_cmp_equiv}
use Rattle.std.specs.FinMap as map
use Rattle.std.specs.FinMap.{get-insert}
use Rattle.std.proofs.lemmas.Bool.{cases_Bool}
use Rattle.std.proofs.lemmas.Cmp.{nat_list_cmp_total}
use Rattle.std.proofs.lemmas.List.{map-append}
use Rattle.em_log.specs.Names.{is_name, are_different, same_text}
use Rattle.em_log.specs.WellFormed.{names_of}
use Rattle.em_log.specs.declared.body.Stmt.{Stmt}
use Rattle.em_log.specs.declared.graph.Config.{Config}
use Rattle.em_log.specs.declared.graph.EoDecl.{EoDecl}
use Rattle.em_script.specs.declared.draft.Frame.{Frame}
use Rattle.em_script.specs.declared.line.Line.{Line}
use Rattle.em_script.specs.declared.line.Line.TheVariants as lines
use Rattle.em_script.specs.declared.line.Part.{Part}
use Rattle.em_script.specs.declared.line.Part.TheVariants as parts
use Rattle.em_script.specs.declared.line.Place.{Place}
use Rattle.em_script.specs.declared.line.Place.TheVariants as places
use Rattle.em_script.specs.declared.named.Named.{Named}
use Rattle.em_script.specs.declared.named.Named.TheVariants as named
use Rattle.em_script.specs.declared.phase.Phase.{Phase}
use Rattle.em_script.specs.declared.phase.Phase.TheVariants as phases
use Rattle.em_script.specs.Names.{Table}
use Rattle.em_script.specs.State.{State, first_state, after, ended, turned, body_ended, with_body, with_body_at, with_part, new_eo}
use Rattle.em_script.proofs.Forms.{and-both, and-true}
use Rattle.em_script.proofs.Agreeing.{with_body_at-behind}
use Rattle.em_script.proofs.Distinct.{IsAmong}
use Rattle.em_script.proofs.Table.{same_key}
use Rattle.em_script.proofs.Told.{Told}

-- no text stands twice
abbrev pub Differ : List (List ℕ) → Type 0
Differ [] = Unit {0}
Differ (t ∷ ts) = (IsAmong t ts → ⊥) × Differ ts

same_text-is : (t u : List ℕ) → same_text t u ≡ true → t ≡ u
same_text-is [] [] e = refl
same_text-is [] (n ∷ ns) e = absurd cc
same_text-is (m ∷ ms) [] e = absurd cc
same_text-is (m ∷ ms) (n ∷ ns) e =
    let b = and-true _ (same_text ms ns) e in
    let first = eqb-true m n b.0 in
    let rest = same_text-is ms ns b.1 in
    λ i. first i ∷ rest i

or-cases : (a b : Bool) → (a || b) ≡ true → (a ≡ true) ⊎ (b ≡ true)
or-cases true b e = inl refl
or-cases false b e = inr e

any-among : (t : List ℕ) (ts : List (List ℕ)) → list_any (same_text t) ts ≡ true → IsAmong t ts
any-among t [] e = absurd cc
any-among t (u ∷ us) e = elim (or-cases (same_text t u) (list_any (same_text t) us) e) [
  | inl k ↦ inl (same_text-is t u k)
  | inr k ↦ inr (any-among t us k)
]

not-among : (t : List ℕ) (ts : List (List ℕ)) → (IsAmong t ts → ⊥) → not (list_any (same_text t) ts) ≡ true
not-among t ts n = elim (cases_Bool (list_any (same_text t) ts)) [
  | inl y ↦ absurd (n (any-among t ts y))
  | inr f ↦ ap not f
]

pub differ-different : (ts : List (List ℕ)) → Differ ts → are_different ts ≡ true
differ-different [] d = refl
differ-different (t ∷ ts) d = and-both (not (list_any (same_text t) ts)) (are_different ts) (not-among t ts d.0) (differ-different ts d.1)

-- ---- one name more

among-insert : (t n : List ℕ) (xs zs : List (List ℕ)) → IsAmong t (xs ++ n ∷ zs) → (t ≡ n) ⊎ IsAmong t (xs ++ zs)
among-insert t n [] zs h = h
among-insert t n (x ∷ xs) zs (inl e) = inr (inl e)
among-insert t n (x ∷ xs) zs (inr h) = elim (among-insert t n xs zs h) [
  | inl e ↦ inl e
  | inr k ↦ inr (inr k)
]

differ-insert : (n : List ℕ) (xs zs : List (List ℕ)) → (IsAmong n (xs ++ zs) → ⊥) → Differ (xs ++ zs) → Differ (xs ++ n ∷ zs)
differ-insert n [] zs new d = (new, d)
differ-insert n (x ∷ xs) zs new d =
    let first : IsAmong x (xs ++ n ∷ zs) → ⊥ = λ h. elim (among-insert x n xs zs h) [
      | inl e ↦ new (inl (sym e))
      | inr k ↦ d.0 k
    ] in
    (first, differ-insert n xs zs (λ h. new (inr h)) d.1)

all-insert : (n : List ℕ) (xs zs : List (List ℕ)) → is_name n ≡ true → list_all is_name (xs ++ zs) ≡ true → list_all is_name (xs ++ n ∷ zs) ≡ true
all-insert n [] zs one all = and-both (is_name n) (list_all is_name zs) one all
all-insert n (x ∷ xs) zs one all =
    let b = and-true (is_name x) (list_all is_name (xs ++ zs)) all in
    and-both (is_name x) (list_all is_name (xs ++ n ∷ zs)) b.0 (all-insert n xs zs one b.1)

-- ---- the names of the graph so far

pub record AreApart (names : List (List ℕ)) (table : Table) : Type 0 where
  pub all : list_all is_name names ≡ true
  pub differ : Differ names
  pub there : (t : List ℕ) → IsAmong t names → (x : Named) × (map.get table t ≡ Some x)

key-same : (t : List ℕ) → same_key t t ≡ true
key-same t = (eq_by_cmp_equiv nat_list_cmp_total).refl t

some-either : (b : Bool) (m : Named) (o : Option Named) → (b ≡ true) ⊎ ((x : Named) × (o ≡ Some x)) → (x : Named) × (cond b (Some m) o ≡ Some x)
some-either true m o h = (m, refl)
some-either false m o (inl e) = absurd cc
some-either false m o (inr h) = h

there-more : (table : Table) (n : List ℕ) (m : Named) (t : List ℕ) → (t ≡ n) ⊎ ((x : Named) × (map.get table t ≡ Some x)) → (x : Named) × (map.get (map.insert table n m) t ≡ Some x)
there-more table n m t h =
    let s = some-either (same_key t n) m (map.get table t) (elim h [
      | inl e ↦ inl (ap (λ u. same_key t u) (sym e) ∙ key-same t)
      | inr k ↦ inr k
    ]) in
    (s.0, get-insert nat_list_cmp_total table n m t ∙ s.1)

none-some : (o : Option Named) (x : Named) → o ≡ None → o ≡ Some x → ⊥
none-some o x a b = let e : ◌≡◌ {A = Option Named} None (Some x) = sym a ∙ b in cc

apart-insert : (table : Table) (n : List ℕ) (m : Named) (xs zs : List (List ℕ)) → is_name n ≡ true → map.get table n ≡ None → AreApart (xs ++ zs) table → AreApart (xs ++ n ∷ zs) (map.insert table n m)
apart-insert table n m xs zs one free a = record {
  all = all-insert n xs zs one a.all;
  differ = differ-insert n xs zs (λ h. let k = a.there n h in none-some (map.get table n) k.0 free k.1) a.differ;
  there = λ t h. there-more table n m t (elim (among-insert t n xs zs h) [
    | inl e ↦ inl e
    | inr k ↦ inr (a.there t k)
  ]);
}

apart-by : (table : Table) (n : List ℕ) (m : Named) (before later xs zs : List (List ℕ)) → before ≡ xs ++ zs → later ≡ xs ++ n ∷ zs → is_name n ≡ true → map.get table n ≡ None → AreApart before table → AreApart later (map.insert table n m)
apart-by table n m before later xs zs e f one free a =
    subst (λ ns. AreApart ns (map.insert table n m)) (sym f) (apart-insert table n m xs zs one free (subst (λ ns. AreApart ns table) e a))

before-0 : (a b c d e f : List (List ℕ)) → (((((a ++ b) ++ c) ++ d) ++ e) ++ f) ≡ a ++ (b ++ (c ++ (d ++ (e ++ f))))
before-0 a b c d e f = simp append_assoc

later-0 : (n : List ℕ) (a b c d e f : List (List ℕ)) → ((((((a ++ n ∷ []) ++ b) ++ c) ++ d) ++ e) ++ f) ≡ a ++ n ∷ (b ++ (c ++ (d ++ (e ++ f))))
later-0 n a b c d e f = simp append_assoc

before-1 : (a b c d e f : List (List ℕ)) → (((((a ++ b) ++ c) ++ d) ++ e) ++ f) ≡ (a ++ b) ++ (c ++ (d ++ (e ++ f)))
before-1 a b c d e f = simp append_assoc

later-1 : (n : List ℕ) (a b c d e f : List (List ℕ)) → (((((a ++ (b ++ n ∷ [])) ++ c) ++ d) ++ e) ++ f) ≡ (a ++ b) ++ n ∷ (c ++ (d ++ (e ++ f)))
later-1 n a b c d e f = simp append_assoc

before-2 : (a b c d e f : List (List ℕ)) → (((((a ++ b) ++ c) ++ d) ++ e) ++ f) ≡ ((a ++ b) ++ c) ++ (d ++ (e ++ f))
before-2 a b c d e f = simp append_assoc

later-2 : (n : List ℕ) (a b c d e f : List (List ℕ)) → (((((a ++ b) ++ (c ++ n ∷ [])) ++ d) ++ e) ++ f) ≡ ((a ++ b) ++ c) ++ n ∷ (d ++ (e ++ f))
later-2 n a b c d e f = simp append_assoc

before-3 : (a b c d e f : List (List ℕ)) → (((((a ++ b) ++ c) ++ d) ++ e) ++ f) ≡ (((a ++ b) ++ c) ++ d) ++ (e ++ f)
before-3 a b c d e f = simp append_assoc

later-3 : (n : List ℕ) (a b c d e f : List (List ℕ)) → (((((a ++ b) ++ c) ++ (d ++ n ∷ [])) ++ e) ++ f) ≡ (((a ++ b) ++ c) ++ d) ++ n ∷ (e ++ f)
later-3 n a b c d e f = simp append_assoc

before-4 : (a b c d e f : List (List ℕ)) → (((((a ++ b) ++ c) ++ d) ++ e) ++ f) ≡ ((((a ++ b) ++ c) ++ d) ++ e) ++ (f)
before-4 a b c d e f = simp append_assoc

later-4 : (n : List ℕ) (a b c d e f : List (List ℕ)) → (((((a ++ b) ++ c) ++ d) ++ (e ++ n ∷ [])) ++ f) ≡ ((((a ++ b) ++ c) ++ d) ++ e) ++ n ∷ (f)
later-4 n a b c d e f = simp append_assoc

before-5 : (a b c d e f : List (List ℕ)) → (((((a ++ b) ++ c) ++ d) ++ e) ++ f) ≡ (((((a ++ b) ++ c) ++ d) ++ e) ++ f) ++ ([])
before-5 a b c d e f = sym (append-nil (((((a ++ b) ++ c) ++ d) ++ e) ++ f))

later-5 : (n : List ℕ) (a b c d e f : List (List ℕ)) → (((((a ++ b) ++ c) ++ d) ++ e) ++ (f ++ n ∷ [])) ≡ (((((a ++ b) ++ c) ++ d) ++ e) ++ f) ++ n ∷ ([])
later-5 n a b c d e f = simp append_assoc

named-part : (p : Part) (b : List Stmt) (d : EoDecl) → (with_part p b d).name ≡ d.name
named-part parts.Receive b d = refl
named-part parts.Start b d = refl
named-part parts.Stop b d = refl
named-part parts.LocalStart b d = refl
named-part parts.LocalStop b d = refl
named-part parts.Error b d = refl

named-bodies : (n : ℕ) (p : Part) (b : List Stmt) (eos : List EoDecl) → map (λ x. x.name) (with_body_at n p b eos) ≡ map (λ x. x.name) eos
named-bodies n p b [] = refl
named-bodies zero p b (d ∷ ds) = ap (λ t. t ∷ map (λ x. x.name) ds) (named-part p b d)
named-bodies (suc n) p b (d ∷ ds) = ap (map (λ x. x.name)) (with_body_at-behind n p b d ds) ∙ ap (λ ts. d.name ∷ ts) (named-bodies n p b ds)

with_body-names : (p : Place) (b : List Stmt) (g : Config) → names_of (with_body p b g) ≡ names_of g
with_body-names places.Boot b g = refl
with_body-names places.Error b g = refl
with_body-names (places.Object eo p) b g = ap (λ ts. ((((map (λ x. x.name) g.pools ++ map (λ x. x.name) g.groups) ++ ts) ++ map (λ x. x.name) g.agroups) ++ map (λ x. x.name) g.queues) ++ g.egroups) (named-bodies eo.0 p b g.eos)

abbrev pub AreNamed : State → Type 0
AreNamed s = AreApart (names_of s.graph) s.table

body_ended-named : (p : Phase) (s : State) → AreNamed s → AreNamed (body_ended p s)
body_ended-named phases.First s h = h
body_ended-named phases.Declarations s h = h
body_ended-named phases.Bodies s h = h
body_ended-named (phases.Body p) s h = subst (λ ns. AreApart ns s.table) (sym (with_body-names p s.block s.graph)) h
body_ended-named phases.Done s h = h

ended-named : (nest : List Frame) (s : State) → AreNamed s → AreNamed (ended nest s)
ended-named [] s h = body_ended-named s.phase s h
ended-named (f ∷ fs) s h = h

turned-named : (nest : List Frame) (s : State) → AreNamed s → AreNamed (turned nest s)
turned-named [] s h = h
turned-named (f ∷ fs) s h = h

pub named-first : AreNamed first_state
named-first = record { all = refl; differ = tt; there = λ t h. absurd h }

pub named-after : (l : Line) (s : State) → Told s l → AreNamed s → AreNamed (after l s)
named-after (lines.Cores n) s told h = h
named-after (lines.Pool d) s told h =
    let free = (told.named refl).0 in
    apart-by s.table (d.name) (named.Pool (record { 0 = length s.graph.pools })) (names_of s.graph) (names_of (after (lines.Pool d) s).graph) (map (λ x. x.name) s.graph.pools) (map (λ x. x.name) s.graph.groups ++ (map (λ x. x.name) s.graph.eos ++ (map (λ x. x.name) s.graph.agroups ++ (map (λ x. x.name) s.graph.queues ++ s.graph.egroups)))) (before-0 (map (λ x. x.name) s.graph.pools) (map (λ x. x.name) s.graph.groups) (map (λ x. x.name) s.graph.eos) (map (λ x. x.name) s.graph.agroups) (map (λ x. x.name) s.graph.queues) (s.graph.egroups)) (ap (λ ts. (((((ts ++ map (λ x. x.name) s.graph.groups) ++ map (λ x. x.name) s.graph.eos) ++ map (λ x. x.name) s.graph.agroups) ++ map (λ x. x.name) s.graph.queues) ++ s.graph.egroups)) (map-append (λ x. x.name) s.graph.pools ((d) ∷ [])) ∙ later-0 (d.name) (map (λ x. x.name) s.graph.pools) (map (λ x. x.name) s.graph.groups) (map (λ x. x.name) s.graph.eos) (map (λ x. x.name) s.graph.agroups) (map (λ x. x.name) s.graph.queues) (s.graph.egroups)) free.name-is free.unused h
named-after (lines.Group name mask) s told h =
    let free = (told.named refl).0 in
    apart-by s.table (name) (named.Group (record { 0 = suc (length s.graph.groups) })) (names_of s.graph) (names_of (after (lines.Group name mask) s).graph) ((map (λ x. x.name) s.graph.pools ++ map (λ x. x.name) s.graph.groups)) (map (λ x. x.name) s.graph.eos ++ (map (λ x. x.name) s.graph.agroups ++ (map (λ x. x.name) s.graph.queues ++ s.graph.egroups))) (before-1 (map (λ x. x.name) s.graph.pools) (map (λ x. x.name) s.graph.groups) (map (λ x. x.name) s.graph.eos) (map (λ x. x.name) s.graph.agroups) (map (λ x. x.name) s.graph.queues) (s.graph.egroups)) (ap (λ ts. (((((map (λ x. x.name) s.graph.pools ++ ts) ++ map (λ x. x.name) s.graph.eos) ++ map (λ x. x.name) s.graph.agroups) ++ map (λ x. x.name) s.graph.queues) ++ s.graph.egroups)) (map-append (λ x. x.name) s.graph.groups ((record { name = name; mask = record { 0 = mask } }) ∷ [])) ∙ later-1 (name) (map (λ x. x.name) s.graph.pools) (map (λ x. x.name) s.graph.groups) (map (λ x. x.name) s.graph.eos) (map (λ x. x.name) s.graph.agroups) (map (λ x. x.name) s.graph.queues) (s.graph.egroups)) free.name-is free.unused h
named-after (lines.Eo name running) s told h =
    let free = (told.named refl).0 in
    apart-by s.table (name) (named.Eo (record { 0 = length s.graph.eos })) (names_of s.graph) (names_of (after (lines.Eo name running) s).graph) (((map (λ x. x.name) s.graph.pools ++ map (λ x. x.name) s.graph.groups) ++ map (λ x. x.name) s.graph.eos)) (map (λ x. x.name) s.graph.agroups ++ (map (λ x. x.name) s.graph.queues ++ s.graph.egroups)) (before-2 (map (λ x. x.name) s.graph.pools) (map (λ x. x.name) s.graph.groups) (map (λ x. x.name) s.graph.eos) (map (λ x. x.name) s.graph.agroups) (map (λ x. x.name) s.graph.queues) (s.graph.egroups)) (ap (λ ts. (((((map (λ x. x.name) s.graph.pools ++ map (λ x. x.name) s.graph.groups) ++ ts) ++ map (λ x. x.name) s.graph.agroups) ++ map (λ x. x.name) s.graph.queues) ++ s.graph.egroups)) (map-append (λ x. x.name) s.graph.eos ((new_eo name running) ∷ [])) ∙ later-2 (name) (map (λ x. x.name) s.graph.pools) (map (λ x. x.name) s.graph.groups) (map (λ x. x.name) s.graph.eos) (map (λ x. x.name) s.graph.agroups) (map (λ x. x.name) s.graph.queues) (s.graph.egroups)) free.name-is free.unused h
named-after (lines.Agroup d) s told h =
    let free = (told.named refl).0 in
    apart-by s.table (d.name) (named.Agroup (length s.graph.agroups)) (names_of s.graph) (names_of (after (lines.Agroup d) s).graph) ((((map (λ x. x.name) s.graph.pools ++ map (λ x. x.name) s.graph.groups) ++ map (λ x. x.name) s.graph.eos) ++ map (λ x. x.name) s.graph.agroups)) (map (λ x. x.name) s.graph.queues ++ s.graph.egroups) (before-3 (map (λ x. x.name) s.graph.pools) (map (λ x. x.name) s.graph.groups) (map (λ x. x.name) s.graph.eos) (map (λ x. x.name) s.graph.agroups) (map (λ x. x.name) s.graph.queues) (s.graph.egroups)) (ap (λ ts. (((((map (λ x. x.name) s.graph.pools ++ map (λ x. x.name) s.graph.groups) ++ map (λ x. x.name) s.graph.eos) ++ ts) ++ map (λ x. x.name) s.graph.queues) ++ s.graph.egroups)) (map-append (λ x. x.name) s.graph.agroups ((d) ∷ [])) ∙ later-3 (d.name) (map (λ x. x.name) s.graph.pools) (map (λ x. x.name) s.graph.groups) (map (λ x. x.name) s.graph.eos) (map (λ x. x.name) s.graph.agroups) (map (λ x. x.name) s.graph.queues) (s.graph.egroups)) free.name-is free.unused h
named-after (lines.Queue d) s told h =
    let free = (told.named refl).0 in
    apart-by s.table (d.name) (named.Queue (record { 0 = length s.graph.queues })) (names_of s.graph) (names_of (after (lines.Queue d) s).graph) (((((map (λ x. x.name) s.graph.pools ++ map (λ x. x.name) s.graph.groups) ++ map (λ x. x.name) s.graph.eos) ++ map (λ x. x.name) s.graph.agroups) ++ map (λ x. x.name) s.graph.queues)) (s.graph.egroups) (before-4 (map (λ x. x.name) s.graph.pools) (map (λ x. x.name) s.graph.groups) (map (λ x. x.name) s.graph.eos) (map (λ x. x.name) s.graph.agroups) (map (λ x. x.name) s.graph.queues) (s.graph.egroups)) (ap (λ ts. (((((map (λ x. x.name) s.graph.pools ++ map (λ x. x.name) s.graph.groups) ++ map (λ x. x.name) s.graph.eos) ++ map (λ x. x.name) s.graph.agroups) ++ ts) ++ s.graph.egroups)) (map-append (λ x. x.name) s.graph.queues ((d) ∷ [])) ∙ later-4 (d.name) (map (λ x. x.name) s.graph.pools) (map (λ x. x.name) s.graph.groups) (map (λ x. x.name) s.graph.eos) (map (λ x. x.name) s.graph.agroups) (map (λ x. x.name) s.graph.queues) (s.graph.egroups)) free.name-is free.unused h
named-after (lines.Egroup name) s told h =
    let free = (told.named refl).0 in
    apart-by s.table (name) (named.Egroup (record { 0 = length s.graph.egroups })) (names_of s.graph) (names_of (after (lines.Egroup name) s).graph) ((((((map (λ x. x.name) s.graph.pools ++ map (λ x. x.name) s.graph.groups) ++ map (λ x. x.name) s.graph.eos) ++ map (λ x. x.name) s.graph.agroups) ++ map (λ x. x.name) s.graph.queues) ++ s.graph.egroups)) ([]) (before-5 (map (λ x. x.name) s.graph.pools) (map (λ x. x.name) s.graph.groups) (map (λ x. x.name) s.graph.eos) (map (λ x. x.name) s.graph.agroups) (map (λ x. x.name) s.graph.queues) (s.graph.egroups)) (later-5 (name) (map (λ x. x.name) s.graph.pools) (map (λ x. x.name) s.graph.groups) (map (λ x. x.name) s.graph.eos) (map (λ x. x.name) s.graph.agroups) (map (λ x. x.name) s.graph.queues) (s.graph.egroups)) free.name-is free.unused h
named-after (lines.Body p) s told h = h
named-after lines.Done s told h = h
named-after (lines.Statement x) s told h = h
named-after (lines.If x) s told h = h
named-after (lines.Repeat n) s told h = h
named-after lines.Else s told h = turned-named s.nest s h
named-after lines.End s told h = ended-named s.nest s h
