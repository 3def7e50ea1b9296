-- The best queue, by the sets of the queues in which something waits.
use Rattle.std.proofs.Common.{◌≡◌, ℕ, ◌+◌, ◌-◌, ◌<◌, ◌≤◌, ◌&&◌, ◌||◌, nat_lt, Bool, true, false, List, length, if◌then◌else◌, Option, Some, None, arith, refl, ap, sym, ◌∙◌, subst, ⊎_elim}
use Rattle.std.specs.Prelude.{slice_get, MatchOption}
use Rattle.std.specs.Option.{is_some, option_map, option_map_or, option_and_then}
use Rattle.std.proofs.lemmas.Bool.{cases_eq, cases_lt, eq-eqb, eqb-true, lt-ltb, le-ltb}
use Rattle.em_log.specs.declared.declarations.Declarations.{Declarations}
use Rattle.em_log.specs.declared.declarations.QueueShape.{QueueShape}
use Rattle.em_log.specs.declared.ids.Kind.{Kind}
use Rattle.em_log.specs.declared.ids.QueueId.{QueueId}
use Rattle.em_log.specs.declared.graph.Priority.{Priority}
use Rattle.em_log.specs.Declarations.{kind_of, rank_of, is_local, is_served, rank}
use Rattle.em_queues.specs.declared.set.QueueSet.{QueueSet}
use Rattle.em_queues.specs.Waiting.{ListScope}
use Rattle.em_queues.specs.Sets.{contains, IsLeast}
use Rattle.em_queues.specs.Steps.{QueueStep, lists}
use Rattle.em_queues.specs.Best.{can_serve, IsNoneReady, IsBest}
use Rattle.em_queues.specs.State.{QueueState, core_at, items_at, items_by}
use Rattle.em_queues.specs.Ready.{is_ranked}
use Rattle.em_queues.specs.Waiting.{list_in, is_ready, rank_in, rank_or_lowest}
use Rattle.em_queues.specs.Changes.{lesser_number}
use Rattle.em_queues.specs.Stands.{Stands, declared_rank}

-- truth

both_left : (a b : Bool) → (a && b) ≡ true → a ≡ true
both_left true b e = refl
both_left false b e = e

both_right : (a b : Bool) → (a && b) ≡ true → b ≡ true
both_right true b e = e
both_right false b e = absurd (cc e)

both : (a b : Bool) → a ≡ true → b ≡ true → (a && b) ≡ true
both a b e f = ap (λ x. x && b) e ∙ f

on_left : (a b : Bool) → a ≡ true → (a || b) ≡ true
on_left a b e = ap (λ x. x || b) e

on_right : (a b : Bool) → b ≡ true → (a || b) ≡ true
on_right true b e = refl
on_right false b e = e

neither : (a b : Bool) → a ≡ false → b ≡ false → (a || b) ≡ false
neither a b e f = ap (λ x. x || b) e ∙ f

either : {X : Type 0} (a b : Bool) → (a || b) ≡ true → (a ≡ true → X) → (b ≡ true → X) → X
either true b e f g = f refl
either false b e f g = g e

-- the lesser of two numbers

pub least-either : (f g : ℕ → Bool) (a b : Option ℕ) → IsLeast f a → IsLeast g b → IsLeast (λ q. f q || g q) (lesser_number a b)
least-either f g None None l r = λ q. neither (f q) (g q) (l q) (r q)
least-either f g None (Some n) l r = (on_right (f n) (g n) r.0, λ q lt. neither (f q) (g q) (l q) (r.1 q lt))
least-either f g (Some m) None l r = (on_left (f m) (g m) l.0, λ q lt. neither (f q) (g q) (l.1 q lt) (r q))
least-either f g (Some m) (Some n) l r =
    ⊎_elim
    (λ lt. subst (IsLeast (λ q. f q || g q)) (sym (ap (λ (b : Bool). if b then Some n else Some m) (lt-ltb n m lt)))
    (on_right (f n) (g n) r.0, λ q less. neither (f q) (g q) (l.1 q (let most : n < m = lt in let below : q < n = less in omega arith)) (r.1 q less)))
    (λ ge. subst (IsLeast (λ q. f q || g q)) (sym (ap (λ (b : Bool). if b then Some n else Some m) (le-ltb n m ge)))
    (on_left (f m) (g m) l.0, λ q less. neither (f q) (g q) (l.1 q less) (r.1 q (let most : m ≤ n = ge in let below : q < m = less in omega arith))))
    (cases_lt n m)

-- the priority of a list

abbrev kind_in : Option QueueShape → Kind
kind_in o = option_map_or (λ d. d.kind) o Kind.Unscheduled

abbrev rank_in_shape : Option QueueShape → ℕ
rank_in_shape o = option_map_or (λ d. option_map_or rank d.priority 0) o 0

record IsShared (kind : Kind) (n r : ℕ) : Type 0 where
  pub served : is_served kind ≡ true
  pub shared : is_local kind ≡ false
  pub number : n ≡ r

record IsLocal (kind : Kind) (n r : ℕ) : Type 0 where
  pub served : is_served kind ≡ true
  pub local : is_local kind ≡ true
  pub number : n ≡ r

ranked_shared : (kind : Kind) (p : Option Priority) (r : ℕ) → is_ranked r (rank_in kind p ListScope.Shared) ≡ true → IsShared kind (rank_or_lowest p) r
ranked_shared Kind.Atomic p r e = record { served = refl; shared = refl; number = sym (eqb-true r (rank_or_lowest p) e) }
ranked_shared Kind.Parallel p r e = record { served = refl; shared = refl; number = sym (eqb-true r (rank_or_lowest p) e) }
ranked_shared Kind.Ordered p r e = record { served = refl; shared = refl; number = sym (eqb-true r (rank_or_lowest p) e) }
ranked_shared Kind.Local p r e = absurd (cc e)
ranked_shared Kind.Unscheduled p r e = absurd (cc e)
ranked_shared Kind.Output p r e = absurd (cc e)

ranked_local : (kind : Kind) (p : Option Priority) (r : ℕ) → is_ranked r (rank_in kind p ListScope.Local) ≡ true → IsLocal kind (rank_or_lowest p) r
ranked_local Kind.Atomic p r e = absurd (cc e)
ranked_local Kind.Parallel p r e = absurd (cc e)
ranked_local Kind.Ordered p r e = absurd (cc e)
ranked_local Kind.Local p r e = record { served = refl; local = refl; number = sym (eqb-true r (rank_or_lowest p) e) }
ranked_local Kind.Unscheduled p r e = absurd (cc e)
ranked_local Kind.Output p r e = absurd (cc e)

shape_shared : (o : Option QueueShape) (r : ℕ) → is_ranked r (option_and_then (declared_rank ListScope.Shared) o) ≡ true → IsShared (kind_in o) (rank_in_shape o) r
shape_shared None r e = absurd (cc e)
shape_shared (Some d) r e = ranked_shared d.kind d.priority r e

shape_local : (o : Option QueueShape) (r : ℕ) → is_ranked r (option_and_then (declared_rank ListScope.Local) o) ≡ true → IsLocal (kind_in o) (rank_in_shape o) r
shape_local None r e = absurd (cc e)
shape_local (Some d) r e = ranked_local d.kind d.priority r e

kind_shared : (kind : Kind) (p : Option Priority) → is_served kind ≡ true → is_local kind ≡ false → is_ranked (rank_or_lowest p) (rank_in kind p ListScope.Shared) ≡ true
kind_shared Kind.Atomic p e f = eq-eqb (rank_or_lowest p) (rank_or_lowest p) refl
kind_shared Kind.Parallel p e f = eq-eqb (rank_or_lowest p) (rank_or_lowest p) refl
kind_shared Kind.Ordered p e f = eq-eqb (rank_or_lowest p) (rank_or_lowest p) refl
kind_shared Kind.Local p e f = absurd (cc f)
kind_shared Kind.Unscheduled p e f = absurd (cc e)
kind_shared Kind.Output p e f = absurd (cc e)

kind_local : (kind : Kind) (p : Option Priority) → is_local kind ≡ true → is_ranked (rank_or_lowest p) (rank_in kind p ListScope.Local) ≡ true
kind_local Kind.Atomic p e = absurd (cc e)
kind_local Kind.Parallel p e = absurd (cc e)
kind_local Kind.Ordered p e = absurd (cc e)
kind_local Kind.Local p e = eq-eqb (rank_or_lowest p) (rank_or_lowest p) refl
kind_local Kind.Unscheduled p e = absurd (cc e)
kind_local Kind.Output p e = absurd (cc e)

served_shared : (o : Option QueueShape) → is_served (kind_in o) ≡ true → is_local (kind_in o) ≡ false
    → is_ranked (rank_in_shape o) (option_and_then (declared_rank ListScope.Shared) o) ≡ true
served_shared None e f = absurd (cc e)
served_shared (Some d) e f = kind_shared d.kind d.priority e f

served_local : (o : Option QueueShape) → is_local (kind_in o) ≡ true → is_ranked (rank_in_shape o) (option_and_then (declared_rank ListScope.Local) o) ≡ true
served_local None e = absurd (cc e)
served_local (Some d) e = kind_local d.kind d.priority e

few_priority : (p : Option Priority) → rank_or_lowest p < 5
few_priority None = omega arith
few_priority (Some Priority.Lowest) = omega arith
few_priority (Some Priority.Low) = omega arith
few_priority (Some Priority.Normal) = omega arith
few_priority (Some Priority.High) = omega arith
few_priority (Some Priority.Highest) = omega arith

few_rank : (o : Option QueueShape) → rank_in_shape o < 5
few_rank None = omega arith
few_rank (Some d) = few_priority d.priority

-- the sets of one priority

-- whether queue q is in one of the two sets of priority r, and allowed
abbrev pub is_at : QueueState → ℕ → QueueSet → ℕ → ℕ → Bool
is_at v c may r q = (is_ready r (list_in v.shared q) && contains may q) || (is_ready r (list_in (core_at v c).local q) && contains may q)

module _ {k : Declarations} {v : QueueState} {s : List QueueStep} (stands : Stands k v s) (c : ℕ) (there : c < length v.cores) (may : QueueSet) where
  abbrev serves : ℕ → Bool
  serves q = can_serve k (lists k s) c may q

  served : (q : ℕ) → contains may q ≡ true → is_served (kind_of k q) ≡ true → nat_lt 0 (length ((lists k s).waiting q c)) ≡ true → serves q ≡ true
  served q a b e = λ i. a i && b i && e i

  pub record Found (r q : ℕ) : Type 0 where
    pub ready : serves q ≡ true
    pub number : rank_of k q ≡ r

  waits : (b : Bool) (q : ℕ) → is_local (kind_of k q) ≡ b → nat_lt 0 (length (items_by b v q c)) ≡ true → nat_lt 0 (length ((lists k s).waiting q c)) ≡ true
  waits b q e some =
      let items : items_at v q c ≡ items_by b v q c = ap (λ b. items_by b v q c) (ap is_local (stands.kinds q) ∙ e) in
      ap (λ xs. nat_lt 0 (length xs)) (sym (stands.waiting q c) ∙ items) ∙ some

  pub at-found : (r q : ℕ) → is_at v c may r q ≡ true → Found r q
  at-found r q e =
      either (is_ready r (list_in v.shared q) && contains may q) (is_ready r (list_in (core_at v c).local q) && contains may q) e
      (λ left.
      let ready = both_left (is_ready r (list_in v.shared q)) (contains may q) left in
      let ranked = both_left (is_ranked r (list_in v.shared q).rank) (nat_lt 0 (length (list_in v.shared q).items)) ready in
      let some = both_right (is_ranked r (list_in v.shared q).rank) (nat_lt 0 (length (list_in v.shared q).items)) ready in
      let shape = shape_shared (slice_get k.queues q) r (ap (is_ranked r) (sym (stands.shared_ranks q)) ∙ ranked) in
      record {
        ready = served q (both_right (is_ready r (list_in v.shared q)) (contains may q) left) shape.served (waits false q shape.shared some);
        number = shape.number;
      })
      (λ right.
      let ready = both_left (is_ready r (list_in (core_at v c).local q)) (contains may q) right in
      let ranked = both_left (is_ranked r (list_in (core_at v c).local q).rank) (nat_lt 0 (length (list_in (core_at v c).local q).items)) ready in
      let some = both_right (is_ranked r (list_in (core_at v c).local q).rank) (nat_lt 0 (length (list_in (core_at v c).local q).items)) ready in
      let shape = shape_local (slice_get k.queues q) r (ap (is_ranked r) (sym (stands.local_ranks c q there)) ∙ ranked) in
      record {
        ready = served q (both_right (is_ready r (list_in (core_at v c).local q)) (contains may q) right) shape.served (waits true q shape.local some);
        number = shape.number;
      })

  pub found-at : (q : ℕ) → serves q ≡ true → is_at v c may (rank_of k q) q ≡ true
  found-at q e = by_kind (is_local (kind_of k q)) refl
    where
      first : (contains may q && is_served (kind_of k q)) ≡ true
      first = both_left (contains may q && is_served (kind_of k q)) (nat_lt 0 (length ((lists k s).waiting q c))) e

      allowed : contains may q ≡ true
      allowed = both_left (contains may q) (is_served (kind_of k q)) first

      is_served_q : is_served (kind_of k q) ≡ true
      is_served_q = both_right (contains may q) (is_served (kind_of k q)) first

      some : (b : Bool) → is_local (kind_of k q) ≡ b → nat_lt 0 (length (items_by b v q c)) ≡ true
      some b f =
          let items : items_at v q c ≡ items_by b v q c = ap (λ b. items_by b v q c) (ap is_local (stands.kinds q) ∙ f) in
          ap (λ xs. nat_lt 0 (length xs)) (sym items ∙ stands.waiting q c) ∙ both_right (contains may q && is_served (kind_of k q)) (nat_lt 0 (length ((lists k s).waiting q c))) e

      by_kind : (b : Bool) → is_local (kind_of k q) ≡ b → is_at v c may (rank_of k q) q ≡ true
      by_kind false f =
          on_left (is_ready (rank_of k q) (list_in v.shared q) && contains may q) (is_ready (rank_of k q) (list_in (core_at v c).local q) && contains may q)
          (both (is_ready (rank_of k q) (list_in v.shared q)) (contains may q)
          (both (is_ranked (rank_of k q) (list_in v.shared q).rank) (nat_lt 0 (length (list_in v.shared q).items))
          (ap (is_ranked (rank_of k q)) (stands.shared_ranks q) ∙ served_shared (slice_get k.queues q) is_served_q f) (some false f)) allowed)
      by_kind true f =
          on_right (is_ready (rank_of k q) (list_in v.shared q) && contains may q) (is_ready (rank_of k q) (list_in (core_at v c).local q) && contains may q)
          (both (is_ready (rank_of k q) (list_in (core_at v c).local q)) (contains may q)
          (both (is_ranked (rank_of k q) (list_in (core_at v c).local q).rank) (nat_lt 0 (length (list_in (core_at v c).local q).items))
          (ap (is_ranked (rank_of k q)) (stands.local_ranks c q there) ∙ served_local (slice_get k.queues q) f) (some true f)) allowed)

none_there : (found : Option QueueId) → is_some found ≡ false → found ≡ None
none_there None e = refl
none_there (Some q) e = absurd (cc e)

-- the search, from the highest priority down

-- at none of the n highest priorities is anything
abbrev pub NoneAbove : QueueState → ℕ → QueueSet → ℕ → Type 0
NoneAbove v c may n = (r q : ℕ) → r < 5 → 5 ≤ r + n → is_at v c may r q ≡ false

abbrev pub FirstAt : QueueState → ℕ → QueueSet → ℕ → Option QueueId → Type 0
FirstAt v c may r found = IsLeast (is_at v c may r) (option_map (λ x. x.0) found)

pub none-more : (v : QueueState) (c : ℕ) (may : QueueSet) (n : ℕ) (found : Option QueueId) → n < 5 → NoneAbove v c may n → FirstAt v c may (4 - n) found
    → is_some found ≡ false → NoneAbove v c may (n + 1)
none-more v c may n found lt before first none = λ r q few above.
    ⊎_elim
    (λ same. subst (λ m. is_at v c may m q ≡ false) (sym same) (subst (FirstAt v c may (4 - n)) (none_there found none) first q))
    (λ ne. before r q few (grind (arith, ne, above, lt, few)))
    (cases_eq r (4 - n))

module _ {k : Declarations} {v : QueueState} {s : List QueueStep} (stands : Stands k v s) (c : ℕ) (there : c < length v.cores) (may : QueueSet) where
  pub none-ready : (n : ℕ) → NoneAbove v c may n → 5 ≤ n → IsNoneReady k (lists k s) c may
  none-ready n none all q = by_test (can_serve k (lists k s) c may q) refl
    where
      by_test : (b : Bool) → can_serve k (lists k s) c may q ≡ b → b ≡ false
      by_test false e = refl
      by_test true e =
          absurd
          (let is = found-at stands c there may q e in
          let is_not = none (rank_of k q) q (few_rank (slice_get k.queues q)) (omega arith) in cc (is, is_not))

  pub is-best : (n q : ℕ) → n < 5 → NoneAbove v c may n → is_at v c may (4 - n) q ≡ true → IsBest k (lists k s) c may q
  is-best n q lt none at =
      let found = at-found stands c there may (4 - n) q at in
      record {
        ready = found.ready;
        highest = λ r e.
            ⊎_elim
            (λ above. absurd
            (let is = found-at stands c there may r e in
            let number = found.number in
            let is_not = none (rank_of k r) r (few_rank (slice_get k.queues r)) (omega arith) in cc (is, is_not)))
            (λ le. le)
            (cases_lt (rank_of k q) (rank_of k r));
      }

  pub best-found : (n : ℕ) (found : Option QueueId) → n < 5 → NoneAbove v c may n → FirstAt v c may (4 - n) found → is_some found ≡ true
      → MatchOption found (IsNoneReady k (lists k s) c may) (λ q. IsBest k (lists k s) c may q.0)
  best-found n None lt none first some = absurd (cc some)
  best-found n (Some q) lt none first some = is-best n q.0 lt none first.0
