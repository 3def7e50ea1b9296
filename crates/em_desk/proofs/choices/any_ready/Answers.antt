use Rattle.std.proofs.Common.{◌≡◌, ◌∙◌, ℕ, zero, suc, ◌+◌, ◌<◌, List, [], ◌∷◌, length, get_or, Bool, true, false, not, ◌&&◌, nat_lt, Option, Some, None, is_some, refl, ap, sym, subst, arith}
use Rattle.std.specs.Option.{MatchOption}
use Rattle.em_log.specs.declared.declarations.Declarations.{Declarations}
use Rattle.em_log.specs.declared.ids.QueueId.{QueueId}
use Rattle.em_log.specs.Declarations.{kind_of, is_served}
use Rattle.em_laws.proofs.Cores.{Compared, Same, Other, compared}
use Rattle.em_queues.specs.declared.set.QueueSet.{QueueSet}
use Rattle.em_queues.specs.Steps.{QueueStep, lists}
use Rattle.em_queues.specs.Sets.{contains}
use Rattle.em_queues.specs.Best.{can_serve, IsNoneReady, IsBest}
use Rattle.em_desk.specs.Choices.{CanServe, could_serve}
use Rattle.em_desk.proofs.choices.any_ready.Goals as goal

-- within a list the default does not matter
any-default : (xs : List QueueSet) (i : ℕ) (d e : QueueSet) → i < length xs → get_or xs i d ≡ get_or xs i e
any-default [] i d e lt = absurd (omega (arith, lt))
any-default (x ∷ xs) zero d e lt = refl
any-default (x ∷ xs) (suc i) d e lt = any-default xs i d e (omega (arith, lt))

-- the set that is looked at has those of the list that are not held
abbrev IsWithout : QueueSet → QueueSet → QueueSet → Type 0
IsWithout may set held = (q : ℕ) → contains may q ≡ (contains set q && not (contains held q))

could-by : (k : Declarations) (t : List QueueStep) (c q : ℕ) (may set held : QueueSet) (b : Bool) → IsWithout may set held → can_serve k (lists k t) c may q ≡ b
    → could_serve k (lists k t) c set held q ≡ b
could-by k t c q may set held b less is =
    ap (λ (b : Bool). b && is_served (kind_of k q) && nat_lt 0 (length ((lists k t).waiting q c))) (sym (less q)) ∙ is

found : (k : Declarations) (t : List QueueStep) (sets : List QueueSet) (held may : QueueSet) (o : Option QueueId) (n i : ℕ) (d : QueueSet) → is_some o ≡ true → n ≡ i → i < length sets
    → IsWithout may (get_or sets i d) held → MatchOption o (IsNoneReady k (lists k t) n may) (λ q. IsBest k (lists k t) n may q.0) → CanServe k t sets held
found k t sets held may None n i d some at lt less best = absurd (cc some)
found k t sets held may (Some q) n i d some at lt less best =
    record {
      core = n;
      queue = q.0;
      set = get_or sets i d;
      within = subst (λ (m : ℕ). m < length sets) (sym at) lt;
      is = subst (λ (m : ℕ). get_or sets i d ≡ get_or sets m (get_or sets i d)) (sym at) (any-default sets i d (get_or sets i d) lt);
      ready = could-by k t n q.0 may (get_or sets i d) held true less best.ready;
    }

none-found : (k : Declarations) (t : List QueueStep) (sets : List QueueSet) (held may : QueueSet) (o : Option QueueId) (n i m : ℕ) (d s : QueueSet) → is_some o ≡ false → n ≡ i → i < length sets
    → IsWithout may (get_or sets i d) held → MatchOption o (IsNoneReady k (lists k t) n may) (λ q. IsBest k (lists k t) n may q.0)
    → ((m : ℕ) (s : QueueSet) → m < n → s ≡ get_or sets m s → (q : ℕ) → could_serve k (lists k t) m s held q ≡ false) → m < n + 1 → s ≡ get_or sets m s
    → (q : ℕ) → could_serve k (lists k t) m s held q ≡ false
none-found k t sets held may (Some q) n i m d s some at lt less none before more is = absurd (cc some)
none-found k t sets held may None n i m d s some at lt less none before more is = by_test (compared m n)
  where
    by_test : Compared m n → (q : ℕ) → could_serve k (lists k t) m s held q ≡ false
    by_test (Same e same) =
        let set : get_or sets i d ≡ s = any-default sets i d s lt ∙ (ap (λ (x : ℕ). get_or sets x s) (sym at ∙ sym same) ∙ sym is) in
        λ q. subst (λ (x : QueueSet). could_serve k (lists k t) m x held q ≡ false) set
        (subst (λ (x : ℕ). could_serve k (lists k t) x (get_or sets i d) held q ≡ false) (sym same) (could-by k t n q may (get_or sets i d) held false less (none q)))
    by_test (Other f ne) = before m s (omega (arith, more, ne)) is

pub loop-may-init : goal.loop-may-init
loop-may-init c = (refl, λ k t stands n s lt is. absurd (omega (arith, lt)))

pub best-requires : goal.best-requires
best-requires c =
    let at = c.loop-may.invariant.0 in
    let lt = c.loop-may-test.true in
    let few = c.requires.cores in
    omega (arith, at, lt, few)

pub overflow_add-core : goal.overflow_add-core
overflow_add-core c =
    let at = c.loop-may.invariant.0 in
    let lt = c.loop-may-test.true in
    let few = c.requires.few in
    omega (arith, at, lt, few)

pub loop-may-preserved : goal.loop-may-preserved
loop-may-preserved c =
    let at = c.loop-may.invariant.0 in (
      ap (λ (n : ℕ). n + 1) at,
      λ k t stands m s lt is.
          none-found k t c.args.allowed.now c.args.held.now c.without.result c.best.result c.loop-may.core c.loop-may.may-index m _ s (sym c.is_some.ensures ∙ c.if-is_some.false) at c.loop-may-test.true
          c.without.ensures (c.best.ensures k t stands) (c.loop-may.invariant.1 k t stands) lt is,
    )

pub returns-then-is_some : goal.returns-then-is_some
returns-then-is_some c = λ k t stands.
    found k t c.args.allowed.now c.args.held.now c.without.result c.best.result c.loop-may.core c.loop-may.may-index _ (sym c.is_some.ensures ∙ c.if-is_some.true) c.loop-may.invariant.0 c.loop-may-test.true c.without.ensures (c.best.ensures k t stands)

pub returns : goal.returns
returns c = λ k t stands m s lt is.
    c.loop-may.invariant.1 k t stands m s
    (let at = c.loop-may.invariant.0 in let end = c.loop-may-test.false in omega (arith, at, end, lt)) is
