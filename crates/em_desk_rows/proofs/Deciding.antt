-- Runs in which each take has one choice at most, decided by computing.
use Rattle.std.proofs.Common.{◌≡◌, ℕ, zero, suc, ◌+◌, ◌<◌, ◌≤◌, ◌==◌, ◌||◌, Bool, true, false, not, ◌&&◌, nat_lt, nat_le, List, [], ◌∷◌, length, Option, Some, None, is_none, refl, ap, subst, sym, ◌∙◌, arith, if◌then◌else◌, slice_get}
use Rattle.std.specs.List.{list_all, list_any, find}
use Rattle.std.specs.Option.{option_map_or}
use Rattle.std.proofs.lemmas.Bool.{leb-true, ltb-true, false≢true}
use Rattle.em_log.specs.declared.ask.Answer.{Answer}
use Rattle.em_log.specs.declared.ask.Ask.{Ask}
use Rattle.em_log.specs.declared.declarations.Declarations.{Declarations}
use Rattle.em_log.specs.declared.declarations.QueueShape.{QueueShape}
use Rattle.em_log.specs.declared.entry.Body.{Body}
use Rattle.em_log.specs.declared.entry.What.{What}
use Rattle.em_log.specs.declared.ids.Kind.{Kind}
use Rattle.em_log.specs.declared.ids.Limits.{Limits}
use Rattle.em_log.specs.History.{Past, entry_by}
use Rattle.em_log.specs.Declarations.{below, numbers_from, is_served}
use Rattle.em_log.specs.Contexts.{context, boot_ended}
use Rattle.em_log.specs.Operations.{step}
use Rattle.em_log.specs.Arrivals.{Item}
use Rattle.em_log.specs.Places.{taken}
use Rattle.em_log.specs.Atomic.{is_empty}
use Rattle.em_log.specs.Eligible.{eligible, is_best, is_choice, take_size, ticket_drawn}
use Rattle.em_log.specs.Leads.{lead}
use Rattle.em_log.specs.Lawful.{may_ask}
use Rattle.em_log.specs.Allowance.{cost_of_ask, left}
use Rattle.em_log.specs.Answers.{Takes, Halted, Boots, Early, Enters, Acks, Receives, Rests, block, has_choice, is_first}
use Rattle.em_moments.proofs.Choices.{choice-ready}
use Rattle.em_context_parts.proofs.AtomicHolders.{find-true}
use Rattle.em_laws.proofs.Cores.{Compared, Same, Other, compared, eqb-eq}
use Rattle.em_desk.specs.State.{DeskState}
use Rattle.em_desk.specs.Served.{served}
use Rattle.em_desk_rows.specs.declared.moves.Move.{Move}
use Rattle.em_desk_rows.specs.Moves.{MayTake, MayAsk, Moves, Drives, ask_of, with_past}

-- the choice

both-true : (a b : Bool) → (a && b) ≡ true → (a ≡ true) × (b ≡ true)
both-true true b is = (refl, is)
both-true false b is = absurd (false≢true is)

-- a queue that a core may take from is declared
served-declared : (ds : List QueueShape) (q : ℕ) → is_served (option_map_or (λ (d : QueueShape). d.kind) (slice_get ds q) Kind.Unscheduled) ≡ true → q < length ds
served-declared [] q is = absurd (false≢true is)
served-declared (d ∷ ds) zero is = omega arith
served-declared (d ∷ ds) (suc q) is = let lt = served-declared ds q is in omega (arith, lt)

choice-declared : (k : Declarations) (l : Limits) (past : Past) (c q : ℕ) → is_choice k l past c q ≡ true → q < length k.queues
choice-declared k l past c q is = served-declared k.queues q (choice-ready k l past c q is).served

-- looking through the queues

all-from : (f : ℕ → Bool) (a n i : ℕ) → list_all f (numbers_from a n) ≡ true → a ≤ i → i < a + n → f i ≡ true
all-from f a zero i is low high = absurd (omega arith)
all-from f a (suc n) i is low high = by_test (compared a i) (all-from f (suc a) n i (both-true (f a) (list_all f (numbers_from (suc a) n)) is).1)
  where
    by_test : Compared a i → (suc a ≤ i → i < suc a + n → f i ≡ true) → f i ≡ true
    by_test (Same t e) later = subst (λ (x : ℕ). f x ≡ true) e (both-true (f a) (list_all f (numbers_from (suc a) n)) is).0
    by_test (Other t ne) later = later (omega (arith, low, ne)) (omega (arith, high))

any-from : (f : ℕ → Bool) (a n i : ℕ) → a ≤ i → i < a + n → f i ≡ true → list_any f (numbers_from a n) ≡ true
any-from f a zero i low high is = absurd (omega arith)
any-from f a (suc n) i low high is = by_test (compared a i) (f a) refl (any-from f (suc a) n i)
  where
    by_test : Compared a i → (b : Bool) → f a ≡ b → (suc a ≤ i → i < suc a + n → f i ≡ true → list_any f (numbers_from (suc a) n) ≡ true)
        → (f a || list_any f (numbers_from (suc a) n)) ≡ true
    by_test at true t later = rw t refl
    by_test (Same e same) false t later = let on : f a ≡ true = ap f same ∙ is in absurd (false≢true (sym t ∙ on))
    by_test (Other e ne) false t later = rw t (later (omega (arith, low, ne)) (omega (arith, high)) is)

find-at : (f : ℕ → Bool) (a n i : ℕ) → a ≤ i → i < a + n → f i ≡ true → find f (numbers_from a n) ≡ None → ⊥
find-at f a zero i low high is none = absurd (omega arith)
find-at f a (suc n) i low high is none = by_test (compared a i) (f a) refl none (find-at f (suc a) n i)
  where
    by_test : Compared a i → (b : Bool) → f a ≡ b → (if b then Some a else find f (numbers_from (suc a) n)) ≡ None
        → (suc a ≤ i → i < suc a + n → f i ≡ true → find f (numbers_from (suc a) n) ≡ None → ⊥) → ⊥
    by_test at true t none later = cc none
    by_test (Same e same) false t none later = let on : f a ≡ true = ap f same ∙ is in false≢true (sym t ∙ on)
    by_test (Other e ne) false t none later = later (omega (arith, low, ne)) (omega (arith, high)) is none

-- the queue that the core may take from, and whether it is the only one, from which a take takes one event without a ticket

abbrev pub found : Declarations → Limits → Past → ℕ → Option ℕ
found k l past c = find (is_choice k l past c) (below (length k.queues))

abbrev pub is_only : Declarations → Limits → Past → ℕ → Option ℕ → Bool
is_only k l past c None = true
is_only k l past c (Some q) =
    list_all (λ r. not (is_choice k l past c r) || (r == q)) (below (length k.queues)) && (take_size k l past c q == 1) && is_none (ticket_drawn k past q)

none-is : {A : Type 0} (o : Option A) → is_none o ≡ true → o ≡ None
none-is None is = refl
none-is (Some x) is = absurd (false≢true is)

-- takes

abbrev pub received : Declarations → Past → ℕ → Option ℕ → Past
received k past c None = past
received k past c (Some q) = block k past (entry_by c (What.Take (record { 0 = q }) 1 None))

-- a choice is the one that was found
pub received-is : (k : Declarations) (l : Limits) (past : Past) (c q : ℕ) (o : Option ℕ) (now : Past) → found k l past c ≡ o → is_only k l past c o ≡ true
    → is_choice k l past c q ≡ true → now ≡ block k past (entry_by c (What.Take (record { 0 = q }) (take_size k l past c q) (ticket_drawn k past q)))
    → now ≡ received k past c o
received-is k l past c q None now at only is made =
    let declared = choice-declared k l past c q is in
    absurd (find-at (is_choice k l past c) 0 (length k.queues) q (omega arith) (omega (arith, declared)) is at)
received-is k l past c q (Some r) now at only is made =
    let declared = choice-declared k l past c q is in
    let parts = both-true (list_all (λ x. not (is_choice k l past c x) || (x == r)) (below (length k.queues)) && (take_size k l past c r == 1)) _ only in
    let sizes = both-true (list_all (λ x. not (is_choice k l past c x) || (x == r)) (below (length k.queues))) (take_size k l past c r == 1) parts.0 in
    let test = all-from (λ x. not (is_choice k l past c x) || (x == r)) 0 (length k.queues) q sizes.0 (omega arith) (omega (arith, declared)) in
    let same : q ≡ r = eqb-eq q r (sym (ap (λ (b : Bool). not b || (q == r)) is) ∙ test) in
    let size : take_size k l past c r ≡ 1 = eqb-eq (take_size k l past c r) 1 sizes.1 in
    let ticket : ticket_drawn k past r ≡ None = none-is (ticket_drawn k past r) parts.1 in
    made
    ∙ (ap (λ x. block k past (entry_by c (What.Take (record { 0 = x }) (take_size k l past c x) (ticket_drawn k past x)))) same
    ∙ (λ i. block k past (entry_by c (What.Take (record { 0 = r }) (size i) (ticket i)))))

-- where there is no choice nothing is found
pub rested-is : (k : Declarations) (l : Limits) (past : Past) (c : ℕ) (o : Option ℕ) → found k l past c ≡ o → has_choice k l past c ≡ false → past ≡ received k past c o
rested-is k l past c None at none = refl
rested-is k l past c (Some r) at none =
    let is = find-true (is_choice k l past c) (below (length k.queues)) r at in
    let declared = choice-declared k l past c r is in
    let can : eligible k l past c r ≡ true = (both-true (eligible k l past c r) (is_best k l past c r) is).0 in
    absurd (false≢true (sym none ∙ any-from (eligible k l past c) 0 (length k.queues) r (omega arith) (omega (arith, declared)) can))

-- the history after a take of a core that owes no step
abbrev pub after_take : Declarations → Limits → Bool → Past → ℕ → Past
after_take k l halted past c =
    if halted then past
    else if is_first c past then entry_by c (What.Enter Body.Boot) ∷ past
    else if not (boot_ended past) then past
    else received k past c (found k l past c)

first-later : (c : ℕ) (past : Past) → boot_ended past ≡ true → is_first c past ≡ false
first-later c [] over = absurd (false≢true over)
first-later c (e ∷ past) over = refl

pub take-is : (k : Declarations) (l : Limits) (halted : Bool) (past : Past) (c : ℕ) (answer : Answer) (now : Past) → is_only k l past c (found k l past c) ≡ true
    → step k past c ≡ None → Takes k l halted past c answer now → now ≡ after_take k l halted past c
take-is k l halted past c answer now only none (Halted h a n) = rw h n
take-is k l halted past c answer now only none (Boots h f a n) = rw (h, f) n
take-is k l halted past c answer now only none (Early h f o a n) = rw (h, f, o) n
take-is k l halted past c answer now only none (Enters b x h o s n t a) = absurd cc
take-is k l halted past c answer now only none (Acks op h o s n a) = absurd cc
take-is k l halted past c answer now only none (Receives q x h o s f n t a) =
    let early = first-later c past o in
    rw (h, early, o) (received-is k l past c q (found k l past c) now refl only f n)
take-is k l halted past c answer now only none (Rests h o s f r n) =
    let early = first-later c past o in
    rw (h, early, o) (n ∙ rested-is k l past c (found k l past c) refl f)

-- moves

abbrev pub may_take : DeskState → ℕ → Bool
may_take d c =
    nat_lt c d.declarations.cores && is_none (context d.past c) && is_empty (taken d.declarations d.past c)
    && is_none (step d.declarations d.past c) && is_only d.declarations d.limits d.past c (found d.declarations d.limits d.past c)

abbrev pub may_do : DeskState → ℕ → Ask → Bool
may_do d c ask =
    nat_lt c d.declarations.cores && may_ask d.declarations d.past c ask && nat_le (cost_of_ask ask) (left d.declarations d.past c)
    && served d.declarations ask

abbrev pub may_move : DeskState → ℕ → Option Ask → Bool
may_move d c None = may_take d c
may_move d c (Some ask) = may_do d c ask

abbrev pub moved : DeskState → ℕ → Option Ask → Past
moved d c None = after_take d.declarations d.limits d.halted d.past c
moved d c (Some ask) = block d.declarations d.past (entry_by c (lead d.declarations d.past c ask))

-- each of the moves may be made in turn
abbrev pub passes : DeskState → List (ℕ × Move) → Bool
passes d [] = true
passes d (m ∷ ms) = may_move d m.0 (ask_of m.1) && passes (with_past d (moved d m.0 (ask_of m.1))) ms

empty-is : (xs : List Item) → is_empty xs ≡ true → xs ≡ []
empty-is [] is = refl
empty-is (x ∷ xs) is = absurd (false≢true is)

may-take : (d : DeskState) (c : ℕ) → may_take d c ≡ true → MayTake d c × ((step d.declarations d.past c ≡ None) × (is_only d.declarations d.limits d.past c (found d.declarations d.limits d.past c) ≡ true))
may-take d c is =
    let z =
    both-true
    (nat_lt c d.declarations.cores && is_none (context d.past c) && is_empty (taken d.declarations d.past c) && is_none (step d.declarations d.past c))
    (is_only d.declarations d.limits d.past c (found d.declarations d.limits d.past c))
    is
    in
    let a =
    both-true
    (nat_lt c d.declarations.cores && is_none (context d.past c) && is_empty (taken d.declarations d.past c))
    (is_none (step d.declarations d.past c))
    z.0
    in
    let b = both-true (nat_lt c d.declarations.cores && is_none (context d.past c)) (is_empty (taken d.declarations d.past c)) a.0 in
    let e = both-true (nat_lt c d.declarations.cores) (is_none (context d.past c)) b.0 in (
      record { core = ltb-true c d.declarations.cores e.0; closed = none-is (context d.past c) e.1; untaken = empty-is (taken d.declarations d.past c) b.1 },
      (none-is (step d.declarations d.past c) a.1, z.1),
    )

may-do : (d : DeskState) (c : ℕ) (ask : Ask) → may_do d c ask ≡ true → MayAsk d c ask
may-do d c ask is =
    let a =
    both-true
    (nat_lt c d.declarations.cores && may_ask d.declarations d.past c ask && nat_le (cost_of_ask ask) (left d.declarations d.past c))
    (served d.declarations ask)
    is
    in
    let b =
    both-true
    (nat_lt c d.declarations.cores && may_ask d.declarations d.past c ask)
    (nat_le (cost_of_ask ask) (left d.declarations d.past c))
    a.0
    in
    let e = both-true (nat_lt c d.declarations.cores) (may_ask d.declarations d.past c ask) b.0 in
    record {
      core = ltb-true c d.declarations.cores e.0;
      may_ask = e.1;
      allowance = leb-true (cost_of_ask ask) (left d.declarations d.past c) b.1;
      served = a.1;
    }

moves-by : (d : DeskState) (c : ℕ) (o : Option Ask) (more : DeskState → Type 0)
    → may_move d c o ≡ true → more (with_past d (moved d c o)) → Moves d c o more
moves-by d c None more is more_then =
    let may = may-take d c is in (
      may.0,
      λ (answer : Answer) (now : Past) (takes : Takes d.declarations d.limits d.halted d.past c answer now).
          subst (λ past. more (with_past d past)) (sym (take-is d.declarations d.limits d.halted d.past c answer now may.1.1 may.1.0 takes)) more_then,
    )
moves-by d c (Some ask) more is more_then = (may-do d c ask is, more_then)

-- a decided run of moves drives
pub drives-by : (d : DeskState) (ms : List (ℕ × Move)) → passes d ms ≡ true → Drives d ms
drives-by d [] is = tt
drives-by d (m ∷ ms) is =
    let b = both-true (may_move d m.0 (ask_of m.1)) (passes (with_past d (moved d m.0 (ask_of m.1))) ms) is in
    moves-by d m.0 (ask_of m.1) (λ now. Drives now ms) b.0
    (drives-by (with_past d (moved d m.0 (ask_of m.1))) ms b.1)
