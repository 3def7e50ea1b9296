-- After an event has arrived, or a core has taken events or given them back, the queues stand for one step more.
use Rattle.std.proofs.Common.{◌≡◌, ℕ, ◌<◌, ◌==◌, ◌||◌, Bool, true, false, List, [], ◌∷◌, ◌++◌, length, get_or, set, take, drop, if◌then◌else◌, Some, None, refl, ap, sym, ◌∙◌, subst, ⊎_elim}
use Rattle.std.specs.Option.{option_map, option_map_or}
use Rattle.std.proofs.lemmas.Bool.{cases_eq, cases_lt, eq-eqb, ne_eqb}
use Rattle.std.proofs.lemmas.List.{get_or-set_same, get_or-set_other, get_or_past, length-set}
use Rattle.em_log.specs.declared.declarations.Declarations.{Declarations}
use Rattle.em_log.specs.Arrivals.{is_for}
use Rattle.em_queues.specs.Cores.{CoreQueues}
use Rattle.em_queues.specs.Steps.{QueueStep, Arrived, Took, Untook, lists, is_listed}
use Rattle.em_queues.specs.State.{QueueState, core_in, core_at, items_at, taken_at, source_at}
use Rattle.em_queues.specs.Cores.{no_core}
use Rattle.em_queues.specs.Stands.{Stands}
use Rattle.em_queues.proofs.ListChanges.{Relisted, relisted-waiting}

-- an event that is in no list is there
pub unlisted-there : (listed : List Bool) (i : ℕ) → get_or listed i true ≡ false → i < length listed
unlisted-there listed i free =
    ⊎_elim (λ lt. lt) (λ past. absurd (let none = get_or_past listed i true past in cc (none, free))) (cases_lt i (length listed))

-- one core changes

by_core : {X : Type 0} (f : CoreQueues → X) (cores : List CoreQueues) (c : ℕ) (slot : CoreQueues) → c < length cores → (d : ℕ)
    → f (core_in (set cores c slot) d) ≡ (if c == d then f slot else f (core_in cores d))
by_core f cores c slot lt d =
    ⊎_elim
    (λ same. subst (λ m. f (core_in (set cores c slot) m) ≡ (if c == m then f slot else f (core_in cores m))) same
    (ap f (get_or-set_same cores c slot no_core lt) ∙ sym (ap (λ (b : Bool). if b then f slot else f (core_in cores c)) (eq-eqb c c refl))))
    (λ ne. ap f (get_or-set_other cores c d slot no_core (λ e. ne (sym e)))
    ∙ sym (ap (λ (b : Bool). if b then f slot else f (core_in cores d)) (ne_eqb c d ne))) (cases_eq c d)

chosen : {X : Type 0} (b : Bool) (x y z : X) → x ≡ y → (if b then x else z) ≡ (if b then y else z)
chosen b x y z e = ap (λ (m : _). if b then m else z) e

module _ {k : Declarations} {v : QueueState} {s : List QueueStep} (stands : Stands k v s) where
  pub arrived-stands : {w : QueueState} (q c i : ℕ) → Relisted k v w q c (items_at v q c ++ i ∷ []) → length w.cores ≡ length v.cores
      → ((d : ℕ) → taken_at w d ≡ taken_at v d) → ((d : ℕ) → source_at w d ≡ source_at v d) → w.listed ≡ set v.listed i true → i < length v.listed
      → Stands k w (Arrived q c i ∷ s)
  arrived-stands {w} q c i relisted cores taken sources listed there = record {
    kinds = λ r. relisted.kinds r ∙ stands.kinds r;
    shared_ranks = λ r. relisted.shared_ranks r ∙ stands.shared_ranks r;
    local_ranks = λ d r lt. relisted.local_ranks d r ∙ stands.local_ranks d r (subst (λ n. d < n) cores lt);
    waiting = relisted-waiting stands (λ xs. xs ++ i ∷ []) q c relisted;
    taken = λ d. taken d ∙ stands.taken d;
    sources = λ d. sources d ∙ stands.sources d;
    listed = λ j lt.
        ap (λ bs. get_or bs j true) listed
        ∙ ⊎_elim
        (λ same. subst (λ m. get_or (set v.listed i true) m true ≡ ((i == m) || is_listed k s m)) same
        (get_or-set_same v.listed i true true there ∙ sym (ap (λ b. b || is_listed k s i) (eq-eqb i i refl))))
        (λ ne. get_or-set_other v.listed i j true true (λ e. ne (sym e))
        ∙ (stands.listed j (subst (λ n. j < n) (ap length listed ∙ length-set v.listed i true) lt) ∙ sym (ap (λ b. b || is_listed k s j) (ne_eqb i j ne))))
        (cases_eq i j);
  }

  pub took-stands : {w : QueueState} (q c n : ℕ) (slot : CoreQueues) → Relisted k v w q c (drop n (items_at v q c)) → c < length v.cores → w.cores ≡ set v.cores c slot
      → slot.taken ≡ take n (items_at v q c) → slot.source ≡ Some (record { 0 = q }) → w.listed ≡ v.listed → Stands k w (Took c q n ∷ s)
  took-stands {w} q c n slot relisted lt cores taken source listed = record {
    kinds = λ r. relisted.kinds r ∙ stands.kinds r;
    shared_ranks = λ r. relisted.shared_ranks r ∙ stands.shared_ranks r;
    local_ranks = λ d r less. relisted.local_ranks d r ∙ stands.local_ranks d r (subst (λ m. d < m) (ap length cores ∙ length-set v.cores c slot) less);
    waiting = relisted-waiting stands (drop n) q c relisted;
    taken = λ d.
        ap (λ cs. (core_in cs d).taken) cores
        ∙ (by_core (λ (x : CoreQueues). x.taken) v.cores c slot lt d
        ∙ (λ j. if c == d then (taken ∙ ap (take n) (stands.waiting q c)) j else stands.taken d j));
    sources = λ d.
        ap (λ cs. option_map (λ x. x.0) (core_in cs d).source) cores
        ∙ (by_core (λ (x : CoreQueues). option_map (λ y. y.0) x.source) v.cores c slot lt d
        ∙ (λ j. if c == d then ap (option_map (λ y. y.0)) source j else stands.sources d j));
    listed = λ j less. ap (λ bs. get_or bs j true) listed ∙ stands.listed j (subst (λ bs. j < length bs) listed less);
  }

  pub untook-stands : {w : QueueState} (q c : ℕ) (slot : CoreQueues) → Relisted k v w q c (taken_at v c ++ items_at v q c) → source_at v c ≡ Some q → c < length v.cores
      → w.cores ≡ set v.cores c slot → slot.taken ≡ [] → slot.source ≡ (core_at v c).source → w.listed ≡ v.listed → Stands k w (Untook c ∷ s)
  untook-stands {w} q c slot relisted from lt cores taken source listed = record {
    kinds = λ r. relisted.kinds r ∙ stands.kinds r;
    shared_ranks = λ r. relisted.shared_ranks r ∙ stands.shared_ranks r;
    local_ranks = λ d r less. relisted.local_ranks d r ∙ stands.local_ranks d r (subst (λ m. d < m) (ap length cores ∙ length-set v.cores c slot) less);
    waiting = λ r d.
        relisted-waiting stands (λ xs. taken_at v c ++ xs) q c relisted r d
        ∙ (ap (λ xs. if is_for k r d q c then xs ++ (lists k s).waiting r d else (lists k s).waiting r d) (stands.taken c)
        ∙ ap (λ o. if option_map_or (λ m. is_for k r d m c) o false then (lists k s).taken c ++ (lists k s).waiting r d else (lists k s).waiting r d)
        (sym from ∙ stands.sources c));
    taken = λ d.
        ap (λ cs. (core_in cs d).taken) cores
        ∙ (by_core (λ (x : CoreQueues). x.taken) v.cores c slot lt d ∙ (λ j. if c == d then taken j else stands.taken d j));
    sources = λ d.
        ap (λ cs. option_map (λ x. x.0) (core_in cs d).source) cores
        ∙ (⊎_elim
        (λ same. subst (λ m. option_map (λ x. x.0) (core_in (set v.cores c slot) m).source ≡ option_map (λ x. x.0) (core_in v.cores m).source) same
        (ap (λ (x : CoreQueues). option_map (λ y. y.0) x.source) (get_or-set_same v.cores c slot no_core lt) ∙ ap (option_map (λ y. y.0)) source))
        (λ ne. ap (λ (x : CoreQueues). option_map (λ y. y.0) x.source) (get_or-set_other v.cores c d slot no_core (λ e. ne (sym e)))) (cases_eq c d)
        ∙ stands.sources d);
    listed = λ j less. ap (λ bs. get_or bs j true) listed ∙ stands.listed j (subst (λ bs. j < length bs) listed less);
  }

  -- a core that never took gives nothing back
  pub unsourced-stands : (c : ℕ) → source_at v c ≡ None → taken_at v c ≡ [] → Stands k v (Untook c ∷ s)
  unsourced-stands c from none = record {
    kinds = stands.kinds;
    shared_ranks = stands.shared_ranks;
    local_ranks = stands.local_ranks;
    waiting = λ r d.
        stands.waiting r d
        ∙ ap (λ o. if option_map_or (λ m. is_for k r d m c) o false then (lists k s).taken c ++ (lists k s).waiting r d else (lists k s).waiting r d)
        (sym from ∙ stands.sources c);
    taken = λ d.
        ⊎_elim
        (λ same. subst (λ m. taken_at v m ≡ (if c == m then [] else (lists k s).taken m)) same
        (none ∙ sym (ap (λ (b : Bool). if b then [] else (lists k s).taken c) (eq-eqb c c refl))))
        (λ ne. stands.taken d ∙ sym (ap (λ (b : Bool). if b then [] else (lists k s).taken d) (ne_eqb c d ne))) (cases_eq c d);
    sources = stands.sources;
    listed = stands.listed;
  }
