use Rattle.std.proofs.Common.{◌≡◌, ◌∙◌, ◌<◌, ◌==◌, ℕ, ◌∷◌, List, true, Some, None, refl, ap, sym, subst, arith, slice_get}
use Rattle.std.proofs.lemmas.Bool.{eq-eqb}
use Rattle.em_laws.proofs.Cores.{some-inj}
use Rattle.em_log.specs.declared.declarations.Declarations.{Declarations}
use Rattle.em_log.specs.Declarations.{event_total}
use Rattle.em_pool.specs.declared.place.Place.{Place}
use Rattle.em_pool.specs.Steps.{Minted, Shifted}
use Rattle.em_pool.specs.Places.{can_shift, is_mintable}
use Rattle.em_log.specs.Leads.{event_with}
use Rattle.em_pool.specs.Handles.{next_handle, last_event}
use Rattle.em_pool.specs.Spots.{spot}
use Rattle.em_pool.specs.State.{PoolState, place_at}
use Rattle.em_pool.specs.Stands as pools
use Rattle.em_queues.specs.Steps.{QueueStep, Took, lists}
use Rattle.em_queues.specs.State.{QueueState, items_at}
use Rattle.em_queues.specs.Stands as queues
use Rattle.em_desk.specs.Starts.{IsNext}
use Rattle.em_desk.proofs.takes.start.Goals as goal

own : (c : ℕ) → (c == c) ≡ true
own c = eq-eqb c c refl

-- the first that is taken is the first that waited
taken-first : (v : PoolState) (l : QueueState) (c q : ℕ) (f : IsNext v l c q) → slice_get ((lists f.graph (Took c q 1 ∷ f.steps)).taken c) 0 ≡ Some f.index
taken-first v l c q f =
    let mine = own c in
    let first : (lists f.graph f.steps).waiting q c ≡ f.index ∷ f.more = sym (f.stands.waiting q c) ∙ f.is in
    rw (mine, first) refl

pub take-requires-clause-enough : goal.take-requires-clause-enough
take-requires-clause-enough c = let f = c.requires.first in let is = f.is in rw is (omega arith)

pub next_taken-requires : goal.next_taken-requires
next_taken-requires c = subst (λ v. c.args.core.0 < v.cores) (sym c.take.ensures.same_shape) c.requires.first.core

-- the index that is started
index-is : (v : PoolState) (l m : QueueState) (c q i : ℕ) (f : IsNext v l c q) → ((k : Declarations) (t : List QueueStep) → queues.Stands k l t → queues.Stands k m (Took c q 1 ∷ t))
    → ((k : Declarations) (t : List QueueStep) → queues.Stands k m t → Some i ≡ slice_get ((lists k t).taken c) 0) → i ≡ f.index
index-is v l m c q i f took answer = some-inj _ _ (answer f.graph (Took c q 1 ∷ f.steps) (took f.graph f.steps f.stands) ∙ taken-first v l c q f)

none-is : (v : PoolState) (l m : QueueState) (c q : ℕ) (f : IsNext v l c q) → ((k : Declarations) (t : List QueueStep) → queues.Stands k l t → queues.Stands k m (Took c q 1 ∷ t))
    → ((k : Declarations) (t : List QueueStep) → queues.Stands k m t → None ≡ slice_get ((lists k t).taken c) 0) → ⊥
none-is v l m c q f took answer = let no = answer f.graph (Took c q 1 ∷ f.steps) (took f.graph f.steps f.stands) ∙ taken-first v l c q f in cc no

pub shift-requires-clause-index : goal.shift-requires-clause-index
shift-requires-clause-index c =
    let f = c.requires.first in
    let same = index-is c.args.pools.now c.args.queues.now c.take.new.self c.args.core.0 c.args.queue.0 c.in-Some.index f c.take.ensures.stands c.in-Some.ensures.answer in
    subst (λ (i : ℕ). i < event_total c.args.pools.now.pools) (sym same) f.below

pub shift-requires-clause-from : goal.shift-requires-clause-from
shift-requires-clause-from c =
    let f = c.requires.first in
    let same = index-is c.args.pools.now c.args.queues.now c.take.new.self c.args.core.0 c.args.queue.0 c.in-Some.index f c.take.ensures.stands c.in-Some.ensures.answer in
    ap can_shift (ap (place_at c.args.pools.now) same ∙ f.waits)

pub mint-requires-clause-from : goal.mint-requires-clause-from
mint-requires-clause-from c =
    let f = c.requires.first in
    let mine = own c.in-Some.index in
    let now = c.shift.ensures.stands f.pool f.known in
    let there : spot (Shifted c.in-Some.index (Place.Taken c.args.core) ∷ f.pool) c.in-Some.index ≡ Place.Taken c.args.core = rw mine refl in
    ap is_mintable (now.spots c.in-Some.index ∙ there)

-- the index is that of the first in the list
same-first : (i j k : ℕ) (is js xs : List ℕ) → xs ≡ i ∷ is → xs ≡ j ∷ js → k ≡ j → k ≡ i
same-first i j k is js xs a b e = e ∙ (let both : j ∷ js ≡ i ∷ is = sym b ∙ a in cc both)

pub returns-clause-event : goal.returns-clause-event
returns-clause-event c = λ s i is e stands at last.
    let f = c.requires.first in
    let found = index-is c.args.pools.now c.args.queues.now c.take.new.self c.args.core.0 c.args.queue.0 c.in-Some.index f c.take.ensures.stands c.in-Some.ensures.answer in
    let same = same-first i f.index c.in-Some.index is f.more (items_at c.args.queues.now c.args.queue.0 c.args.core.0) at f.is found in
    let here : last_event s c.in-Some.index ≡ Some e = subst (λ (n : ℕ). last_event s n ≡ Some e) (sym same) last in
    c.mint.ensures.answer (Shifted c.in-Some.index (Place.Taken c.args.core) ∷ s) e (c.shift.ensures.stands s stands) here
    ∙ ap (λ (n : ℕ). event_with (next_handle s n) e.kind e.words) same

pub returns-clause-pools : goal.returns-clause-pools
returns-clause-pools c = λ s i is stands at.
    let f = c.requires.first in
    let found = index-is c.args.pools.now c.args.queues.now c.take.new.self c.args.core.0 c.args.queue.0 c.in-Some.index f c.take.ensures.stands c.in-Some.ensures.answer in
    let same = same-first i f.index c.in-Some.index is f.more (items_at c.args.queues.now c.args.queue.0 c.args.core.0) at f.is found in
    subst (λ (n : ℕ). pools.Stands c.mint.new.self (Minted c.args.core.0 c.mint.result ∷ Shifted n (Place.Taken c.args.core) ∷ s)) same
    (c.mint.ensures.stands (Shifted c.in-Some.index (Place.Taken c.args.core) ∷ s) (c.shift.ensures.stands s stands))

pub mint-requires-clause-index : goal.mint-requires-clause-index
mint-requires-clause-index c =
    let f = c.requires.first in
    let same = index-is c.args.pools.now c.args.queues.now c.take.new.self c.args.core.0 c.args.queue.0 c.in-Some.index f c.take.ensures.stands c.in-Some.ensures.answer in
    let shapes = ap (λ (v : PoolState). v.pools) c.shift.ensures.value in
    subst (λ ps. c.in-Some.index < event_total ps) (sym shapes) (subst (λ (i : ℕ). i < event_total c.args.pools.now.pools) (sym same) f.below)
