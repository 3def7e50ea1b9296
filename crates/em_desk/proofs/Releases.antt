-- What the end of a ticket lets in was sent to a declared queue and is held back, each of it another event; its releases
-- are what the ending entry leaves to do.
use Rattle.std.proofs.Common.{◌≡◌, ℕ, zero, suc, ◌-◌, ◌≤◌, ◌<◌, ◌==◌, Bool, true, false, [], ◌∷◌, ◌++◌, List, length, map, Option, Some, None, if◌then◌else◌, refl, ap, sym, ◌∙◌, arith}
use Rattle.std.specs.Option.{option_map, option_and_then}
use Rattle.std.proofs.lemmas.Bool.{eq-eqb}
use Rattle.em_log.specs.declared.declarations.Declarations.{Declarations}
use Rattle.em_log.specs.declared.entry.Event.{Event}
use Rattle.em_log.specs.declared.entry.What.{What}
use Rattle.em_log.specs.declared.ids.Limits.{Limits}
use Rattle.em_log.specs.declared.ids.QueueId.{QueueId}
use Rattle.em_log.specs.declared.ids.Stamp.{Stamp}
use Rattle.em_log.specs.History.{Past, entry_by, has, index_of}
use Rattle.em_log.specs.Declarations.{kind_of, is_output, event_total, numbers_from}
use Rattle.em_log.specs.Handles.{Minting, minting, last_handle, spending}
use Rattle.em_log.specs.Order.{Ticket, Sent, is_ticket, ticket_of_send, released, sends_under, sends_under_all, let_in}
use Rattle.em_log.specs.Tails.{outs}
use Rattle.em_log.specs.Lawful.{AllAllowed}
use Rattle.em_moments.proofs.Moments.{Moment, StampMoment, NoStamp, NewStamp, allowed-moment}
use Rattle.em_laws.proofs.Cores.{Compared, Same, Other, compared, some-inj}
use Rattle.em_laws.proofs.Counts.{times}
use Rattle.em_laws.proofs.Entering.{gains-let_in, times_allowed-le}
use Rattle.em_arrivals.proofs.Lists.{AllSent, all-append}
use Rattle.em_arrivals.proofs.Released.{LetIn, let-in-all}
use Rattle.em_context_parts.specs.OrderSteps.{item_of}
use Rattle.em_pool.specs.declared.place.Place.{Place}
use Rattle.em_pool.specs.Steps.{PoolStep}
use Rattle.em_pool.specs.Places.{can_shift}
use Rattle.em_pool.specs.Spots.{spot}
use Rattle.em_pool.specs.Handles as pool
use Rattle.em_queues.specs.Steps.{QueueStep, is_listed}
use Rattle.em_parts.specs.PoolSteps.{Move, moved, sent_move}
use Rattle.em_parts.specs.QueueSteps.{queue_steps, arrived_steps}
use Rattle.em_parts.proofs.Mintings.{same-minting, same-last}
use Rattle.em_places.specs.Parked.{Sits}
use Rattle.em_places.proofs.Ends.{let-delayed}
use Rattle.em_places.proofs.Parked.{parked-sit, last-minted}
use Rattle.em_desk.specs.declared.acts.Act.{Act}
use Rattle.em_desk.specs.declared.parts.Parts.{Parts}
use Rattle.em_desk.specs.Acts.{release_act, said, pool_acts, queue_acts, IsReady, AreReady, act_index, AreReleases}
use Rattle.em_desk.specs.Standing.{Stands}
use Rattle.em_desk.proofs.Asked.{steps_of}
use Rattle.em_desk.proofs.Below.{minted-below}
use Rattle.em_desk.proofs.Sends.{declared-by, unlisted-at}

-- declared

pub record IsDeclared (k : Declarations) (s : Sent) : Type 0 where
  queue : s.queue < length k.queues
  core : s.core < k.cores

stamped : (k : Declarations) (past : Past) (c h q : ℕ) (s : Option Stamp) → StampMoment k past c h q s → q < length k.queues
stamped k past c h q s (NoStamp o is) = declared-by k past c h (record { 0 = q }) None o.may
stamped k past c h q s (NewStamp g o served active room is) = declared-by k past c h (record { 0 = q }) (Some (record { 0 = g })) o.may

next-declared : (k : Declarations) (l : Limits) (past : Past) (d : ℕ) (w : What) (q m : ℕ) → d < k.cores → Moment k l past d w → AllSent (IsDeclared k) (sends_under past q m)
    → AllSent (IsDeclared k) (sends_under (entry_by d w ∷ past) q m)
next-declared k l past d (What.Send f r t st) q m core mo older = by_ticket (is_ticket q m (ticket_of_send past d t))
  where
    rec : Sent
    rec = record { queue = r.0; core = d; handle = f.0; stamp = st }

    by_ticket : (b : Bool) → AllSent (IsDeclared k) (if b then sends_under past q m ++ rec ∷ [] else sends_under past q m)
    by_ticket false = older
    by_ticket true = all-append (IsDeclared k) (sends_under past q m) (rec ∷ []) older (record { queue = stamped k past d f.0 r.0 st mo.stamp; core = core }, tt)
next-declared k l past d w q m core mo older = older

under-declared : (k : Declarations) (l : Limits) (past : Past) → AllAllowed k l past → (q m : ℕ) → AllSent (IsDeclared k) (sends_under past q m)
under-declared k l [] all q m = tt
under-declared k l (e ∷ past) all q m =
    next-declared k l past e.core.0 e.what q m all.0.core (allowed-moment k l past e all.1 all.0) (under-declared k l past all.1 q m)

range-declared : (k : Declarations) (l : Limits) (past : Past) (q a n : ℕ) → AllAllowed k l past → AllSent (IsDeclared k) (sends_under_all past q (numbers_from a n))
range-declared k l past q a zero all = tt
range-declared k l past q a (suc n) all =
    all-append (IsDeclared k) (sends_under past q a) (sends_under_all past q (numbers_from (suc a) n)) (under-declared k l past all q a) (range-declared k l past q (suc a) n all)

let-in-declared : (k : Declarations) (l : Limits) (past now : Past) (o : Option Ticket) → AllAllowed k l past → AllSent (IsDeclared k) (let_in past now o)
let-in-declared k l past now None all = tt
let-in-declared k l past now (Some t) all = range-declared k l past t.queue (suc (released past t.queue)) (released now t.queue - released past t.queue) all

-- held back

pub record IsHeld (k : Declarations) (past : Past) (s : Sent) : Type 0 where
  declared : IsDeclared k s
  sits : Sits k past s.handle (Place.Delayed (record { 0 = s.queue }))
  minter : Minting
  minting : minting past s.handle ≡ Some minter
  below : index_of s.handle < event_total k.pools

all-with : (P Q R : Sent → Type 0) (ss : List Sent) → ((s : Sent) → P s → Q s → R s) → AllSent P ss → AllSent Q ss → AllSent R ss
all-with P Q R [] f a b = tt
all-with P Q R (s ∷ ss) f a b = (f s a.0 b.0, all-with P Q R ss f a.1 b.1)

pub all-held : (p : Parts) (now : Past) (o : Option Ticket) → Stands p → AllSent (IsHeld p.declarations p.history.past) (let_in p.history.past now o)
all-held p now o s =
    all-with (LetIn past now) (IsDeclared k) (IsHeld k past) (let_in past now o) held (let-in-all k p.limits past now o s.all) (let-in-declared k p.limits past now o s.all)
  where
    k : Declarations
    k = p.declarations

    past : Past
    past = p.history.past

    held : (v : Sent) → LetIn past now v → IsDeclared k v → IsHeld k past v
    held v i d =
        let few = s.fixed.graph.events in
        let sits = let-delayed k past now v i (parked-sit k p.limits past (omega (arith, few)) s.all) in
        let m = last-minted past (index_of v.handle) v.handle sits.last in
        record {
          declared = d;
          sits = sits;
          minter = m.1.0;
          minting = m.1.1;
          below = minted-below k p.limits past (omega (arith, few)) s.all v.handle m.1.0 m.1.1;
        }

-- each once
pub let-in-once : (p : Parts) (c : ℕ) (w : What) (o : Option Ticket) (h : ℕ) → Stands p → Moment p.declarations p.limits p.history.past c w
    → times h (let_in p.history.past (entry_by c w ∷ p.history.past) o) ≤ 1
let-in-once p c w o h s m =
    let gain = gains-let_in p.declarations p.limits p.history.past c w o h s.all m in
    let most = times_allowed-le (entry_by c w ∷ p.history.past) (spending (entry_by c w ∷ p.history.past) h) in
    omega (arith, gain, most)

-- the acts

abbrev event_in : Option Minting → Event
event_in None = record { handle = record { 0 = 0 }; kind = 0; words = [] }
event_in (Some m) = m.event

-- the releases of what was sent so
abbrev pub release_acts : Declarations → Past → List Sent → List Act
release_acts k past [] = []
release_acts k past (s ∷ ss) = release_act k (event_in (minting past s.handle)) (item_of s) ∷ release_acts k past ss

pub releases-moved : (k : Declarations) (past : Past) (ss : List Sent) (s : List PoolStep) → moved (map (sent_move k) ss) s ≡ pool_acts (release_acts k past ss) s
releases-moved k past [] s = refl
releases-moved k past (v ∷ ss) s = releases-moved k past ss _

pub releases-arrived : (k : Declarations) (past : Past) (ss : List Sent) (t : List QueueStep) → AllSent (IsHeld k past) ss
    → arrived_steps k past ss t ≡ queue_acts (release_acts k past ss) t
releases-arrived k past [] t all = refl
releases-arrived k past (v ∷ ss) t all = by_kind (is_output (kind_of k v.queue)) refl (λ u. releases-arrived k past ss u all.1)
  where
    by_kind : (b : Bool) → is_output (kind_of k v.queue) ≡ b → ((u : List QueueStep) → arrived_steps k past ss u ≡ queue_acts (release_acts k past ss) u)
        → arrived_steps k past (v ∷ ss) t ≡ queue_acts (release_acts k past (v ∷ ss)) t
    by_kind true is later = rw is (later t)
    by_kind false is later = let minted = all.0.minting in rw (is, minted) (later _)

pub releases-said : (k : Declarations) (past : Past) (ss : List Sent) → AllSent (IsHeld k past) ss → outs k past ss ≡ said (release_acts k past ss)
releases-said k past [] all = refl
releases-said k past (v ∷ ss) all = by_kind (is_output (kind_of k v.queue)) refl (releases-said k past ss all.1)
  where
    by_kind : (b : Bool) → is_output (kind_of k v.queue) ≡ b → outs k past ss ≡ said (release_acts k past ss) → outs k past (v ∷ ss) ≡ said (release_acts k past (v ∷ ss))
    by_kind true is later =
        let minted = all.0.minting in
        rw (is, minted) (ap (λ (ws : List What). What.Out (record { 0 = v.queue }) all.0.minter.event.kind all.0.minter.event.words ∷ ws) later)
    by_kind false is later = rw is later

-- the pools know the events

last-moved : (ms : List Move) (s : List PoolStep) (i : ℕ) → pool.last_event (moved ms s) i ≡ pool.last_event s i
last-moved [] s i = refl
last-moved (m ∷ ms) s i = last-moved ms _ i

held-event : (p : Parts) (v : Sent) → IsHeld p.declarations p.history.past v → pool.last_event (steps_of p) (index_of v.handle) ≡ Some (event_in (minting p.history.past v.handle))
held-event p v h =
    ap (λ (n : Option ℕ). option_map pool.event_of (option_and_then (pool.minting (steps_of p)) n)) (same-last p.declarations p.history.past (index_of v.handle) ∙ h.sits.last)
    ∙ (ap (option_map pool.event_of) (same-minting p.declarations p.history.past v.handle ∙ h.minting)
    ∙ ap (λ (m : Option Minting). Some (event_in m)) (sym h.minting))

known : (p : Parts) (now : List PoolStep) (ss : List Sent) → ((i : ℕ) → pool.last_event now i ≡ pool.last_event (steps_of p) i) → AllSent (IsHeld p.declarations p.history.past) ss
    → AreReleases p.declarations now (map item_of ss) (release_acts p.declarations p.history.past ss)
known p now [] same all = tt
known p now (v ∷ ss) same all = (
  record { event = event_in (minting p.history.past v.handle); known = same (index_of v.handle) ∙ held-event p v all.0; act = refl },
  known p now ss same all.1,
)

pub releases-known : (p : Parts) (ms : List Move) (base : List PoolStep) (ss : List Sent) → ((i : ℕ) → pool.last_event base i ≡ pool.last_event (steps_of p) i)
    → AllSent (IsHeld p.declarations p.history.past) ss → AreReleases p.declarations (moved ms base) (map item_of ss) (release_acts p.declarations p.history.past ss)
releases-known p ms base ss same all = known p (moved ms base) ss (λ i. last-moved ms base i ∙ same i) all

-- they can be done

apart : (k : Declarations) (past : Past) (ss : List Sent) (h : ℕ) → last_handle past (index_of h) ≡ Some h → times h ss ≡ 0 → AllSent (IsHeld k past) ss
    → has (map act_index (release_acts k past ss)) (index_of h) ≡ false
apart k past [] h last none all = refl
apart k past (v ∷ ss) h last none all = by_index (compared (index_of v.handle) (index_of h)) (λ rest. apart k past ss h last rest all.1)
  where
    later : (b : Bool) → (if b then suc (times h ss) else times h ss) ≡ 0 → times h ss ≡ 0
    later true is = absurd (omega (arith, is))
    later false is = is

    by_index : Compared (index_of v.handle) (index_of h) → (times h ss ≡ 0 → has (map act_index (release_acts k past ss)) (index_of h) ≡ false)
        → has (map act_index (release_acts k past (v ∷ ss))) (index_of h) ≡ false
    by_index (Same t e) others =
        let same : v.handle ≡ h = some-inj _ _ (sym all.0.sits.last ∙ (ap (last_handle past) e ∙ last)) in
        let own : (v.handle == h) ≡ true = eq-eqb v.handle h same in
        let counted : suc (times h ss) ≡ 0 = sym (rw own refl) ∙ none in
        absurd (omega (arith, counted))
    by_index (Other f ne) others = rw f (others (later (v.handle == h) none))

pub releases-ready : (p : Parts) (base : List PoolStep) (ss : List Sent) → Stands p
    → ((i : ℕ) (q : QueueId) → spot (steps_of p) i ≡ Place.Delayed q → spot base i ≡ Place.Delayed q) → AllSent (IsHeld p.declarations p.history.past) ss
    → ((h : ℕ) → times h ss ≤ 1) → AreReady p.declarations base (queue_steps p.declarations p.history.past) (release_acts p.declarations p.history.past ss)
releases-ready p base [] s same all once = tt
releases-ready p base (v ∷ ss) s same all once = (
  by_kind (is_output (kind_of k v.queue)) refl,
  (apart k past ss v.handle all.0.sits.last (let own = first in let o = once v.handle in omega (arith, own, o)) all.1, releases-ready p base ss s same all.1 (λ h. fewer h (v.handle == h) (once h))),
)
  where
    k : Declarations
    k = p.declarations

    past : Past
    past = p.history.past

    i : ℕ
    i = index_of v.handle

    first : times v.handle (v ∷ ss) ≡ suc (times v.handle ss)
    first = let own = eq-eqb v.handle v.handle refl in rw own refl

    fewer : (h : ℕ) (b : Bool) → (if b then suc (times h ss) else times h ss) ≤ 1 → times h ss ≤ 1
    fewer h true le = omega (arith, le)
    fewer h false le = le

    there : spot (steps_of p) i ≡ Place.Delayed (record { 0 = v.queue })
    there = all.0.sits.spot

    can : can_shift (spot base i) ≡ true
    can = ap can_shift (same i (record { 0 = v.queue }) there)

    absent : is_listed k (queue_steps k past) i ≡ false
    absent = unlisted-at p i s (λ q is. cc (is, there)) (λ c is. cc (is, there))

    by_kind : (b : Bool) → is_output (kind_of k v.queue) ≡ b
        → IsReady k base (queue_steps k past) (release_act k (event_in (minting past v.handle)) (item_of v))
    by_kind true t = record { moves = rw t (all.0.below, (can, refl)); enters = rw t tt; says = rw t tt }
    by_kind false t =
        record { moves = rw t (all.0.below, (can, refl)); enters = rw t (all.0.below, (all.0.declared.queue, (all.0.declared.core, absent))); says = rw t tt }
