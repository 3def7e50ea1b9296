-- The first event that waits in a queue.
use Rattle.std.proofs.Common.{◌≡◌, ℕ, ◌+◌, ◌<◌, true, false, ◌∷◌, List, map, Option, Some, refl, ap, ◌∙◌, subst, arith}
use Rattle.std.specs.Option.{option_map, option_and_then}
use Rattle.std.proofs.lemmas.Bool.{eq-eqb}
use Rattle.em_log.specs.declared.declarations.Declarations.{Declarations}
use Rattle.em_log.specs.declared.ids.QueueId.{QueueId}
use Rattle.em_log.specs.History.{Past, index_of, handle_of}
use Rattle.em_log.specs.Declarations.{event_total, kind_of, is_output}
use Rattle.em_log.specs.Handles.{next_handle}
use Rattle.em_log.specs.Arrivals.{Item}
use Rattle.em_log.specs.Places.{waiting, has_item, gone}
use Rattle.em_log.specs.Leads.{event_with, item_again}
use Rattle.em_pool.specs.declared.place.Place.{Place}
use Rattle.em_pool.specs.Handles as pool
use Rattle.em_queues.specs.Steps.{lists}
use Rattle.em_parts.specs.QueueSteps.{queue_steps}
use Rattle.em_parts.specs.QueueAlike.{index_in}
use Rattle.em_parts.proofs.QueueLists.{queues-alike}
use Rattle.em_parts.proofs.Mintings.{same-generation, same-minting, same-last}
use Rattle.em_places.specs.Parked.{InQueue, Sits}
use Rattle.em_places.proofs.Parked.{parked-sit}
use Rattle.em_desk.specs.declared.parts.Parts.{Parts}
use Rattle.em_desk.specs.Standing.{Stands}
use Rattle.em_desk.proofs.Asked.{steps_of}
use Rattle.em_desk.proofs.Below.{minted-below}
use Rattle.em_desk.proofs.Made.{IsMade, AllMade, made, drop-made}

-- the first item that waits for core c
pub record IsFront (k : Declarations) (past : Past) (c : ℕ) (q : QueueId) : Type 0 where
  pub item : Item
  pub rest : List Item
  pub waits : waiting k past q.0 c ≡ item ∷ rest
  pub inner : is_output (kind_of k q.0) ≡ false
  pub made : IsMade past item
  pub sits : Sits k past item.handle (Place.Waiting q)
  pub below : index_of item.handle < event_total k.pools

pub is-front : (p : Parts) (c : ℕ) (q : QueueId) (x : Item) (xs : List Item) → Stands p → is_output (kind_of p.declarations q.0) ≡ false
    → waiting p.declarations p.history.past q.0 c ≡ x ∷ xs → IsFront p.declarations p.history.past c q
is-front p c q x xs s inner waits =
    let k = p.declarations in
    let past = p.history.past in
    let few = s.fixed.graph.events in
    let are_made = subst (AllMade past) waits (drop-made past (gone k past q.0 c) _ (made k p.limits past (omega (arith, few)) s.all q.0 c)) in
    let own = eq-eqb x.handle x.handle refl in
    let there : has_item (waiting k past q.0 c) x.handle ≡ true = ap (λ ys. has_item ys x.handle) waits ∙ (rw own refl) in
    record {
      item = x;
      rest = xs;
      waits = waits;
      inner = inner;
      made = are_made.0;
      sits = parked-sit k p.limits past (omega (arith, few)) s.all x.handle (Place.Waiting q) (InQueue q.0 c inner there refl);
      below = minted-below k p.limits past (omega (arith, few)) s.all x.handle are_made.0.minter are_made.0.minting;
    }

-- the pools know it as the last event of its index
pub front-last : (p : Parts) (c : ℕ) (q : QueueId) (f : IsFront p.declarations p.history.past c q)
    → pool.last_event (steps_of p) (index_of f.item.handle) ≡ Some f.made.minter.event
front-last p c q f =
    ap (λ (h : Option ℕ). option_map pool.event_of (option_and_then (pool.minting (steps_of p)) h)) (same-last p.declarations p.history.past (index_of f.item.handle) ∙ f.sits.last)
    ∙ ap (option_map pool.event_of) (same-minting p.declarations p.history.past f.item.handle ∙ f.made.minting)

-- and mint it as the history does
pub front-again : (p : Parts) (c : ℕ) (q : QueueId) (f : IsFront p.declarations p.history.past c q)
    → event_with (pool.next_handle (steps_of p) (index_of f.item.handle)) f.made.minter.event.kind f.made.minter.event.words ≡ item_again p.history.past f.item
front-again p c q f =
    ap (λ g. event_with (handle_of (g + 1) (index_of f.item.handle)) f.made.minter.event.kind f.made.minter.event.words) (same-generation p.declarations p.history.past (index_of f.item.handle))
    ∙ (ap (λ n. event_with (next_handle p.history.past (index_of f.item.handle)) n f.made.minter.event.words) f.made.kind
    ∙ ap (λ ws. event_with (next_handle p.history.past (index_of f.item.handle)) f.item.kind ws) f.made.words)

-- it is the first in the list of the queue
pub front-listed : (p : Parts) (c : ℕ) (q : QueueId) → Stands p → (f : IsFront p.declarations p.history.past c q)
    → (lists p.declarations (queue_steps p.declarations p.history.past)).waiting q.0 c ≡ index_of f.item.handle ∷ map index_in f.rest
front-listed p c q s f = (queues-alike p.declarations p.limits p.history.past s.all).waiting q.0 c f.inner ∙ ap (map index_in) f.waits
