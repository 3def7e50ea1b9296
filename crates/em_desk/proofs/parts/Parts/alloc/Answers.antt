use Rattle.std.proofs.Common.{◌≡◌, ◌∙◌, ◌∷◌, ℕ, List, length, refl, ap, sym, subst, arith, None, Some, Ok, Err}
use Rattle.em_log.specs.declared.ask.Ask.{Ask}
use Rattle.em_log.specs.declared.entry.Event.{Event}
use Rattle.em_log.specs.declared.entry.What.{What}
use Rattle.em_log.specs.declared.fault.Fault.{Fault}
use Rattle.em_log.specs.declared.ids.Handle.{Handle}
use Rattle.em_log.specs.declared.ids.PoolId.{PoolId}
use Rattle.em_log.specs.History.{entry_by}
use Rattle.em_log.specs.Leads.{event_with, alloc_refusal as refusal_of, allocated}
use Rattle.em_pool.specs.Steps.{PoolStep, Minted}
use Rattle.em_pool.specs.Places.{alloc_answer, alloc_handle}
use Rattle.em_pool.specs.State.{PoolState}
use Rattle.em_pool.specs.Stands as pools
use Rattle.em_desk.specs.declared.parts.Parts.{Parts}
use Rattle.em_desk.specs.Histories.{HistoryState}
use Rattle.em_desk.specs.Standing.{Stands}
use Rattle.em_desk.specs.State.{MayAsk}
use Rattle.em_desk.proofs.Allocs.{same-refusal, same-handle, ok-handle, err-fault, alloc-asked, alloc-cause}
use Rattle.em_desk.proofs.Asked.{steps_of, settled, adds-none, kept-same}
use Rattle.em_desk.proofs.Begun.{IsAsked, pushed, asked-room, settled-pools}
use Rattle.em_desk.proofs.Minting.{can-mint, has-spare}
use Rattle.em_desk.proofs.parts.Parts.alloc.Goals as goal

pub alloc-requires-clause-spare : goal.alloc-requires-clause-spare
alloc-requires-clause-spare c = has-spare c.args.self.now c.args.core.0 (Ask.Alloc c.args.pool c.args.kind c.args.words) c.requires.stands c.requires.may (omega arith)

pub alloc-requires-clause-mintings : goal.alloc-requires-clause-mintings
alloc-requires-clause-mintings c = can-mint c.args.self.now c.requires.stands

-- the pools refuse as the history does
refused-at : (p : Parts) (pool : PoolId) (words given : List ℕ) (f : Fault) → Stands p → given ≡ words
    → ((s : List PoolStep) → pools.Stands p.pools s → Err f ≡ alloc_answer p.pools.pools s pool.0 (length given))
    → refusal_of p.declarations p.history.past pool.0 (length words) ≡ Some f
refused-at p pool words given f s same answer =
    sym (same-refusal p pool.0 (length words) s)
    ∙ err-fault _ _ f (subst (λ (ws : List ℕ). Err f ≡ alloc_answer p.pools.pools (steps_of p) pool.0 (length ws)) same (answer (steps_of p) (settled-pools p 0 s)))

accepted-at : (p : Parts) (pool : PoolId) (words given : List ℕ) (h : Handle) → Stands p → given ≡ words
    → ((s : List PoolStep) → pools.Stands p.pools s → Ok h ≡ alloc_answer p.pools.pools s pool.0 (length given))
    → (refusal_of p.declarations p.history.past pool.0 (length words) ≡ None) × (h ≡ record { 0 = alloc_handle p.pools.pools (steps_of p) pool.0 })
accepted-at p pool words given h s same answer =
    let a = ok-handle _ _ h (subst (λ (ws : List ℕ). Ok h ≡ alloc_answer p.pools.pools (steps_of p) pool.0 (length ws)) same (answer (steps_of p) (settled-pools p 0 s))) in
    (sym (same-refusal p pool.0 (length words) s) ∙ a.0, a.1)

event-at : (p : Parts) (pool : PoolId) (kind : ℕ) (words : List ℕ) (h : Handle) → Stands p → h ≡ record { 0 = alloc_handle p.pools.pools (steps_of p) pool.0 }
    → event_with h.0 kind words ≡ allocated p.declarations p.history.past pool.0 kind words
event-at p pool kind words h s is = ap (λ (h : Handle). event_with h.0 kind words) is ∙ same-handle p pool.0 kind words s

pub refuse-requires-clause-refused : goal.refuse-requires-clause-refused
refuse-requires-clause-refused c = (
  Ask.Alloc c.args.pool c.args.kind c.args.words,
  c.requires.may,
  omega arith,
  refused-at c.args.self.now c.args.pool c.args.words c.copy.result c.in-Err.fault c.requires.stands c.copy.ensures c.in-Err.ensures.answer,
  refl,
)

pub returns-in-Err-clause-adds : goal.returns-in-Err-clause-adds
returns-in-Err-clause-adds c =
    let a = c.refuse.ensures.adds (Ask.Alloc c.args.pool c.args.kind c.args.words)
    (refused-at c.args.self.now c.args.pool c.args.words c.copy.result c.in-Err.fault c.requires.stands c.copy.ensures c.in-Err.ensures.answer) refl in
    record { past = a.past; told = a.told; declarations = a.declarations; limits = a.limits }

asked : (p : Parts) (n kind : ℕ) (pool : PoolId) (words given : List ℕ) (h : Handle) → Stands p → MayAsk p.declarations p.history.past n (Ask.Alloc pool kind words) → given ≡ words
    → ((s : List PoolStep) → pools.Stands p.pools s → Ok h ≡ alloc_answer p.pools.pools s pool.0 (length given))
    → IsAsked p n (Ask.Alloc pool kind words) (What.Alloc pool (event_with h.0 kind words))
asked p n kind pool words given h s may same answer =
    let a = accepted-at p pool words given h s same answer in
    alloc-asked p n kind pool words (event_with h.0 kind words) may a.0 (event-at p pool kind words h s a.1)

pub push-requires-clause-room : goal.push-requires-clause-room
push-requires-clause-room c =
    (asked-room c.args.self.now c.args.core.0 (Ask.Alloc c.args.pool c.args.kind c.args.words) _ c.requires.stands
    (asked c.args.self.now c.args.core.0 c.args.kind c.args.pool c.args.words c.copy.result c.in-Ok.handle c.requires.stands c.requires.may c.copy.ensures c.in-Ok.ensures.answer)).length

pub push-requires-clause-paid : goal.push-requires-clause-paid
push-requires-clause-paid c =
    (asked-room c.args.self.now c.args.core.0 (Ask.Alloc c.args.pool c.args.kind c.args.words) _ c.requires.stands
    (asked c.args.self.now c.args.core.0 c.args.kind c.args.pool c.args.words c.copy.result c.in-Ok.handle c.requires.stands c.requires.may c.copy.ensures c.in-Ok.ensures.answer)).paid

pub returns-in-Ok-clause-stands : goal.returns-in-Ok-clause-stands
returns-in-Ok-clause-stands c =
    let p = c.args.self.now in
    let n = c.args.core.0 in
    let s = c.requires.stands in
    let e : Event = event_with c.in-Ok.handle.0 c.args.kind c.args.words in
    let q : Parts = record p { pools = c.alloc.new.self } in
    let spare = ap (λ (v : PoolState). v.spare) c.in-Ok.ensures.value in
    let least = has-spare p n (Ask.Alloc c.args.pool c.args.kind c.args.words) s c.requires.may (omega arith) in
    let stands = subst (λ (ws : List ℕ). pools.Stands c.alloc.new.self (Minted n (event_with c.in-Ok.handle.0 c.args.kind ws) ∷ steps_of p)) c.copy.ensures
    (c.in-Ok.ensures.stands (steps_of p) (settled-pools p 0 s)) in
    subst (λ (h : HistoryState). Stands (record p { history = h; pools = c.alloc.new.self }))
    (sym (c.push.ensures ∙ ap (λ (e : Event). pushed p n (What.Alloc c.args.pool e)) c.copy-in-Ok.ensures))
    (settled p q n (Ask.Alloc c.args.pool c.args.kind c.args.words) (What.Alloc c.args.pool e) s
    (asked p n c.args.kind c.args.pool c.args.words c.copy.result c.in-Ok.handle s c.requires.may c.copy.ensures c.in-Ok.ensures.answer) refl (record { queues = λ c t. refl; atomics = refl; groups = refl; orders = refl })
    (alloc-cause p.declarations p.history.past n c.args.pool e) stands (ap (λ (v : PoolState). v.pools) c.in-Ok.ensures.value) (omega (arith, spare, least))
    (kept-same p.declarations p.history.past (entry_by n (What.Alloc c.args.pool e) ∷ p.history.past) p.kept (λ x. refl) s.kept))

pub returns-in-Ok-clause-adds : goal.returns-in-Ok-clause-adds
returns-in-Ok-clause-adds c =
    let p = c.args.self.now in
    let n = c.args.core.0 in
    let e : Event = event_with c.in-Ok.handle.0 c.args.kind c.args.words in
    let a = asked p n c.args.kind c.args.pool c.args.words c.copy.result c.in-Ok.handle c.requires.stands c.requires.may c.copy.ensures c.in-Ok.ensures.answer in
    adds-none p _ n (Ask.Alloc c.args.pool c.args.kind c.args.words) (What.Alloc c.args.pool e) _
    (ap (λ (h : HistoryState). h.past) (c.push.ensures ∙ ap (λ (e : Event). pushed p n (What.Alloc c.args.pool e)) c.copy-in-Ok.ensures))
    (alloc-cause p.declarations p.history.past n c.args.pool e) a.gives refl refl refl
