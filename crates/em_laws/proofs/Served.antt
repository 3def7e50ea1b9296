-- What a core serves: the queue of its open receive, and the queue whose events it has taken.
use Rattle.std.proofs.Common.{◌≡◌, ◌≢◌, ◌⊎◌, inl, inr, ℕ, List, [], ◌∷◌, drop, Option, Some, refl, sym, ◌∙◌, subst, ap}
use Rattle.em_log.specs.declared.declarations.Declarations.{Declarations}
use Rattle.em_log.specs.declared.entry.What.{What}
use Rattle.em_log.specs.declared.ids.Limits.{Limits}
use Rattle.em_log.specs.History.{Past, entry_by}
use Rattle.em_log.specs.Contexts.{context, context_after, received_queue, take_queue, take_queue_after}
use Rattle.em_log.specs.Arrivals.{Item}
use Rattle.em_log.specs.Places.{taken, taken_after}
use Rattle.em_log.specs.Laws.{Receives, HasTaken}
use Rattle.em_moments.proofs.Choices.{IsReady}
use Rattle.em_moments.proofs.Moments.{Moment}
use Rattle.em_laws.proofs.Cores.{Compared, Same, Other, compared, none-some, some-inj}

-- core c has an open receive of queue q, or has taken events of it
abbrev pub Serves : Declarations → Past → ℕ → ℕ → Type 0
Serves k past c q = Receives past c q ⊎ HasTaken k past c q

-- what a core serves after an entry: what it served before, or what it has just taken
pub data ServesAfter (k : Declarations) (past : Past) (c q : ℕ) (d : ℕ) (w : What) : Type 0 where
  ServedBefore : Serves k past c q → ServesAfter k past c q d w
  TakesNow : (n : ℕ) (t : Option ℕ) → d ≡ c → w ≡ What.Take (record { 0 = q }) n t → IsReady k past c q → ServesAfter k past c q d w

pub drop-some : (xs : List Item) → drop 1 xs ≢ [] → xs ≢ []
drop-some [] h e = h refl
drop-some (x ∷ xs) h e = absurd cc

pub cons-some : (x : Item) (ys xs : List Item) → ys ≡ x ∷ xs → ys ≢ []
cons-some x ys xs is e = absurd (cc (is, e))

abbrev ServesNow : Declarations → Past → ℕ → ℕ → What → Type 0
ServesNow k past c q w =
    (received_queue (context_after w (context past c)) ≡ Some q)
    ⊎ ((taken_after k past c w (taken k past c) ≢ []) × (take_queue_after w (take_queue past c) ≡ Some q))

own-serves : (k : Declarations) (l : Limits) (past : Past) (c q : ℕ) (w : What) → Moment k l past c w → ServesNow k past c q w → ServesAfter k past c q c w
own-serves k l past c q (What.Enter b) m (inl h) = absurd (none-some q h)
own-serves k l past c q (What.Enter b) m (inr h) = ServedBefore (inr h)
own-serves k l past c q (What.Take r n t) m (inl h) = ServedBefore (inl h)
own-serves k l past c q (What.Take r n t) m (inr h) =
    let same : r.0 ≡ q = some-inj _ _ h.1 in
    TakesNow n t refl (ap (λ (i : ℕ). What.Take (record { 0 = i }) n t) same) (subst (λ (i : ℕ). IsReady k past c i) same m.ready)
own-serves k l past c q (What.Start r e s) m (inl h) = ServedBefore (inr (cons-some m.item _ m.rest m.taken, m.queue ∙ h))
own-serves k l past c q (What.Start r e s) m (inr h) = ServedBefore (inr (drop-some _ h.0, h.1))
own-serves k l past c q (What.Untake r n) m (inl h) = ServedBefore (inl h)
own-serves k l past c q (What.Untake r n) m (inr h) = absurd (h.0 refl)
own-serves k l past c q (What.EndAtomic rest cells) m (inl h) = ServedBefore (inl h)
own-serves k l past c q (What.EndAtomic rest cells) m (inr h) = absurd (h.0 refl)
own-serves k l past c q (What.End lost cells) m (inl h) = absurd (none-some q h)
own-serves k l past c q (What.End lost cells) m (inr h) = ServedBefore (inr h)
own-serves k l past c q w m h = ServedBefore h

-- what a core serves after an entry
pub serves-after : (k : Declarations) (l : Limits) (past : Past) (c q d : ℕ) (w : What) → Moment k l past d w → Serves k (entry_by d w ∷ past) c q
    → ServesAfter k past c q d w
serves-after k l past c q d w m h = by_test (compared d c)
  where
    by_test : Compared d c → ServesAfter k past c q d w
    by_test (Same t e) =
        subst (λ n. ServesAfter k past c q n w) (sym e) (own-serves k l past c q w (subst (λ n. Moment k l past n w) e m) (rw t at h))
    by_test (Other f e) = ServedBefore (rw f at h)
