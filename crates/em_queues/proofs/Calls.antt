-- After each call on a list of a local queue, or on one that all cores share, the queues stand for one step more.
use Rattle.std.proofs.Common.{◌≡◌, ℕ, ◌<◌, Bool, true, false, List, [], ◌∷◌, ◌++◌, length, set, take, drop, Some, refl, ap, sym, ◌∙◌, subst, ⊎_elim}
use Rattle.std.specs.Option.{option_map}
use Rattle.std.proofs.lemmas.Bool.{cases_eq}
use Rattle.std.proofs.lemmas.List.{get_or-set_same, get_or-set_other, length-set}
use Rattle.em_log.specs.declared.declarations.Declarations.{Declarations}
use Rattle.em_log.specs.Declarations.{kind_of, is_local}
use Rattle.em_queues.specs.Cores.{CoreQueues}
use Rattle.em_queues.specs.Steps.{QueueStep, Arrived, Took, Untook}
use Rattle.em_queues.specs.State.{QueueState, kind_at, core_in, core_at, items_at, items_by, taken_at, source_at, is_listed_at}
use Rattle.em_queues.specs.Cores.{no_core}
use Rattle.em_queues.specs.Waiting.{items_in, with_items}
use Rattle.em_queues.specs.Changes.{arrived_local, arrived_shared, took_local, took_shared, gave_local, gave_shared}
use Rattle.em_queues.specs.Stands.{Stands}
use Rattle.em_queues.proofs.ListChanges.{Relisted, relisted-shared, relisted-local}
use Rattle.em_queues.proofs.Stands.{unlisted-there, arrived-stands, took-stands, untook-stands}

kept : {X : Type 0} (f : CoreQueues → X) (cores : List CoreQueues) (c : ℕ) (slot : CoreQueues) → c < length cores → f slot ≡ f (core_in cores c) → (d : ℕ)
    → f (core_in (set cores c slot) d) ≡ f (core_in cores d)
kept f cores c slot lt e d =
    ⊎_elim
    (λ same. subst (λ m. f (core_in (set cores c slot) m) ≡ f (core_in cores m)) (sym same) (ap f (get_or-set_same cores c slot no_core lt) ∙ e))
    (λ ne. ap f (get_or-set_other cores c d slot no_core ne)) (cases_eq d c)

module _ {k : Declarations} {v : QueueState} {s : List QueueStep} (stands : Stands k v s) (q c : ℕ) where
  kind_is : (b : Bool) → is_local (kind_at v q) ≡ b → is_local (kind_of k q) ≡ b
  kind_is b e = ap is_local (sym (stands.kinds q)) ∙ e

  items_are : (b : Bool) → is_local (kind_at v q) ≡ b → items_at v q c ≡ items_by b v q c
  items_are b e = ap (λ b. items_by b v q c) e

  pub arrived-local-stands : (i : ℕ) → is_local (kind_at v q) ≡ true → c < length v.cores → q < length (core_at v c).local → is_listed_at v i ≡ false
      → Stands k (arrived_local v q c i) (Arrived q c i ∷ s)
  arrived-local-stands i local c_lt q_lt free =
      arrived-stands stands q c i
      (subst (λ ys. Relisted k v (arrived_local v q c i) q c (ys ++ i ∷ [])) (sym (items_are true local))
      (relisted-local stands q c (items_in (core_at v c).local q ++ i ∷ [])
      (record (core_at v c) { local = with_items (core_at v c).local q (items_in (core_at v c).local q ++ i ∷ []) })
      c_lt q_lt (kind_is true local) (λ r. refl) refl refl refl))
      (length-set v.cores c (record (core_at v c) { local = with_items (core_at v c).local q (items_in (core_at v c).local q ++ i ∷ []) }))
      (kept (λ (x : CoreQueues). x.taken) v.cores c (record (core_at v c) { local = with_items (core_at v c).local q (items_in (core_at v c).local q ++ i ∷ []) }) c_lt refl)
      (kept (λ (x : CoreQueues). option_map (λ y. y.0) x.source) v.cores c (record (core_at v c) { local = with_items (core_at v c).local q (items_in (core_at v c).local q ++ i ∷ []) }) c_lt refl)
      refl (unlisted-there v.listed i free)

  pub arrived-shared-stands : (i : ℕ) → is_local (kind_at v q) ≡ false → q < length v.shared → is_listed_at v i ≡ false
      → Stands k (arrived_shared v q i) (Arrived q c i ∷ s)
  arrived-shared-stands i shared q_lt free =
      arrived-stands stands q c i
      (subst (λ ys. Relisted k v (arrived_shared v q i) q c (ys ++ i ∷ [])) (sym (items_are false shared))
      (relisted-shared stands q c (items_in v.shared q ++ i ∷ []) q_lt (kind_is false shared) (λ r. refl) refl (λ d. refl)))
      refl (λ d. refl) (λ d. refl) refl (unlisted-there v.listed i free)

  pub took-local-stands : (n : ℕ) → is_local (kind_at v q) ≡ true → c < length v.cores → q < length (core_at v c).local
      → Stands k (took_local v q c n) (Took c q n ∷ s)
  took-local-stands n local c_lt q_lt =
      took-stands stands q c n
      (record {
        local = with_items (core_at v c).local q (drop n (items_in (core_at v c).local q));
        taken = take n (items_in (core_at v c).local q);
        source = Some (record { 0 = q });
      })
      (subst (λ ys. Relisted k v (took_local v q c n) q c (drop n ys)) (sym (items_are true local))
      (relisted-local stands q c (drop n (items_in (core_at v c).local q))
      (record {
        local = with_items (core_at v c).local q (drop n (items_in (core_at v c).local q));
        taken = take n (items_in (core_at v c).local q);
        source = Some (record { 0 = q });
      })
      c_lt q_lt (kind_is true local) (λ r. refl) refl refl refl))
      c_lt refl (ap (take n) (sym (items_are true local))) refl refl

  pub took-shared-stands : (n : ℕ) → is_local (kind_at v q) ≡ false → c < length v.cores → q < length v.shared
      → Stands k (took_shared v q c n) (Took c q n ∷ s)
  took-shared-stands n shared c_lt q_lt =
      took-stands stands q c n (record (core_at v c) { taken = take n (items_in v.shared q); source = Some (record { 0 = q }) })
      (subst (λ ys. Relisted k v (took_shared v q c n) q c (drop n ys)) (sym (items_are false shared))
      (relisted-shared stands q c (drop n (items_in v.shared q)) q_lt (kind_is false shared) (λ r. refl) refl
      (kept (λ (x : CoreQueues). x.local) v.cores c (record (core_at v c) { taken = take n (items_in v.shared q); source = Some (record { 0 = q }) }) c_lt refl)))
      c_lt refl (ap (take n) (sym (items_are false shared))) refl refl

  pub gave-local-stands : source_at v c ≡ Some q → is_local (kind_at v q) ≡ true → c < length v.cores → q < length (core_at v c).local
      → Stands k (gave_local v c q) (Untook c ∷ s)
  gave-local-stands from local c_lt q_lt =
      untook-stands stands q c
      (record (core_at v c) { local = with_items (core_at v c).local q (taken_at v c ++ items_in (core_at v c).local q); taken = [] })
      (subst (λ ys. Relisted k v (gave_local v c q) q c (taken_at v c ++ ys)) (sym (items_are true local))
      (relisted-local stands q c (taken_at v c ++ items_in (core_at v c).local q)
      (record (core_at v c) { local = with_items (core_at v c).local q (taken_at v c ++ items_in (core_at v c).local q); taken = [] })
      c_lt q_lt (kind_is true local) (λ r. refl) refl refl refl))
      from c_lt refl refl refl refl

  pub gave-shared-stands : source_at v c ≡ Some q → is_local (kind_at v q) ≡ false → c < length v.cores → q < length v.shared
      → Stands k (gave_shared v c q) (Untook c ∷ s)
  gave-shared-stands from shared c_lt q_lt =
      untook-stands stands q c (record (core_at v c) { taken = [] })
      (subst (λ ys. Relisted k v (gave_shared v c q) q c (taken_at v c ++ ys)) (sym (items_are false shared))
      (relisted-shared stands q c (taken_at v c ++ items_in v.shared q) q_lt (kind_is false shared) (λ r. refl) refl
      (kept (λ (x : CoreQueues). x.local) v.cores c (record (core_at v c) { taken = [] }) c_lt refl)))
      from c_lt refl refl refl refl
