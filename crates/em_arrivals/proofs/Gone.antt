-- What has left the list of a queue had entered it.
use Rattle.std.proofs.Common.{◌≡◌, ℕ, suc, ◌+◌, ◌-◌, ◌≤◌, Bool, true, false, List, [], ◌∷◌, length, drop, Some, refl, ◌∙◌, subst, ap, if◌then◌else◌, arith}
use Rattle.std.specs.Option.{option_map_or}
use Rattle.std.proofs.lemmas.List.{length-append, length-drop}
use Rattle.em_log.specs.declared.declarations.Declarations.{Declarations}
use Rattle.em_log.specs.declared.entry.What.{What}
use Rattle.em_log.specs.declared.ids.Limits.{Limits}
use Rattle.em_log.specs.History.{Past}
use Rattle.em_log.specs.Contexts.{receives_from}
use Rattle.em_log.specs.Arrivals.{Item, is_for, entering, arrivals}
use Rattle.em_log.specs.Places.{gone, gone_after, waiting}
use Rattle.em_log.specs.Leads.{dequeued}
use Rattle.em_log.specs.Lawful.{AllAllowed}
use Rattle.em_moments.proofs.Moments.{Moment, allowed-moment}
use Rattle.em_laws.proofs.Lists.{grows-by, for-queue, waiting-for}
use Rattle.em_laws.proofs.Started.{take_size-le}

pub gone-fits : (k : Declarations) (l : Limits) (past : Past) (d : ℕ) (w : What) (q c : ℕ) → Moment k l past d w → gone k past q c ≤ length (arrivals k past q c)
    → gone_after k past q c d w (gone k past q c) ≤ length (arrivals k past q c)
gone-fits k l past d (What.Take r n t) q c m was = by_test (is_for k q c r.0 d) refl
  where
    size : n ≤ length (waiting k past r.0 d)
    size = rw m.size (take_size-le k l past d r.0 m.ready.waits.0 m.ready.waits.1.0 m.ready.waits.1.1)

    by_test : (b : Bool) → is_for k q c r.0 d ≡ b → (if b then gone k past q c + n else gone k past q c) ≤ length (arrivals k past q c)
    by_test false own = was
    by_test true own =
        let same : r.0 ≡ q = for-queue k q c r.0 d own in
        let mine : is_for k q c q d ≡ true = subst (λ (i : ℕ). is_for k q c i d ≡ true) same own in
        let waits : waiting k past r.0 d ≡ waiting k past q c = ap (λ (i : ℕ). waiting k past i d) same ∙ waiting-for k past q c d mine in
        let there = size in
        let here : length (waiting k past r.0 d) ≡ length (drop (gone k past q c) (arrivals k past q c)) = ap length waits in
        let left = length-drop (gone k past q c) (arrivals k past q c) in
        omega (arith, there, here, left, was)
gone-fits k l past d (What.Untake r n) q c m was = by_test (is_for k q c r.0 d)
  where
    by_test : (b : Bool) → (if b then gone k past q c - n else gone k past q c) ≤ length (arrivals k past q c)
    by_test true = omega (arith, was)
    by_test false = was
gone-fits k l past d (What.EndAtomic rest cells) q c m was = by_test (option_map_or (λ r. is_for k q c r d) (receives_from past d) false)
  where
    by_test : (b : Bool) → (if b then gone k past q c - rest else gone k past q c) ≤ length (arrivals k past q c)
    by_test true = omega (arith, was)
    by_test false = was
gone-fits k l past d (What.Dequeue r (Some e)) q c m was = by_test (is_for k q c r.0 d) refl
  where
    by_waiting : (xs : List Item) → waiting k past r.0 d ≡ xs → Some e ≡ dequeued past xs → 1 ≤ length (waiting k past r.0 d)
    by_waiting [] is some = absurd cc
    by_waiting (x ∷ xs) is some = rw is (omega arith)

    by_test : (b : Bool) → is_for k q c r.0 d ≡ b → (if b then suc (gone k past q c) else gone k past q c) ≤ length (arrivals k past q c)
    by_test false own = was
    by_test true own =
        let same : r.0 ≡ q = for-queue k q c r.0 d own in
        let mine : is_for k q c q d ≡ true = subst (λ (i : ℕ). is_for k q c i d ≡ true) same own in
        let waits : waiting k past r.0 d ≡ waiting k past q c = ap (λ (i : ℕ). waiting k past i d) same ∙ waiting-for k past q c d mine in
        let there = by_waiting (waiting k past r.0 d) refl m.event in
        let here : length (waiting k past r.0 d) ≡ length (drop (gone k past q c) (arrivals k past q c)) = ap length waits in
        let left = length-drop (gone k past q c) (arrivals k past q c) in
        omega (arith, there, here, left, was)
gone-fits k l past d w q c m was = was

pub gone-within : (k : Declarations) (l : Limits) (past : Past) → AllAllowed k l past → (q c : ℕ) → gone k past q c ≤ length (arrivals k past q c)
gone-within k l [] all q c = omega arith
gone-within k l (e ∷ past) all q c =
    let fits = gone-fits k l past e.core.0 e.what q c (allowed-moment k l past e all.1 all.0) (gone-within k l past all.1 q c) in
    let g = grows-by k past q c (arrivals k past q c) (entering k past e) in
    let longer : length (arrivals k (e ∷ past) q c) ≡ length (arrivals k past q c) + length g.0 = ap length g.1 ∙ length-append (arrivals k past q c) g.0 in
    omega (arith, fits, longer)
