-- The open receives of an application's members and those that have left are as many as have started, which are at most its
-- members.
use Rattle.std.proofs.Common.{◌≡◌, ℕ, zero, suc, ◌+◌, ◌≤◌, ◌<◌, Bool, true, false, List, [], ◌∷◌, ◌++◌, length, map, take, Option, Some, None, if◌then◌else◌, arith, refl, ap, sym, subst}
use Rattle.std.specs.List.{sum_by}
use Rattle.std.specs.Option.{option_map_or}
use Rattle.std.specs.Prelude.{slice_get}
use Rattle.std.proofs.lemmas.Bool.{eq-eqb}
use Rattle.std.proofs.lemmas.List.Sums.{sum_by-cons}
use Rattle.std.proofs.lemmas.Option.{slice_get_within}
use Rattle.em_log.specs.declared.declarations.Declarations.{Declarations}
use Rattle.em_log.specs.declared.declarations.QueueShape.{QueueShape}
use Rattle.em_log.specs.declared.entry.Event.{Event}
use Rattle.em_log.specs.declared.entry.What.{What}
use Rattle.em_log.specs.declared.ids.Kind.{Kind}
use Rattle.em_log.specs.declared.ids.Limits.{Limits}
use Rattle.em_log.specs.declared.ids.QueueId.{QueueId}
use Rattle.em_log.specs.declared.ids.Stamp.{Stamp}
use Rattle.em_log.specs.History.{Past, entry_by}
use Rattle.em_log.specs.Declarations.{below, kind_of, is_local, is_served}
use Rattle.em_log.specs.EventGroups.{is_stamp, members, stamp_after, open_stamp, departed_after, departed}
use Rattle.em_log.specs.Arrivals.{Item, is_for, arrivals}
use Rattle.em_log.specs.Lawful.{AllAllowed}
use Rattle.em_log.specs.Laws.{Shown, shown_item, starts}
use Rattle.em_moments.proofs.Moments.{Moment, allowed-moment}
use Rattle.em_laws.proofs.Cores.{Compared, Same, Other, compared, if-own}
use Rattle.em_laws.proofs.Events.{each-once}
use Rattle.em_laws.proofs.Started.{take-served}
use Rattle.em_context_parts.specs.Memberships.{one_if, open_members, MembersWithin}
use Rattle.em_context_parts.proofs.Members.{member_items, per_queue, in_all, per-queue-le, in-all-le, items-within}
use Rattle.em_context_parts.proofs.Sums.{changed-at, rises-at}

-- a queue that is served is declared
served-in : (k : Declarations) (q : ℕ) → is_served (kind_of k q) ≡ true → q < length k.queues
served-in k q is = by_shape (slice_get k.queues q) refl is
  where
    by_shape : (o : Option QueueShape) → slice_get k.queues q ≡ o → is_served (option_map_or (λ d. d.kind) o Kind.Unscheduled) ≡ true → q < length k.queues
    by_shape None at is = absurd cc
    by_shape (Some d) at is = slice_get_within k.queues q d at

module _ (k : Declarations) (l : Limits) (g a : ℕ) where
  -- receives of members that have started

  abbrev started_by : What → ℕ → ℕ
  started_by (What.Start q e s) n = one_if (is_stamp g a s) + n
  started_by w n = n

  abbrev started : Past → ℕ
  started [] = 0
  started (e ∷ past) = started_by e.what (started past)

  abbrev shown : List Shown → ℕ
  shown [] = 0
  shown (x ∷ xs) = one_if (is_stamp g a x.stamp) + shown xs

  shown-push : (xs : List Shown) (x : Shown) → shown (xs ++ x ∷ []) ≡ shown xs + one_if (is_stamp g a x.stamp)
  shown-push [] x = omega arith
  shown-push (y ∷ xs) x = let later = shown-push xs x in omega (arith, later)

  shown-take : (n : ℕ) (xs : List Item) → shown (take n (map shown_item xs)) ≤ member_items g a xs
  shown-take zero xs = omega arith
  shown-take (suc n) [] = omega arith
  shown-take (suc n) (x ∷ xs) = by_test (is_stamp g a x.stamp) (shown-take n xs)
    where
      by_test : (b : Bool) → shown (take n (map shown_item xs)) ≤ member_items g a xs
          → one_if b + shown (take n (map shown_item xs)) ≤ (if b then suc (member_items g a xs) else member_items g a xs)
      by_test true le = omega (arith, le)
      by_test false le = omega (arith, le)

  abbrev starts_in : Past → ℕ → ℕ → ℕ
  starts_in past q c = shown (starts k past q c)

  -- a start stands in the list that it is of

  start-adds : (past : Past) (d : ℕ) (r : QueueId) (e : Event) (s : Option Stamp) (q c : ℕ) (b : Bool) → is_for k q c r.0 d ≡ b
      → starts_in (entry_by d (What.Start r e s) ∷ past) q c ≡ starts_in past q c + (if b then one_if (is_stamp g a s) else 0)
  start-adds past d r e s q c true is = rw is (shown-push (starts k past q c) _)
  start-adds past d r e s q c false is = rw is (omega arith)

  grows : (past : Past) (d : ℕ) (w : What) (q c : ℕ) → starts_in past q c ≤ starts_in (entry_by d w ∷ past) q c
  grows past d (What.Start r e s) q c = let adds = start-adds past d r e s q c (is_for k q c r.0 d) refl in omega (arith, adds)
  grows past d w q c = omega arith

  queue-rises : (past : Past) (d : ℕ) (r : QueueId) (e : Event) (s : Option Stamp) → d < k.cores → is_stamp g a s ≡ true
      → per_queue k (starts_in past) r.0 + 1 ≤ per_queue k (starts_in (entry_by d (What.Start r e s) ∷ past)) r.0
  queue-rises past d r e s lt member = by_kind (is_local (kind_of k r.0)) refl
    where
      now : Past
      now = entry_by d (What.Start r e s) ∷ past

      adds : (c : ℕ) → is_for k r.0 c r.0 d ≡ true → starts_in past r.0 c + 1 ≤ starts_in now r.0 c
      adds c own = let one = start-adds past d r e s r.0 c true own in let it = ap one_if member in omega (arith, one, it)

      by_kind : (b : Bool) → is_local (kind_of k r.0) ≡ b
          → (if b then sum_by (starts_in past r.0) (below k.cores) else starts_in past r.0 0) + 1
          ≤ (if b then sum_by (starts_in now r.0) (below k.cores) else starts_in now r.0 0)
      by_kind true local =
          rises-at (starts_in past r.0) (starts_in now r.0) d 0 k.cores (grows past d (What.Start r e s) r.0)
          (adds d (rw (local, eq-eqb r.0 r.0 refl, eq-eqb d d refl) refl)) (omega arith) (omega (arith, lt))
      by_kind false plain = adds 0 (rw (plain, eq-eqb r.0 r.0 refl) refl)

  start-rises : (past : Past) (d : ℕ) (r : QueueId) (e : Event) (s : Option Stamp) → d < k.cores → r.0 < length k.queues
      → one_if (is_stamp g a s) + in_all k (starts_in past) ≤ in_all k (starts_in (entry_by d (What.Start r e s) ∷ past))
  start-rises past d r e s lt declared = by_stamp (is_stamp g a s) refl
    where
      now : Past
      now = entry_by d (What.Start r e s) ∷ past

      by_stamp : (b : Bool) → is_stamp g a s ≡ b → one_if b + in_all k (starts_in past) ≤ in_all k (starts_in now)
      by_stamp true is =
          let more =
          rises-at (per_queue k (starts_in past)) (per_queue k (starts_in now)) r.0 0 (length k.queues)
          (per-queue-le k (starts_in past) (starts_in now) (grows past d (What.Start r e s))) (queue-rises past d r e s lt is) (omega arith) (omega (arith, declared)) in
          omega (arith, more)
      by_stamp false is =
          let more = in-all-le k (starts_in past) (starts_in now) (grows past d (What.Start r e s)) in omega (arith, more)

  next-started : (past : Past) (d : ℕ) (w : What) → AllAllowed k l past → Moment k l past d w → d < k.cores → started past ≤ in_all k (starts_in past)
      → started_by w (started past) ≤ in_all k (starts_in (entry_by d w ∷ past))
  next-started past d (What.Start r e s) all m lt was =
      let more = start-rises past d r e s lt (served-in k r.0 (take-served k l past all d r.0 m.queue)) in
      omega (arith, was, more)
  next-started past d w all m lt was =
      let more = in-all-le k (starts_in past) (starts_in (entry_by d w ∷ past)) (grows past d w) in omega (arith, was, more)

  started-listed : (past : Past) → AllAllowed k l past → started past ≤ in_all k (starts_in past)
  started-listed [] all = omega arith
  started-listed (e ∷ past) all =
      next-started past e.core.0 e.what all.1 (allowed-moment k l past e all.1 all.0) all.0.core (started-listed past all.1)

  -- the starts of a list are its first arrivals

  starts-within : (past : Past) → AllAllowed k l past → (q c : ℕ) → starts_in past q c ≤ member_items g a (arrivals k past q c)
  starts-within past all q c =
      subst (λ xs. shown xs ≤ member_items g a (arrivals k past q c)) (sym ((each-once k l past all).started q c))
      (shown-take (length (starts k past q c)) (arrivals k past q c))

  started-within : (past : Past) → AllAllowed k l past → started past ≤ members past g a
  started-within past all =
      let one = started-listed past all in
      let two = in-all-le k (starts_in past) (λ q c. member_items g a (arrivals k past q c)) (starts-within past all) in
      let three = items-within k l past all g a in
      omega (arith, one, two, three)

  -- what has started is open or has left

  abbrev is_open : Past → ℕ → ℕ
  is_open past c = one_if (is_stamp g a (open_stamp past c))

  leaves : (b : Bool) (m : ℕ) → (if b then suc m else m) ≡ m + one_if b
  leaves true m = omega arith
  leaves false m = omega arith

  own-leaves : (past : Past) (c : ℕ) (w : What) → Moment k l past c w
      → departed_after past g a c w (departed past g a) + one_if (is_stamp g a (stamp_after w (open_stamp past c))) + started past
      ≤ departed past g a + is_open past c + started_by w (started past)
  own-leaves past c (What.Start q e s) m = omega arith
  own-leaves past c (What.Enter b) m = omega arith
  own-leaves past c What.EndGroup m = let left = leaves (is_stamp g a (open_stamp past c)) (departed past g a) in omega (arith, left)
  own-leaves past c (What.End lost cells) m = let left = leaves (is_stamp g a (open_stamp past c)) (departed past g a) in omega (arith, left)
  own-leaves past c w m = omega arith

  next-open : (past : Past) (d : ℕ) (w : What) → Moment k l past d w → d < k.cores → departed past g a + open_members k past g a ≤ started past
      → departed (entry_by d w ∷ past) g a + open_members k (entry_by d w ∷ past) g a ≤ started (entry_by d w ∷ past)
  next-open past d w m lt was =
      let own = own-leaves past d w m in
      let change = changed-at (is_open past) (is_open (entry_by d w ∷ past)) d 0 k.cores others (omega arith) (omega (arith, lt)) in
      let here = ap (λ o. one_if (is_stamp g a o)) (if-own d (stamp_after w (open_stamp past d)) (open_stamp past d)) in
      omega (arith, was, own, change, here)
    where
      others : (c : ℕ) → (c ≡ d → ⊥) → is_open past c ≡ is_open (entry_by d w ∷ past) c
      others c apart = by_core (compared d c)
        where
          by_core : Compared d c → is_open past c ≡ is_open (entry_by d w ∷ past) c
          by_core (Same t e) = absurd (apart (sym e))
          by_core (Other f e) = rw f refl

  none-open : (cs : List ℕ) → sum_by (λ (c : ℕ). one_if (is_stamp g a None)) cs ≡ 0
  none-open [] = refl
  none-open (c ∷ cs) =
      let rest = none-open cs in
      let whole = sum_by-cons (λ (d : ℕ). one_if (is_stamp g a None)) c cs in
      omega (arith, rest, whole)

  open-started : (past : Past) → AllAllowed k l past → departed past g a + open_members k past g a ≤ started past
  open-started [] all = let none = none-open (below k.cores) in omega (arith, none)
  open-started (e ∷ past) all =
      next-open past e.core.0 e.what (allowed-moment k l past e all.1 all.0) all.0.core (open-started past all.1)

pub members-within : (k : Declarations) (l : Limits) (past : Past) → AllAllowed k l past → MembersWithin k past
members-within k l past all g a =
    let one = open-started k l g a past all in
    let two = started-within k l g a past all in
    omega (arith, one, two)
