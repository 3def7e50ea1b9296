-- A fact of a handle and its stamp that each entry keeps, that each send makes, and that the notes have, is one of what is
-- held back, of what waits, and of what is taken.
use Rattle.std.proofs.Common.{◌≡◌, ℕ, zero, suc, ◌==◌, Bool, true, false, List, [], ◌∷◌, ◌++◌, take, drop, Option, Some, None, if◌then◌else◌, refl, sym, subst}
use Rattle.std.proofs.lemmas.Bool.{eq-eqb}
use Rattle.em_log.specs.declared.declarations.Declarations.{Declarations}
use Rattle.em_log.specs.declared.entry.What.{What}
use Rattle.em_log.specs.declared.ids.Limits.{Limits}
use Rattle.em_log.specs.declared.ids.Note.{Note}
use Rattle.em_log.specs.declared.ids.Stamp.{Stamp}
use Rattle.em_log.specs.History.{Past, entry_by, has, note_words}
use Rattle.em_log.specs.Handles.{Minting, minting}
use Rattle.em_log.specs.Operations.{Operation, operation, notes_of}
use Rattle.em_log.specs.States.{closed}
use Rattle.em_log.specs.EventGroups.{applied_notes}
use Rattle.em_log.specs.Order.{Ticket, Sent, enters, ticket_of_send, is_ticket, sends_under, sends_under_all, open_ticket, let_in}
use Rattle.em_log.specs.Declarations.{numbers_from}
use Rattle.em_log.specs.Arrivals.{Item, item, item_of, is_for, with_sent, note_entering, open_notes, entering, arrivals}
use Rattle.em_log.specs.Places.{gone, waiting, taken, taken_after}
use Rattle.em_log.specs.Lawful.{AllAllowed}
use Rattle.em_moments.proofs.Moments.{Moment, SendMoment, allowed-moment}
use Rattle.em_laws.proofs.Acks.{has-cons}
use Rattle.em_arrivals.proofs.Lists.{AllSent, all-append, all-map, came, with-came}
use Rattle.em_context_parts.specs.SentStamps.{AllItems}

items-append : (P : Item → Type 0) (xs ys : List Item) → AllItems P xs → AllItems P ys → AllItems P (xs ++ ys)
items-append P [] ys a b = b
items-append P (x ∷ xs) ys a b = (a.0, items-append P xs ys a.1 b)

items-map : (P Q : Item → Type 0) (xs : List Item) → ((x : Item) → P x → Q x) → AllItems P xs → AllItems Q xs
items-map P Q [] f a = tt
items-map P Q (x ∷ xs) f a = (f x a.0, items-map P Q xs f a.1)

items-drop : (P : Item → Type 0) (n : ℕ) (xs : List Item) → AllItems P xs → AllItems P (drop n xs)
items-drop P zero xs a = a
items-drop P (suc n) [] a = tt
items-drop P (suc n) (x ∷ xs) a = items-drop P n xs a.1

items-take : (P : Item → Type 0) (n : ℕ) (xs : List Item) → AllItems P xs → AllItems P (take n xs)
items-take P zero xs a = tt
items-take P (suc n) [] a = tt
items-take P (suc n) (x ∷ xs) a = (a.0, items-take P n xs a.1)

-- what such a fact needs, of every history whose entries are allowed
pub record IsCarried (k : Declarations) (l : Limits) (P : Past → ℕ → Option Stamp → Type 0) : Type 0 where
  pub kept : (past : Past) (d : ℕ) (w : What) (h : ℕ) (s : Option Stamp) → P past h s → P (entry_by d w ∷ past) h s
  pub send : (past : Past) (d h q : ℕ) (t : Option ℕ) (s : Option Stamp) → SendMoment k past d h q t s
      → P (entry_by d (What.Send (record { 0 = h }) (record { 0 = q }) t s) ∷ past) h s
  pub begun : (past : Past) → AllAllowed k l past → (n : ℕ) (o : Operation) → operation past n ≡ Some o → (h : ℕ) → has (note_words o.notes) h ≡ true
      → P past h None
  pub applied : (past : Past) → AllAllowed k l past → (g h : ℕ) → has (note_words (applied_notes past g)) h ≡ true → P past h None

module _ (k : Declarations) (l : Limits) (P : Past → ℕ → Option Stamp → Type 0) (carried : IsCarried k l P) where
  abbrev pub OfSent : Past → Sent → Type 0
  OfSent past s = P past s.handle s.stamp

  abbrev pub OfItem : Past → Item → Type 0
  OfItem past x = P past x.handle x.stamp

  -- what is sent under tickets

  sends-kept : (past : Past) (d : ℕ) (w : What) (ss : List Sent) → AllSent (OfSent past) ss → AllSent (OfSent (entry_by d w ∷ past)) ss
  sends-kept past d w ss a = all-map (OfSent past) (OfSent (entry_by d w ∷ past)) ss (λ s p. carried.kept past d w s.handle s.stamp p) a

  items-kept : (past : Past) (d : ℕ) (w : What) (xs : List Item) → AllItems (OfItem past) xs → AllItems (OfItem (entry_by d w ∷ past)) xs
  items-kept past d w xs a = items-map (OfItem past) (OfItem (entry_by d w ∷ past)) xs (λ x p. carried.kept past d w x.handle x.stamp p) a

  sends-next : (past : Past) (d : ℕ) (w : What) (q m : ℕ) → Moment k l past d w → AllSent (OfSent past) (sends_under past q m)
      → AllSent (OfSent (entry_by d w ∷ past)) (sends_under (entry_by d w ∷ past) q m)
  sends-next past d (What.Send h r t s) q m mo was = by_ticket (is_ticket q m (ticket_of_send past d t))
    where
      now : Past
      now = entry_by d (What.Send h r t s) ∷ past

      sent : Sent
      sent = record { queue = r.0; core = d; handle = h.0; stamp = s }

      by_ticket : (b : Bool) → AllSent (OfSent now) (if b then sends_under past q m ++ sent ∷ [] else sends_under past q m)
      by_ticket false = sends-kept past d (What.Send h r t s) (sends_under past q m) was
      by_ticket true =
          all-append (OfSent now) (sends_under past q m) (sent ∷ []) (sends-kept past d (What.Send h r t s) (sends_under past q m) was)
          (carried.send past d h.0 r.0 t s mo, tt)
  sends-next past d w q m mo was = sends-kept past d w (sends_under past q m) was

  pub sends-carried : (past : Past) → AllAllowed k l past → (q m : ℕ) → AllSent (OfSent past) (sends_under past q m)
  sends-carried [] all q m = tt
  sends-carried (e ∷ past) all q m =
      sends-next past e.core.0 e.what q m (allowed-moment k l past e all.1 all.0) (sends-carried past all.1 q m)

  -- what enters

  range-carried : (past : Past) → AllAllowed k l past → (q a n : ℕ) → AllSent (OfSent past) (sends_under_all past q (numbers_from a n))
  range-carried past all q a zero = tt
  range-carried past all q a (suc n) =
      all-append (OfSent past) (sends_under past q a) (sends_under_all past q (numbers_from (suc a) n)) (sends-carried past all q a)
      (range-carried past all q (suc a) n)

  pub let-in-carried : (past now : Past) → AllAllowed k l past → (o : Option Ticket) → AllSent (OfSent past) (let_in past now o)
  let-in-carried past now all None = tt
  let-in-carried past now all (Some t) = range-carried past all t.queue _ _

  notes-carried : (past now : Past) (d : ℕ) (ns : List Note) → ((h : ℕ) → has (note_words ns) h ≡ true → P past h None)
      → AllSent (OfSent past) (open_notes k now d ns)
  notes-carried past now d [] of_words = tt
  notes-carried past now d (n ∷ ns) of_words =
      by_closed (closed k now n.queue.0) (notes-carried past now d ns (λ h there. of_words h (has-cons n.word (note_words ns) h there)))
    where
      by_closed : (o : Option ℕ) → AllSent (OfSent past) (open_notes k now d ns) → AllSent (OfSent past) (with_sent (note_entering d n o) (open_notes k now d ns))
      by_closed None later = (of_words n.word (rw (eq-eqb n.word n.word refl) refl), later)
      by_closed (Some why) later = later

  done-carried : (past now : Past) (d : ℕ) → AllAllowed k l past → (n : ℕ) (o : Option Operation) → operation past n ≡ o
      → AllSent (OfSent past) (open_notes k now d (notes_of o))
  done-carried past now d all n None is = tt
  done-carried past now d all n (Some o) is = notes-carried past now d o.notes (carried.begun past all n o is)

  entering-carried : (past : Past) (d : ℕ) (w : What) → AllAllowed k l past → Moment k l past d w → AllSent (OfSent (entry_by d w ∷ past)) (entering k past (entry_by d w))
  entering-carried past d (What.Send h q t s) all m = by_enters (enters past (ticket_of_send past d t))
    where
      by_enters : (b : Bool) → AllSent (OfSent (entry_by d (What.Send h q t s) ∷ past))
          (if b then record { queue = q.0; core = d; handle = h.0; stamp = s } ∷ [] else [])
      by_enters true = (carried.send past d h.0 q.0 t s m, tt)
      by_enters false = tt
  entering-carried past d What.EndOrdered all m = sends-kept past d What.EndOrdered _ (let-in-carried past (entry_by d What.EndOrdered ∷ past) all (open_ticket past d))
  entering-carried past d (What.End lost cells) all m = sends-kept past d (What.End lost cells) _ (let-in-carried past (entry_by d (What.End lost cells) ∷ past) all (open_ticket past d))
  entering-carried past d (What.Done op true) all m =
      sends-kept past d (What.Done op true) _ (done-carried past (entry_by d (What.Done op true) ∷ past) d all op.0 (operation past op.0) refl)
  entering-carried past d (What.Done op false) all m = tt
  entering-carried past d (What.Notify g a) all m =
      sends-kept past d (What.Notify g a) _ (notes-carried past (entry_by d (What.Notify g a) ∷ past) d (applied_notes past g.0) (carried.applied past all g.0))
  entering-carried past d w all m = tt

  -- what waits and is taken

  item-carried : (past now : Past) (s : Sent) → OfSent now s → AllItems (OfItem now) (item past s)
  item-carried past now s p = by_minting (minting past s.handle)
    where
      by_minting : (o : Option Minting) → AllItems (OfItem now) (item_of s.handle s.stamp o)
      by_minting None = tt
      by_minting (Some m) = (p, tt)

  came-carried : (past now : Past) (q c : ℕ) (ss : List Sent) → AllSent (OfSent now) ss → AllItems (OfItem now) (came k past q c ss)
  came-carried past now q c [] a = tt
  came-carried past now q c (s ∷ ss) a = by_list (is_for k q c s.queue s.core) (came-carried past now q c ss a.1)
    where
      by_list : (b : Bool) → AllItems (OfItem now) (came k past q c ss) → AllItems (OfItem now) ((if b then item past s else []) ++ came k past q c ss)
      by_list true later = items-append (OfItem now) (item past s) (came k past q c ss) (item-carried past now s a.0) later
      by_list false later = later

  pub arrivals-carried : (past : Past) → AllAllowed k l past → (q c : ℕ) → AllItems (OfItem past) (arrivals k past q c)
  arrivals-carried [] all q c = tt
  arrivals-carried (e ∷ past) all q c =
      subst (AllItems (OfItem (e ∷ past))) (sym (with-came k past q c (arrivals k past q c) (entering k past e)))
      (items-append (OfItem (e ∷ past)) (arrivals k past q c) (came k past q c (entering k past e))
      (items-kept past e.core.0 e.what (arrivals k past q c) (arrivals-carried past all.1 q c))
      (came-carried past (e ∷ past) q c (entering k past e)
      (entering-carried past e.core.0 e.what all.1 (allowed-moment k l past e all.1 all.0))))

  pub waiting-carried : (past : Past) → AllAllowed k l past → (q c : ℕ) → AllItems (OfItem past) (waiting k past q c)
  waiting-carried past all q c = items-drop (OfItem past) (gone k past q c) (arrivals k past q c) (arrivals-carried past all q c)

  own-taken : (past : Past) (c : ℕ) (w : What) → AllAllowed k l past → AllItems (OfItem past) (taken k past c)
      → AllItems (OfItem past) (taken_after k past c w (taken k past c))
  own-taken past c (What.Take q n t) all was = items-take (OfItem past) n (waiting k past q.0 c) (waiting-carried past all q.0 c)
  own-taken past c (What.Start q e s) all was = items-drop (OfItem past) 1 (taken k past c) was
  own-taken past c (What.Untake q n) all was = tt
  own-taken past c (What.EndAtomic rest cells) all was = tt
  own-taken past c w all was = was

  pub taken-carried : (past : Past) → AllAllowed k l past → (c : ℕ) → AllItems (OfItem past) (taken k past c)
  taken-carried [] all c = tt
  taken-carried (e ∷ past) all c =
      items-kept past e.core.0 e.what (taken k (e ∷ past) c) (by_core (e.core.0 == c) (taken-carried past all.1 c))
    where
      by_core : (b : Bool) → AllItems (OfItem past) (taken k past c)
          → AllItems (OfItem past) (if b then taken_after k past c e.what (taken k past c) else taken k past c)
      by_core true was = own-taken past c e.what all.1 was
      by_core false was = was
