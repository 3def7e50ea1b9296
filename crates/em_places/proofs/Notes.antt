-- Parked handles sit after what hands notes in, and after what completes or frees them.
use Rattle.std.proofs.Common.{◌≡◌, ◌≢◌, ℕ, suc, ◌≤◌, ◌==◌, Bool, true, false, not, ◌||◌, ◌&&◌, List, [], ◌∷◌, length, map, Option, Some, None, refl, sym, ◌∙◌, subst, ap, if◌then◌else◌, arith}
use Rattle.std.proofs.lemmas.Bool.{or_right}
use Rattle.std.proofs.lemmas.Bool.{eq-eqb}
use Rattle.em_log.specs.declared.declarations.Declarations.{Declarations}
use Rattle.em_log.specs.declared.entry.Entry.{Entry}
use Rattle.em_log.specs.declared.entry.What.{What}
use Rattle.em_log.specs.declared.entry.Begun.{Begun}
use Rattle.em_log.specs.declared.ids.Handle.{Handle}
use Rattle.em_log.specs.declared.ids.Limits.{Limits}
use Rattle.em_log.specs.declared.ids.Note.{Note}
use Rattle.em_log.specs.declared.ids.OpId.{OpId}
use Rattle.em_log.specs.declared.ids.EventGroupId.{EventGroupId}
use Rattle.em_log.specs.declared.ids.QueueId.{QueueId}
use Rattle.em_log.specs.declared.ids.Stamp.{Stamp}
use Rattle.em_log.specs.History.{Past, entry_by, has, index_of, note_words}
use Rattle.em_log.specs.Declarations.{kind_of, is_output}
use Rattle.em_log.specs.Handles.{Minting, minting, last_handle, Spending, spending}
use Rattle.em_log.specs.Operations.{Operation, operation, notes_of, done}
use Rattle.em_log.specs.Order.{Sent, ticket_of_send, enters}
use Rattle.em_log.specs.States.{closed}
use Rattle.em_log.specs.Arrivals.{note_entering, with_sent, open_notes}
use Rattle.em_log.specs.EventGroups.{applications, busy, is_current, applied_notes}
use Rattle.em_log.specs.Leads.{notes_refusal}
use Rattle.em_log.specs.Places.{waiting, taken, has_item, has_entered, note_queue, application_end}
use Rattle.em_log.specs.Lawful.{AllAllowed}
use Rattle.em_moments.proofs.Asked.{and-true}
use Rattle.em_moments.proofs.Moments.{Moment, BeginMoment, ApplyMoment, AbortMoment}
use Rattle.em_pool.specs.declared.place.Place.{Place}
use Rattle.em_pool.specs.declared.place.Spend.{Spend}
use Rattle.em_pool.specs.Steps.{PoolStep, Spent}
use Rattle.em_laws.proofs.Cores.{Compared, Same, Other, compared, if-same, some-inj, eqb-eq, none-some}
use Rattle.em_laws.proofs.Counts.{occ, has-occ}
use Rattle.em_laws.proofs.Dones.{done-completes}
use Rattle.em_laws.proofs.Lists.{for-queue}
use Rattle.em_laws.proofs.Respects.{DoneNow, done-now}
use Rattle.em_laws.proofs.Spent.{notes-usable, notes-spent, applied-spent, unended}
use Rattle.em_laws.proofs.Entering.{times_allowed, times_allowed_by, one_if_ok}
use Rattle.em_arrivals.proofs.Entered.{entered-let}
use Rattle.em_places.proofs.SpentHandles.{begun-of, applied-list, apply-names}
use Rattle.em_places.proofs.FreeAfter.{free-pull, FreeNow, FreeBefore, CameOut, completed-now, noted-freed}
use Rattle.em_parts.specs.PoolSteps.{Move, moved, entry_place, note_place, note_move, freed_move, noted_steps, pool_steps}
use Rattle.em_pool.specs.Spots.{spot}
use Rattle.em_places.specs.Parked.{completed_free, noted_free, Parked, InContext, InQueue, InTaken, InOrder, InOperation, InGroup, InObject, InPool, free_after, Sits, AllSit}
use Rattle.em_arrivals.proofs.Arrivals.{waiting-now}
use Rattle.em_places.proofs.Moves.{touches, AllTo, untouched, moved-to, came-sent}
use Rattle.em_places.proofs.Unmoved.{same-handle, same-place, not-before}
use Rattle.em_places.proofs.Spending.{InHand, in-hand, spent-none, SpentBy, SpentBefore, SpentNow, spent-some}
use Rattle.em_arrivals.proofs.Lists.{came, AllSent, InEither, InFirst, InSecond, in-either}

-- the words of notes

pub record TouchedNote (ns : List Note) (i : ℕ) : Type 0 where
  pub handle : ℕ
  pub among : has (note_words ns) handle ≡ true
  pub index : index_of handle ≡ i

pub touched-note : (ns : List Note) (i : ℕ) → touches (map freed_move ns) i ≡ true → TouchedNote ns i
touched-note [] i is = absurd cc
touched-note (n ∷ ns) i is = by_test (index_of n.word == i) refl is (touched-note ns i)
  where
    by_test : (b : Bool) → (index_of n.word == i) ≡ b → (b || touches (map freed_move ns) i) ≡ true → (touches (map freed_move ns) i ≡ true → TouchedNote ns i) → TouchedNote (n ∷ ns) i
    by_test true own is later = record { handle = n.word; among = rw (eq-eqb n.word n.word refl) refl; index = eqb-eq _ i own }
    by_test false own is later = let t = later is in record { handle = t.handle; among = or_right (n.word == t.handle) _ t.among; index = t.index }

pub note-touched : (ns : List Note) (h : ℕ) → has (note_words ns) h ≡ true → touches (map freed_move ns) (index_of h) ≡ true
note-touched [] h is = absurd cc
note-touched (n ∷ ns) h is = by_test (compared n.word h) is (note-touched ns h)
  where
    by_test : Compared n.word h → has (note_words (n ∷ ns)) h ≡ true → (has (note_words ns) h ≡ true → touches (map freed_move ns) (index_of h) ≡ true)
        → touches (map freed_move (n ∷ ns)) (index_of h) ≡ true
    by_test (Same t e) is later = let own = eq-eqb (index_of n.word) (index_of h) (ap index_of e) in rw own refl
    by_test (Other f e) is later = or_right (index_of n.word == index_of h) _ (later (rw f at is))

pub same-touches : (k : Declarations) (now : Past) (ns : List Note) (i : ℕ) → touches (map (note_move k now) ns) i ≡ touches (map freed_move ns) i
same-touches k now [] i = refl
same-touches k now (n ∷ ns) i = ap (λ b. (index_of n.word == i) || b) (same-touches k now ns i)

-- notes that are handed in

pub noted-untouched : (c place : ℕ) (ns : List Note) (steps : List PoolStep) (i : ℕ) → touches (map freed_move ns) i ≡ false → spot (noted_steps c place ns steps) i ≡ spot steps i
noted-untouched c place [] steps i none = refl
noted-untouched c place (n ∷ ns) steps i none =
    by_test (index_of n.word == i) refl none (noted-untouched c place ns (Spent c n.word Spend.Noted place ∷ steps) i)
  where
    by_test : (b : Bool) → (index_of n.word == i) ≡ b → (b || touches (map freed_move ns) i) ≡ false
        → (touches (map freed_move ns) i ≡ false → spot (noted_steps c place ns (Spent c n.word Spend.Noted place ∷ steps)) i ≡ (if index_of n.word == i then Place.Noted else spot steps i))
        → spot (noted_steps c place ns (Spent c n.word Spend.Noted place ∷ steps)) i ≡ spot steps i
    by_test true is none later = absurd cc
    by_test false is none later = later none ∙ (rw is refl)

pub noted-touched : (c place : ℕ) (ns : List Note) (steps : List PoolStep) (i : ℕ) → touches (map freed_move ns) i ≡ true → spot (noted_steps c place ns steps) i ≡ Place.Noted
noted-touched c place [] steps i some = absurd cc
noted-touched c place (n ∷ ns) steps i some =
    by_rest (touches (map freed_move ns) i) refl some (noted-touched c place ns (Spent c n.word Spend.Noted place ∷ steps) i)
    (noted-untouched c place ns (Spent c n.word Spend.Noted place ∷ steps) i)
  where
    here : (b : Bool) → (index_of n.word == i) ≡ b → (b || false) ≡ true → (if index_of n.word == i then Place.Noted else spot steps i) ≡ Place.Noted
    here true is h = rw is refl
    here false is h = absurd cc

    by_rest : (b : Bool) → touches (map freed_move ns) i ≡ b → ((index_of n.word == i) || b) ≡ true
        → (touches (map freed_move ns) i ≡ true → spot (noted_steps c place ns (Spent c n.word Spend.Noted place ∷ steps)) i ≡ Place.Noted)
        → (touches (map freed_move ns) i ≡ false → spot (noted_steps c place ns (Spent c n.word Spend.Noted place ∷ steps)) i ≡ (if index_of n.word == i then Place.Noted else spot steps i))
        → spot (noted_steps c place ns (Spent c n.word Spend.Noted place ∷ steps)) i ≡ Place.Noted
    by_rest true is some later none = later is
    by_rest false is some later none = none is ∙ here (index_of n.word == i) refl some

record NotedSits (k : Declarations) (past : Past) (c : ℕ) (ns : List Note) (h : ℕ) (p : Place) : Type 0 where
  last : last_handle past (index_of h) ≡ Some h
  spot : spot (noted_steps c (length past) ns (pool_steps k past)) (index_of h) ≡ p

abbrev pub AllInHand : Declarations → Past → List Note → Type 0
AllInHand k past ns = (f : ℕ) → has (note_words ns) f ≡ true → InHand k past f

noted-keeps : (k : Declarations) (past : Past) (c : ℕ) (ns : List Note) (h : ℕ) (p : Place) → AllInHand k past ns → Sits k past h p
    → (has (note_words ns) h ≡ true → (o : ℕ) → p ≡ Place.Held (record { 0 = o }) → ⊥) → NotedSits k past c ns h p
noted-keeps k past c ns h p hands s apart = by_test (touches (map freed_move ns) (index_of h)) refl
  where
    by_test : (b : Bool) → touches (map freed_move ns) (index_of h) ≡ b → NotedSits k past c ns h p
    by_test false is = record { last = s.last; spot = noted-untouched c (length past) ns (pool_steps k past) (index_of h) is ∙ s.spot }
    by_test true is =
        let t = touched-note ns (index_of h) is in
        let hand = hands t.handle t.among in
        let one : t.handle ≡ h = same-handle k past h t.handle p _ s hand.sits t.index in
        absurd (apart (subst (λ (i : ℕ). has (note_words ns) i ≡ true) one t.among) hand.core (sym (same-place k past h t.handle p _ s hand.sits t.index)))

noted-now : (k : Declarations) (past : Past) (c : ℕ) (ns : List Note) (h : ℕ) → AllInHand k past ns → has (note_words ns) h ≡ true → NotedSits k past c ns h Place.Noted
noted-now k past c ns h hands is =
    record { last = (hands h is).sits.last; spot = noted-touched c (length past) ns (pool_steps k past) (index_of h) (note-touched ns h is) }

pub all-in-hand : (k : Declarations) (past : Past) (d : ℕ) (ns : List Note) → notes_refusal past d [] ns ≡ None → AllSit k past → AllInHand k past ns
all-in-hand k past d ns ok older f is = in-hand k past d f (notes-usable past d [] ns ok f is) older

pub sits-begin : (k : Declarations) (past : Past) (d : ℕ) (op : OpId) (job : Begun) (notes : List Note) → BeginMoment k past d op job notes → done past op.0 ≡ None → AllSit k past
    → AllSit k (entry_by d (What.Begin op job notes) ∷ past)
sits-begin k past d op job notes m new older h p parked = by_parked parked
  where
    w : What
    w = What.Begin op job notes

    now : Past
    now = entry_by d w ∷ past

    hands : AllInHand k past notes
    hands = all-in-hand k past d notes m.usable older

    given : NotedSits k past d notes h p → Sits k now h p
    given s = record { last = s.last; spot = s.spot }

    other : Parked k past h p → ((c : ℕ) → p ≡ Place.Held (record { 0 = c }) → ⊥) → Sits k now h p
    other r ne = given (noted-keeps k past d notes h p hands (older h p r) (λ is o e. ne o e))

    before : (s : Spending) (g : Handle) (q : QueueId) (t : Option ℕ) (st : Option Stamp) → SpentBy past (entry_by d w) (has (note_words notes) h) (spending past h) s → s.what ≡ What.Send g q t st
        → enters now (ticket_of_send s.before s.core t) ≡ false → p ≡ Place.Delayed q → Sits k now h p
    before s g q t st (SpentBefore is) what off eq = other (InOrder s g q t st is what (not-before past d w _ off) eq) (λ c z. absurd (cc (eq, z)))
    before s g q t st (SpentNow b is) what off eq = absurd (let e : w ≡ What.Send g q t st = sym (ap (λ (v : Spending). v.what) is) ∙ what in cc e)

    begun : (n : ℕ) (o : Operation) → Compared op.0 n → (if op.0 == n then Some (record { core = d; job = job; notes = notes }) else operation past n) ≡ Some o → done past n ≡ None
        → has (note_words o.notes) h ≡ true → p ≡ Place.Noted → Sits k now h p
    begun n o (Other f ne) is un there eq = other (InOperation n o (rw f at is) un there eq) (λ c z. absurd (cc (eq, z)))
    begun n o (Same t same) is un there eq =
        let whole : record { core = d; job = job; notes = notes } ≡ o = some-inj _ _ (rw t at is) in
        let here : has (note_words notes) h ≡ true = ap (λ (v : Operation). has (note_words v.notes) h) whole ∙ there in
        given (subst (NotedSits k past d notes h) (sym eq) (noted-now k past d notes h hands here))

    by_pool : (v : Minting) (s : Spending) → last_handle past (index_of h) ≡ Some h → minting past h ≡ Some v → SpentBy past (entry_by d w) (has (note_words notes) h) (spending past h) s
        → free_after k now h s.what ≡ true → p ≡ Place.Free → Sits k now h p
    by_pool v s last is (SpentBefore t) free eq =
        other (InPool v s last is t (free-pull k past now h s.what (λ q e. e) (λ n. refl) (λ g a. refl) free) eq) (λ c z. absurd (cc (eq, z)))
    by_pool v s last is (SpentNow b t) free eq =
        let on : free_after k now h w ≡ true = subst (λ (x : Spending). free_after k now h x.what ≡ true) t free in
        let off : free_after k now h w ≡ false = ap (noted_free k now h notes) new in
        absurd (cc (on, off))

    by_parked : Parked k now h p → Sits k now h p
    by_parked (InContext v is un eq) =
        let both = spent-none (has (note_words notes) h) past (entry_by d w) (spending past h) un in
        given (noted-keeps k past d notes h p hands (older h p (InContext v is both.1 eq)) (λ on o e. absurd (cc (on, both.0))))
    by_parked (InQueue q c plain is eq) = other (InQueue q c plain is eq) (λ c z. absurd (cc (eq, z)))
    by_parked (InTaken c is eq) = other (InTaken c (subst (λ xs. has_item xs h ≡ true) (if-same (d == c) (taken k past c)) is) eq) (λ c z. absurd (cc (eq, z)))
    by_parked (InOrder s g q t st is what off eq) = before s g q t st (spent-some _ past _ (spending past h) s is) what off eq
    by_parked (InOperation n o is un there eq) = begun n o (compared op.0 n) is un there eq
    by_parked (InGroup g on there eq) = other (InGroup g on there eq) (λ c z. absurd (cc (eq, z)))
    by_parked (InObject x there eq) = other (InObject x there eq) (λ c z. absurd (cc (eq, z)))
    by_parked (InPool v s last is spent free eq) = by_pool v s last is (spent-some _ past _ (spending past h) s spent) free eq

pub sits-apply : (k : Declarations) (past : Past) (d : ℕ) (g : EventGroupId) (a n : ℕ) (notes : List Note) → ApplyMoment k past d g.0 a n notes → application_end past g.0 a ≡ None → AllSit k past
    → AllSit k (entry_by d (What.Apply g a n notes) ∷ past)
sits-apply k past d g a n notes m new older h p parked = by_parked parked
  where
    w : What
    w = What.Apply g a n notes

    now : Past
    now = entry_by d w ∷ past

    hands : AllInHand k past notes
    hands = all-in-hand k past d notes m.usable older

    given : NotedSits k past d notes h p → Sits k now h p
    given s = record { last = s.last; spot = s.spot }

    other : Parked k past h p → ((c : ℕ) → p ≡ Place.Held (record { 0 = c }) → ⊥) → Sits k now h p
    other r ne = given (noted-keeps k past d notes h p hands (older h p r) (λ is o e. ne o e))

    before : (s : Spending) (f : Handle) (q : QueueId) (t : Option ℕ) (st : Option Stamp) → SpentBy past (entry_by d w) (has (note_words notes) h) (spending past h) s → s.what ≡ What.Send f q t st
        → enters now (ticket_of_send s.before s.core t) ≡ false → p ≡ Place.Delayed q → Sits k now h p
    before s f q t st (SpentBefore is) what off eq = other (InOrder s f q t st is what (not-before past d w _ off) eq) (λ c z. absurd (cc (eq, z)))
    before s f q t st (SpentNow b is) what off eq = absurd (let e : w ≡ What.Send f q t st = sym (ap (λ (v : Spending). v.what) is) ∙ what in cc e)

    applied : (i : ℕ) → Compared g.0 i → (if g.0 == i then true else busy past i) ≡ true → has (note_words (if g.0 == i then notes else applied_notes past i)) h ≡ true → p ≡ Place.Noted → Sits k now h p
    applied i (Other f ne) on there eq = other (InGroup i (rw f at on) (rw f at there) eq) (λ c z. absurd (cc (eq, z)))
    applied i (Same t same) on there eq =
        let here : has (note_words notes) h ≡ true = rw t at there in
        given (subst (NotedSits k past d notes h) (sym eq) (noted-now k past d notes h hands here))

    by_pool : (v : Minting) (s : Spending) → last_handle past (index_of h) ≡ Some h → minting past h ≡ Some v → SpentBy past (entry_by d w) (has (note_words notes) h) (spending past h) s
        → free_after k now h s.what ≡ true → p ≡ Place.Free → Sits k now h p
    by_pool v s last is (SpentBefore t) free eq =
        other (InPool v s last is t (free-pull k past now h s.what (λ q e. e) (λ n. refl) (λ g a. refl) free) eq) (λ c z. absurd (cc (eq, z)))
    by_pool v s last is (SpentNow b t) free eq =
        let on : free_after k now h w ≡ true = subst (λ (x : Spending). free_after k now h x.what ≡ true) t free in
        let off : free_after k now h w ≡ false = ap (noted_free k now h notes) new in
        absurd (cc (on, off))

    by_parked : Parked k now h p → Sits k now h p
    by_parked (InContext v is un eq) =
        let both = spent-none (has (note_words notes) h) past (entry_by d w) (spending past h) un in
        given (noted-keeps k past d notes h p hands (older h p (InContext v is both.1 eq)) (λ on o e. absurd (cc (on, both.0))))
    by_parked (InQueue q c plain is eq) = other (InQueue q c plain is eq) (λ c z. absurd (cc (eq, z)))
    by_parked (InTaken c is eq) = other (InTaken c (subst (λ xs. has_item xs h ≡ true) (if-same (d == c) (taken k past c)) is) eq) (λ c z. absurd (cc (eq, z)))
    by_parked (InOrder s f q t st is what off eq) = before s f q t st (spent-some _ past _ (spending past h) s is) what off eq
    by_parked (InOperation i o is un there eq) = other (InOperation i o is un there eq) (λ c z. absurd (cc (eq, z)))
    by_parked (InGroup i on there eq) = applied i (compared g.0 i) on there eq
    by_parked (InObject x there eq) = other (InObject x there eq) (λ c z. absurd (cc (eq, z)))
    by_parked (InPool v s last is spent free eq) = by_pool v s last is (spent-some _ past _ (spending past h) s spent) free eq

-- notes that complete, or are freed

record NotesMoved (k : Declarations) (past : Past) (ms : List Move) (h : ℕ) (p : Place) : Type 0 where
  last : last_handle past (index_of h) ≡ Some h
  spot : spot (moved ms (pool_steps k past)) (index_of h) ≡ p

abbrev pub AllNoted : Declarations → Past → List Note → Type 0
AllNoted k past ns = (f : ℕ) → has (note_words ns) f ≡ true → Sits k past f Place.Noted

notes-keep : (k : Declarations) (past : Past) (ns : List Note) (ms : List Move) (h : ℕ) (p : Place) → ((i : ℕ) → touches ms i ≡ touches (map freed_move ns) i) → AllNoted k past ns
    → Sits k past h p → (has (note_words ns) h ≡ true → p ≡ Place.Noted → ⊥) → NotesMoved k past ms h p
notes-keep k past ns ms h p same noted s apart = by_test (touches (map freed_move ns) (index_of h)) refl
  where
    by_test : (b : Bool) → touches (map freed_move ns) (index_of h) ≡ b → NotesMoved k past ms h p
    by_test false is = record { last = s.last; spot = untouched ms (pool_steps k past) (index_of h) (same (index_of h) ∙ is) ∙ s.spot }
    by_test true is =
        let t = touched-note ns (index_of h) is in
        let sits = noted t.handle t.among in
        let one : t.handle ≡ h = same-handle k past h t.handle p _ s sits t.index in
        absurd (apart (subst (λ (i : ℕ). has (note_words ns) i ≡ true) one t.among) (sym (same-place k past h t.handle p _ s sits t.index)))

-- each note's queue is that of its word
abbrev pub AllNotes : (Note → Type 0) → List Note → Type 0
AllNotes P [] = Unit {0}
AllNotes P (n ∷ ns) = P n × AllNotes P ns

pub notes-map : (P Q : Note → Type 0) (ns : List Note) → ((n : Note) → P n → Q n) → AllNotes P ns → AllNotes Q ns
notes-map P Q [] f a = tt
notes-map P Q (n ∷ ns) f a = (f n a.0, notes-map P Q ns f a.1)

pub record OneQueue (ns : List Note) (n : Note) : Type 0 where
  pub among : has (note_words ns) n.word ≡ true
  pub queue : note_queue n.word ns ≡ Some n.queue.0

pub one-queue : (ns : List Note) → ((h : ℕ) → occ h (note_words ns) ≤ 1) → AllNotes (OneQueue ns) ns
one-queue [] once = tt
one-queue (n ∷ ns) once = (
  record { among = rw (eq-eqb n.word n.word refl) refl; queue = rw (eq-eqb n.word n.word refl) refl },
  notes-map (OneQueue ns) (OneQueue (n ∷ ns)) ns (λ v one. record { among = or_right (n.word == v.word) _ one.among; queue = later v one (compared n.word v.word) }) (one-queue ns rest),
)
  where
    rest : (h : ℕ) → occ h (note_words ns) ≤ 1
    rest h = by_test (n.word == h) (once h)
      where
        by_test : (b : Bool) → (if b then suc (occ h (note_words ns)) else occ h (note_words ns)) ≤ 1 → occ h (note_words ns) ≤ 1
        by_test true le = omega (arith, le)
        by_test false le = le

    later : (v : Note) → OneQueue ns v → Compared n.word v.word → note_queue v.word (n ∷ ns) ≡ Some v.queue.0
    later v one (Same t e) =
        let more = has-occ v.word (note_words ns) one.among in
        let o = once v.word in
        let whole : occ v.word (note_words (n ∷ ns)) ≡ suc (occ v.word (note_words ns)) = rw t refl in
        absurd (omega (arith, more, o, whole))
    later v one (Other f ne) = rw f one.queue

-- a note that enters: its word, and where it goes
record Opened (k : Declarations) (now : Past) (ns : List Note) (s : Sent) : Type 0 where
  among : has (note_words ns) s.handle ≡ true
  queue : note_queue s.handle ns ≡ Some s.queue
  unclosed : closed k now s.queue ≡ None

opened : (k : Declarations) (now : Past) (d : ℕ) (whole ns : List Note) → AllNotes (OneQueue whole) ns → AllSent (Opened k now whole) (open_notes k now d ns)
opened k now d whole [] a = tt
opened k now d whole (n ∷ ns) a = by_closed (closed k now n.queue.0) refl (opened k now d whole ns a.1)
  where
    by_closed : (o : Option ℕ) → closed k now n.queue.0 ≡ o → AllSent (Opened k now whole) (open_notes k now d ns)
        → AllSent (Opened k now whole) (with_sent (note_entering d n o) (open_notes k now d ns))
    by_closed None is rest = (record { among = a.0.among; queue = a.0.queue; unclosed = is }, rest)
    by_closed (Some why) is rest = rest

pub notes-to : (k : Declarations) (now : Past) (ns : List Note) (i : ℕ) (t : Place) → AllNotes (λ n. index_of n.word ≡ i → (note_move k now n).to ≡ t) ns → AllTo (map (note_move k now) ns) i t
notes-to k now [] i t a = tt
notes-to k now (n ∷ ns) i t a = (λ is. a.0 (eqb-eq _ i is), notes-to k now ns i t a.1)

notes-enter : (k : Declarations) (past now : Past) (ns : List Note) (s : Sent) (h : ℕ) → ((h : ℕ) → occ h (note_words ns) ≤ 1) → AllNoted k past ns → Opened k now ns s → s.handle ≡ h
    → NotesMoved k past (map (note_move k now) ns) h (entry_place k s.queue)
notes-enter k past now ns s h once noted o same =
    let there : has (note_words ns) h ≡ true = subst (λ (i : ℕ). has (note_words ns) i ≡ true) same o.among in
    let sits = noted h there in
    let all_to : AllNotes (λ n. index_of n.word ≡ index_of h → (note_move k now n).to ≡ entry_place k s.queue) ns =
    notes-map (OneQueue ns) (λ n. index_of n.word ≡ index_of h → (note_move k now n).to ≡ entry_place k s.queue) ns (λ n one is.
    let word : n.word ≡ h = same-handle k past h n.word _ _ sits (noted n.word one.among) is in
    let queue : n.queue.0 ≡ s.queue = some-inj _ _ (sym one.queue ∙ (ap (λ (i : ℕ). note_queue i ns) (word ∙ sym same) ∙ o.queue)) in
    ap (λ (i : ℕ). note_place k i (closed k now i)) queue ∙ ap (note_place k s.queue) o.unclosed) (one-queue ns once) in
    record {
      last = sits.last;
      spot = moved-to (map (note_move k now) ns) (pool_steps k past) (index_of h) (entry_place k s.queue) (notes-to k now ns (index_of h) (entry_place k s.queue) all_to)
          (same-touches k now ns (index_of h) ∙ note-touched ns h there);
    }

-- what a completion of these notes leaves, but for the notes of the same operation or application
completed : (k : Declarations) (l : Limits) (past : Past) (d : ℕ) (w : What) (ns : List Note) (h : ℕ) (p : Place) (r c : ℕ) → ((h : ℕ) → occ h (note_words ns) ≤ 1) → AllNoted k past ns → AllSit k past
    → is_output (kind_of k r) ≡ false → p ≡ Place.Waiting (record { 0 = r })
    → InEither h (waiting k past r c) (came k past r c (open_notes k (entry_by d w ∷ past) d ns)) → NotesMoved k past (map (note_move k (entry_by d w ∷ past)) ns) h p
completed k l past d w ns h p r c once noted older plain eq (InFirst is) =
    notes-keep k past ns (map (note_move k (entry_by d w ∷ past)) ns) h p (same-touches k (entry_by d w ∷ past) ns) noted (older h p (InQueue r c plain is eq)) (λ there z. absurd (cc (eq, z)))
completed k l past d w ns h p r c once noted older plain eq (InSecond is) =
    let now : Past = entry_by d w ∷ past in
    let s = came-sent k past (Opened k now ns) (open_notes k now d ns) r c h (opened k now d ns ns (one-queue ns once)) is in
    let moves = notes-enter k past now ns s.sent h once noted s.holds s.handle in
    let queue : s.sent.queue ≡ r = for-queue k r c s.sent.queue s.sent.core s.list in
    let off : is_output (kind_of k s.sent.queue) ≡ false = ap (λ (i : ℕ). is_output (kind_of k i)) queue ∙ plain in
    let whole : entry_place k s.sent.queue ≡ p = rw off (ap (λ (i : ℕ). Place.Waiting (record { 0 = i })) queue ∙ sym eq) in
    record { last = moves.last; spot = moves.spot ∙ whole }

-- the notes of an operation that is done now

pub done-noted : (k : Declarations) (past : Past) (n : ℕ) → DoneNow past n → AllSit k past → AllNoted k past (notes_of (operation past n))
done-noted k past n q older f is =
    older f _ (InOperation n q.started q.begun q.undone (sym (ap (λ o. has (note_words (notes_of o)) f) q.begun) ∙ is) refl)

pub done-once : (k : Declarations) (l : Limits) (past : Past) (n : ℕ) → AllAllowed k l past → DoneNow past n → (h : ℕ) → occ h (note_words (notes_of (operation past n))) ≤ 1
done-once k l past n all q h = rw q.begun ((notes-spent k l past all n q.started q.begun).once h)

-- they are of no other operation, and of no application
only-done : (k : Declarations) (l : Limits) (past : Past) (n i h : ℕ) (o : Operation) → AllAllowed k l past → DoneNow past n → has (note_words (notes_of (operation past n))) h ≡ true
    → operation past i ≡ Some o → has (note_words o.notes) h ≡ true → n ≡ i
only-done k l past n i h o all q here is there =
    let a = (notes-spent k l past all n q.started q.begun).spent h (sym (ap (λ v. has (note_words (notes_of v)) h) q.begun) ∙ here) in
    let b = (notes-spent k l past all i o is).spent h there in
    let same : record { before = a.before; core = a.core; what = What.Begin a.op a.job a.notes } ≡ record { before = b.before; core = b.core; what = What.Begin b.op b.job b.notes } =
    some-inj _ _ (sym a.spent ∙ b.spent) in
    sym a.number ∙ (ap (λ (v : Spending). op_in v.what) same ∙ b.number)
  where
    op_in : What → ℕ
    op_in (What.Begin op job notes) = op.0
    op_in w = 0

not-applied : (k : Declarations) (l : Limits) (past : Past) (n g h : ℕ) (o : Operation) → AllAllowed k l past → operation past n ≡ Some o → has (note_words o.notes) h ≡ true
    → has (note_words (applied_notes past g)) h ≡ true → ⊥
not-applied k l past n g h o all is here there =
    let a = (notes-spent k l past all n o is).spent h here in
    let b = (applied-spent k l past all g).spent h there in
    let same : record { before = a.before; core = a.core; what = What.Begin a.op a.job a.notes } ≡ record { before = b.before; core = b.core; what = What.Apply b.group b.app b.count b.notes } =
    some-inj _ _ (sym a.spent ∙ b.spent) in
    let e : What.Begin a.op a.job a.notes ≡ What.Apply b.group b.app b.count b.notes = ap (λ (v : Spending). v.what) same in
    absurd cc

only-group : (k : Declarations) (l : Limits) (past : Past) (g i h : ℕ) → AllAllowed k l past → has (note_words (applied_notes past g)) h ≡ true → has (note_words (applied_notes past i)) h ≡ true → g ≡ i
only-group k l past g i h all here there =
    let a = (applied-spent k l past all g).spent h here in
    let b = (applied-spent k l past all i).spent h there in
    let same : record { before = a.before; core = a.core; what = What.Apply a.group a.app a.count a.notes } ≡ record { before = b.before; core = b.core; what = What.Apply b.group b.app b.count b.notes } =
    some-inj _ _ (sym a.spent ∙ b.spent) in
    sym a.same_group ∙ (ap (λ (v : Spending). group_in v.what) same ∙ b.same_group)
  where
    group_in : What → ℕ
    group_in (What.Apply g a n notes) = g.0
    group_in w = 0

undone-still : (past : Past) (n i : ℕ) (ok : Bool) → (if n == i then Some ok else done past i) ≡ None → Compared n i → (n ≢ i) × (done past i ≡ None)
undone-still past n i ok un (Same t e) = absurd (none-some ok (sym (rw t at un)))
undone-still past n i ok un (Other t ne) = (ne, rw t at un)

-- freed notes

pub freed-to : (ns : List Note) (i : ℕ) → AllTo (map freed_move ns) i Place.Free
freed-to [] i = tt
freed-to (n ∷ ns) i = (λ is. refl, freed-to ns i)

notes-freed : (k : Declarations) (past : Past) (ns : List Note) (h : ℕ) (p : Place) → AllNoted k past ns → has (note_words ns) h ≡ true → p ≡ Place.Free → NotesMoved k past (map freed_move ns) h p
notes-freed k past ns h p noted there eq =
    record { last = (noted h there).last; spot = moved-to (map freed_move ns) (pool_steps k past) (index_of h) Place.Free (freed-to ns (index_of h)) (note-touched ns h there) ∙ sym eq }

-- what comes to an output is free
notes-out : (k : Declarations) (past : Past) (d : ℕ) (w : What) (ns : List Note) (h : ℕ) (p : Place) (r c : ℕ) → ((h : ℕ) → occ h (note_words ns) ≤ 1) → AllNoted k past ns
    → is_output (kind_of k r) ≡ true → p ≡ Place.Free → has_item (came k past r c (open_notes k (entry_by d w ∷ past) d ns)) h ≡ true → NotesMoved k past (map (note_move k (entry_by d w ∷ past)) ns) h p
notes-out k past d w ns h p r c once noted out eq is =
    let now : Past = entry_by d w ∷ past in
    let s = came-sent k past (Opened k now ns) (open_notes k now d ns) r c h (opened k now d ns ns (one-queue ns once)) is in
    let moves = notes-enter k past now ns s.sent h once noted s.holds s.handle in
    let queue : s.sent.queue ≡ r = for-queue k r c s.sent.queue s.sent.core s.list in
    let on : is_output (kind_of k s.sent.queue) ≡ true = ap (λ (i : ℕ). is_output (kind_of k i)) queue ∙ out in
    let whole : entry_place k s.sent.queue ≡ p = rw on (sym eq) in
    record { last = moves.last; spot = moves.spot ∙ whole }

-- a handle that is free after an entry: as at any entry, or it is one of the notes that are freed
data NotesFree (k : Declarations) (past : Past) (e : Entry) (h : ℕ) (w : What) (ns : List Note) (freed : Bool) : Type 0 where
  AsAny : FreeNow k past e h w → NotesFree k past e h w ns freed
  Freed : freed ≡ true → has (note_words ns) h ≡ true → NotesFree k past e h w ns freed

not-let : (k : Declarations) (l : Limits) (past : Past) (h : ℕ) (s : Spending) (w : What) (q : Option ℕ) → AllAllowed k l past → spending past h ≡ Some s → s.what ≡ w
    → times_allowed_by past s.before s.core w ≡ 0 → completed_free k past h q ≡ true → ⊥
not-let k l past h s w None all is what none free = absurd cc
not-let k l past h s w (Some q) all is what none free =
    let let_in = entered-let k l past h q all (and-true (has_entered k past h q) _ free).0 in
    let zero : times_allowed past (spending past h) ≡ 0 = ap (times_allowed past) is ∙ (ap (times_allowed_by past s.before s.core) what ∙ none) in
    omega (arith, let_in, zero)

done-free : (k : Declarations) (l : Limits) (past : Past) (d : ℕ) (op : OpId) (ok : Bool) (h : ℕ) (s : Spending) (v : What) → AllAllowed k l past → DoneNow past op.0 → spending past h ≡ Some s
    → s.what ≡ v → free_after k (entry_by d (What.Done op ok) ∷ past) h v ≡ true → NotesFree k past (entry_by d (What.Done op ok)) h v (notes_of (operation past op.0)) (not ok)
done-free k l past d op ok h s (What.Free f) all q is what free = AsAny (FreeBefore refl)
done-free k l past d op ok h s (What.Send f r t st) all q is what free =
    AsAny (completed-now k past (entry_by d (What.Done op ok)) h (What.Send f r t st) (Some r.0) free (λ u. FreeBefore u))
done-free k l past d op ok h s (What.Apply g a n notes) all q is what free =
    AsAny (noted-freed k past (entry_by d (What.Done op ok)) h (What.Apply g a n notes) notes _ _ refl free (λ u. FreeBefore u))
done-free k l past d op ok h s (What.Begin i job notes) all q is what free = by_test (compared op.0 i.0)
  where
    e : Entry
    e = entry_by d (What.Done op ok)

    w : What
    w = What.Begin i job notes

    by_ok : (b : Bool) → ok ≡ b → noted_free k (e ∷ past) h notes (Some b) ≡ true → op.0 ≡ i.0 → NotesFree k past e h w (notes_of (operation past op.0)) (not ok)
    by_ok true eq on same =
        let undone : done past i.0 ≡ None = ap (done past) (sym same) ∙ q.undone in
        AsAny (completed-now k past e h w (note_queue h notes) on (λ u. absurd (not-let k l past h s w (note_queue h notes) all is what (ap one_if_ok undone) u)))
    by_ok false eq on same =
        let b = begun-of k l past h s i job notes all is what in
        let list : notes_of (operation past op.0) ≡ notes = ap (λ (n : ℕ). notes_of (operation past n)) same ∙ (ap notes_of b.1 ∙ b.2) in
        Freed (ap not eq) (ap (λ ns. has (note_words ns) h) list ∙ b.3)

    by_test : Compared op.0 i.0 → NotesFree k past e h w (notes_of (operation past op.0)) (not ok)
    by_test (Other f ne) =
        let same : done (e ∷ past) i.0 ≡ done past i.0 = rw f refl in
        AsAny (noted-freed k past e h w notes (done (e ∷ past) i.0) (done past i.0) same free (λ u. FreeBefore u))
    by_test (Same t same) = by_ok ok refl (rw t at free) same
done-free k l past d op ok h s v all q is what free = absurd cc

pub sits-done : (k : Declarations) (l : Limits) (past : Past) (d : ℕ) (op : OpId) (ok : Bool) → AllAllowed k l past → Moment k l past d (What.Done op ok) → AllSit k past
    → AllSit k (entry_by d (What.Done op ok) ∷ past)
sits-done k l past d op ok all m older h p parked = by_ok ok m parked
  where
    by_ok : (ok : Bool) → Moment k l past d (What.Done op ok) → Parked k (entry_by d (What.Done op ok) ∷ past) h p → Sits k (entry_by d (What.Done op ok) ∷ past) h p
    by_ok true m parked = by_parked parked
      where
        w : What
        w = What.Done op true

        now : Past
        now = entry_by d w ∷ past

        q : DoneNow past op.0
        q = done-now k past op.0 true (done-completes k l past d op true all m)

        ns : List Note
        ns = notes_of (operation past op.0)

        given : NotesMoved k past (map (note_move k now) ns) h p → Sits k now h p
        given s = record { last = s.last; spot = s.spot }

        other : Parked k past h p → (has (note_words ns) h ≡ true → p ≡ Place.Noted → ⊥) → Sits k now h p
        other r apart = given (notes-keep k past ns (map (note_move k now) ns) h p (same-touches k now ns) (done-noted k past op.0 q older) (older h p r) apart)

        by_parked : Parked k now h p → Sits k now h p
        by_parked (InContext v is un eq) = other (InContext v is un eq) (λ t z. absurd (cc (eq, z)))
        by_parked (InQueue r c plain is eq) =
            given (completed k l past d w ns h p r c (done-once k l past op.0 all q) (done-noted k past op.0 q older) older plain eq
            (in-either h (waiting k past r c) (came k past r c (open_notes k now d ns)) (subst (λ xs. has_item xs h ≡ true) (waiting-now k l past d w r c all m) is)))
        by_parked (InTaken c is eq) = other (InTaken c (subst (λ xs. has_item xs h ≡ true) (if-same (d == c) (taken k past c)) is) eq) (λ t z. absurd (cc (eq, z)))
        by_parked (InOrder s g r u su is what off eq) = other (InOrder s g r u su is what (not-before past d w _ off) eq) (λ t z. absurd (cc (eq, z)))
        by_parked (InOperation i o is un there eq) =
            let u = undone-still past op.0 i true un (compared op.0 i) in
            other (InOperation i o is u.1 there eq) (λ t z. u.0 (only-done k l past op.0 i h o all q t is there))
        by_parked (InGroup g on there eq) = other (InGroup g on there eq)
            (λ t z. not-applied k l past op.0 g h q.started all q.begun (sym (ap (λ v. has (note_words (notes_of v)) h) q.begun) ∙ t) there)
        by_parked (InObject x there eq) = other (InObject x there eq) (λ t z. absurd (cc (eq, z)))
        by_parked (InPool v s last is spent free eq) = by_free (done-free k l past d op true h s s.what all q spent refl free)
          where
            by_any : FreeNow k past (entry_by d w) h s.what → Sits k now h p
            by_any (FreeBefore u) = other (InPool v s last is spent u eq) (λ t z. absurd (cc (eq, z)))
            by_any (CameOut r c out u) = given (notes-out k past d w ns h p r c (done-once k l past op.0 all q) (done-noted k past op.0 q older) out eq u)

            by_free : NotesFree k past (entry_by d w) h s.what ns false → Sits k now h p
            by_free (AsAny u) = by_any u
            by_free (Freed off there) = absurd (cc off)
    by_ok false m parked = by_parked parked
      where
        w : What
        w = What.Done op false

        now : Past
        now = entry_by d w ∷ past

        q : DoneNow past op.0
        q = done-now k past op.0 false (done-completes k l past d op false all m)

        ns : List Note
        ns = notes_of (operation past op.0)

        given : NotesMoved k past (map freed_move ns) h p → Sits k now h p
        given s = record { last = s.last; spot = s.spot }

        other : Parked k past h p → (has (note_words ns) h ≡ true → p ≡ Place.Noted → ⊥) → Sits k now h p
        other r apart = given (notes-keep k past ns (map freed_move ns) h p (λ i. refl) (done-noted k past op.0 q older) (older h p r) apart)

        by_parked : Parked k now h p → Sits k now h p
        by_parked (InContext v is un eq) = other (InContext v is un eq) (λ t z. absurd (cc (eq, z)))
        by_parked (InQueue r c plain is eq) = other (InQueue r c plain is eq) (λ t z. absurd (cc (eq, z)))
        by_parked (InTaken c is eq) = other (InTaken c (subst (λ xs. has_item xs h ≡ true) (if-same (d == c) (taken k past c)) is) eq) (λ t z. absurd (cc (eq, z)))
        by_parked (InOrder s g r u su is what off eq) = other (InOrder s g r u su is what (not-before past d w _ off) eq) (λ t z. absurd (cc (eq, z)))
        by_parked (InOperation i o is un there eq) =
            let u = undone-still past op.0 i false un (compared op.0 i) in
            other (InOperation i o is u.1 there eq) (λ t z. u.0 (only-done k l past op.0 i h o all q t is there))
        by_parked (InGroup g on there eq) = other (InGroup g on there eq)
            (λ t z. not-applied k l past op.0 g h q.started all q.begun (sym (ap (λ v. has (note_words (notes_of v)) h) q.begun) ∙ t) there)
        by_parked (InObject x there eq) = other (InObject x there eq) (λ t z. absurd (cc (eq, z)))
        by_parked (InPool v s last is spent free eq) = by_free (done-free k l past d op false h s s.what all q spent refl free)
          where
            by_free : NotesFree k past (entry_by d w) h s.what ns true → Sits k now h p
            by_free (AsAny (FreeBefore u)) = other (InPool v s last is spent u eq) (λ t z. absurd (cc (eq, z)))
            by_free (AsAny (CameOut r c out u)) = absurd (let none : has_item [] h ≡ true = u in cc none)
            by_free (Freed on there) = given (notes-freed k past ns h p (done-noted k past op.0 q older) there eq)

-- event groups

idle-still : (past : Past) (g i : ℕ) → (if g == i then false else busy past i) ≡ true → Compared g i → (g ≢ i) × (busy past i ≡ true)
idle-still past g i on (Same t e) = absurd (cc (rw t at on))
idle-still past g i on (Other t ne) = (ne, rw t at on)

pub group-noted : (k : Declarations) (past : Past) (g : ℕ) → busy past g ≡ true → AllSit k past → AllNoted k past (applied_notes past g)
group-noted k past g on older f is = older f _ (InGroup g on is refl)

notify-free : (k : Declarations) (l : Limits) (past : Past) (d : ℕ) (g : EventGroupId) (a h : ℕ) (s : Spending) (v : What) → AllAllowed k l past → is_current past g.0 a ≡ true → spending past h ≡ Some s
    → s.what ≡ v → free_after k (entry_by d (What.Notify g a) ∷ past) h v ≡ true → FreeNow k past (entry_by d (What.Notify g a)) h v
notify-free k l past d g a h s (What.Free f) all cur is what free = FreeBefore refl
notify-free k l past d g a h s (What.Send f r t st) all cur is what free =
    completed-now k past (entry_by d (What.Notify g a)) h (What.Send f r t st) (Some r.0) free (λ u. FreeBefore u)
notify-free k l past d g a h s (What.Begin i job notes) all cur is what free =
    noted-freed k past (entry_by d (What.Notify g a)) h (What.Begin i job notes) notes _ _ refl free (λ u. FreeBefore u)
notify-free k l past d g a h s (What.Apply i b n notes) all cur is what free = by_test ((g.0 == i.0) && (a == b)) refl
  where
    e : Entry
    e = entry_by d (What.Notify g a)

    w : What
    w = What.Apply i b n notes

    by_test : (v : Bool) → ((g.0 == i.0) && (a == b)) ≡ v → FreeNow k past e h w
    by_test false t =
        let same : application_end (e ∷ past) i.0 b ≡ application_end past i.0 b = rw t refl in
        noted-freed k past e h w notes (application_end (e ∷ past) i.0 b) (application_end past i.0 b) same free (λ u. FreeBefore u)
    by_test true t =
        let both = and-true (g.0 == i.0) (a == b) t in
        let group : g.0 ≡ i.0 = eqb-eq g.0 i.0 both.0 in
        let number : a ≡ b = eqb-eq a b both.1 in
        let on = and-true (busy past g.0) (applications past g.0 == a) cur in
        let here : applications past i.0 ≡ b = ap (applications past) (sym group) ∙ (eqb-eq _ a on.1 ∙ number) in
        let none : application_end past i.0 b ≡ None = (unended k l past all i.0 b).current (ap (busy past) (sym group) ∙ on.0) here in
        let now : noted_free k (e ∷ past) h notes (Some true) ≡ true = rw t at free in
        completed-now k past e h w (note_queue h notes) now (λ u. absurd (not-let k l past h s w (note_queue h notes) all is what (ap one_if_ok none) u))
notify-free k l past d g a h s v all cur is what free = absurd cc

abort-free : (k : Declarations) (l : Limits) (past : Past) (d : ℕ) (g : EventGroupId) (h : ℕ) (s : Spending) (v : What) → AllAllowed k l past → spending past h ≡ Some s
    → s.what ≡ v → free_after k (entry_by d (What.Abort g) ∷ past) h v ≡ true → NotesFree k past (entry_by d (What.Abort g)) h v (applied_notes past g.0) true
abort-free k l past d g h s (What.Free f) all is what free = AsAny (FreeBefore refl)
abort-free k l past d g h s (What.Send f r t st) all is what free =
    AsAny (completed-now k past (entry_by d (What.Abort g)) h (What.Send f r t st) (Some r.0) free (λ u. FreeBefore u))
abort-free k l past d g h s (What.Begin i job notes) all is what free =
    AsAny (noted-freed k past (entry_by d (What.Abort g)) h (What.Begin i job notes) notes _ _ refl free (λ u. FreeBefore u))
abort-free k l past d g h s (What.Apply i b n notes) all is what free = by_test ((g.0 == i.0) && (applications past i.0 == b)) refl
  where
    e : Entry
    e = entry_by d (What.Abort g)

    w : What
    w = What.Apply i b n notes

    by_test : (v : Bool) → ((g.0 == i.0) && (applications past i.0 == b)) ≡ v → NotesFree k past e h w (applied_notes past g.0) true
    by_test false t =
        let same : application_end (e ∷ past) i.0 b ≡ application_end past i.0 b = rw t refl in
        AsAny (noted-freed k past e h w notes (application_end (e ∷ past) i.0 b) (application_end past i.0 b) same free (λ u. FreeBefore u))
    by_test true t =
        let both = and-true (g.0 == i.0) (applications past i.0 == b) t in
        let group : g.0 ≡ i.0 = eqb-eq g.0 i.0 both.0 in
        let here : applications past i.0 ≡ b = eqb-eq (applications past i.0) b both.1 in
        let there : has (note_words (applied_notes past i.0)) h ≡ true =
        ap (λ ns. has (note_words ns) h) (applied-list k l past h s i b n notes all is what here) ∙ apply-names past h s i b n notes is what in
        Freed refl (ap (λ (x : ℕ). has (note_words (applied_notes past x)) h) group ∙ there)
abort-free k l past d g h s v all is what free = absurd cc

pub sits-notify : (k : Declarations) (l : Limits) (past : Past) (d : ℕ) (g : EventGroupId) (a : ℕ) → AllAllowed k l past → Moment k l past d (What.Notify g a) → AllSit k past
    → AllSit k (entry_by d (What.Notify g a) ∷ past)
sits-notify k l past d g a all m older h p parked = by_parked parked
  where
    w : What
    w = What.Notify g a

    now : Past
    now = entry_by d w ∷ past

    active : busy past g.0 ≡ true
    active = (and-true (busy past g.0) (applications past g.0 == a) m.current).0

    ns : List Note
    ns = applied_notes past g.0

    given : NotesMoved k past (map (note_move k now) ns) h p → Sits k now h p
    given s = record { last = s.last; spot = s.spot }

    other : Parked k past h p → (has (note_words ns) h ≡ true → p ≡ Place.Noted → ⊥) → Sits k now h p
    other r apart = given (notes-keep k past ns (map (note_move k now) ns) h p (same-touches k now ns) (group-noted k past g.0 active older) (older h p r) apart)

    by_parked : Parked k now h p → Sits k now h p
    by_parked (InContext v is un eq) = other (InContext v is un eq) (λ t z. absurd (cc (eq, z)))
    by_parked (InQueue r c plain is eq) =
        given (completed k l past d w ns h p r c ((applied-spent k l past all g.0).once) (group-noted k past g.0 active older) older plain eq
        (in-either h (waiting k past r c) (came k past r c (open_notes k now d ns)) (subst (λ xs. has_item xs h ≡ true) (waiting-now k l past d w r c all m) is)))
    by_parked (InTaken c is eq) = other (InTaken c (subst (λ xs. has_item xs h ≡ true) (if-same (d == c) (taken k past c)) is) eq) (λ t z. absurd (cc (eq, z)))
    by_parked (InOrder s f r u su is what off eq) = other (InOrder s f r u su is what (not-before past d w _ off) eq) (λ t z. absurd (cc (eq, z)))
    by_parked (InOperation i o is un there eq) = other (InOperation i o is un there eq) (λ t z. not-applied k l past i g.0 h o all is there t)
    by_parked (InGroup i on there eq) =
        let u = idle-still past g.0 i on (compared g.0 i) in
        other (InGroup i u.1 there eq) (λ t z. u.0 (only-group k l past g.0 i h all t there))
    by_parked (InObject x there eq) = other (InObject x there eq) (λ t z. absurd (cc (eq, z)))
    by_parked (InPool v s last is spent free eq) = by_free (notify-free k l past d g a h s s.what all m.current spent refl free)
      where
        by_free : FreeNow k past (entry_by d w) h s.what → Sits k now h p
        by_free (FreeBefore u) = other (InPool v s last is spent u eq) (λ t z. absurd (cc (eq, z)))
        by_free (CameOut r c out u) = given (notes-out k past d w ns h p r c ((applied-spent k l past all g.0).once) (group-noted k past g.0 active older) out eq u)

pub sits-abort : (k : Declarations) (l : Limits) (past : Past) (d : ℕ) (g : EventGroupId) → AllAllowed k l past → AbortMoment k past d g.0 → AllSit k past
    → AllSit k (entry_by d (What.Abort g) ∷ past)
sits-abort k l past d g all m older h p parked = by_parked parked
  where
    w : What
    w = What.Abort g

    now : Past
    now = entry_by d w ∷ past

    ns : List Note
    ns = applied_notes past g.0

    given : NotesMoved k past (map freed_move ns) h p → Sits k now h p
    given s = record { last = s.last; spot = s.spot }

    other : Parked k past h p → (has (note_words ns) h ≡ true → p ≡ Place.Noted → ⊥) → Sits k now h p
    other r apart = given (notes-keep k past ns (map freed_move ns) h p (λ i. refl) (group-noted k past g.0 m.busy older) (older h p r) apart)

    by_parked : Parked k now h p → Sits k now h p
    by_parked (InContext v is un eq) = other (InContext v is un eq) (λ t z. absurd (cc (eq, z)))
    by_parked (InQueue r c plain is eq) = other (InQueue r c plain is eq) (λ t z. absurd (cc (eq, z)))
    by_parked (InTaken c is eq) = other (InTaken c (subst (λ xs. has_item xs h ≡ true) (if-same (d == c) (taken k past c)) is) eq) (λ t z. absurd (cc (eq, z)))
    by_parked (InOrder s f r u su is what off eq) = other (InOrder s f r u su is what (not-before past d w _ off) eq) (λ t z. absurd (cc (eq, z)))
    by_parked (InOperation i o is un there eq) = other (InOperation i o is un there eq) (λ t z. not-applied k l past i g.0 h o all is there t)
    by_parked (InGroup i on there eq) =
        let u = idle-still past g.0 i on (compared g.0 i) in
        other (InGroup i u.1 there eq) (λ t z. u.0 (only-group k l past g.0 i h all t there))
    by_parked (InObject x there eq) = other (InObject x there eq) (λ t z. absurd (cc (eq, z)))
    by_parked (InPool v s last is spent free eq) = by_free (abort-free k l past d g h s s.what all spent refl free)
      where
        by_free : NotesFree k past (entry_by d w) h s.what ns true → Sits k now h p
        by_free (AsAny (FreeBefore u)) = other (InPool v s last is spent u eq) (λ t z. absurd (cc (eq, z)))
        by_free (AsAny (CameOut r c out u)) = absurd (let none : has_item [] h ≡ true = u in cc none)
        by_free (Freed on there) = given (notes-freed k past ns h p (group-noted k past g.0 m.busy older) there eq)
