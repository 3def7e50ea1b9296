-- The notes of an application that is given up are freed.
use Rattle.std.proofs.Common.{◌≡◌, ℕ, suc, ◌<◌, ◌≤◌, ◌==◌, Bool, true, false, ◌||◌, List, [], ◌∷◌, map, refl, ap, subst, arith, if◌then◌else◌}
use Rattle.std.proofs.lemmas.Bool.{or_right, eq-eqb}
use Rattle.em_log.specs.declared.declarations.Declarations.{Declarations}
use Rattle.em_log.specs.declared.ids.Limits.{Limits}
use Rattle.em_log.specs.declared.ids.Note.{Note}
use Rattle.em_log.specs.History.{Past, has, index_of, note_words}
use Rattle.em_log.specs.Declarations.{event_total}
use Rattle.em_log.specs.Lawful.{AllAllowed}
use Rattle.em_laws.specs.Minted.{HasSmallIndices}
use Rattle.em_laws.proofs.Cores.{eqb-eq}
use Rattle.em_laws.proofs.Counts.{occ, has-occ}
use Rattle.em_pool.specs.declared.place.Place.{Place}
use Rattle.em_pool.specs.Steps.{PoolStep}
use Rattle.em_pool.specs.Places.{can_shift}
use Rattle.em_pool.specs.Spots.{spot}
use Rattle.em_queues.specs.Steps.{QueueStep}
use Rattle.em_parts.specs.PoolSteps.{freed_move, moved, pool_steps}
use Rattle.em_places.proofs.Notes.{AllNoted}
use Rattle.em_places.proofs.Parked.{last-minted}
use Rattle.em_places.proofs.Unmoved.{same-handle}
use Rattle.em_places.specs.Parked.{Sits}
use Rattle.em_desk.specs.Acts.{said, pool_acts, queue_acts, AreReady, act_index}
use Rattle.em_desk.specs.Notes.{freed_acts}
use Rattle.em_desk.proofs.Below.{minted-below}

-- what is done to them

pub freed-pools : (ns : List Note) (s : List PoolStep) → moved (map freed_move ns) s ≡ pool_acts (freed_acts ns) s
freed-pools [] s = refl
freed-pools (n ∷ ns) s = freed-pools ns _

pub freed-queues : (ns : List Note) (t : List QueueStep) → t ≡ queue_acts (freed_acts ns) t
freed-queues [] t = refl
freed-queues (n ∷ ns) t = freed-queues ns t

pub freed-said : (ns : List Note) → [] ≡ said (freed_acts ns)
freed-said [] = refl
freed-said (n ∷ ns) = freed-said ns

-- it can be done

record NoteAt (ns : List Note) (i : ℕ) : Type 0 where
  word : ℕ
  among : has (note_words ns) word ≡ true
  index : index_of word ≡ i

note-at : (ns : List Note) (i : ℕ) → has (map act_index (freed_acts ns)) i ≡ true → NoteAt ns i
note-at [] i h = absurd (cc h)
note-at (n ∷ ns) i h = by_test (index_of n.word == i) refl h (note-at ns i)
  where
    by_test : (b : Bool) → (index_of n.word == i) ≡ b → (b || has (map act_index (freed_acts ns)) i) ≡ true → (has (map act_index (freed_acts ns)) i ≡ true → NoteAt ns i)
        → NoteAt (n ∷ ns) i
    by_test true own h later = record { word = n.word; among = rw (eq-eqb n.word n.word refl) refl; index = eqb-eq (index_of n.word) i own }
    by_test false own h later = let t = later h in record { word = t.word; among = or_right (n.word == t.word) (has (note_words ns) t.word) t.among; index = t.index }

abbrev pub OnceEach : List Note → Type 0
OnceEach ns = (h : ℕ) → occ h (note_words ns) ≤ 1

pub once-rest : (n : Note) (ns : List Note) → OnceEach (n ∷ ns) → OnceEach ns
once-rest n ns once h = by_test (n.word == h) (once h)
  where
    by_test : (b : Bool) → (if b then suc (occ h (note_words ns)) else occ h (note_words ns)) ≤ 1 → occ h (note_words ns) ≤ 1
    by_test true le = omega (arith, le)
    by_test false le = le

once-first : (n : Note) (ns : List Note) → OnceEach (n ∷ ns) → has (note_words ns) n.word ≡ true → ⊥
once-first n ns once again =
    let some = has-occ n.word (note_words ns) again in
    let own = eq-eqb n.word n.word refl in
    let most : suc (occ n.word (note_words ns)) ≤ 1 = subst (λ (b : Bool). (if b then suc (occ n.word (note_words ns)) else occ n.word (note_words ns)) ≤ 1) own (once n.word) in
    omega (arith, some, most)

pub note-below : (k : Declarations) (l : Limits) (past : Past) (h : ℕ) (p : Place) → HasSmallIndices k → AllAllowed k l past → Sits k past h p → index_of h < event_total k.pools
note-below k l past h p small all sits =
    let m = last-minted past (index_of h) h sits.last in minted-below k l past small all h m.1.0 m.1.1

-- no two of them are of one event
pub freed-apart : (k : Declarations) (past : Past) (n : Note) (ns : List Note) → AllNoted k past (n ∷ ns) → OnceEach (n ∷ ns) → has (map act_index (freed_acts ns)) (index_of n.word) ≡ false
freed-apart k past n ns noted once = apart (has (map act_index (freed_acts ns)) (index_of n.word)) refl
  where
    own : Sits k past n.word Place.Noted
    own = noted n.word (rw (eq-eqb n.word n.word refl) refl)

    apart : (b : Bool) → has (map act_index (freed_acts ns)) (index_of n.word) ≡ b → has (map act_index (freed_acts ns)) (index_of n.word) ≡ false
    apart false is = is
    apart true is =
        let other = note-at ns (index_of n.word) is in
        let sits = noted other.word (or_right (n.word == other.word) (has (note_words ns) other.word) other.among) in
        let same : other.word ≡ n.word = same-handle k past n.word other.word Place.Noted Place.Noted own sits other.index in
        absurd (once-first n ns once (subst (λ (w : ℕ). has (note_words ns) w ≡ true) same other.among))

pub freed-ready : (k : Declarations) (l : Limits) (past : Past) (t : List QueueStep) (ns : List Note) → HasSmallIndices k → AllAllowed k l past → AllNoted k past ns → OnceEach ns
    → AreReady k (pool_steps k past) t (freed_acts ns)
freed-ready k l past t [] small all noted once = tt
freed-ready k l past t (n ∷ ns) small all noted once = (
  record { moves = (note-below k l past n.word Place.Noted small all own, (can, refl)); enters = tt; says = tt },
  (freed-apart k past n ns noted once, freed-ready k l past t ns small all (λ f there. noted f (or_right (n.word == f) (has (note_words ns) f) there)) (once-rest n ns once)),
)
  where
    own : Sits k past n.word Place.Noted
    own = noted n.word (rw (eq-eqb n.word n.word refl) refl)

    can : can_shift (spot (pool_steps k past) (index_of n.word)) ≡ true
    can = ap can_shift own.spot
