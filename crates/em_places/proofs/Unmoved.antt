-- What it is to sit, and entries that touch no parked handle.
use Rattle.std.proofs.Common.{◌≡◌, ◌≢◌, ℕ, ◌+◌, ◌==◌, Bool, true, false, ◌∷◌, Option, Some, None, refl, sym, ◌∙◌, subst, ap, if◌then◌else◌, arith}
use Rattle.std.proofs.lemmas.Bool.{eq-eqb, false_from_ne_true}
use Rattle.std.proofs.lemmas.Nat.{mod-mul-add}
use Rattle.em_log.specs.declared.declarations.Declarations.{Declarations}
use Rattle.em_log.specs.declared.entry.Event.{Event}
use Rattle.em_log.specs.declared.entry.What.{What}
use Rattle.em_log.specs.History.{Past, entry_by, index_of}
use Rattle.em_log.specs.Declarations.{kind_of, is_local}
use Rattle.em_log.specs.Handles.{Minting, minting, last_handle, next_handle, generation, spending}
use Rattle.em_log.specs.Order.{Ticket, enters}
use Rattle.em_log.specs.Arrivals.{is_for}
use Rattle.em_moments.proofs.Asked.{and-true}
use Rattle.em_pool.specs.declared.place.Place.{Place}
use Rattle.em_laws.proofs.Cores.{Compared, Same, Other, compared, eqb-eq, some-inj}
use Rattle.em_laws.proofs.Tickets.{enters-grow}
use Rattle.em_parts.specs.PoolSteps.{pool_steps}
use Rattle.em_pool.specs.Spots.{spot}
use Rattle.em_places.specs.Parked.{Parked, InContext, Sits, AllSit}

pub record Still (k : Declarations) (past : Past) (d : ℕ) (w : What) (i : ℕ) : Type 0 where
  pub last : last_handle (entry_by d w ∷ past) i ≡ last_handle past i
  pub spot : spot (pool_steps k (entry_by d w ∷ past)) i ≡ spot (pool_steps k past) i

pub stays : (k : Declarations) (past : Past) (d : ℕ) (w : What) (h : ℕ) (p : Place) → Still k past d w (index_of h) → Sits k past h p → Sits k (entry_by d w ∷ past) h p
stays k past d w h p still s = record { last = still.last ∙ s.last; spot = still.spot ∙ s.spot }

pub same-handle : (k : Declarations) (past : Past) (h f : ℕ) (p r : Place) → Sits k past h p → Sits k past f r → index_of f ≡ index_of h → f ≡ h
same-handle k past h f p r s t e = some-inj f h (sym t.last ∙ (ap (last_handle past) e ∙ s.last))

pub same-place : (k : Declarations) (past : Past) (h f : ℕ) (p r : Place) → Sits k past h p → Sits k past f r → index_of f ≡ index_of h → r ≡ p
same-place k past h f p r s t e = sym t.spot ∙ (ap (spot (pool_steps k past)) e ∙ s.spot)

-- an entry that moves, mints and spends nothing
pub silent : (k : Declarations) (past : Past) (d : ℕ) (w : What) → ((i : ℕ) → Still k past d w i)
    → ((h : ℕ) (p : Place) → Parked k (entry_by d w ∷ past) h p → Parked k past h p) → AllSit k past → AllSit k (entry_by d w ∷ past)
silent k past d w still back older h p parked = stays k past d w h p (still (index_of h)) (older h p (back h p parked))

-- mintings

pub record MintSits (k : Declarations) (past : Past) (d : ℕ) (e : Event) (h : ℕ) (p : Place) : Type 0 where
  pub last : (if index_of e.handle.0 == index_of h then Some e.handle.0 else last_handle past (index_of h)) ≡ Some h
  pub spot : (if index_of e.handle.0 == index_of h then Place.Held (record { 0 = d }) else spot (pool_steps k past) (index_of h)) ≡ p

pub mint-new : (k : Declarations) (past : Past) (d : ℕ) (e : Event) (h : ℕ) → e.handle.0 ≡ h → MintSits k past d e h (Place.Held (record { 0 = d }))
mint-new k past d e h is =
    let own : (index_of e.handle.0 == index_of h) ≡ true = eq-eqb _ _ (ap index_of is) in
    record { last = rw own (ap (λ (i : ℕ). Some i) is); spot = rw own refl }

pub mint-keeps : (k : Declarations) (past : Past) (d : ℕ) (e : Event) (h : ℕ) (p : Place) → Sits k past h p → (index_of e.handle.0 ≡ index_of h → ⊥) → MintSits k past d e h p
mint-keeps k past d e h p s apart = by_test (compared (index_of e.handle.0) (index_of h))
  where
    by_test : Compared (index_of e.handle.0) (index_of h) → MintSits k past d e h p
    by_test (Same t is) = absurd (apart is)
    by_test (Other f ne) = record { last = rw f s.last; spot = rw f s.spot }

-- what a minting of an event that sat in src leaves
pub mint-aside : (k : Declarations) (past : Past) (d : ℕ) (e : Event) (src : Place) → spot (pool_steps k past) (index_of e.handle.0) ≡ src
    → (h : ℕ) (p : Place) → Sits k past h p → p ≢ src → MintSits k past d e h p
mint-aside k past d e src at h p s other = mint-keeps k past d e h p s (λ is. other (sym s.spot ∙ (ap (spot (pool_steps k past)) (sym is) ∙ at)))

pub mint-context : (k : Declarations) (past : Past) (d : ℕ) (e : Event) (h : ℕ) (p : Place) (m : Minting) → AllSit k past
    → (if e.handle.0 == h then Some (record { core = d; event = e }) else minting past h) ≡ Some m → spending past h ≡ None → p ≡ Place.Held (record { 0 = m.core })
    → ((f : ℕ) (r : Place) → Sits k past f r → r ≡ Place.Held (record { 0 = m.core }) → MintSits k past d e f r) → MintSits k past d e h p
mint-context k past d e h p m older minted unspent is keeps = by_test (compared e.handle.0 h)
  where
    by_test : Compared e.handle.0 h → MintSits k past d e h p
    by_test (Same t same) =
        let whole : record { core = d; event = e } ≡ m = some-inj _ _ (rw t at minted) in
        let mine : Place.Held (record { 0 = d }) ≡ p = ap (λ (v : Minting). Place.Held (record { 0 = v.core })) whole ∙ sym is in
        subst (MintSits k past d e h) mine (mint-new k past d e h same)
    by_test (Other f ne) = keeps h p (older h p (InContext m (rw f at minted) unspent is)) is

pub next-index : (past : Past) (f : ℕ) → index_of (next_handle past (index_of f)) ≡ index_of f
next-index past f = mod-mul-add (generation past (index_of f) + 1) 65536 (index_of f) (omega arith)

-- lists of one queue
pub apart-lists : (k : Declarations) (q d c s b : ℕ) → is_for k q c q d ≡ false → is_for k q d s b ≡ true → is_for k q c s b ≡ true → ⊥
apart-lists k q d c s b none one two = by_kind (is_local (kind_of k q)) refl
  where
    own : (q == q) ≡ true
    own = eq-eqb q q refl

    by_kind : (v : Bool) → is_local (kind_of k q) ≡ v → ⊥
    by_kind false is = absurd (cc (rw (is, own) at none))
    by_kind true is =
        let here : (b == d) ≡ true = rw is at (and-true (s == q) _ one).1 in
        let there : (b == c) ≡ true = rw is at (and-true (s == q) _ two).1 in
        let same : d ≡ c = sym (eqb-eq b d here) ∙ eqb-eq b c there in
        let off : (d == c) ≡ false = rw (is, own) at none in
        absurd (cc (off, eq-eqb d c same))

-- places of one kind

abbrev pub place_number : Place → ℕ
place_number (Place.Held c) = c.0
place_number (Place.Kept x) = x.0
place_number (Place.Waiting q) = q.0
place_number (Place.Taken c) = c.0
place_number (Place.Delayed q) = q.0
place_number p = 0

pub taken-inj : (a b : ℕ) → Place.Taken (record { 0 = a }) ≡ Place.Taken (record { 0 = b }) → a ≡ b
taken-inj a b e = ap place_number e

pub waiting-inj : (a b : ℕ) → Place.Waiting (record { 0 = a }) ≡ Place.Waiting (record { 0 = b }) → a ≡ b
waiting-inj a b e = ap place_number e

pub delayed-inj : (a b : ℕ) → Place.Delayed (record { 0 = a }) ≡ Place.Delayed (record { 0 = b }) → a ≡ b
delayed-inj a b e = ap place_number e

pub kept-inj : (a b : ℕ) → Place.Kept (record { 0 = a }) ≡ Place.Kept (record { 0 = b }) → a ≡ b
kept-inj a b e = ap place_number e

-- what is held back now was held back before
pub not-before : (past : Past) (d : ℕ) (w : What) (o : Option Ticket) → enters (entry_by d w ∷ past) o ≡ false → enters past o ≡ false
not-before past d w o off = false_from_ne_true _ (λ on. absurd (cc (off, enters-grow past d w o on)))
