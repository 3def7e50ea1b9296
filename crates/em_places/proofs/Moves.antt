-- Which indices an entry moves.
use Rattle.std.proofs.Common.{◌≡◌, ℕ, ◌==◌, Bool, true, false, ◌||◌, List, [], ◌∷◌, map, refl, ◌∙◌, ap, if◌then◌else◌}
use Rattle.std.proofs.lemmas.Bool.{or_left, or_right}
use Rattle.std.proofs.lemmas.Bool.{eq-eqb}
use Rattle.em_log.specs.declared.declarations.Declarations.{Declarations}
use Rattle.em_log.specs.History.{Past, index_of}
use Rattle.em_log.specs.Handles.{minting}
use Rattle.em_log.specs.Order.{Sent}
use Rattle.em_log.specs.Arrivals.{Item, item, is_for}
use Rattle.em_log.specs.Places.{has_item}
use Rattle.em_pool.specs.declared.place.Place.{Place}
use Rattle.em_pool.specs.Steps.{PoolStep, Shifted}
use Rattle.em_laws.proofs.Cores.{Compared, Same, Other, compared, eqb-eq}
use Rattle.em_parts.specs.PoolSteps.{Move, moved, item_move, sent_move}
use Rattle.em_pool.specs.Spots.{spot}
use Rattle.em_arrivals.proofs.Lists.{AllSent, item-handle, InEither, InFirst, InSecond, in-either, came}

abbrev pub touches : List Move → ℕ → Bool
touches [] i = false
touches (m ∷ ms) i = (m.index == i) || touches ms i

-- all moves of this index go there
abbrev pub AllTo : List Move → ℕ → Place → Type 0
AllTo [] i t = Unit {0}
AllTo (m ∷ ms) i t = ((m.index == i) ≡ true → m.to ≡ t) × AllTo ms i t

pub untouched : (ms : List Move) (steps : List PoolStep) (i : ℕ) → touches ms i ≡ false → spot (moved ms steps) i ≡ spot steps i
untouched [] steps i none = refl
untouched (m ∷ ms) steps i none = by_test (m.index == i) refl none (untouched ms (Shifted m.index m.to ∷ steps) i)
  where
    by_test : (b : Bool) → (m.index == i) ≡ b → (b || touches ms i) ≡ false
        → (touches ms i ≡ false → spot (moved ms (Shifted m.index m.to ∷ steps)) i ≡ (if m.index == i then m.to else spot steps i))
        → spot (moved ms (Shifted m.index m.to ∷ steps)) i ≡ spot steps i
    by_test true is none later = absurd cc
    by_test false is none later = later none ∙ (rw is refl)

pub moved-to : (ms : List Move) (steps : List PoolStep) (i : ℕ) (t : Place) → AllTo ms i t → touches ms i ≡ true → spot (moved ms steps) i ≡ t
moved-to [] steps i t to some = absurd cc
moved-to (m ∷ ms) steps i t to some =
    by_rest (touches ms i) refl some (moved-to ms (Shifted m.index m.to ∷ steps) i t to.1) (untouched ms (Shifted m.index m.to ∷ steps) i)
  where
    here : (b : Bool) → (m.index == i) ≡ b → (b || false) ≡ true → (if m.index == i then m.to else spot steps i) ≡ t
    here true is h = rw is (to.0 is)
    here false is h = absurd cc

    by_rest : (b : Bool) → touches ms i ≡ b → ((m.index == i) || b) ≡ true → (touches ms i ≡ true → spot (moved ms (Shifted m.index m.to ∷ steps)) i ≡ t)
        → (touches ms i ≡ false → spot (moved ms (Shifted m.index m.to ∷ steps)) i ≡ (if m.index == i then m.to else spot steps i))
        → spot (moved ms (Shifted m.index m.to ∷ steps)) i ≡ t
    by_rest true is some later none = later is
    by_rest false is some later none = none is ∙ here (m.index == i) refl some

-- items

pub items-to : (to : Place) (xs : List Item) (i : ℕ) → AllTo (map (item_move to) xs) i to
items-to to [] i = tt
items-to to (x ∷ xs) i = (λ is. refl, items-to to xs i)

pub record TouchedItem (xs : List Item) (i : ℕ) : Type 0 where
  pub handle : ℕ
  pub among : has_item xs handle ≡ true
  pub index : index_of handle ≡ i

pub touched-item : (to : Place) (xs : List Item) (i : ℕ) → touches (map (item_move to) xs) i ≡ true → TouchedItem xs i
touched-item to [] i is = absurd cc
touched-item to (x ∷ xs) i is = by_test (index_of x.handle == i) refl is (touched-item to xs i)
  where
    by_test : (b : Bool) → (index_of x.handle == i) ≡ b → (b || touches (map (item_move to) xs) i) ≡ true → (touches (map (item_move to) xs) i ≡ true → TouchedItem xs i) → TouchedItem (x ∷ xs) i
    by_test true own is later = record { handle = x.handle; among = rw (eq-eqb x.handle x.handle refl) refl; index = eqb-eq _ i own }
    by_test false own is later = let t = later is in record { handle = t.handle; among = or_right (x.handle == t.handle) _ t.among; index = t.index }

pub item-touched : (to : Place) (xs : List Item) (h : ℕ) → has_item xs h ≡ true → touches (map (item_move to) xs) (index_of h) ≡ true
item-touched to [] h is = absurd cc
item-touched to (x ∷ xs) h is = by_test (compared x.handle h) is (item-touched to xs h)
  where
    by_test : Compared x.handle h → has_item (x ∷ xs) h ≡ true → (has_item xs h ≡ true → touches (map (item_move to) xs) (index_of h) ≡ true) → touches (map (item_move to) (x ∷ xs)) (index_of h) ≡ true
    by_test (Same t e) is later = let own = eq-eqb (index_of x.handle) (index_of h) (ap index_of e) in rw own refl
    by_test (Other f e) is later = or_right (index_of x.handle == index_of h) _ (later (rw f at is))

-- what goes to queues

pub record TouchedSent (P : Sent → Type 0) (i : ℕ) : Type 0 where
  pub sent : Sent
  pub holds : P sent
  pub index : index_of sent.handle ≡ i

pub touched-sent : (k : Declarations) (P : Sent → Type 0) (ss : List Sent) (i : ℕ) → AllSent P ss → touches (map (sent_move k) ss) i ≡ true → TouchedSent P i
touched-sent k P [] i a is = absurd cc
touched-sent k P (s ∷ ss) i a is = by_test (index_of s.handle == i) refl is (touched-sent k P ss i a.1)
  where
    by_test : (b : Bool) → (index_of s.handle == i) ≡ b → (b || touches (map (sent_move k) ss) i) ≡ true → (touches (map (sent_move k) ss) i ≡ true → TouchedSent P i) → TouchedSent P i
    by_test true own is later = record { sent = s; holds = a.0; index = eqb-eq _ i own }
    by_test false own is later = later is

pub sents-to : (k : Declarations) (ss : List Sent) (i : ℕ) (t : Place) → AllSent (λ s. index_of s.handle ≡ i → (sent_move k s).to ≡ t) ss → AllTo (map (sent_move k) ss) i t
sents-to k [] i t a = tt
sents-to k (s ∷ ss) i t a = (λ is. a.0 (eqb-eq _ i is), sents-to k ss i t a.1)

-- what came to a list was sent there, and moved
pub record CameSent (k : Declarations) (P : Sent → Type 0) (ss : List Sent) (q c h : ℕ) : Type 0 where
  pub sent : Sent
  pub holds : P sent
  pub handle : sent.handle ≡ h
  pub list : is_for k q c sent.queue sent.core ≡ true
  pub touched : touches (map (sent_move k) ss) (index_of h) ≡ true

pub came-sent : (k : Declarations) (past : Past) (P : Sent → Type 0) (ss : List Sent) (q c h : ℕ) → AllSent P ss → has_item (came k past q c ss) h ≡ true → CameSent k P ss q c h
came-sent k past P [] q c h a is = absurd cc
came-sent k past P (s ∷ ss) q c h a is = by_either (in-either h (if is_for k q c s.queue s.core then item past s else []) (came k past q c ss) is) (came-sent k past P ss q c h a.1)
  where
    later : CameSent k P ss q c h → CameSent k P (s ∷ ss) q c h
    later t = record { sent = t.sent; holds = t.holds; handle = t.handle; list = t.list; touched = or_right (index_of s.handle == index_of h) _ t.touched }

    by_for : (b : Bool) → is_for k q c s.queue s.core ≡ b → has_item (if b then item past s else []) h ≡ true → CameSent k P (s ∷ ss) q c h
    by_for false own is = absurd cc
    by_for true own is =
        let e : s.handle ≡ h = item-handle h s.handle s.stamp (minting past s.handle) is in
        record { sent = s; holds = a.0; handle = e; list = own; touched = or_left _ _ (eq-eqb (index_of s.handle) (index_of h) (ap index_of e)) }

    by_either : InEither h (if is_for k q c s.queue s.core then item past s else []) (came k past q c ss) → (has_item (came k past q c ss) h ≡ true → CameSent k P ss q c h) → CameSent k P (s ∷ ss) q c h
    by_either (InFirst f) rest = by_for (is_for k q c s.queue s.core) refl f
    by_either (InSecond f) rest = later (rest f)
