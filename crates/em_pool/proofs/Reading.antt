-- What is read off the values of the pools is what the steps say.
use Rattle.std.proofs.Common.{◌≡◌, ℕ, ◌<◌, ◌≤◌, Bool, true, false, ◌==◌, ◌&&◌, nat_le, Option, Some, None, is_some, List, [], ◌∷◌, length, if◌then◌else◌, arith, refl, ap, sym, ◌∙◌, subst, ⊎_elim}
use Rattle.std.specs.Option.{option_map}
use Rattle.std.proofs.lemmas.Bool.{cases_lt}
use Rattle.std.proofs.lemmas.Bool.{leb-true, le-leb}
use Rattle.std.proofs.lemmas.List.{get_or_past}
use Rattle.em_log.specs.declared.fault.Fault.{Fault}
use Rattle.em_log.specs.History.{handle_of, index_of}
use Rattle.em_log.specs.Handles.{Minting}
use Rattle.em_pool.specs.declared.place.Place.{Place}
use Rattle.em_pool.specs.declared.place.Spent.{Spent as SpentRecord}
use Rattle.em_pool.specs.declared.slot.Slot.{Slot}
use Rattle.em_pool.specs.Steps.{PoolStep, Minted, Spent, Shifted, Lost}
use Rattle.em_pool.specs.Handles.{Spending, minting, spending, last_handle, rule, rule_of}
use Rattle.em_pool.specs.Places.{shift, place_by, place_of}
use Rattle.em_pool.specs.State.{PoolState, fresh, generation_at, place_at, generation_of, is_minted, is_last, spent_in, rule_at, rule_by}
use Rattle.em_pool.specs.Stands.{Stands, spent_of}
use Rattle.em_pool.proofs.Numbers.{bool_cases, from_test, handle-parts, both, and-right, lt-leb_not}

-- the index of a last handle
pub last_handle-index : (s : List PoolStep) (j h : ℕ) → last_handle s j ≡ Some h → index_of h ≡ j
last_handle-index [] j h e = absurd (cc e)
last_handle-index (Minted c e ∷ s) j h is = by_test (index_of e.handle.0 == j) refl (λ got. last_handle-index s j h got) is
  where
    by_test : (b : Bool) → (index_of e.handle.0 == j) ≡ b → (last_handle s j ≡ Some h → index_of h ≡ j)
        → (if b then Some e.handle.0 else last_handle s j) ≡ Some h → index_of h ≡ j
    by_test true t rest got = let same : e.handle.0 ≡ h = cc got in subst (λ k. index_of k ≡ j) same (from_test (index_of e.handle.0) j t)
    by_test false t rest got = rest got
last_handle-index (Spent c w how p ∷ s) j h is = last_handle-index s j h is
last_handle-index (Shifted i to ∷ s) j h is = last_handle-index s j h is
last_handle-index (Lost c p ∷ s) j h is = last_handle-index s j h is

-- a handle of an index that has one is within the pools
pub within_slots : (v : PoolState) (i : ℕ) → 0 < generation_at v i → i < length v.slots
within_slots v i some =
    ⊎_elim (λ lt. lt) (λ past. absurd (let e = ap (λ (s : Slot). s.generation) (get_or_past v.slots i fresh past) in omega arith)) (cases_lt i (length v.slots))

pub record IsMinted (v : PoolState) (h : ℕ) : Type 0 where
  pub some : 1 ≤ generation_of h
  pub up : generation_of h ≤ generation_at v (index_of h)

pub is_minted-parts : (v : PoolState) (h : ℕ) → is_minted v h ≡ true → IsMinted v h
is_minted-parts v h e =
    let parts = both (nat_le 1 (generation_of h)) (nat_le (generation_of h) (generation_at v (index_of h))) e in
    record { some = leb-true 1 (generation_of h) parts.0; up = leb-true (generation_of h) (generation_at v (index_of h)) parts.1 }

pub is_minted-from : (v : PoolState) (h : ℕ) → 1 ≤ generation_of h → generation_of h ≤ generation_at v (index_of h) → is_minted v h ≡ true
is_minted-from v h a b =
    (λ i. le-leb 1 (generation_of h) a i && le-leb (generation_of h) (generation_at v (index_of h)) b i)

pub not_minted-from : (v : PoolState) (h : ℕ) → generation_at v (index_of h) < generation_of h → is_minted v h ≡ false
not_minted-from v h lt =
    and-right (nat_le 1 (generation_of h)) (nat_le (generation_of h) (generation_at v (index_of h)))
    (lt-leb_not (generation_of h) (generation_at v (index_of h)) lt)

pub none_from_map : (o : Option Spending) → option_map spent_of o ≡ None → o ≡ None
none_from_map None e = refl
none_from_map (Some x) e = absurd (cc e)

rule-cases : (c w : ℕ) (m : Option Minting) (sp : Option Spending) (was_minted : Bool) (where_is : Place) (spent : Option SpentRecord)
    → is_some m ≡ was_minted → option_map spent_of sp ≡ (if was_minted then spent else None)
    → ((n : Minting) → m ≡ Some n → sp ≡ None → where_is ≡ Place.Held (record { 0 = n.core }))
    → (if was_minted then rule_by c where_is spent else Some (Fault.NeverMinted w)) ≡ rule_of c w m sp
rule-cases c w None sp true where_is spent e f held = absurd (cc e)
rule-cases c w None sp false where_is spent e f held = refl
rule-cases c w (Some m) sp false where_is spent e f held = absurd (cc e)
rule-cases c w (Some m) None true where_is spent e f held =
    (λ i. rule_by c where_is (sym f i)) ∙ ap (λ p. rule_by c p None) (held m refl refl)
rule-cases c w (Some m) (Some s) true where_is spent e f held = ap (λ o. rule_by c where_is o) (sym f)

module _ {v : PoolState} {s : List PoolStep} (stands : Stands v s) where
  -- the last handle of an index, told by its parts
  pub last-is : (h : ℕ) → is_minted v h ≡ true → is_last v h ≡ true → last_handle s (index_of h) ≡ Some h
  last-is h minted last =
      let g = from_test (generation_of h) (generation_at v (index_of h)) last in
      let some = le-leb 1 (generation_at v (index_of h)) (let m = is_minted-parts v h minted in let a = m.some in omega arith) in
      stands.last (index_of h)
      ∙ (ap (λ b. if b then Some (handle_of (generation_at v (index_of h)) (index_of h)) else None) some
      ∙ ap Some (ap (λ n. handle_of n (index_of h)) (sym g) ∙ handle-parts h))

  -- a handle that was minted and not spent is the last of its index
  pub unspent-last : (h : ℕ) → is_minted v h ≡ true → spending s h ≡ None → is_last v h ≡ true
  unspent-last h minted none =
      ⊎_elim (λ t. t) (λ f. absurd (let some = stands.outlived h minted f in let no : is_some (spending s h) ≡ false = ap is_some none in cc)) (bool_cases (is_last v h))

  -- and its core holds its event
  pub unspent-place : (h : ℕ) (m : Minting) → minting s h ≡ Some m → spending s h ≡ None
      → place_at v (index_of h) ≡ Place.Held (record { 0 = m.core })
  unspent-place h m is none =
      let minted : is_minted v h ≡ true = sym (stands.minted h) ∙ ap is_some is in
      let last = last-is h minted (unspent-last h minted none) in
      stands.places (index_of h)
      ∙ (ap (place_by s (index_of h)) last ∙ ((λ i. place_of (is i) (spending s h) (shift s (index_of h))) ∙ ap (λ o. place_of (Some m) o (shift s (index_of h))) none))

  pub rule_at-rule : (c w : ℕ) → rule_at v c w ≡ rule s c w
  rule_at-rule c w =
      rule-cases c w (minting s w) (spending s w) (is_minted v w) (place_at v (index_of w)) (spent_in v w) (stands.minted w) (stands.spent w)
      (unspent-place w)

usable-cases : (b : Bool) (o : Option Fault) (w : ℕ) → (if b then o else Some (Fault.NeverMinted w)) ≡ None → b ≡ true
usable-cases true o w e = refl
usable-cases false o w e = absurd (cc e)

-- a word that may be used is a handle of an event of the pools
pub usable-minted : (v : PoolState) (c w : ℕ) → rule_at v c w ≡ None → is_minted v w ≡ true
usable-minted v c w e = usable-cases (is_minted v w) (rule_by c (place_at v (index_of w)) (spent_in v w)) w e

pub minted-within : (v : PoolState) (w : ℕ) → is_minted v w ≡ true → index_of w < length v.slots
minted-within v w e = within_slots v (index_of w) (let m = is_minted-parts v w e in let a = m.some in let b = m.up in omega arith)
