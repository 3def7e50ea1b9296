-- What has entered a queue is the event of the minting of its handle, and the index of a minted handle is one of the pools'.
use Rattle.std.proofs.Common.{◌≡◌, ℕ, zero, suc, Bool, true, false, [], ◌∷◌, ◌++◌, List, drop, Option, Some, None, refl, sym, subst, if◌then◌else◌}
use Rattle.std.specs.List.{AllByRecursion}
use Rattle.em_log.specs.declared.declarations.Declarations.{Declarations}
use Rattle.em_log.specs.declared.entry.Entry.{Entry}
use Rattle.em_log.specs.declared.entry.Event.{Event}
use Rattle.em_log.specs.declared.ids.Limits.{Limits}
use Rattle.em_log.specs.declared.ids.Stamp.{Stamp}
use Rattle.em_log.specs.History.{Past, minted_in, has}
use Rattle.em_log.specs.Handles.{Minting, minting, minting_by}
use Rattle.em_log.specs.Order.{Sent}
use Rattle.em_log.specs.Arrivals.{Item, item, item_of, arrivals, entering, is_for}
use Rattle.em_log.specs.Lawful.{AllAllowed}
use Rattle.em_log.specs.Laws.{AreDifferent}
use Rattle.em_laws.specs.Minted.{with_handle, minted, HasSmallIndices}
use Rattle.em_laws.proofs.Cores.{Compared, Same, Other, compared}
use Rattle.em_laws.proofs.Fresh.{minted-once}
use Rattle.em_arrivals.proofs.Lists.{came, with-came}

-- the item is made of its handle's minting
pub record IsMade (past : Past) (x : Item) : Type 0 where
  pub minter : Minting
  pub minting : minting past x.handle ≡ Some minter
  pub kind : minter.event.kind ≡ x.kind
  pub words : minter.event.words ≡ x.words

abbrev pub AllMade : Past → List Item → Type 0
AllMade past xs = AllByRecursion (IsMade past) xs

-- a minted handle is among the minted ones
minted-has : (past : Past) (h : ℕ) (m : Minting) → minting past h ≡ Some m → has (minted past) h ≡ true
minted-has [] h m is = absurd (cc is)
minted-has (e ∷ past) h m is = by_mint (minted_in e.what) is (minted-has past h m)
  where
    by_mint : (o : Option Event) → minting_by h e.core.0 o (minting past h) ≡ Some m → (minting past h ≡ Some m → has (minted past) h ≡ true) → has (with_handle o (minted past)) h ≡ true
    by_mint None is older = older is
    by_mint (Some v) is older = by_test (compared v.handle.0 h)
      where
        by_test : Compared v.handle.0 h → has (v.handle.0 ∷ minted past) h ≡ true
        by_test (Same t e) = rw t refl
        by_test (Other f e) = rw f (older (rw f at is))

-- and keeps its minting
pub minting-stays : (k : Declarations) (l : Limits) (past : Past) (e : Entry) (h : ℕ) (m : Minting) → HasSmallIndices k → AllAllowed k l (e ∷ past) → minting past h ≡ Some m
    → minting (e ∷ past) h ≡ Some m
minting-stays k l past e h m small all is = by_mint (minted_in e.what) (minted-once k l (e ∷ past) small all)
  where
    by_mint : (o : Option Event) → AreDifferent (with_handle o (minted past)) → minting_by h e.core.0 o (minting past h) ≡ Some m
    by_mint None apart = is
    by_mint (Some v) apart = by_test (compared v.handle.0 h)
      where
        by_test : Compared v.handle.0 h → minting_by h e.core.0 (Some v) (minting past h) ≡ Some m
        by_test (Same t same) =
            let there : has (minted past) v.handle.0 ≡ true = subst (λ (x : ℕ). has (minted past) x ≡ true) (sym same) (minted-has past h m is) in
            absurd (cc (there, apart.0))
        by_test (Other f same) = rw f is

stays-made : (k : Declarations) (l : Limits) (past : Past) (e : Entry) (x : Item) → HasSmallIndices k → AllAllowed k l (e ∷ past) → IsMade past x → IsMade (e ∷ past) x
stays-made k l past e x small all m =
    record { minter = m.minter; minting = minting-stays k l past e x.handle m.minter small all m.minting; kind = m.kind; words = m.words }

all-stay : (k : Declarations) (l : Limits) (past : Past) (e : Entry) (xs : List Item) → HasSmallIndices k → AllAllowed k l (e ∷ past) → AllMade past xs → AllMade (e ∷ past) xs
all-stay k l past e [] small all made = tt
all-stay k l past e (x ∷ xs) small all made = (stays-made k l past e x small all made.0, all-stay k l past e xs small all made.1)

both-made : (past : Past) (xs ys : List Item) → AllMade past xs → AllMade past ys → AllMade past (xs ++ ys)
both-made past [] ys a b = b
both-made past (x ∷ xs) ys a b = (a.0, both-made past xs ys a.1 b)

item-made : (past : Past) (h : ℕ) (st : Option Stamp) (o : Option Minting) → minting past h ≡ o → AllMade past (item_of h st o)
item-made past h st None is = tt
item-made past h st (Some m) is = (record { minter = m; minting = is; kind = refl; words = refl }, tt)

came-made : (k : Declarations) (past : Past) (q c : ℕ) (ss : List Sent) → AllMade past (came k past q c ss)
came-made k past q c [] = tt
came-made k past q c (s ∷ ss) = both-made past _ (came k past q c ss) (by_list (is_for k q c s.queue s.core)) (came-made k past q c ss)
  where
    by_list : (b : Bool) → AllMade past (if b then item past s else [])
    by_list true = item-made past s.handle s.stamp (minting past s.handle) refl
    by_list false = tt

pub made : (k : Declarations) (l : Limits) (past : Past) → HasSmallIndices k → AllAllowed k l past → (q c : ℕ) → AllMade past (arrivals k past q c)
made k l [] small all q c = tt
made k l (e ∷ past) small all q c =
    all-stay k l past e (arrivals k (e ∷ past) q c) small all
    (subst (AllMade past) (sym (with-came k past q c (arrivals k past q c) (entering k past e)))
    (both-made past (arrivals k past q c) (came k past q c (entering k past e)) (made k l past small all.1 q c) (came-made k past q c (entering k past e))))

pub drop-made : (past : Past) (n : ℕ) (xs : List Item) → AllMade past xs → AllMade past (drop n xs)
drop-made past zero xs a = a
drop-made past (suc n) [] a = tt
drop-made past (suc n) (x ∷ xs) a = drop-made past n xs a.1
