-- What each call does to lists of events, as its callers see them.
use Rattle.std.proofs.Common.{◌≡◌, ◌≢◌, ℕ, zero, suc, ◌+◌, ◌-◌, ◌<◌, ◌≤◌, true, false, List, [], ◌∷◌, ◌++◌, length, map, get_or, set, take, drop, Some, None, arith, refl, ap, sym, ◌∙◌, subst}
use Rattle.std.specs.Prelude.{slice_get}
use Rattle.std.proofs.lemmas.List.{get_or_read}
use Rattle.em_queues.specs.declared.event_lists.ListEnds.{ListEnds}
use Rattle.em_queues.specs.Events.{EventState, list_in}
use Rattle.em_queues.specs.Links.{event_at, no_ends, events_of, is_linked, all_events, AreLinked}
use Rattle.em_queues.proofs.Chains.{chain-event, length-chain}
use Rattle.em_queues.proofs.EventCalls.{AreMade, list-is, count-few, item-there, last-there, pushed-first, pushed-behind, removed, moved-first, moved-alone, moved-before}

pub slice-at : (xs : List ℕ) (k x : ℕ) → k < length xs → get_or xs k 0 ≡ x → slice_get xs k ≡ Some x
slice-at [] k x lt e = absurd (omega arith)
slice-at (y ∷ ys) zero x lt e = ap Some e
slice-at (y ∷ ys) (suc k) x lt e = slice-at ys k x (omega arith) e

pub slice-past : (xs : List ℕ) (k : ℕ) → length xs ≤ k → slice_get xs k ≡ None
slice-past [] k le = refl
slice-past (y ∷ ys) zero le = absurd (omega arith)
slice-past (y ∷ ys) (suc k) le = slice-past ys k (omega arith)

-- a list that has a first element
pub slice-some : (xs : List ℕ) (x : ℕ) → slice_get xs 0 ≡ Some x → 0 < length xs
slice-some [] x e = absurd (cc e)
slice-some (y ∷ ys) x e = omega arith

pub slice-first : (xs : List ℕ) (x : ℕ) → slice_get xs 0 ≡ Some x → get_or xs 0 0 ≡ x
slice-first [] x e = absurd (cc e)
slice-first (y ∷ ys) x e = cc e

module _ {ends : List ListEnds} {next : List ℕ} (linked : AreLinked ends next) {v : EventState} (view : record { lists = all_events ends next; listed = map is_linked next } ≡ v)
    (l : ℕ) (lt : l < length v.lists) (e : ListEnds) (read : e ≡ get_or ends l e) where
  there : l < length (all_events ends next)
  there = subst (λ (w : EventState). l < length w.lists) (sym view) lt

  pub seen-list : list_in v.lists l ≡ events_of next e
  seen-list = subst (λ (w : EventState). list_in w.lists l ≡ events_of next e) view (list-is linked l there e read)

  pub seen-count : e.count ≡ length (list_in v.lists l)
  seen-count = sym (ap (λ (xs : List ℕ). length xs) seen-list ∙ length-chain next e.first e.count)

  pub seen-few : e.count ≤ 4096
  seen-few = count-few linked l there e read

  -- the event of number k in the list
  pub seen-there : (k : ℕ) → k < e.count → event_at next e.first k < length next
  seen-there k lt = item-there linked l there e read k lt

  pub seen-event : (k : ℕ) → k < e.count → slice_get (list_in v.lists l) k ≡ Some (event_at next e.first k)
  seen-event k less =
      let long = seen-count in
      slice-at (list_in v.lists l) k (event_at next e.first k) (omega arith) (ap (λ xs. get_or xs k 0) seen-list ∙ chain-event next e.first e.count k less)

  pub seen-past : (k : ℕ) → e.count ≤ k → slice_get (list_in v.lists l) k ≡ None
  seen-past k le = let long = seen-count in slice-past (list_in v.lists l) k (omega arith)

  pub seen-last : e.count ≢ 0 → e.last < length next
  seen-last some = last-there linked l there e read (e.count - 1) (omega arith)

  -- an event that is in no list comes to the end of this one
  module _ (i at : ℕ) (free : get_or v.listed i true ≡ false) (at_is : at ≡ i) where
    is_free : get_or (map is_linked next) i true ≡ false
    is_free = subst (λ (w : EventState). get_or w.listed i true ≡ false) (sym view) free

    abbrev only : ListEnds
    only = record { first = i; last = i; count = 1 }

    abbrev grown : ListEnds
    grown = record { first = e.first; last = i; count = e.count + 1 }

    pub seen-first : e.count ≡ 0 → AreMade (set ends l only) (set next at 0) (set v.lists l (list_in v.lists l ++ i ∷ [])) (set v.listed i true)
    seen-first none =
        subst (λ (w : EventState). AreMade (set ends l only) (set next at 0) (set w.lists l (list_in w.lists l ++ i ∷ [])) (set w.listed i true)) view
        (subst (λ k. AreMade (set ends l only) (set next k 0) (set (all_events ends next) l (list_in (all_events ends next) l ++ i ∷ [])) (set (map is_linked next) i true))
        (sym at_is) (pushed-first linked l there e read i is_free none))

    pub seen-behind : (last : ℕ) → last ≡ e.last → e.count ≢ 0
        → AreMade (set ends l grown) (set (set next at 0) last i) (set v.lists l (list_in v.lists l ++ i ∷ [])) (set v.listed i true)
    seen-behind last last_is some =
        subst (λ (w : EventState). AreMade (set ends l grown) (set (set next at 0) last i) (set w.lists l (list_in w.lists l ++ i ∷ [])) (set w.listed i true)) view
        (subst (λ k. AreMade (set ends l grown) (set (set next at 0) k i) (set (all_events ends next) l (list_in (all_events ends next) l ++ i ∷ [])) (set (map is_linked next) i true))
        (sym last_is)
        (subst (λ k. AreMade (set ends l grown) (set (set next k 0) e.last i) (set (all_events ends next) l (list_in (all_events ends next) l ++ i ∷ [])) (set (map is_linked next) i true))
        (sym at_is) (pushed-behind linked l there e read i is_free (e.count - 1) (omega arith))))

  -- the first event leaves, after which comes this one
  pub seen-removed : (at after : ℕ) → at ≡ e.first → after ≡ get_or next at after → 0 < e.count
      → AreMade (set ends l (record { first = after; last = e.last; count = e.count - 1 })) (set next at 65535) (set v.lists l (drop 1 (list_in v.lists l)))
      (set v.listed (get_or (list_in v.lists l) 0 0) false)
  seen-removed at after at_is read_after some =
      subst (λ (w : EventState). AreMade (set ends l (record { first = after; last = e.last; count = e.count - 1 })) (set next at 65535) (set w.lists l (drop 1 (list_in w.lists l)))
      (set w.listed (get_or (list_in w.lists l) 0 0) false)) view
      (subst (λ k. AreMade (set ends l (record { first = after; last = e.last; count = e.count - 1 })) (set next k 65535)
      (set (all_events ends next) l (drop 1 (list_in (all_events ends next) l))) (set (map is_linked next) (get_or (list_in (all_events ends next) l) 0 0) false))
      (sym at_is)
      (subst (λ k. AreMade (set ends l (record { first = k; last = e.last; count = e.count - 1 })) (set next e.first 65535)
      (set (all_events ends next) l (drop 1 (list_in (all_events ends next) l))) (set (map is_linked next) (get_or (list_in (all_events ends next) l) 0 0) false))
      (sym (get_or_read next at after (let lt = seen-there 0 some in omega arith) read_after 0 ∙ ap (λ k. get_or next k 0) at_is))
      (removed linked l there e read (e.count - 1) (omega arith))))

  -- events go to another list
  module _ (k : ℕ) (k_lt : k < length v.lists) (ne : k ≢ l) where
    k_there : k < length (all_events ends next)
    k_there = subst (λ (w : EventState). k < length w.lists) (sym view) k_lt

    pub seen-parted : (n last rest : ℕ) → n ≤ e.count → ((m : ℕ) → n ≡ suc m → last ≡ event_at next e.first m) → rest ≡ event_at next e.first n → list_in v.lists k ≡ []
        → AreMade (set (set ends l (record { first = rest; last = e.last; count = e.count - n })) k (record { first = e.first; last = last; count = n })) next
        (set (set v.lists l (drop n (list_in v.lists l))) k (take n (list_in v.lists l))) v.listed
    seen-parted n last rest le last_at rest_at empty =
        subst (λ (w : EventState). AreMade (set (set ends l (record { first = rest; last = e.last; count = e.count - n })) k (record { first = e.first; last = last; count = n })) next
        (set (set w.lists l (drop n (list_in w.lists l))) k (take n (list_in w.lists l))) w.listed) view
        (moved-first linked l there e read k ne k_there n last rest le last_at rest_at (subst (λ (w : EventState). list_in w.lists k ≡ []) (sym view) empty))

    module _ (f : ListEnds) (f_read : f ≡ get_or ends k f) where
      pub seen-alone : f.count ≡ 0 → AreMade (set (set ends l no_ends) k e) next (set (set v.lists l []) k (list_in v.lists l ++ list_in v.lists k)) v.listed
      seen-alone none =
          subst (λ (w : EventState). AreMade (set (set ends l no_ends) k e) next (set (set w.lists l []) k (list_in w.lists l ++ list_in w.lists k)) w.listed) view
          (moved-alone linked l there e read k ne k_there f f_read none)

      abbrev joined : ListEnds
      joined = record { first = e.first; last = f.last; count = e.count + f.count }

      pub seen-before : (at : ℕ) → at ≡ e.last → e.count ≢ 0 → f.count ≢ 0
          → AreMade (set (set ends l no_ends) k joined) (set next at f.first) (set (set v.lists l []) k (list_in v.lists l ++ list_in v.lists k)) v.listed
      seen-before at at_is some others =
          subst (λ (w : EventState). AreMade (set (set ends l no_ends) k joined) (set next at f.first) (set (set w.lists l []) k (list_in w.lists l ++ list_in w.lists k)) w.listed) view
          (subst (λ x. AreMade (set (set ends l no_ends) k joined) (set next x f.first) (set (set (all_events ends next) l []) k (list_in (all_events ends next) l ++ list_in (all_events ends next) k)) (map is_linked next))
          (sym at_is) (moved-before linked l there e read k ne k_there f f_read (e.count - 1) (f.count - 1) (omega arith) (omega arith)))
