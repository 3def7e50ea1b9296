-- What each call does to lists of events.
use Rattle.std.proofs.Common.{◌≡◌, ◌≢◌, ℕ, suc, ◌+◌, ◌-◌, ◌<◌, ◌≤◌, ◌==◌, not, Bool, true, false, List, [], ◌∷◌, ◌++◌, length, map, get_or, set, take, drop, cond, arith, refl, ap, sym, ◌∙◌, subst, ⊎_elim}
use Rattle.std.proofs.lemmas.Bool.{cases_eq, cases_lt, eq-eqb, ne_eqb}
use Rattle.std.proofs.lemmas.List.{append-nil, get_or-set_same, get_or-set_other, get_or-map, get_or_past, get_or_read, get_or-drop, get_or-append-add, get_or_push, length-set, length-map, length_push, length-append, length-drop, map-set}
use Rattle.std.proofs.lemmas.List.Sums.{sum_by-set, sum_by-take-drop, get_or-le-sum_by}
use Rattle.em_queues.specs.declared.event_lists.ListEnds.{ListEnds}
use Rattle.em_queues.specs.Events.{list_in}
use Rattle.em_queues.specs.Links.{event_at, chain, no_ends, events_of, all_events, is_linked, times, unlisted, told, IsLinked, AreLinked}
use Rattle.em_queues.proofs.Chains.{one_if, length-chain, chain-add, chain-event, take-chain, drop-chain, times-cons, times-append, once-itself, kept-chain, kept-event, linked-chain, before-last}
use Rattle.em_queues.proofs.LinkedLists.{AreKept, EndsIn, few-linked, linked-there, item-linked, most-once, none-elsewhere, none-anywhere, length-all, list-read, lists-read, one-changed, two-changed, told-set, listed-set}

-- the ends and the links are those of these lists, and tell of each event whether it is in one
pub record AreMade (ends : List ListEnds) (next : List ℕ) (all : List (List ℕ)) (told : List Bool) : Type 0 where
  pub linked : AreLinked ends next
  pub lists : all_events ends next ≡ all
  pub listed : map is_linked next ≡ told

-- an event comes to a list, or leaves one

linked_not : (n : ℕ) → is_linked n ≡ false → (n == 65535) ≡ true
linked_not n e = by_test (n == 65535) refl
  where
    by_test : (b : Bool) → (n == 65535) ≡ b → b ≡ true
    by_test true f = refl
    by_test false f = absurd (let linked : is_linked n ≡ true = ap not f in cc (linked, e))

not_linked : (n : ℕ) → is_linked n ≡ true → (n == 65535) ≡ false
not_linked n e = by_test (n == 65535) refl
  where
    by_test : (b : Bool) → (n == 65535) ≡ b → b ≡ false
    by_test false f = refl
    by_test true f = absurd (let linked : is_linked n ≡ false = ap not f in cc (linked, e))

unlisted-set : (next : List ℕ) (i b : ℕ) → i < length next → unlisted (set next i b) + cond (get_or next i 65535 == 65535) 1 0 ≡ unlisted next + cond (b == 65535) 1 0
unlisted-set next i b lt = sum_by-set (λ n. cond (n == 65535) 1 0) next i b 65535 lt

unlisted-kept : (next : List ℕ) (t b : ℕ) → t < length next → is_linked b ≡ true → is_linked (get_or next t 65535) ≡ true → unlisted (set next t b) ≡ unlisted next
unlisted-kept next t b lt e f =
    let sums = unlisted-set next t b lt in
    let new : one_if (b == 65535) ≡ 0 = ap one_if (not_linked b e) in
    let old : one_if (get_or next t 65535 == 65535) ≡ 0 = ap one_if (not_linked (get_or next t 65535) f) in omega arith

unlisted-less : (next : List ℕ) (i b : ℕ) → i < length next → is_linked b ≡ true → is_linked (get_or next i 65535) ≡ false → unlisted (set next i b) + 1 ≡ unlisted next
unlisted-less next i b lt e f =
    let sums = unlisted-set next i b lt in
    let new : one_if (b == 65535) ≡ 0 = ap one_if (not_linked b e) in
    let old : one_if (get_or next i 65535 == 65535) ≡ 1 = ap one_if (linked_not (get_or next i 65535) f) in omega arith

unlisted-more : (next : List ℕ) (i : ℕ) → i < length next → is_linked (get_or next i 65535) ≡ true → unlisted (set next i 65535) ≡ unlisted next + 1
unlisted-more next i lt f =
    let sums = unlisted-set next i 65535 lt in
    let old : one_if (get_or next i 65535 == 65535) ≡ 0 = ap one_if (not_linked (get_or next i 65535) f) in omega arith

times-other : (u i : ℕ) → u ≢ i → times u (i ∷ []) ≡ 0
times-other u i ne = times-cons u i [] ∙ ap (λ b. cond b 1 0 + 0) (ne_eqb i u (λ e. ne (sym e)))

told-more : (next : List ℕ) (i b u : ℕ) → i < length next → is_linked b ≡ true → is_linked (get_or next i 65535) ≡ false → times u (i ∷ []) + told next u ≡ told (set next i b) u
told-more next i b u lt e f =
    ⊎_elim
    (λ same. subst (λ k. times k (i ∷ []) + told next k ≡ told (set next i b) k) (sym same)
    (let one = once-itself i in
    let old : told next i ≡ 0 = ap one_if f in
    let new : told (set next i b) i ≡ 1 = ap (λ k. cond (is_linked k) 1 0) (get_or-set_same next i b 65535 lt) ∙ ap one_if e in
    omega arith))
    (λ ne. let none = times-other u i ne in
    let same : told (set next i b) u ≡ told next u = ap (λ k. cond (is_linked k) 1 0) (get_or-set_other next i u b 65535 ne) in omega arith)
    (cases_eq u i)

told-less : (next : List ℕ) (i u : ℕ) → i < length next → is_linked (get_or next i 65535) ≡ true → told next u ≡ times u (i ∷ []) + told (set next i 65535) u
told-less next i u lt f =
    ⊎_elim
    (λ same. subst (λ k. told next k ≡ times k (i ∷ []) + told (set next i 65535) k) (sym same)
    (let one = once-itself i in
    let old : told next i ≡ 1 = ap one_if f in
    let new : told (set next i 65535) i ≡ 0 = ap (λ k. cond (is_linked k) 1 0) (get_or-set_same next i 65535 65535 lt) in
    omega arith))
    (λ ne. let none = times-other u i ne in
    let same : told (set next i 65535) u ≡ told next u = ap (λ k. cond (is_linked k) 1 0) (get_or-set_other next i u 65535 65535 ne) in omega arith)
    (cases_eq u i)

-- list l has the ends e, as they are read
module _ {ends : List ListEnds} {next : List ℕ} (linked : AreLinked ends next) (l : ℕ) (lt : l < length (all_events ends next)) (e : ListEnds) (read : e ≡ get_or ends l e) where
  pub less : l < length ends
  less = let n = length-all ends next in omega arith

  e_is : get_or ends l no_ends ≡ e
  e_is = sym (get_or_read ends l e less read no_ends)

  pub list-is : list_in (all_events ends next) l ≡ events_of next e
  list-is = list-read ends next l less ∙ ap (events_of next) e_is

  pub count-is : e.count ≡ length (list_in (all_events ends next) l)
  count-is = sym (ap (λ (xs : List ℕ). length xs) list-is ∙ length-chain next e.first e.count)

  pub count-few : e.count ≤ 4096
  count-few =
      let within = get_or-le-sum_by (λ (xs : List ℕ). length xs) (all_events ends next) l [] lt in
      let all = linked.enough in
      let few = linked.few in
      let c = count-is in omega arith

  last_is : EndsIn (list_in (all_events ends next) l) e
  last_is = subst (EndsIn (list_in (all_events ends next) l)) e_is (linked.last l)

  -- the event of number k in the list is there
  pub item-there : (k : ℕ) → k < e.count → event_at next e.first k < length next
  item-there k few =
      subst (λ i. i < length next) (ap (λ xs. get_or xs k 0) list-is ∙ chain-event next e.first e.count k few)
      (linked-there next (get_or (list_in (all_events ends next) l) k 0) (item-linked linked l k lt (let n = count-is in omega arith)))

  -- the last event, of an event before it and in no other list
  module _ (n : ℕ) (some : e.count ≡ n + 1) where
    at_last : get_or (list_in (all_events ends next) l) n 0 ≡ e.last
    at_last = last_is n (let c = count-is in omega arith)

    event_last : event_at next e.first n ≡ e.last
    event_last = sym (chain-event next e.first e.count n (omega arith)) ∙ (sym (ap (λ xs. get_or xs n 0) list-is) ∙ at_last)

    last_linked : is_linked (get_or next e.last 65535) ≡ true
    last_linked = subst (λ i. is_linked (get_or next i 65535) ≡ true) at_last (item-linked linked l n lt (let c = count-is in omega arith))

    pub last-there : e.last < length next
    last-there = linked-there next e.last last_linked

    last_before : times e.last (chain next e.first n) ≡ 0
    last_before =
        before-last next e.last e.first n
        (subst (λ xs. times e.last xs ≤ 1) (list-is ∙ ap (chain next e.first) some) (most-once linked e.last l lt)) event_last

    last_elsewhere : (j : ℕ) → j ≢ l → j < length ends → times e.last (events_of next (get_or ends j no_ends)) ≡ 0
    last_elsewhere j ne less =
        subst (λ xs. times e.last xs ≡ 0) (list-read ends next j less)
        (subst (λ i. times i (list_in (all_events ends next) j) ≡ 0) at_last
        (none-elsewhere linked l n j lt (let c = count-is in omega arith) ne (let m = length-all ends next in omega arith)))

  -- event i, which is in no list, comes to the end
  module _ (i : ℕ) (free : get_or (map is_linked next) i true ≡ false) where
    pub free-there : i < length next
    free-there =
        ⊎_elim (λ lt. lt)
        (λ past. absurd (let past_map = get_or_past (map is_linked next) i true (let n = length-map next is_linked in omega arith) in cc (past_map, free)))
        (cases_lt i (length next))

    free_is : is_linked (get_or next i 65535) ≡ false
    free_is = sym (get_or-map is_linked next i 65535 true free-there) ∙ free

    i_linked : is_linked i ≡ true
    i_linked = few-linked i (let lt = free-there in let few = linked.few in omega arith)

    first_kept : (j : ℕ) → j < length ends → events_of (set next i 0) (get_or ends j no_ends) ≡ events_of next (get_or ends j no_ends)
    first_kept j less =
        kept-chain next i 0 (get_or ends j no_ends).first (get_or ends j no_ends).count
        (subst (λ xs. times i xs ≡ 0) (list-read ends next j less) (none-anywhere linked i j free_is (let n = length-all ends next in omega arith)))

    listed_now : map is_linked (set next i 0) ≡ set (map is_linked next) i true
    listed_now = map-set is_linked next i 0

    -- the list was empty
    pub pushed-first : e.count ≡ 0
        → AreMade (set ends l (record { first = i; last = i; count = 1 })) (set next i 0)
        (set (all_events ends next) l (list_in (all_events ends next) l ++ i ∷ [])) (set (map is_linked next) i true)
    pushed-first none = record {
      linked =
          subst (λ ls. IsLinked ls (set ends l (record { first = i; last = i; count = 1 })) (set next i 0)) (sym now)
          (one-changed linked l lt less (list_in (all_events ends next) l ++ i ∷ []) (record { first = i; last = i; count = 1 }) (set next i 0)
          (λ n long. let len = length_push (list_in (all_events ends next) l) i in let c = count-is in
          get_or_push (list_in (all_events ends next) l) i 0 n (omega arith))
          (λ u. let parts = times-append u (list_in (all_events ends next) l) (i ∷ []) in
          let more = told-more next i 0 u free-there refl free_is in omega arith)
          (let len = length_push (list_in (all_events ends next) l) i in let fewer = unlisted-less next i 0 free-there refl free_is in omega arith)
          (length-set next i 0));
      lists = now;
      listed = listed_now;
    }
      where
        empty : list_in (all_events ends next) l ≡ []
        empty = list-is ∙ ap (chain next e.first) none

        now : all_events (set ends l (record { first = i; last = i; count = 1 })) (set next i 0)
            ≡ set (all_events ends next) l (list_in (all_events ends next) l ++ i ∷ [])
        now =
            lists-read ends next (set next i 0) l (record { first = i; last = i; count = 1 }) (λ j ne less. first_kept j less)
            ∙ ap (λ xs. set (all_events ends next) l (xs ++ i ∷ [])) (sym empty)

    -- it was not
    module _ (n : ℕ) (some : e.count ≡ n + 1) where
      abbrev grown : ListEnds
      grown = record { first = e.first; last = i; count = e.count + 1 }

      abbrev links : List ℕ
      links = set (set next i 0) e.last i

      apart : e.last ≢ i
      apart same = let linked_i = subst (λ t. is_linked (get_or next t 65535) ≡ true) same (last_linked n some) in let free_i = free_is in cc (linked_i, free_i)

      at_end : is_linked i ≡ is_linked (get_or (set next i 0) e.last 65535)
      at_end = i_linked ∙ sym (ap is_linked (get_or-set_other next i e.last 0 65535 apart) ∙ last_linked n some)

      last_within : e.last < length (set next i 0)
      last_within = let lt = last-there n some in let len = length-set next i 0 in omega arith

      behind_kept : AreKept ends next links l
      behind_kept j ne less =
          kept-chain (set next i 0) e.last i (get_or ends j no_ends).first (get_or ends j no_ends).count
          (ap (times e.last) (first_kept j less) ∙ last_elsewhere n some j ne less)
          ∙ first_kept j less

      own_kept : chain (set next i 0) e.first (n + 1) ≡ chain next e.first (n + 1)
      own_kept =
          let own = subst (λ f. events_of (set next i 0) f ≡ events_of next f) e_is (first_kept l less) in
          subst (λ m. chain (set next i 0) e.first m ≡ chain next e.first m) some own

      none_own : times i (chain next e.first n) ≡ 0
      none_own =
          let all : times i (chain next e.first (n + 1)) ≡ 0 =
          subst (λ xs. times i xs ≡ 0) (list-is ∙ ap (chain next e.first) some) (none-anywhere linked i l free_is lt) in
          let parts = times-append i (chain next e.first n) (chain next (event_at next e.first n) 1) in
          let whole : times i (chain next e.first (n + 1)) ≡ times i (chain next e.first n ++ chain next (event_at next e.first n) 1) = ap (times i) (chain-add next e.first n 1) in
          omega arith

      behind : events_of links grown ≡ list_in (all_events ends next) l ++ i ∷ []
      behind =
          let more : e.count + 1 ≡ n + 1 + 1 = omega arith in
          ap (chain links e.first) more
          ∙ (linked-chain (set next i 0) e.last i e.first n 1 last_within (kept-event next i 0 e.first n none_own ∙ event_last n some)
          (ap (times e.last) (kept-chain next i 0 e.first n none_own) ∙ last_before n some)
          ∙ ap (λ xs. xs ++ i ∷ []) (own_kept ∙ sym (list-is ∙ ap (chain next e.first) some)))

      pub pushed-behind : AreMade (set ends l grown) links (set (all_events ends next) l (list_in (all_events ends next) l ++ i ∷ [])) (set (map is_linked next) i true)
      pushed-behind = record {
        linked =
            subst (λ ls. IsLinked ls (set ends l grown) links) (sym now)
            (one-changed linked l lt less (list_in (all_events ends next) l ++ i ∷ []) grown links
            (λ m long. let len = length_push (list_in (all_events ends next) l) i in get_or_push (list_in (all_events ends next) l) i 0 m (omega arith))
            (λ u. let parts = times-append u (list_in (all_events ends next) l) (i ∷ []) in
            let more = told-more next i 0 u free-there refl free_is in
            let same = told-set (set next i 0) e.last i u last_within at_end in omega arith)
            (let len = length_push (list_in (all_events ends next) l) i in
            let fewer = unlisted-less next i 0 free-there refl free_is in
            let same = unlisted-kept (set next i 0) e.last i last_within i_linked (sym at_end ∙ i_linked) in omega arith)
            (length-set (set next i 0) e.last i ∙ length-set next i 0));
        lists = now;
        listed = listed-set (set next i 0) e.last i last_within at_end ∙ listed_now;
      }
        where
          now : all_events (set ends l grown) links ≡ set (all_events ends next) l (list_in (all_events ends next) l ++ i ∷ [])
          now = lists-read ends next links l grown behind_kept ∙ ap (set (all_events ends next) l) behind

  -- the first event leaves
  module _ (n : ℕ) (some : e.count ≡ suc n) where
    abbrev shrunk : ListEnds
    shrunk = record { first = get_or next e.first 0; last = e.last; count = e.count - 1 }

    abbrev rest : List ℕ
    rest = chain next (get_or next e.first 0) n

    whole : list_in (all_events ends next) l ≡ e.first ∷ rest
    whole = list-is ∙ ap (chain next e.first) some

    first_linked : is_linked (get_or next e.first 65535) ≡ true
    first_linked =
        subst (λ i. is_linked (get_or next i 65535) ≡ true) (ap (λ xs. get_or xs 0 0) whole) (item-linked linked l 0 lt (let c = count-is in omega arith))

    pub first-there : e.first < length next
    first-there = linked-there next e.first first_linked

    none_in_rest : times e.first rest ≡ 0
    none_in_rest =
        let most : times e.first (e.first ∷ rest) ≤ 1 = subst (λ xs. times e.first xs ≤ 1) whole (most-once linked e.first l lt) in
        let sums = times-cons e.first e.first rest in
        let one : one_if (e.first == e.first) ≡ 1 = ap one_if (eq-eqb e.first e.first refl) in omega arith

    others_kept : AreKept ends next (set next e.first 65535) l
    others_kept j ne less =
        kept-chain next e.first 65535 (get_or ends j no_ends).first (get_or ends j no_ends).count
        (subst (λ xs. times e.first xs ≡ 0) (list-read ends next j less)
        (subst (λ i. times i (list_in (all_events ends next) j) ≡ 0) (ap (λ xs. get_or xs 0 0) whole)
        (none-elsewhere linked l 0 j lt (let c = count-is in omega arith) ne (let m = length-all ends next in omega arith))))

    removed_rest : AreMade (set ends l shrunk) (set next e.first 65535) (set (all_events ends next) l rest) (set (map is_linked next) e.first false)
    removed_rest = record {
      linked =
          subst (λ ls. IsLinked ls (set ends l shrunk) (set next e.first 65535)) (sym now)
          (one-changed linked l lt less rest shrunk (set next e.first 65535)
          (λ m long. subst (λ xs. get_or xs (suc m) 0 ≡ e.last) whole
          (last_is (suc m) (ap (λ (xs : List ℕ). length xs) whole ∙ ap suc long)))
          (λ u. let sums = times-cons u e.first rest in
          let single = times-cons u e.first [] in
          let all : times u (list_in (all_events ends next) l) ≡ times u (e.first ∷ rest) = ap (times u) whole in
          let fewer = told-less next e.first u first-there first_linked in omega arith)
          (let more = unlisted-more next e.first first-there first_linked in
          let long : length (list_in (all_events ends next) l) ≡ suc (length rest) = ap (λ (xs : List ℕ). length xs) whole in omega arith)
          (length-set next e.first 65535));
      lists = now;
      listed = map-set is_linked next e.first 65535;
    }
      where
        now : all_events (set ends l shrunk) (set next e.first 65535) ≡ set (all_events ends next) l rest
        now =
            let fewer : e.count - 1 ≡ n = omega arith in
            lists-read ends next (set next e.first 65535) l shrunk others_kept
            ∙ ap (set (all_events ends next) l)
            (ap (chain (set next e.first 65535) (get_or next e.first 0)) fewer ∙ kept-chain next e.first 65535 (get_or next e.first 0) n none_in_rest)

    pub removed : AreMade (set ends l shrunk) (set next e.first 65535) (set (all_events ends next) l (drop 1 (list_in (all_events ends next) l)))
        (set (map is_linked next) (get_or (list_in (all_events ends next) l) 0 0) false)
    removed =
        subst (λ xs. AreMade (set ends l shrunk) (set next e.first 65535) (set (all_events ends next) l (drop 1 xs)) (set (map is_linked next) (get_or xs 0 0) false)) (sym whole)
        removed_rest

  -- events go to another list
  module _ (k : ℕ) (ne : k ≢ l) (k_lt : k < length (all_events ends next)) where
    k_less : k < length ends
    k_less = let n = length-all ends next in omega arith

    two_read : (a b : ListEnds) → all_events (set (set ends l a) k b) next ≡ set (set (all_events ends next) l (events_of next a)) k (events_of next b)
    two_read a b = map-set (events_of next) (set ends l a) k b ∙ ap (λ ls. set ls k (events_of next b)) (map-set (events_of next) ends l a)

    -- the first n, of which this one is the last, and after which comes the rest
    module _ (n last rest : ℕ) (le : n ≤ e.count) (last_at : (m : ℕ) → n ≡ suc m → last ≡ event_at next e.first m) (rest_at : rest ≡ event_at next e.first n) where
      abbrev left : ListEnds
      left = record { first = rest; last = e.last; count = e.count - n }

      abbrev gone : ListEnds
      gone = record { first = e.first; last = last; count = n }

      first_n : take n (list_in (all_events ends next) l) ≡ chain next e.first n
      first_n = ap (take n) list-is ∙ take-chain next e.first n e.count le

      other_n : drop n (list_in (all_events ends next) l) ≡ chain next rest (e.count - n)
      other_n =
          ap (drop n) list-is
          ∙ (drop-chain next e.first n e.count (e.count - n) (omega arith) ∙ ap (λ i. chain next i (e.count - n)) (sym rest_at))

      abbrev parted : List (List ℕ)
      parted = set (set (all_events ends next) l (drop n (list_in (all_events ends next) l))) k (take n (list_in (all_events ends next) l))

      parted_now : all_events (set (set ends l left) k gone) next ≡ parted
      parted_now = two_read left gone ∙ sym (λ i. set (set (all_events ends next) l (other_n i)) k (first_n i))

      pub moved-first : list_in (all_events ends next) k ≡ [] → AreMade (set (set ends l left) k gone) next parted (map is_linked next)
      moved-first empty = record {
        linked =
            subst (λ ls. IsLinked ls (set (set ends l left) k gone) next) (sym parted_now)
            (two-changed linked l lt less k ne k_lt k_less (drop n (list_in (all_events ends next) l)) (take n (list_in (all_events ends next) l)) left gone next
            (λ m long. get_or-drop n (list_in (all_events ends next) l) m 0
            ∙ last_is (n + m) (let len = length-drop n (list_in (all_events ends next) l) in omega arith))
            (λ m long.
            let many : n ≡ suc m = (let len = ap (λ (xs : List ℕ). length xs) first_n ∙ length-chain next e.first n in omega arith) in
            ap (λ xs. get_or xs m 0) first_n ∙ (chain-event next e.first n m (omega arith) ∙ sym (last_at m many)))
            (λ u. let sums = sum_by-take-drop (λ x. one_if (x == u)) (list_in (all_events ends next) l) n in
            let none : times u (list_in (all_events ends next) k) ≡ 0 = ap (times u) empty in omega arith)
            (let len = length-drop n (list_in (all_events ends next) l) in
            let long = ap (λ (xs : List ℕ). length xs) first_n ∙ length-chain next e.first n in
            let none : length (list_in (all_events ends next) k) ≡ 0 = ap (λ (xs : List ℕ). length xs) empty in
            let c = count-is in omega arith)
            (λ u. refl) refl refl);
        lists = parted_now;
        listed = refl;
      }

    -- all, to the front of the other list, which has the ends f
    module _ (f : ListEnds) (f_read : f ≡ get_or ends k f) where
      f_is : get_or ends k no_ends ≡ f
      f_is = sym (get_or_read ends k f k_less f_read no_ends)

      other_list : list_in (all_events ends next) k ≡ events_of next f
      other_list = list-read ends next k k_less ∙ ap (events_of next) f_is

      other_count : f.count ≡ length (list_in (all_events ends next) k)
      other_count = sym (ap (λ (xs : List ℕ). length xs) other_list ∙ length-chain next f.first f.count)

      abbrev joined : List (List ℕ)
      joined = set (set (all_events ends next) l []) k (list_in (all_events ends next) l ++ list_in (all_events ends next) k)

      joined_often : (u : ℕ) → times u [] + times u (list_in (all_events ends next) l ++ list_in (all_events ends next) k)
          ≡ times u (list_in (all_events ends next) l) + times u (list_in (all_events ends next) k)
      joined_often u = let parts = times-append u (list_in (all_events ends next) l) (list_in (all_events ends next) k) in omega arith

      joined_long : 0 + length (list_in (all_events ends next) l ++ list_in (all_events ends next) k)
          ≡ length (list_in (all_events ends next) l) + length (list_in (all_events ends next) k)
      joined_long = let parts = length-append (list_in (all_events ends next) l) (list_in (all_events ends next) k) in omega arith

      -- that list is empty
      pub moved-alone : f.count ≡ 0 → AreMade (set (set ends l no_ends) k e) next joined (map is_linked next)
      moved-alone none = record {
        linked =
            subst (λ ls. IsLinked ls (set (set ends l no_ends) k e) next) (sym now)
            (two-changed linked l lt less k ne k_lt k_less [] (list_in (all_events ends next) l ++ list_in (all_events ends next) k) no_ends e next
            (λ m long. absurd (omega arith))
            (subst (λ xs. EndsIn xs e) (sym whole) last_is) joined_often joined_long (λ u. refl) refl refl);
        lists = now;
        listed = refl;
      }
        where
          whole : list_in (all_events ends next) l ++ list_in (all_events ends next) k ≡ list_in (all_events ends next) l
          whole =
              ap (λ xs. list_in (all_events ends next) l ++ xs) (other_list ∙ ap (chain next f.first) none)
              ∙ append-nil (list_in (all_events ends next) l)

          now : all_events (set (set ends l no_ends) k e) next ≡ joined
          now = two_read no_ends e ∙ ap (set (set (all_events ends next) l []) k) (sym (whole ∙ list-is))

      -- it is not
      module _ (n m : ℕ) (some : e.count ≡ n + 1) (others : f.count ≡ m + 1) where
        abbrev joined_ends : ListEnds
        joined_ends = record { first = e.first; last = f.last; count = e.count + f.count }

        abbrev joined_links : List ℕ
        joined_links = set next e.last f.first

        pub head-there : f.first < length next
        head-there =
            linked-there next f.first
            (subst (λ i. is_linked (get_or next i 65535) ≡ true)
            (ap (λ xs. get_or xs 0 0) other_list ∙ chain-event next f.first f.count 0 (omega arith))
            (item-linked linked k 0 k_lt (let c = other_count in omega arith)))

        head_linked : is_linked f.first ≡ is_linked (get_or next e.last 65535)
        head_linked =
            few-linked f.first (let lt = head-there in let few = linked.few in omega arith)
            ∙ sym (last_linked n some)

        joined_kept : AreKept ends next joined_links l
        joined_kept j ne_l within =
            kept-chain next e.last f.first (get_or ends j no_ends).first (get_or ends j no_ends).count (last_elsewhere n some j ne_l within)

        still_kept : AreKept (set ends l no_ends) next joined_links k
        still_kept j _ within =
            ⊎_elim
            (λ same. subst (λ x. events_of joined_links (get_or (set ends l no_ends) x no_ends) ≡ events_of next (get_or (set ends l no_ends) x no_ends)) (sym same)
            (subst (λ x. events_of joined_links x ≡ events_of next x) (sym (get_or-set_same ends l no_ends no_ends less)) refl))
            (λ other. subst (λ x. events_of joined_links x ≡ events_of next x) (sym (get_or-set_other ends l j no_ends no_ends other))
            (joined_kept j other (let len = length-set ends l no_ends in omega arith)))
            (cases_eq j l)

        joined_chain : events_of joined_links joined_ends ≡ list_in (all_events ends next) l ++ list_in (all_events ends next) k
        joined_chain =
            let sum : e.count + f.count ≡ n + 1 + f.count = omega arith in
            let other : chain joined_links f.first f.count ≡ chain next f.first f.count =
            subst (λ x. events_of joined_links x ≡ events_of next x) f_is (joined_kept k ne k_less) in
            ap (chain joined_links e.first) sum
            ∙ (linked-chain next e.last f.first e.first n f.count (last-there n some) (event_last n some) (last_before n some)
            ∙ (λ i. sym (list-is ∙ ap (chain next e.first) some) i ++ (other ∙ sym other_list) i))

        pub moved-before : AreMade (set (set ends l no_ends) k joined_ends) joined_links joined (map is_linked next)
        moved-before = record {
          linked =
              subst (λ ls. IsLinked ls (set (set ends l no_ends) k joined_ends) joined_links) (sym now)
              (two-changed linked l lt less k ne k_lt k_less [] (list_in (all_events ends next) l ++ list_in (all_events ends next) k) no_ends joined_ends joined_links
              (λ p long. absurd (omega arith))
              (λ p long.
              let parts = length-append (list_in (all_events ends next) l) (list_in (all_events ends next) k) in
              let c = other_count in
              let place : p ≡ length (list_in (all_events ends next) l) + m = omega arith in
              ap (λ q. get_or (list_in (all_events ends next) l ++ list_in (all_events ends next) k) q 0) place
              ∙ (get_or-append-add (list_in (all_events ends next) l) (list_in (all_events ends next) k) m 0
              ∙ subst (EndsIn (list_in (all_events ends next) k)) f_is (linked.last k) m (omega arith)))
              joined_often joined_long (λ u. told-set next e.last f.first u (last-there n some) head_linked)
              (unlisted-kept next e.last f.first (last-there n some) (head_linked ∙ last_linked n some) (last_linked n some))
              (length-set next e.last f.first));
          lists = now;
          listed = listed-set next e.last f.first (last-there n some) head_linked;
        }
          where
            now : all_events (set (set ends l no_ends) k joined_ends) joined_links ≡ joined
            now =
                lists-read (set ends l no_ends) next joined_links k joined_ends still_kept
                ∙ (λ i. set (map-set (events_of next) ends l no_ends i) k (joined_chain i))
