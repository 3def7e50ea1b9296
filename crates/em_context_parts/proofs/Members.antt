-- The items of an application's members in the lists of all queues are at most its members.
use Rattle.std.proofs.Common.{◌≡◌, ℕ, suc, ◌+◌, ◌≤◌, ◌==◌, ◌||◌, Bool, true, false, List, [], ◌∷◌, ◌++◌, length, if◌then◌else◌, arith, refl, ap, sym}
use Rattle.std.specs.List.{flat_map, sum_by}
use Rattle.std.proofs.lemmas.Bool.{eq-eqb, or_right}
use Rattle.std.proofs.lemmas.List.Concat.{length-flat_map}
use Rattle.std.proofs.lemmas.List.Sums.{sum_by-le-sum_by}
use Rattle.em_log.specs.declared.declarations.Declarations.{Declarations}
use Rattle.em_log.specs.declared.entry.What.{What}
use Rattle.em_log.specs.declared.ids.Limits.{Limits}
use Rattle.em_log.specs.History.{Past, without}
use Rattle.em_log.specs.Declarations.{below, kind_of, is_local}
use Rattle.em_log.specs.Handles.{spending}
use Rattle.em_log.specs.EventGroups.{is_stamp, members_after, members}
use Rattle.em_log.specs.Arrivals.{Item, arrivals}
use Rattle.em_log.specs.Lawful.{AllAllowed}
use Rattle.em_log.specs.Laws.{handles_of, entered_in}
use Rattle.em_laws.proofs.Cores.{Compared, Same, Other, compared}
use Rattle.em_laws.proofs.Counts.{occ, occ-append, entered-all-le}
use Rattle.em_laws.proofs.Entering.{times_allowed-le, entered-allowed}
use Rattle.em_context_parts.specs.SentStamps.{AllItems}
use Rattle.em_context_parts.proofs.Carried.{IsCarried, arrivals-carried}

abbrev AllHandles : (ℕ → Type 0) → List ℕ → Type 0
AllHandles P [] = Unit {0}
AllHandles P (h ∷ hs) = P h × AllHandles P hs

handles-append : (P : ℕ → Type 0) (xs ys : List ℕ) → AllHandles P xs → AllHandles P ys → AllHandles P (xs ++ ys)
handles-append P [] ys a b = b
handles-append P (x ∷ xs) ys a b = (a.0, handles-append P xs ys a.1 b)

handles-flat : (P : ℕ → Type 0) (f : ℕ → List ℕ) (ns : List ℕ) → ((n : ℕ) → AllHandles P (f n)) → AllHandles P (flat_map f ns)
handles-flat P f [] each = tt
handles-flat P f (n ∷ ns) each = handles-append P (f n) (flat_map f ns) (each n) (handles-flat P f ns each)

occ-flat : (h : ℕ) (f e : ℕ → List ℕ) (ns : List ℕ) → ((n : ℕ) → occ h (f n) ≤ occ h (e n)) → occ h (flat_map f ns) ≤ occ h (flat_map e ns)
occ-flat h f e [] each = omega arith
occ-flat h f e (n ∷ ns) each =
    let here = each n in
    let later = occ-flat h f e ns each in
    let one = occ-append h (f n) (flat_map f ns) in
    let two = occ-append h (e n) (flat_map e ns) in
    omega (arith, here, later, one, two)

-- different handles, each sent with the stamp, are at most as many as the sends with it

length-without : (h : ℕ) (xs : List ℕ) → length xs ≡ length (without h xs) + occ h xs
length-without h [] = refl
length-without h (x ∷ xs) = by_test (x == h) (length-without h xs)
  where
    by_test : (b : Bool) → length xs ≡ length (without h xs) + occ h xs
        → suc (length xs) ≡ length (if b then without h xs else x ∷ without h xs) + (if b then suc (occ h xs) else occ h xs)
    by_test true e = omega (arith, e)
    by_test false e = omega (arith, e)

occ-without : (f h : ℕ) (xs : List ℕ) → occ f (without h xs) ≤ occ f xs
occ-without f h [] = omega arith
occ-without f h (x ∷ xs) = by_test (x == h) (x == f) (occ-without f h xs)
  where
    more : (b : Bool) (m n : ℕ) → m ≤ n → (if b then suc m else m) ≤ (if b then suc n else n)
    more true m n le = omega (arith, le)
    more false m n le = le

    less : (b : Bool) (m n : ℕ) → m ≤ n → m ≤ (if b then suc n else n)
    less true m n le = omega (arith, le)
    less false m n le = le

    by_test : (b c : Bool) → occ f (without h xs) ≤ occ f xs → occ f (if b then without h xs else x ∷ without h xs) ≤ occ f (x ∷ xs)
    by_test true c le = less (x == f) (occ f (without h xs)) (occ f xs) le
    by_test false c le = more (x == f) (occ f (without h xs)) (occ f xs) le

module _ (g a : ℕ) where
  abbrev sent_by : What → ℕ → Bool → Bool
  sent_by (What.Send f q t s) h was = if is_stamp g a s then ((f.0 == h) || was) else was
  sent_by w h was = was

  -- whether the handle was sent with the stamp of this application
  abbrev is_member : Past → ℕ → Bool
  is_member [] h = false
  is_member (e ∷ past) h = sent_by e.what h (is_member past h)

  fewer-than : (f : ℕ) (past : Past) (hs : List ℕ) → AllHandles (λ h. ((f == h) || is_member past h) ≡ true) hs → AllHandles (λ h. is_member past h ≡ true) (without f hs)
  fewer-than f past [] all = tt
  fewer-than f past (h ∷ hs) all = by_test (compared h f) (fewer-than f past hs all.1)
    where
      by_test : Compared h f → AllHandles (λ h. is_member past h ≡ true) (without f hs) → AllHandles (λ h. is_member past h ≡ true) (without f (h ∷ hs))
      by_test (Same t e) later = rw t later
      by_test (Other t apart) later = rw t (other (compared f h), later)
        where
          other : Compared f h → is_member past h ≡ true
          other (Same u e) = absurd (apart (sym e))
          other (Other u e) = let this : ((f == h) || is_member past h) ≡ true = all.0 in rw u at this

  pub few-handles : (past : Past) (hs : List ℕ) → ((h : ℕ) → occ h hs ≤ 1) → AllHandles (λ h. is_member past h ≡ true) hs → length hs ≤ members past g a
  few-handles [] [] once all = omega arith
  few-handles [] (h ∷ hs) once all = absurd (let no_send : false ≡ true = all.0 in cc no_send)
  few-handles (e ∷ past) hs once all = next (e.what) once all (few-handles past)
    where
      Older : Type 0
      Older = (hs : List ℕ) → ((h : ℕ) → occ h hs ≤ 1) → AllHandles (λ h. is_member past h ≡ true) hs → length hs ≤ members past g a

      send : (f : ℕ) (b : Bool) → ((h : ℕ) → occ h hs ≤ 1) → AllHandles (λ h. (if b then ((f == h) || is_member past h) else is_member past h) ≡ true) hs → Older
          → length hs ≤ (if b then suc (members past g a) else members past g a)
      send f true once all older =
          let rest = older (without f hs) (λ h. let le = occ-without h f hs in let one = once h in omega (arith, le, one)) (fewer-than f past hs all) in
          let whole = length-without f hs in
          let one = once f in
          omega (arith, rest, whole, one)
      send f false once all older = older hs once all

      next : (w : What) → ((h : ℕ) → occ h hs ≤ 1) → AllHandles (λ h. sent_by w h (is_member past h) ≡ true) hs → Older
          → length hs ≤ members_after g a w (members past g a)
      next (What.Send f q t s) once all older = send f.0 (is_stamp g a s) once all older
      next w once all older = older hs once all

  -- items of members

  abbrev pub member_items : List Item → ℕ
  member_items [] = 0
  member_items (x ∷ xs) = if is_stamp g a x.stamp then suc (member_items xs) else member_items xs

  abbrev pub member_handles : List Item → List ℕ
  member_handles [] = []
  member_handles (x ∷ xs) = if is_stamp g a x.stamp then x.handle ∷ member_handles xs else member_handles xs

  handles-length : (xs : List Item) → length (member_handles xs) ≡ member_items xs
  handles-length [] = refl
  handles-length (x ∷ xs) = by_test (is_stamp g a x.stamp) (handles-length xs)
    where
      by_test : (b : Bool) → length (member_handles xs) ≡ member_items xs
          → length (if b then x.handle ∷ member_handles xs else member_handles xs) ≡ (if b then suc (member_items xs) else member_items xs)
      by_test true e = ap suc e
      by_test false e = e

  handles-occ : (h : ℕ) (xs : List Item) → occ h (member_handles xs) ≤ occ h (handles_of xs)
  handles-occ h [] = omega arith
  handles-occ h (x ∷ xs) = by_test (is_stamp g a x.stamp) (x.handle == h) refl (handles-occ h xs)
    where
      by_test : (b c : Bool) → (x.handle == h) ≡ c → occ h (member_handles xs) ≤ occ h (handles_of xs)
          → occ h (if b then x.handle ∷ member_handles xs else member_handles xs) ≤ occ h (handles_of (x ∷ xs))
      by_test true true is le = rw is (omega (arith, le))
      by_test true false is le = rw is le
      by_test false true is le = rw is (omega (arith, le))
      by_test false false is le = rw is le

  member-kept : (w : What) (h : ℕ) (b : Bool) → b ≡ true → sent_by w h b ≡ true
  member-kept (What.Send f q t s) h b on = by_test (is_stamp g a s)
    where
      by_test : (c : Bool) → (if c then ((f.0 == h) || b) else b) ≡ true
      by_test true = or_right (f.0 == h) b on
      by_test false = on
  member-kept w h b on = on

  member-carried : (k : Declarations) (l : Limits) → IsCarried k l (λ past h s. is_stamp g a s ≡ true → is_member past h ≡ true)
  member-carried k l = record {
    kept = λ past d w h s was is. member-kept w h (is_member past h) (was is);
    send = λ past d h q t s m is. rw (is, eq-eqb h h refl) refl;
    begun = λ past all n o at h there is. absurd (cc is);
    applied = λ past all n h there is. absurd (cc is);
  }

  members-of : (past : Past) (xs : List Item) → AllItems (λ x. is_stamp g a x.stamp ≡ true → is_member past x.handle ≡ true) xs
      → AllHandles (λ h. is_member past h ≡ true) (member_handles xs)
  members-of past [] all = tt
  members-of past (x ∷ xs) all = by_test (is_stamp g a x.stamp) refl (members-of past xs all.1)
    where
      by_test : (b : Bool) → is_stamp g a x.stamp ≡ b → AllHandles (λ h. is_member past h ≡ true) (member_handles xs)
          → AllHandles (λ h. is_member past h ≡ true) (if b then x.handle ∷ member_handles xs else member_handles xs)
      by_test true is later = (all.0 is, later)
      by_test false is later = later

-- the lists of all queues: of a local queue that of each core, of any other one

abbrev pub per_queue : Declarations → (ℕ → ℕ → ℕ) → ℕ → ℕ
per_queue k f q = if is_local (kind_of k q) then sum_by (f q) (below k.cores) else f q 0

abbrev pub in_all : Declarations → (ℕ → ℕ → ℕ) → ℕ
in_all k f = sum_by (per_queue k f) (below (length k.queues))

pub per-queue-le : (k : Declarations) (f h : ℕ → ℕ → ℕ) → ((q c : ℕ) → f q c ≤ h q c) → (q : ℕ) → per_queue k f q ≤ per_queue k h q
per-queue-le k f h le q = by_kind (is_local (kind_of k q))
  where
    by_kind : (b : Bool) → (if b then sum_by (f q) (below k.cores) else f q 0) ≤ (if b then sum_by (h q) (below k.cores) else h q 0)
    by_kind true = sum_by-le-sum_by (f q) (h q) (below k.cores) (le q)
    by_kind false = le q 0

pub in-all-le : (k : Declarations) (f h : ℕ → ℕ → ℕ) → ((q c : ℕ) → f q c ≤ h q c) → in_all k f ≤ in_all k h
in-all-le k f h le = sum_by-le-sum_by (per_queue k f) (per_queue k h) (below (length k.queues)) (per-queue-le k f h le)

abbrev listed : Declarations → (ℕ → ℕ → List ℕ) → ℕ → List ℕ
listed k f q = if is_local (kind_of k q) then flat_map (f q) (below k.cores) else f q 0

module _ (k : Declarations) (l : Limits) (past : Past) (all : AllAllowed k l past) (g a : ℕ) where
  abbrev pub handles_in : ℕ → ℕ → List ℕ
  handles_in q c = member_handles g a (arrivals k past q c)

  abbrev pub items_in : ℕ → ℕ → ℕ
  items_in q c = member_items g a (arrivals k past q c)

  items-handles : (q c : ℕ) → items_in q c ≤ length (handles_in q c)
  items-handles q c = let same = handles-length g a (arrivals k past q c) in omega (arith, same)

  listed-length : (q : ℕ) → per_queue k items_in q ≤ length (listed k handles_in q)
  listed-length q = by_kind (is_local (kind_of k q))
    where
      by_kind : (b : Bool) → (if b then sum_by (items_in q) (below k.cores) else items_in q 0)
          ≤ length (if b then flat_map (handles_in q) (below k.cores) else handles_in q 0)
      by_kind true =
          let whole = length-flat_map (handles_in q) (below k.cores) in
          let each = sum_by-le-sum_by (items_in q) (λ c. length (handles_in q c)) (below k.cores) (items-handles q) in
          omega (arith, whole, each)
      by_kind false = items-handles q 0

  listed-occ : (h q : ℕ) → occ h (listed k handles_in q) ≤ occ h (entered_in k past q)
  listed-occ h q = by_kind (is_local (kind_of k q))
    where
      by_kind : (b : Bool) → occ h (if b then flat_map (handles_in q) (below k.cores) else handles_in q 0)
          ≤ occ h (if b then flat_map (λ c. handles_of (arrivals k past q c)) (below k.cores) else handles_of (arrivals k past q 0))
      by_kind true =
          occ-flat h (handles_in q) (λ c. handles_of (arrivals k past q c)) (below k.cores) (λ c. handles-occ g a h (arrivals k past q c))
      by_kind false = handles-occ g a h (arrivals k past q 0)

  listed-members : (q : ℕ) → AllHandles (λ h. is_member g a past h ≡ true) (listed k handles_in q)
  listed-members q = by_kind (is_local (kind_of k q))
    where
      each : (c : ℕ) → AllHandles (λ h. is_member g a past h ≡ true) (handles_in q c)
      each c =
          members-of g a past (arrivals k past q c)
          (arrivals-carried k l (λ past h s. is_stamp g a s ≡ true → is_member g a past h ≡ true) (member-carried g a k l) past all q c)

      by_kind : (b : Bool) → AllHandles (λ h. is_member g a past h ≡ true) (if b then flat_map (handles_in q) (below k.cores) else handles_in q 0)
      by_kind true = handles-flat (λ h. is_member g a past h ≡ true) (handles_in q) (below k.cores) each
      by_kind false = each 0

  all-once : (h : ℕ) → occ h (flat_map (listed k handles_in) (below (length k.queues))) ≤ 1
  all-once h =
      let here = occ-flat h (listed k handles_in) (entered_in k past) (below (length k.queues)) (listed-occ h) in
      let once = entered-all-le k past h in
      let may = entered-allowed k l past all h in
      let one = times_allowed-le past (spending past h) in
      omega (arith, here, once, may, one)

  pub items-within : in_all k items_in ≤ members past g a
  items-within =
      let hs = flat_map (listed k handles_in) (below (length k.queues)) in
      let few =
      few-handles g a past hs all-once
      (handles-flat (λ h. is_member g a past h ≡ true) (listed k handles_in) (below (length k.queues)) listed-members) in
      let whole = length-flat_map (listed k handles_in) (below (length k.queues)) in
      let each = sum_by-le-sum_by (per_queue k items_in) (λ q. length (listed k handles_in q)) (below (length k.queues)) listed-length in
      omega (arith, few, whole, each)
