-- The short histories that break the laws.
use Rattle.std.specs.Prelude.{T, ltb}
use Rattle.std.proofs.Common.{◌≡◌, ◌≢◌, ◌≤◌, ◌==◌, ℕ, true, false, List, Option, [], ◌∷◌, ◌++◌, length, map, take, Some, None, refl, sym, ap, ◌∙◌, subst, inl, lit<, arith}
use Rattle.em_log.specs.declared.declarations.Declarations.{Declarations}
use Rattle.em_log.specs.declared.ask.Ask.{Ask}
use Rattle.em_log.specs.declared.entry.Entry.{Entry}
use Rattle.em_log.specs.declared.entry.Event.{Event}
use Rattle.em_log.specs.declared.ids.Limits.{Limits}
use Rattle.em_log.specs.declared.ids.Stamp.{Stamp}
use Rattle.em_log.specs.History.{Past, has}
use Rattle.em_log.specs.Order.{enters, ticket_of_send}
use Rattle.em_log.specs.Arrivals.{Item, arrivals}
use Rattle.em_log.specs.Atomic.{holder, has_open_take}
use Rattle.em_log.specs.Leads.{item_again}
use Rattle.em_log.specs.Lawful.{Steps, Boots, Takes, Untakes, Asks, IsNext, Allowed, AllAllowed, Lawful, due}
use Rattle.em_log.specs.Laws.{entered_in, HoldsAlone, OnlyHolder, EntersAsSent, Once, shown_item, starts, within}
use Rattle.em_moments.proofs.Moments.{allowed-moment}
use Rattle.em_laws.specs.Broken.{LawName, Obeys, BreaksOnly, StopLaw, GroupLaw, AtomicLaw, EntersOnceLaw, EntersInTurnLaw, StartsInOrderLaw, StartsNextLaw, NotifiesOnceLaw, two_cores, ten_receives, queue, op, egroup, zero_cells, stop_begun, early_ack, stop_completes, group_changed, excluded_take, excluded_starts, one_inside, second_take, second_starts, first_stamp, aborted, second_notification, one_received, given_back, second_start, one_sent, second_send, boot_ends, only_boot}
use Rattle.em_laws.proofs.Cores.{Compared, Same, Other, compared, none-some, some-inj}
use Rattle.em_laws.proofs.Blocks.{all-before}
use Rattle.em_laws.proofs.Steps.{acker-idle, contexts}
use Rattle.em_laws.proofs.Holders.{exclusive}
use Rattle.em_laws.proofs.Untouched.{stop-obeyed, group-obeyed, atomic-obeyed}

-- a history with an entry that is not allowed is not lawful
not-lawful : (k : Declarations) (l : Limits) (later : List Entry) (e : Entry) (past : Past) → (Allowed k l past e → ⊥) → Lawful k l (later ++ e ∷ past) → ⊥
not-lawful k l later e past wrong lawful = wrong (all-before k l later (e ∷ past) lawful.each).0

infixr 10 ◌also◌
◌also◌ : {A : Type 0} {B : Type 0} → A → B → A × B
x also y = (x, y)

-- an entry is allowed: its core is there, and it may come next
comes : {past : Past} {e : Entry} → T (ltb e.core.0 2) → IsNext two_cores ten_receives past (due two_cores past) e → Allowed two_cores ten_receives past e
comes c next = record { core = lit< c; next = next }

-- an event as it was sent
abbrev stamped : ℕ → Option Stamp → Item
stamped h s = record { handle = h; kind = 7; words = []; stamp = s }

abbrev item_of : ℕ → Item
item_of h = stamped h None

-- a send that has entered: it stands between these items of its queue
stands-between : {now past : Past} {d h q : ℕ} {t : Option ℕ} {s : Option Stamp} (before after : List Item) → has (entered_in two_cores now q) h ≡ enters now (ticket_of_send past d t)
    → ((c : ℕ) → arrivals two_cores now q c ≡ before ++ stamped h s ∷ after) → EntersAsSent two_cores now past d h q t s
stands-between before after turn list = record {
  turn = turn;
  stands = λ on c own. record { before = before; item = stamped _ _; after = after; list = list c; handle = refl; stamp = refl };
}

-- the other laws, each by itself
but : (law : LawName) (past : Past) → (StopLaw ≢ law → Obeys StopLaw two_cores past) → (GroupLaw ≢ law → Obeys GroupLaw two_cores past)
    → (AtomicLaw ≢ law → Obeys AtomicLaw two_cores past) → (EntersOnceLaw ≢ law → Obeys EntersOnceLaw two_cores past)
    → (EntersInTurnLaw ≢ law → Obeys EntersInTurnLaw two_cores past) → (StartsInOrderLaw ≢ law → Obeys StartsInOrderLaw two_cores past)
    → (StartsNextLaw ≢ law → Obeys StartsNextLaw two_cores past) → (NotifiesOnceLaw ≢ law → Obeys NotifiesOnceLaw two_cores past)
    → (other : LawName) → other ≢ law → Obeys other two_cores past
but law past stop group atomic once turn order next notified StopLaw other = stop other
but law past stop group atomic once turn order next notified GroupLaw other = group other
but law past stop group atomic once turn order next notified AtomicLaw other = atomic other
but law past stop group atomic once turn order next notified EntersOnceLaw other = once other
but law past stop group atomic once turn order next notified EntersInTurnLaw other = turn other
but law past stop group atomic once turn order next notified StartsInOrderLaw other = order other
but law past stop group atomic once turn order next notified StartsNextLaw other = next other
but law past stop group atomic once turn order next notified NotifiesOnceLaw other = notified other

-- an acknowledgement with a receive open

stop-allowed : AllAllowed two_cores ten_receives stop_begun
stop-allowed =
    comes tt (Asks (Ask.End None) refl refl)
    also comes tt (Asks (Ask.Free 131073) refl refl)
    also comes tt (Asks (Ask.Stop (record { 0 = 0 }) []) refl refl)
    also comes tt refl
    also comes tt (Takes 2 refl refl)
    also comes tt refl
    also comes tt (Takes 2 refl refl)
    also comes tt (Asks (Ask.End None) refl refl)
    also comes tt (Asks (Ask.Send 65537 (queue 2) None) refl refl)
    also comes tt (Asks (Ask.Alloc (record { 0 = 0 }) 7 []) refl refl)
    also comes tt (Asks (Ask.Send 65536 (queue 2) None) refl refl)
    also comes tt (Asks (Ask.Alloc (record { 0 = 0 }) 7 []) refl refl)
    also comes tt (Boots refl refl refl)
    also tt

-- an acknowledgement comes from an idle core
ack-wrong : Allowed two_cores ten_receives stop_begun early_ack → ⊥
ack-wrong allowed =
    let m = allowed-moment two_cores ten_receives stop_begun early_ack stop-allowed allowed in
    let idle = acker-idle two_cores stop_begun 1 (op 0) (contexts two_cores ten_receives stop_begun stop-allowed) m in
    absurd (cc idle.closed)

abbrev stop_history : Past
stop_history = stop_completes ++ early_ack ∷ stop_begun

stop-starts : (q c : ℕ) → starts two_cores stop_history q c ≡ take (length (starts two_cores stop_history q c)) (map shown_item (arrivals two_cores stop_history q c))
stop-starts q c = by_queue (compared 2 q)
  where
    by_queue : Compared 2 q → starts two_cores stop_history q c ≡ take (length (starts two_cores stop_history q c)) (map shown_item (arrivals two_cores stop_history q c))
    by_queue (Same _ e) = subst (λ i. starts two_cores stop_history i c ≡ take (length (starts two_cores stop_history i c)) (map shown_item (arrivals two_cores stop_history i c))) e refl
    by_queue (Other f _) = rw f refl

stop-once : Once two_cores stop_history
stop-once = record {
  different = refl also refl also tt;
  sent = tt also tt also tt also tt also tt also tt also tt also tt also tt also tt also tt also tt also tt also tt also tt also tt
      also stands-between (item_of 65536 ∷ []) [] refl (λ c. refl) also tt also stands-between [] (item_of 65537 ∷ []) refl (λ c. refl) also tt also tt also tt;
  started = stop-starts;
  renewed = tt also tt also tt also tt also tt also tt also tt also tt also tt also tt also tt also refl also tt also refl also tt also tt
      also tt also tt also tt also tt also tt also tt;
  notified = λ g a. omega arith;
}

pub stop-acked : BreaksOnly two_cores ten_receives StopLaw stop_completes early_ack stop_begun
stop-acked = record {
  before = record { each = stop-allowed; whole = refl };
  wrong = ack-wrong;
  after =
      comes tt refl
      also comes tt refl
      also comes tt (Asks (Ask.End None) refl refl)
      also comes tt (Steps refl refl)
      also comes tt refl
      also comes tt (Asks (Ask.End None) refl refl)
      also comes tt (Steps refl refl)
      also tt;
  whole = refl;
  broken = λ law. absurd (cc (law.after.0 1 2 (inl refl) 0 refl));
  others = but StopLaw stop_history (λ own. absurd (own refl)) (λ _. group-obeyed two_cores stop_history refl) (λ _. atomic-obeyed two_cores stop_history refl) (λ _. stop-once.different) (λ _. stop-once.sent) (λ _. stop-once.started) (λ _. stop-once.renewed) (λ _. stop-once.notified);
  unlawful = not-lawful two_cores ten_receives stop_completes early_ack stop_begun ack-wrong;
}

-- a take by a core that a completed change excluded

group-allowed : AllAllowed two_cores ten_receives group_changed
group-allowed =
    comes tt refl
    also comes tt (Steps refl refl)
    also comes tt (Steps refl refl)
    also comes tt (Asks (Ask.End None) refl refl)
    also comes tt (Asks (Ask.Modify (record { 0 = 1 }) 1 []) refl refl)
    also comes tt (Asks (Ask.Send 65536 (queue 2) None) refl refl)
    also comes tt (Asks (Ask.Alloc (record { 0 = 0 }) 7 []) refl refl)
    also comes tt (Boots refl refl refl)
    also tt

excluded-wrong : Allowed two_cores ten_receives group_changed excluded_take → ⊥
excluded-wrong allowed =
    let m = allowed-moment two_cores ten_receives group_changed excluded_take group-allowed allowed in absurd (cc m.ready.in_group)

abbrev group_history : Past
group_history = excluded_starts ++ excluded_take ∷ group_changed

group-starts : (q c : ℕ) → starts two_cores group_history q c ≡ take (length (starts two_cores group_history q c)) (map shown_item (arrivals two_cores group_history q c))
group-starts q c = by_queue (compared 2 q)
  where
    by_queue : Compared 2 q → starts two_cores group_history q c ≡ take (length (starts two_cores group_history q c)) (map shown_item (arrivals two_cores group_history q c))
    by_queue (Same _ e) = subst (λ i. starts two_cores group_history i c ≡ take (length (starts two_cores group_history i c)) (map shown_item (arrivals two_cores group_history i c))) e refl
    by_queue (Other f _) = rw f refl

group-once : Once two_cores group_history
group-once = record {
  different = refl also tt;
  sent = tt also tt also tt also tt also tt also tt also tt also stands-between [] [] refl (λ c. refl) also tt also tt also tt;
  started = group-starts;
  renewed = refl also tt also tt also tt also tt also tt also tt also tt also tt also tt also tt;
  notified = λ g a. omega arith;
}

pub excluded-takes : BreaksOnly two_cores ten_receives GroupLaw excluded_starts excluded_take group_changed
excluded-takes = record {
  before = record { each = group-allowed; whole = refl };
  wrong = excluded-wrong;
  after = comes tt refl also tt;
  whole = refl;
  broken = λ law. absurd (cc (law.after.0 1 2 (inl refl) 1 1 refl refl));
  others = but GroupLaw group_history (λ _. stop-obeyed two_cores group_history refl) (λ own. absurd (own refl)) (λ _. atomic-obeyed two_cores group_history refl) (λ _. group-once.different) (λ _. group-once.sent) (λ _. group-once.started) (λ _. group-once.renewed) (λ _. group-once.notified);
  unlawful = not-lawful two_cores ten_receives excluded_starts excluded_take group_changed excluded-wrong;
}

-- two cores in one atomic group

inside-allowed : AllAllowed two_cores ten_receives one_inside
inside-allowed =
    comes tt refl
    also comes tt (Takes 0 refl refl)
    also comes tt (Asks (Ask.End None) refl refl)
    also comes tt (Asks (Ask.Send 65537 (queue 1) None) refl refl)
    also comes tt (Asks (Ask.Alloc (record { 0 = 0 }) 7 []) refl refl)
    also comes tt (Asks (Ask.Send 65536 (queue 0) None) refl refl)
    also comes tt (Asks (Ask.Alloc (record { 0 = 0 }) 7 []) refl refl)
    also comes tt (Boots refl refl refl)
    also tt

second-wrong : Allowed two_cores ten_receives one_inside second_take → ⊥
second-wrong allowed =
    let m = allowed-moment two_cores ten_receives one_inside second_take inside-allowed allowed in absurd (cc m.ready.unheld)

abbrev inside_history : Past
inside_history = second_starts ++ second_take ∷ one_inside

inside-starts : (q c : ℕ) → starts two_cores inside_history q c ≡ take (length (starts two_cores inside_history q c)) (map shown_item (arrivals two_cores inside_history q c))
inside-starts q c = by_queue (compared 0 q) (compared 1 q)
  where
    by_queue : Compared 0 q → Compared 1 q → starts two_cores inside_history q c ≡ take (length (starts two_cores inside_history q c)) (map shown_item (arrivals two_cores inside_history q c))
    by_queue (Same _ e) o = subst (λ i. starts two_cores inside_history i c ≡ take (length (starts two_cores inside_history i c)) (map shown_item (arrivals two_cores inside_history i c))) e refl
    by_queue (Other f _) (Same _ e) = subst (λ i. starts two_cores inside_history i c ≡ take (length (starts two_cores inside_history i c)) (map shown_item (arrivals two_cores inside_history i c))) e refl
    by_queue (Other f _) (Other g _) = rw (f, g) refl

inside-once : Once two_cores inside_history
inside-once = record {
  different = refl also refl also tt;
  sent = tt also tt also tt also tt also tt also stands-between [] [] refl (λ c. refl) also tt also stands-between [] [] refl (λ c. refl) also tt also tt also tt;
  started = inside-starts;
  renewed = refl also tt also refl also tt also tt also tt also tt also tt also tt also tt also tt;
  notified = λ g a. omega arith;
}

pub two-inside : BreaksOnly two_cores ten_receives AtomicLaw second_starts second_take one_inside
two-inside = record {
  before = record { each = inside-allowed; whole = refl };
  wrong = second-wrong;
  after = comes tt refl also tt;
  whole = refl;
  broken = λ law. absurd (cc (law.0 0 1 refl).holder);
  others = but AtomicLaw inside_history (λ _. stop-obeyed two_cores inside_history refl) (λ _. group-obeyed two_cores inside_history refl) (λ own. absurd (own refl)) (λ _. inside-once.different) (λ _. inside-once.sent) (λ _. inside-once.started) (λ _. inside-once.renewed) (λ _. inside-once.notified);
  unlawful = not-lawful two_cores ten_receives second_starts second_take one_inside second-wrong;
}

-- a second notification after an abort

aborted-allowed : AllAllowed two_cores ten_receives aborted
aborted-allowed =
    comes tt (Asks (Ask.Abort egroup) refl refl)
    also comes tt (Asks (Ask.Apply egroup 1 []) refl refl)
    also comes tt refl
    also comes tt (Takes 2 refl refl)
    also comes tt refl
    also comes tt (Asks (Ask.End None) refl refl)
    also comes tt (Asks (Ask.Free 131072) refl refl)
    also comes tt refl
    also comes tt (Takes 2 refl refl)
    also comes tt (Asks (Ask.End None) refl refl)
    also comes tt (Asks (Ask.Send 65537 (queue 2) None) refl refl)
    also comes tt (Asks (Ask.Alloc (record { 0 = 0 }) 7 []) refl refl)
    also comes tt (Asks (Ask.Send 65536 (queue 2) (Some egroup)) refl refl)
    also comes tt (Asks (Ask.Apply egroup 1 []) refl refl)
    also comes tt (Asks (Ask.Alloc (record { 0 = 0 }) 7 []) refl refl)
    also comes tt (Boots refl refl refl)
    also tt

notification-wrong : Allowed two_cores ten_receives aborted second_notification → ⊥
notification-wrong allowed =
    let m = allowed-moment two_cores ten_receives aborted second_notification aborted-allowed allowed in absurd (cc m.current)

abbrev notified_history : Past
notified_history = second_notification ∷ aborted

notified-starts : Obeys StartsInOrderLaw two_cores notified_history
notified-starts q c = by_queue (compared 2 q)
  where
    by_queue : Compared 2 q → starts two_cores notified_history q c ≡ take (length (starts two_cores notified_history q c)) (map shown_item (arrivals two_cores notified_history q c))
    by_queue (Same _ e) = subst (λ i. starts two_cores notified_history i c ≡ take (length (starts two_cores notified_history i c)) (map shown_item (arrivals two_cores notified_history i c))) e refl
    by_queue (Other f _) = rw f refl

pub notifies-twice : BreaksOnly two_cores ten_receives NotifiesOnceLaw [] second_notification aborted
notifies-twice = record {
  before = record { each = aborted-allowed; whole = refl };
  wrong = notification-wrong;
  after = tt;
  whole = refl;
  broken = λ law. let once : 2 ≤ 1 = law 0 1 in absurd (omega (arith, once));
  others = but NotifiesOnceLaw notified_history (λ _. stop-obeyed two_cores notified_history refl) (λ _. group-obeyed two_cores notified_history refl)
      (λ _. atomic-obeyed two_cores notified_history refl) (λ _. refl also refl also tt)
      (λ _. tt also tt also tt also tt also tt also tt also tt also tt also tt also tt also tt
      also stands-between (stamped 65536 (Some first_stamp) ∷ []) [] refl (λ c. refl) also tt also stands-between [] (item_of 65537 ∷ []) refl (λ c. refl)
      also tt also tt also tt also tt)
      (λ _. notified-starts)
      (λ _. tt also tt also tt also refl also tt also tt also tt also tt also refl also tt also tt also tt also tt also tt also tt also tt also tt also tt)
      (λ own. absurd (own refl));
  unlawful = not-lawful two_cores ten_receives [] second_notification aborted notification-wrong;
}

-- core 0 alone is in the atomic group, and holds it
zero-holds : (past : Past) → within two_cores past 0 ≡ Some 0 → holder two_cores past 0 ≡ Some 0 → ((c : ℕ) → (0 == c) ≡ false → within two_cores past c ≡ None)
    → ((c : ℕ) → (0 == c) ≡ false → has_open_take two_cores past 0 c ≡ false) → OnlyHolder two_cores past
zero-holds past inside holds outside untaken a c h = by_core (compared 0 c)
  where
    alone : (d : ℕ) → has_open_take two_cores past 0 d ≡ true → Compared 0 d → d ≡ 0
    alone d opened (Same _ e) = sym e
    alone d opened (Other f _) = absurd (let none = untaken d f in cc (none, opened))

    by_core : Compared 0 c → HoldsAlone two_cores past a c
    by_core (Same _ e) =
        let group : 0 ≡ a = some-inj 0 a (sym inside ∙ subst (λ i. within two_cores past i ≡ Some a) (sym e) h) in
        subst (λ i. HoldsAlone two_cores past i c) group
        (subst (λ i. HoldsAlone two_cores past 0 i) e (record { holder = holds; alone = λ d i. alone d i (compared 0 d) }))
    by_core (Other f _) = absurd (none-some a (sym (outside c f) ∙ h))

-- a start that leaves a generation out

received-allowed : AllAllowed two_cores ten_receives one_received
received-allowed =
    comes tt (Asks (Ask.End (Some zero_cells)) refl refl)
    also comes tt (Asks (Ask.Free 131072) refl refl)
    also comes tt refl
    also comes tt (Takes 0 refl refl)
    also comes tt (Asks (Ask.End None) refl refl)
    also comes tt (Asks (Ask.Send 65537 (queue 0) None) refl refl)
    also comes tt (Asks (Ask.Alloc (record { 0 = 0 }) 7 []) refl refl)
    also comes tt (Asks (Ask.Send 65536 (queue 0) None) refl refl)
    also comes tt (Asks (Ask.Alloc (record { 0 = 0 }) 7 []) refl refl)
    also comes tt (Boots refl refl refl)
    also tt

head-same : (x y : Item) (xs ys : List Item) → x ∷ xs ≡ y ∷ ys → x ≡ y
head-same x y xs ys e = cc

skip-wrong : Allowed two_cores ten_receives one_received second_start → ⊥
skip-wrong allowed =
    let m = allowed-moment two_cores ten_receives one_received second_start received-allowed allowed in
    let first : item_of 65537 ≡ m.item = head-same (item_of 65537) m.item [] m.rest m.taken in
    let next : 196609 ≡ 131073 = ap (λ (v : Event). v.handle.0) (m.event ∙ ap (item_again one_received) (sym first)) in absurd (omega (arith, next))

abbrev skipped_history : Past
skipped_history = second_start ∷ one_received

skipped-starts : Obeys StartsInOrderLaw two_cores skipped_history
skipped-starts q c = by_queue (compared 0 q)
  where
    by_queue : Compared 0 q → starts two_cores skipped_history q c ≡ take (length (starts two_cores skipped_history q c)) (map shown_item (arrivals two_cores skipped_history q c))
    by_queue (Same _ e) = subst (λ i. starts two_cores skipped_history i c ≡ take (length (starts two_cores skipped_history i c)) (map shown_item (arrivals two_cores skipped_history i c))) e refl
    by_queue (Other f _) = rw f refl

pub start-skips : BreaksOnly two_cores ten_receives StartsNextLaw [] second_start one_received
start-skips = record {
  before = record { each = received-allowed; whole = refl };
  wrong = skip-wrong;
  after = tt;
  whole = refl;
  broken = λ law. let next : 196609 ≡ 131073 = law.0 in absurd (omega (arith, next));
  others = but StartsNextLaw skipped_history (λ _. stop-obeyed two_cores skipped_history refl) (λ _. group-obeyed two_cores skipped_history refl)
      (λ _. (zero-holds skipped_history refl refl (λ c f. rw f refl) (λ c f. rw f refl), exclusive two_cores ten_receives one_received received-allowed))
      (λ _. refl also refl also tt)
      (λ _. tt also tt also tt also tt also tt also tt also stands-between (item_of 65536 ∷ []) [] refl (λ c. refl) also tt
      also stands-between [] (item_of 65537 ∷ []) refl (λ c. refl) also tt also tt also tt)
      (λ _. skipped-starts) (λ own. absurd (own refl)) (λ _ g a. omega arith);
  unlawful = not-lawful two_cores ten_receives [] second_start one_received skip-wrong;
}

-- an event that is started twice after it was given back

given-allowed : AllAllowed two_cores ten_receives given_back
given-allowed =
    comes tt refl
    also comes tt (Takes 0 refl refl)
    also comes tt (Untakes 0 _ _ refl refl refl refl)
    also received-allowed

start-wrong : Allowed two_cores ten_receives given_back second_start → ⊥
start-wrong allowed =
    let m = allowed-moment two_cores ten_receives given_back second_start given-allowed allowed in absurd (cc m.taken)

abbrev started_history : Past
started_history = second_start ∷ given_back

pub starts-twice : BreaksOnly two_cores ten_receives StartsInOrderLaw [] second_start given_back
starts-twice = record {
  before = record { each = given-allowed; whole = refl };
  wrong = start-wrong;
  after = tt;
  whole = refl;
  broken = λ law. absurd (cc (law 0 0));
  others = but StartsInOrderLaw started_history (λ _. stop-obeyed two_cores started_history refl) (λ _. group-obeyed two_cores started_history refl)
      (λ _. (zero-holds started_history refl refl (λ c f. rw f refl) (λ c f. rw f refl), exclusive two_cores ten_receives given_back given-allowed))
      (λ _. refl also refl also tt)
      (λ _. tt also tt also tt also tt also tt also tt also tt also tt also tt also stands-between (item_of 65536 ∷ []) [] refl (λ c. refl) also tt
      also stands-between [] (item_of 65537 ∷ []) refl (λ c. refl) also tt also tt also tt)
      (λ own. absurd (own refl))
      (λ _. refl also refl also tt also tt also tt also tt also refl also tt also tt also tt also tt also tt also tt also tt also tt)
      (λ _ g a. omega arith);
  unlawful = not-lawful two_cores ten_receives [] second_start given_back start-wrong;
}

-- a handle that is sent twice

sent-allowed : AllAllowed two_cores ten_receives one_sent
sent-allowed =
    comes tt (Asks (Ask.Send 65536 (queue 2) None) refl refl)
    also comes tt (Asks (Ask.Alloc (record { 0 = 0 }) 7 []) refl refl)
    also comes tt (Boots refl refl refl)
    also tt

second-send-wrong : Allowed two_cores ten_receives one_sent second_send → ⊥
second-send-wrong allowed =
    let m = allowed-moment two_cores ten_receives one_sent second_send sent-allowed allowed in absurd (cc m.rule)

abbrev twice_history : Past
twice_history = boot_ends ++ second_send ∷ one_sent

pub sends-twice : BreaksOnly two_cores ten_receives EntersOnceLaw boot_ends second_send one_sent
sends-twice = record {
  before = record { each = sent-allowed; whole = refl };
  wrong = second-send-wrong;
  after = comes tt (Asks (Ask.End None) refl refl) also tt;
  whole = refl;
  broken = λ law. absurd (cc law.0);
  others = but EntersOnceLaw twice_history (λ _. stop-obeyed two_cores twice_history refl) (λ _. group-obeyed two_cores twice_history refl)
      (λ _. atomic-obeyed two_cores twice_history refl) (λ own. absurd (own refl))
      (λ _. tt also stands-between [] (item_of 65536 ∷ []) refl (λ c. refl) also stands-between [] (item_of 65536 ∷ []) refl (λ c. refl) also tt also tt also tt)
      (λ _ q c. refl) (λ _. tt also tt also tt also tt also tt also tt) (λ _ g a. omega arith);
  unlawful = not-lawful two_cores ten_receives boot_ends second_send one_sent second-send-wrong;
}

-- a send of what was never minted

boot-allowed : AllAllowed two_cores ten_receives only_boot
boot-allowed = comes tt (Boots refl refl refl) also tt

unminted-wrong : Allowed two_cores ten_receives only_boot second_send → ⊥
unminted-wrong allowed =
    let m = allowed-moment two_cores ten_receives only_boot second_send boot-allowed allowed in absurd (cc m.rule)

abbrev unminted_history : Past
unminted_history = boot_ends ++ second_send ∷ only_boot

pub sends-unminted : BreaksOnly two_cores ten_receives EntersInTurnLaw boot_ends second_send only_boot
sends-unminted = record {
  before = record { each = boot-allowed; whole = refl };
  wrong = unminted-wrong;
  after = comes tt (Asks (Ask.End None) refl refl) also tt;
  whole = refl;
  broken = λ law. absurd (cc law.1.0.turn);
  others = but EntersInTurnLaw unminted_history (λ _. stop-obeyed two_cores unminted_history refl) (λ _. group-obeyed two_cores unminted_history refl)
      (λ _. atomic-obeyed two_cores unminted_history refl) (λ _. tt) (λ own. absurd (own refl)) (λ _ q c. refl)
      (λ _. tt also tt also tt also tt) (λ _ g a. omega arith);
  unlawful = not-lawful two_cores ten_receives boot_ends second_send only_boot unminted-wrong;
}
