-- One turn of a pass: what the lock's two calls and the desk's one leave of it.
use Rattle.std.proofs.Common.{◌≡◌, inl, ℕ, ◌≤◌, Bool, true, false, Result, Ok, Err, IfOk, OnErr, List, [], ◌∷◌, ◌++◌, None, refl, sym, ap, ◌∙◌, subst, append-nil, if◌then◌else◌}
use Rattle.std.specs.Prelude.{IsTrue}
use Rattle.em_log.specs.declared.ask.Ask.{Ask}
use Rattle.em_log.specs.declared.ask.Reply.{Reply}
use Rattle.em_log.specs.declared.entry.Entry.{Entry}
use Rattle.em_log.specs.declared.ids.NoMemory.{NoMemory}
use Rattle.em_log.specs.Allowance.{left}
use Rattle.em_log.specs.Contexts.{context}
use Rattle.em_log.specs.History.{Past, onto}
use Rattle.em_log.specs.Items.{LogItem, Halted, Fixed}
use Rattle.em_log.specs.Lawful.{Lawful, may_ask}
use Rattle.em_log.specs.Leads.{lead}
use Rattle.em_log.specs.Places.{taken}
use Rattle.em_desk.specs.State.{IsAnswered}
use Rattle.em_turn.specs.Numbers.{NoneOf, OnlyOf}
use Rattle.em_turn.specs.Seats.{SeatView, GoesOn, with_turn, after_turn}
use Rattle.em_board.specs.Marked.{entries, history, is_marked, items_of, logged}
use Rattle.em_board.specs.SharedDesks.{SharedState, desk_at, desk_in, TakeAnswered, SharedTook, SharedAnswered}
use Rattle.em_board.specs.Passes.{PassView, pass_of, IsReady}
use Rattle.em_board.specs.Calls.{IsTurn, IsAsked, IsTaken, IsUntaken, IsHalted, core_id}
use Rattle.em_board.proofs.Marked.{history-append, items-append, items-only, items-after, part-history}
use Rattle.em_board.proofs.Others.{context-others, taken-others, left-others, may_ask-others}

-- a seat that gave back a value with these items
abbrev pub turned : SeatView → List LogItem → List LogItem → SeatView
turned s xs ys = after_turn (with_turn s xs) ys

pub final : (s t u : SeatView) (xs ys : List LogItem) → t ≡ with_turn s xs → u ≡ after_turn t ys → u ≡ turned s xs ys
final s t u xs ys entered left = left ∙ ap (λ (z : SeatView). after_turn z ys) entered

module _ (c : ℕ) (s : SeatView) (L : SharedState) (ready : IsReady c s) (goes : GoesOn L.items s) (fixed : L.fixed ≡ s.fixed)
    (lawful : Lawful L.fixed.declarations L.fixed.limits (history L.items)) where
  between-none : NoneOf (c ∷ []) goes.0
  between-none = subst (λ ns. NoneOf ns goes.0) ready.numbers goes.2

  -- the history at the turn is the one that the pass has seen, and what others added
  grown : history L.items ≡ onto (entries goes.0) (history s.seen)
  grown = ap history goes.1 ∙ history-append s.seen goes.0

  lawful-now : Lawful s.fixed.declarations s.fixed.limits (onto (entries goes.0) (history s.seen))
  lawful-now = subst (λ (f : Fixed). Lawful f.declarations f.limits (onto (entries goes.0) (history s.seen))) fixed (subst (Lawful L.fixed.declarations L.fixed.limits) grown lawful)

  lawful-then : Lawful s.fixed.declarations s.fixed.limits (history (s.seen ++ goes.0))
  lawful-then = subst (Lawful s.fixed.declarations s.fixed.limits) (sym (history-append s.seen goes.0)) lawful-now

  -- the conditions on what the pass has seen hold at its turn

  pub context-now : context (history s.seen) c ≡ None → context (history L.items) c ≡ None
  context-now h = ap (λ (p : Past). context p c) grown ∙ context-others c goes.0 (history s.seen) between-none s.fixed.declarations ∙ h

  pub taken-now : taken s.fixed.declarations (history s.seen) c ≡ [] → taken L.fixed.declarations (history L.items) c ≡ []
  taken-now h = ap (λ (f : Fixed). taken f.declarations (history L.items) c) fixed ∙ ap (λ (p : Past). taken s.fixed.declarations p c) grown
      ∙ taken-others c goes.0 (history s.seen) between-none s.fixed.declarations ∙ h

  pub asks-now : (a : Ask) → IsTrue (may_ask s.fixed.declarations (history s.seen) c a) → IsTrue (may_ask L.fixed.declarations (history L.items) c a)
  asks-now a h =
      subst (λ (b : Bool). IsTrue b)
      (sym (ap (λ (f : Fixed). may_ask f.declarations (history L.items) c a) fixed ∙ ap (λ (p : Past). may_ask s.fixed.declarations p c a) grown
      ∙ may_ask-others c goes.0 (history s.seen) between-none s.fixed.declarations s.fixed.limits lawful-now.each a)) h

  pub left-now : (n : ℕ) → n ≤ left s.fixed.declarations (history s.seen) c → n ≤ left L.fixed.declarations (history L.items) c
  left-now n h =
      subst (λ (m : ℕ). n ≤ m)
      (sym (ap (λ (f : Fixed). left f.declarations (history L.items) c) fixed ∙ ap (λ (p : Past). left s.fixed.declarations p c) grown
      ∙ left-others c goes.0 (history s.seen) between-none s.fixed.declarations)) h

  -- what the call leaves

  module _ (L' : SharedState) (added : List LogItem) (items : L'.items ≡ L.items ++ added) (only : OnlyOf (c ∷ []) added)
      (same : L'.fixed ≡ L.fixed) (after : Lawful L'.fixed.declarations L'.fixed.limits (history L'.items)) where
    lawful-after : Lawful s.fixed.declarations s.fixed.limits (history L'.items)
    lawful-after = subst (λ (f : Fixed). Lawful f.declarations f.limits (history L'.items)) (same ∙ fixed) after

    pub ready-after : IsReady c (turned s L.items L'.items)
    ready-after = record { numbers = ready.numbers; outside = refl; core = ready.core; cores = ready.cores; share = ready.share; lawful = lawful-after }

    pub turn-after : IsTurn (pass_of c s) (pass_of c (turned s L.items L'.items)) goes.0 added
    turn-after = record {
      others = between-none;
      before = lawful-then;
      seen = items ∙ ap (λ (l : List LogItem). l ++ added) goes.1;
      own = ap (items_of c) items ∙ items-append c L.items added ∙ (λ i. items-after c s.seen goes.0 L.items goes.1 between-none i ++ items-only c added only i);
      own_part = part-history c L'.items;
      turns = refl;
      board = refl;
      core = refl;
      fixed = refl;
      lawful = lawful-after;
    }

    pub leaves : (numbers : List ℕ) (seen : List LogItem) → numbers ≡ s.numbers → seen ≡ L.items → (added : List LogItem) × (L'.items ≡ seen ++ added) × OnlyOf numbers added
    leaves numbers seen ns is = (added, items ∙ ap (λ (l : List LogItem). l ++ added) (sym is), subst (λ (ms : List ℕ). OnlyOf ms added) (sym (ns ∙ ready.numbers)) only)

  -- the desk at the turn
  at-turn : L ≡ record { fixed = s.fixed; items = s.seen ++ goes.0 }
  at-turn = λ i. record { fixed = fixed i; items = goes.1 i }

  after-turn : (L' : SharedState) → L'.fixed ≡ L.fixed → L' ≡ record { fixed = s.fixed; items = L'.items }
  after-turn L' same = λ i. record { fixed = (same ∙ fixed) i; items = L'.items }

  pub asked : (L' : SharedState) (ask : Ask) (reply : Reply) → SharedAnswered L L' c ask reply → IsAsked (pass_of c s) (pass_of c (turned s L.items L'.items)) ask reply
  asked L' ask reply a = record {
    between = goes.0;
    entries = a.entries;
    turn = turn-after L' (logged a.entries) a.grows.items a.grows.only a.grows.fixed a.grows.lawful;
    answered = subst (λ (y : SharedState). IsAnswered (desk_at s.fixed (s.seen ++ goes.0)) (desk_in y) c (lead s.fixed.declarations (history (s.seen ++ goes.0)) c ask) reply)
        (after-turn L' a.grows.fixed)
        (subst (λ (x : SharedState). IsAnswered (desk_in x) (desk_in L') c (lead x.fixed.declarations (history x.items) c ask) reply) at-turn a.answered);
  }

  pub taken-by : (L' : SharedState) (reply : Reply) → SharedTook L L' c reply → IsTaken (pass_of c s) (pass_of c (turned s L.items L'.items)) reply
  taken-by L' reply a = record {
    between = goes.0;
    entries = a.entries;
    turn = turn-after L' (logged a.entries) a.grows.items a.grows.only a.grows.fixed a.grows.lawful;
    answered = subst (λ (y : SharedState). TakeAnswered (desk_at s.fixed (s.seen ++ goes.0)) (desk_in y) c reply) (after-turn L' a.grows.fixed)
        (subst (λ (x : SharedState). TakeAnswered (desk_in x) (desk_in L') c reply) at-turn a.answered);
  }

  pub unchanged : (L' : SharedState) → L' ≡ L → IsUntaken (pass_of c s) (pass_of c (turned s L.items L'.items))
  unchanged L' e = (
    goes.0,
    turn-after L' [] (ap (λ (z : SharedState). z.items) e ∙ sym (append-nil L.items)) tt (ap (λ (z : SharedState). z.fixed) e)
        (subst (λ (z : SharedState). Lawful z.fixed.declarations z.fixed.limits (history z.items)) (sym e) lawful),
  )

  -- a take, whatever it is answered

  module _ (L' : SharedState) (r : Result Reply NoMemory) (ok : IfOk r (λ x. SharedTook L L' c x)) (err : OnErr r (L' ≡ L)) where
    pub take-leaves : (numbers : List ℕ) (seen : List LogItem) → numbers ≡ s.numbers → seen ≡ L.items → (added : List LogItem) × (L'.items ≡ seen ++ added) × OnlyOf numbers added
    take-leaves numbers seen ns is = by_result r ok err
      where
        by_result : (r : Result Reply NoMemory) → IfOk r (λ x. SharedTook L L' c x) → OnErr r (L' ≡ L) → (added : List LogItem) × (L'.items ≡ seen ++ added) × OnlyOf numbers added
        by_result (Ok x) a e = leaves L' (logged a.entries) a.grows.items a.grows.only a.grows.fixed a.grows.lawful numbers seen ns is
        by_result (Err x) a e =
            ([], ap (λ (z : SharedState). z.items) e ∙ sym is ∙ sym (append-nil seen), tt)

    -- p is the pass before the call, and u its seat after it
    pub take-ok : (p : PassView) (u : SeatView) → pass_of c s ≡ p → u ≡ turned s L.items L'.items → IfOk r (λ x. IsTaken p (pass_of c u) x)
    take-ok p u shows is = by_result r ok err
      where
        by_result : (r : Result Reply NoMemory) → IfOk r (λ x. SharedTook L L' c x) → OnErr r (L' ≡ L) → IfOk r (λ x. IsTaken p (pass_of c u) x)
        by_result (Ok x) a e = subst (λ (v : SeatView). IsTaken p (pass_of c v) x) (sym is) (subst (λ (q : PassView). IsTaken q (pass_of c (turned s L.items L'.items)) x) shows (taken-by L' x a))
        by_result (Err x) a e = tt

    pub take-err : (p : PassView) (u : SeatView) → pass_of c s ≡ p → u ≡ turned s L.items L'.items → OnErr r (IsUntaken p (pass_of c u))
    take-err p u shows is = by_result r ok err
      where
        by_result : (r : Result Reply NoMemory) → IfOk r (λ x. SharedTook L L' c x) → OnErr r (L' ≡ L) → OnErr r (IsUntaken p (pass_of c u))
        by_result (Ok x) a e = tt
        by_result (Err x) a e = subst (λ (v : SeatView). IsUntaken p (pass_of c v)) (sym is) (subst (λ (q : PassView). IsUntaken q (pass_of c (turned s L.items L'.items))) shows (unchanged L' e))

  -- a halt
  only-mark : (b : Bool) → OnlyOf (c ∷ []) (if b then [] else Halted (core_id c) ∷ [])
  only-mark true = tt
  only-mark false = (inl refl, tt)

  no-entry : (b : Bool) → entries (if b then [] else Halted (core_id c) ∷ []) ≡ []
  no-entry true = refl
  no-entry false = refl

  lawful-mark : (L' : SharedState) → L'.fixed ≡ L.fixed → L'.items ≡ L.items ++ (if is_marked L.items then [] else Halted (core_id c) ∷ [])
      → Lawful L'.fixed.declarations L'.fixed.limits (history L'.items)
  lawful-mark L' same items =
      let e : history L'.items ≡ history L.items = ap history items ∙ history-append L.items _ ∙ ap (λ (es : List Entry). onto es (history L.items)) (no-entry (is_marked L.items)) in
      subst (λ (f : Fixed). Lawful f.declarations f.limits (history L'.items)) (sym same) (subst (Lawful L.fixed.declarations L.fixed.limits) (sym e) lawful)

  module _ (L' : SharedState) (same : L'.fixed ≡ L.fixed) (items : L'.items ≡ L.items ++ (if is_marked L.items then [] else Halted (core_id c) ∷ [])) where
    pub halt-ready : IsReady c (turned s L.items L'.items)
    halt-ready = ready-after L' _ items (only-mark (is_marked L.items)) same (lawful-mark L' same items)

    pub halt-leaves : (numbers : List ℕ) (seen : List LogItem) → numbers ≡ s.numbers → seen ≡ L.items → (added : List LogItem) × (L'.items ≡ seen ++ added) × OnlyOf numbers added
    halt-leaves numbers seen ns is = leaves L' _ items (only-mark (is_marked L.items)) same (lawful-mark L' same items) numbers seen ns is

    pub halted : IsHalted (pass_of c s) (pass_of c (turned s L.items L'.items))
    halted = (
      goes.0,
      subst (λ (xs : List LogItem). IsTurn (pass_of c s) (pass_of c (turned s L.items L'.items)) goes.0 (if is_marked xs then [] else Halted (core_id c) ∷ [])) goes.1
          (turn-after L' _ items (only-mark (is_marked L.items)) same (lawful-mark L' same items)),
    )
