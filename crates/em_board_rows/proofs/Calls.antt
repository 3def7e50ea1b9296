-- What the calls of a pass leave of it.
use Rattle.std.proofs.Common.{◌≡◌, ◌≤◌, ◌+◌, ℕ, Bool, true, false, List, [], ◌∷◌, ◌++◌, Option, Some, None, refl, sym, ap, ◌∙◌, subst, arith, is_some, if◌then◌else◌}
use Rattle.em_log.specs.declared.ask.Answer.{Answer}
use Rattle.em_log.specs.declared.ask.Ask.{Ask}
use Rattle.em_log.specs.declared.ask.Reply.{Reply}
use Rattle.em_log.specs.declared.declarations.Declarations.{Declarations}
use Rattle.em_log.specs.declared.entry.Entry.{Entry}
use Rattle.em_log.specs.declared.entry.What.{What}
use Rattle.em_log.specs.declared.ids.Limits.{Limits}
use Rattle.em_log.specs.Allowance.{cost_of_ask, left}
use Rattle.em_log.specs.Contexts.{context}
use Rattle.em_log.specs.History.{Past, onto}
use Rattle.em_log.specs.Items.{LogItem, Halted, Fixed}
use Rattle.em_log.specs.Lawful.{may_ask}
use Rattle.em_log.specs.Places.{taken}
use Rattle.em_laws.proofs.Single.{nothing-taken}
use Rattle.em_turn.specs.Seats.{TableId}
use Rattle.em_board.specs.Calls.{IsTurn, IsAsked, IsTaken, IsUntaken, IsHalted, core_id}
use Rattle.em_board.specs.Marked.{entries, history, is_marked, logged}
use Rattle.em_board.specs.Passes.{PassView}
use Rattle.em_board.proofs.Marked.{history-append}
use Rattle.em_board.proofs.Others.{context-others, left-others}
use Rattle.em_board_rows.specs.Cores.{HasOneQueue, IsPlainRun, is_context, is_plain}
use Rattle.em_board_rows.specs.Passes.{IsOf, left_of, rights}
use Rattle.em_board_rows.proofs.Cores.{AfterTake, AfterAsk, after-ask, after-end, after-take, may-end, none-there, plain-goes_on}

-- what is known of the history at the turn
record AtTurn (old : PassView) (between : List LogItem) (inside : Bool) : Type 0 where
  open_context : is_some (context (history (old.seen ++ between)) old.core) ≡ inside
  room : left old.fixed.declarations (history (old.seen ++ between)) old.core ≡ left_of old

module _ (such : Declarations → Limits → Type 0) (plain : (k : Declarations) (l : Limits) → such k l → IsPlainRun k l) (board : TableId) where
  pub closed : (p : PassView) → IsOf such board false p → context (history p.seen) p.core ≡ None
  closed p at = none-there (context (history p.seen) p.core) at.known.open_context

  pub untaken : (inside : Bool) (p : PassView) → IsOf such board inside p → taken p.fixed.declarations (history p.seen) p.core ≡ []
  untaken inside p at =
      let lawful = at.known.lawful in
      nothing-taken p.fixed.declarations p.fixed.limits (history p.seen) (plain p.fixed.declarations p.fixed.limits at.run).burst lawful.each lawful.whole p.core

  pub ends : (p : PassView) → IsOf such board true p → may_ask p.fixed.declarations (history p.seen) p.core (Ask.End None) ≡ true
  ends p at = may-end p.fixed.declarations p.fixed.limits (plain p.fixed.declarations p.fixed.limits at.run) (history p.seen) p.core at.known.open_context

  -- one turn

  module _ (inside : Bool) (old new : PassView) (between added : List LogItem) (at : IsOf such board inside old) (t : IsTurn old new between added) where
    at-turn : AtTurn old between inside
    at-turn =
        let k = old.fixed.declarations in
        let grown : history (old.seen ++ between) ≡ onto (entries between) (history old.seen) = history-append old.seen between in
        record {
          open_context = ap (λ (h : Past). is_some (context h old.core)) grown
              ∙ ap (λ (o : Option What). is_some o) (context-others old.core between (history old.seen) t.others k) ∙ at.known.open_context;
          room = ap (λ (h : Past). left k h old.core) grown ∙ left-others old.core between (history old.seen) t.others k;
        }

    -- the pass where its core is inside a context or not
    at-last : (now : Bool) → is_some (context (history new.seen) old.core) ≡ now → IsOf such board now new
    at-last now is =
        record {
          here = t.board ∙ at.here;
          run = subst (λ (f : Fixed). such f.declarations f.limits) (sym t.fixed) at.run;
          known = record { lawful = t.lawful; open_context = ap (λ (c : ℕ). is_some (context (history new.seen) c)) t.core ∙ is };
        }

    left-last : left old.fixed.declarations (history new.seen) old.core ≡ left_of new
    left-last = λ i. left (sym t.fixed i).declarations (history new.seen) (sym t.core i)

    -- nothing but a mark was added
    pub marked-at : entries added ≡ [] → IsOf such board inside new
    marked-at none =
        at-last inside
        (ap (λ (xs : List LogItem). is_some (context (history xs) old.core)) t.seen
        ∙ ap (λ (h : Past). is_some (context h old.core)) (history-append (old.seen ++ between) added ∙ ap (λ (es : List Entry). onto es (history (old.seen ++ between))) none)
        ∙ at-turn.open_context)

  -- a take

  taken-after : (old new : PassView) (reply : Reply) → IsOf such board false old → IsTaken old new reply
      → AfterTake old.fixed.declarations (history new.seen) old.core reply.answer
  taken-after old new reply at t =
      let shut : context (history (old.seen ++ t.between)) old.core ≡ None =
      none-there (context (history (old.seen ++ t.between)) old.core) (at-turn false old new t.between (logged t.entries) at t.turn).open_context in
      after-take old.fixed.declarations old.fixed.limits (plain old.fixed.declarations old.fixed.limits at.run) _ (history (old.seen ++ t.between)) (history new.seen)
      old.core reply.answer shut t.answered.idle t.answered.takes

  pub taken-at : (old new : PassView) (reply : Reply) → IsOf such board false old → IsTaken old new reply → IsOf such board (is_context reply.answer) new
  taken-at old new reply at t =
      at-last false old new t.between (logged t.entries) at t.turn (is_context reply.answer) (taken-after old new reply at t).inside

  pub taken-room : (old new : PassView) (reply : Reply) → IsOf such board false old → IsTaken old new reply → is_context reply.answer ≡ true → 256 ≤ left_of new
  taken-room old new reply at t some =
      subst (λ (n : ℕ). 256 ≤ n) (left-last false old new t.between (logged t.entries) at t.turn) ((taken-after old new reply at t).whole some)

  pub untaken-at : (old new : PassView) → IsOf such board false old → IsUntaken old new → IsOf such board false new
  untaken-at old new at t = marked-at false old new t.0 [] at t.1 refl

  -- an end and a halt

  pub ended-at : (old new : PassView) (reply : Reply) → IsOf such board true old → IsAsked old new (Ask.End None) reply → IsOf such board false new
  ended-at old new reply at t =
      at-last true old new t.between (logged t.entries) at t.turn false
      (ap (λ (h : Past). is_some (context h old.core)) t.answered.past
      ∙ after-end old.fixed.declarations old.fixed.limits (plain old.fixed.declarations old.fixed.limits at.run) (history (old.seen ++ t.between)) old.core)

  pub halted-at : (inside : Bool) (old new : PassView) → IsOf such board inside old → IsHalted old new → IsOf such board inside new
  halted-at inside old new at t = marked-at inside old new t.0 _ at t.1 (no-entry (is_marked (old.seen ++ t.0)))
    where
      no-entry : (b : Bool) → entries (if b then [] else Halted (core_id old.core) ∷ []) ≡ []
      no-entry true = refl
      no-entry false = refl

  -- an ask

  asked-after : (old new : PassView) (a : Ask) (reply : Reply) (at : IsOf such board true old) (t : IsAsked old new a reply) → is_plain a ≡ true
      → AfterAsk old.fixed.declarations (history (old.seen ++ t.between)) (history new.seen) old.core a
  asked-after old new a reply at t plain =
      let k = old.fixed.declarations in
      let past = history (old.seen ++ t.between) in
      subst (λ (h : Past). AfterAsk k past h old.core a) (sym t.answered.past)
      (after-ask k past old.core a t.turn.before.whole (at-turn true old new t.between (logged t.entries) at t.turn).open_context (plain-goes_on a plain))

  pub asked-at : (old new : PassView) (a : Ask) (reply : Reply) → IsOf such board true old → IsAsked old new a reply → is_plain a ≡ true → IsOf such board true new
  asked-at old new a reply at t plain =
      at-last true old new t.between (logged t.entries) at t.turn true (asked-after old new a reply at t plain).inside

  pub asked-room : (old new : PassView) (a : Ask) (reply : Reply) → IsOf such board true old → IsAsked old new a reply → is_plain a ≡ true
      → left_of old ≤ left_of new + cost_of_ask a
  asked-room old new a reply at t plain =
      let room = (asked-after old new a reply at t plain).room in
      let start = (at-turn true old new t.between (logged t.entries) at t.turn).room in
      let now = left-last true old new t.between (logged t.entries) at t.turn in
      omega (arith, room, start, now)

pub same-rights : (old new : PassView) (between added : List LogItem) → IsTurn old new between added → rights new ≡ rights old
same-rights old new between added t = λ i. record { board = t.board i; core = t.core i; fixed = t.fixed i }

pub of-one : (k : Declarations) (l : Limits) → HasOneQueue k l → IsPlainRun k l
of-one k l one = one.run
