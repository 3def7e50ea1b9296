use Rattle.std.proofs.Common.{◌≡◌, ◌∙◌, ◌∷◌, List, Option, Some, None, length, suc, refl, ap, sym, subst, arith}
use Rattle.em_log.specs.declared.entry.What.{What}
use Rattle.em_log.specs.History.{entries_by, onto}
use Rattle.em_order.specs.declared.item_list.Item.{Item}
use Rattle.em_order.specs.State.{OrderState}
use Rattle.em_desk.specs.declared.acts.Act.{Act}
use Rattle.em_desk.specs.Acts.{said, past_after}
use Rattle.em_desk.specs.Standing.{Ending, IsReleasing}
use Rattle.em_desk.proofs.Released.{Follows, popped, done, goes-on, said-on, release-below, release-event, release-minted}
use Rattle.em_desk.proofs.parts.Parts.release.Goals.{After-perform}
use Rattle.em_desk.proofs.parts.Parts.release.Goals as goal

pub loop-item-init : goal.loop-item-init
loop-item-init c = record { follows = λ acts rest r. record { later = acts; releasing = r; past = refl }; declarations = refl; limits = refl }

pub releasing-act-requires-clause-within : goal.releasing-act-requires-clause-within
releasing-act-requires-clause-within c =
    let p = c.loop-item.self in
    let f = c.loop-item.invariant.follows c.requires.0 c.requires.1 c.requires.2 in
    let m = popped p c.released.new.self c.args.core.0 c.released.result c.in-Some.item f.later c.requires.1 f.releasing c.released.ensures.answer c.released.ensures.stands c.released.ensures.same_shape c.in-Some.is in
    release-below p c.released.new.self c.args.core.0 c.in-Some.item f.later c.requires.1 m

pub releasing-act-requires-clause-minted : goal.releasing-act-requires-clause-minted
releasing-act-requires-clause-minted c =
    let p = c.loop-item.self in
    let f = c.loop-item.invariant.follows c.requires.0 c.requires.1 c.requires.2 in
    let m = popped p c.released.new.self c.args.core.0 c.released.result c.in-Some.item f.later c.requires.1 f.releasing c.released.ensures.answer c.released.ensures.stands c.released.ensures.same_shape c.in-Some.is in
    release-minted p c.released.new.self c.args.core.0 c.in-Some.item f.later c.requires.1 m

pub perform-requires : goal.perform-requires
perform-requires c =
    let p = c.loop-item.self in
    let x = c.released.new.self in
    let f = c.loop-item.invariant.follows c.requires.0 c.requires.1 c.requires.2 in
    let m = popped p x c.args.core.0 c.released.result c.in-Some.item f.later c.requires.1 f.releasing c.released.ensures.answer c.released.ensures.stands c.released.ensures.same_shape c.in-Some.is in
    let act = c.releasing-act.ensures m.release.event (release-event p x c.args.core.0 c.in-Some.item f.later c.requires.1 m) ∙ sym m.release.act in (
      m.later,
      c.requires.1,
      length x.due,
      subst (λ (a : Act). Ending (record p { orders = x }) c.args.core.0 (a ∷ m.later) c.requires.1 (length x.due)) (sym act) m.standing,
    )

-- after one release
next : (c : After-perform) → (acts : List Act) (rest : List What) → IsReleasing c.args.self.now c.args.core.0 acts rest
    → Follows c.args.self.now c.perform.new.self c.args.core.0 acts rest
next c acts rest r =
    let p = c.loop-item.self in
    let q = c.perform.new.self in
    let n = c.args.core.0 in
    let x = c.released.new.self in
    let f = c.loop-item.invariant.follows acts rest r in
    let m = popped p x n c.released.result c.in-Some.item f.later rest f.releasing c.released.ensures.answer c.released.ensures.stands c.released.ensures.same_shape c.in-Some.is in
    let act : c.releasing-act.result ≡ m.act = c.releasing-act.ensures m.release.event (release-event p x n c.in-Some.item f.later rest m) ∙ sym m.release.act in
    let stands = c.perform.ensures.stands m.later rest (length x.due) (subst (λ (a : Act). Ending (record p { orders = x }) n (a ∷ m.later) rest (length x.due)) (sym act) m.standing) in
    let past = c.perform.ensures.past ∙ ap (λ (a : Act). past_after n a.says p.history.past) act in
    record {
      later = m.later;
      releasing = goes-on p q x n c.in-Some.item f.later rest m stands past c.perform.ensures.declarations c.perform.ensures.orders;
      past = ap (onto (entries_by n (said m.later))) past ∙ (said-on n m.act.says (said m.later) p.history.past
          ∙ (ap (λ (acts : List Act). onto (entries_by n (said acts)) p.history.past) (sym m.are) ∙ f.past));
    }

pub loop-item-smaller : goal.loop-item-smaller
loop-item-smaller c =
    let p = c.loop-item.self in
    let x = c.released.new.self in
    let f = c.loop-item.invariant.follows c.requires.0 c.requires.1 c.requires.2 in
    let m = popped p x c.args.core.0 c.released.result c.in-Some.item f.later c.requires.1 f.releasing c.released.ensures.answer c.released.ensures.stands c.released.ensures.same_shape c.in-Some.is in
    let was : length p.orders.due ≡ suc (length x.due) = ap length m.due in
    let now : length c.perform.new.self.orders.due ≡ length x.due = ap (λ (v : OrderState). length v.due) c.perform.ensures.orders in
    omega (arith, was, now)

pub loop-item-preserved : goal.loop-item-preserved
loop-item-preserved c = record {
  follows = next c;
  declarations = c.perform.ensures.declarations ∙ c.loop-item.invariant.declarations;
  limits = c.perform.ensures.limits ∙ c.loop-item.invariant.limits;
}

-- after the last

none-is : (o : Option Item) → ((i : Item) → o ≡ Some i → ⊥) → o ≡ None
none-is None other = refl
none-is (Some i) other = absurd (other i refl)

pub returns-clause-stands : goal.returns-clause-stands
returns-clause-stands c = λ acts rest r.
    let f = c.loop-item.invariant.follows acts rest r in
    (done c.loop-item.self c.released.new.self c.args.core.0 c.released.result f.later rest f.releasing c.released.ensures.answer c.released.ensures.stands c.released.ensures.same_shape
    (none-is c.released.result c.in_default.not-Some)).stands

pub returns-clause-past : goal.returns-clause-past
returns-clause-past c = λ acts rest r.
    let f = c.loop-item.invariant.follows acts rest r in
    let d = done c.loop-item.self c.released.new.self c.args.core.0 c.released.result f.later rest f.releasing c.released.ensures.answer c.released.ensures.stands c.released.ensures.same_shape
    (none-is c.released.result c.in_default.not-Some)
    in
    sym (ap (λ (acts : List Act). onto (entries_by c.args.core.0 (said acts)) c.loop-item.self.history.past) d.none) ∙ f.past
