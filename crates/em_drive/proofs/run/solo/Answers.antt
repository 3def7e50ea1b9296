use Rattle.std.proofs.Common.{◌≡◌, ℕ, ◌<◌, length, List, Option, Some, None, refl, sym, ap, ◌∙◌, subst, arith, slice_get, slice_index_or, IfSome}
use Rattle.em_log.specs.declared.ids.EndKind.{EndKind}
use Rattle.em_log.specs.Declarations.{declarations_of}
use Rattle.em_bounds.specs.Bound.{history_limit}
use Rattle.em_desk.specs.State.{DeskState}
use Rattle.em_drive.specs.Going.{AreGoing, HasRounded}
use Rattle.em_drive.specs.Runs.{IsRun}
use Rattle.em_drive.proofs.Rounds.{new-going, kept-going, desk-of, order-below, order-at, round-goes-on, round-grows}
use Rattle.em_drive.proofs.run.solo.Goals as goal

not-some : (o : Option EndKind) → ((end : EndKind) → o ≡ Some end → ⊥) → o ≡ None
not-some None none = refl
not-some (Some end) none = absurd (none end refl)

pub loop-core-init : goal.loop-core-init
loop-core-init g c =
    subst (λ (d : DeskState). AreGoing c.args.config.now c.args.limits d c.in_ok-runs.runs.items) (sym c.in_ok-desk.ensures)
    (new-going c.args.config.now c.args.limits c.in_ok-runs.runs.items c.requires.well_formed c.requires.servable c.requires.burst c.in_ok-runs.ensures)

pub loop-core-smaller : goal.loop-core-smaller
loop-core-smaller g c =
    let items = ap length c.as_slice-core-items.ensures in
    let all : c.loop-core-2.core-index ≡ length c.args.order.now = omega (arith, items, c.loop-core-2-test.false, c.loop-core-2.auto.core-index-end) in
    let grows = round-grows c.args.config.now c.args.limits c.loop-core.desk.past c.loop-core-2.desk.past c.args.order.now c.requires.well_formed c.requires.order
    (subst (λ (n : ℕ). HasRounded c.args.config.now c.args.limits c.loop-core.desk.past c.loop-core-2.desk.past c.args.order.now n) all c.loop-core-2.invariant.rounded) in
    let few = c.history_is_lawful.ensures.few in
    let desk = desk-of c.args.config.now c.args.limits c.loop-core.desk c.loop-core.runs.items c.requires.well_formed c.loop-core.invariant in
    let limit : history_limit c.loop-core.desk.declarations c.loop-core.desk.limits ≡ history_limit (declarations_of c.args.config.now) c.args.limits =
    λ i. history_limit (desk.0 i) (desk.1 i) in
    omega (arith, grows, few, limit)

pub turn_of-requires-clause-core : goal.turn_of-requires-clause-core
turn_of-requires-clause-core g c =
    let items = ap length c.as_slice-core-items.ensures in
    let lt : c.loop-core-2.core-index < length c.as_slice-core-items.result.now = omega (arith, c.loop-core-2-test.true, c.loop-core-2.auto.core-index-end, items) in
    let below = order-below c.args.config.now.cores c.args.order.now c.loop-core-2.core-index 0 c.requires.order (omega (arith, lt, items)) in
    let count = ap length c.as_mut_slice.ensures.value in
    let cores = c.loop-core-2.invariant.going.count in
    let core : slice_index_or c.as_slice-core-items.result.now c.loop-core-2.core-index 0 ≡ slice_index_or c.args.order.now c.loop-core-2.core-index 0 =
    ap (λ (ns : List ℕ). slice_index_or ns c.loop-core-2.core-index 0) c.as_slice-core-items.ensures in
    omega (arith, below, count, cores, core)

pub returns-in-Some : goal.returns-in-Some
returns-in-Some g c =
    let are = subst (AreGoing c.args.config.now c.args.limits c.loop-core-2.desk) (sym c.as_mut_slice.ensures.value) c.loop-core-2.invariant.going in
    subst (λ (o : Option EndKind). IfSome o (λ kind. IsRun c.args.config.now c.args.limits c.turn_of.new.desk kind)) c.in-Some.is
    (c.in_ok-end.ensures.ended c.args.config.now c.args.limits are)

pub loop-core-2-preserved : goal.loop-core-2-preserved
loop-core-2-preserved g c =
    let h = c.args.config.now in
    let l = c.args.limits in
    let items = ap length c.as_slice-core-items.ensures in
    let lt : c.loop-core-2.core-index < length c.args.order.now = omega (arith, c.loop-core-2-test.true, c.loop-core-2.auto.core-index-end, items) in
    let none = not-some c.in_ok-end.field-0 (λ end is. c.in_default.not-Some end is) in
    let are = subst (AreGoing h l c.loop-core-2.desk) (sym c.as_mut_slice.ensures.value) c.loop-core-2.invariant.going in
    let at : slice_get c.args.order.now c.loop-core-2.core-index ≡ Some (slice_index_or c.as_slice-core-items.result.now c.loop-core-2.core-index 0) =
    order-at c.args.order.now c.loop-core-2.core-index 0 lt
    ∙ ap (λ (ns : List ℕ). Some (slice_index_or ns c.loop-core-2.core-index 0)) (sym c.as_slice-core-items.ensures) in
    record {
      going = kept-going h l c.loop-core-2.desk c.turn_of.new.desk c.loop-core-2.runs.len c.loop-core-2.runs.items c.turn_of.new.runs
          (sym c.as_mut_slice.ensures.len ∙ ap length c.as_mut_slice.ensures.value) c.loop-core-2.invariant.going (c.in_ok-end.ensures.going h l are none);
      rounded = round-goes-on h l c.loop-core.desk.past c.loop-core-2.desk.past c.turn_of.new.desk.past c.args.order.now c.loop-core-2.core-index
          (slice_index_or c.as_slice-core-items.result.now c.loop-core-2.core-index 0) at c.loop-core-2.invariant.rounded (c.in_ok-end.ensures.turned h l are none);
    }
