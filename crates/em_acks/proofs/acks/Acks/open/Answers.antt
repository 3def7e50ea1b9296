use Rattle.std.proofs.Common.{◌≡◌, suc, vec_capacity, List, [], ◌∷◌, ◌++◌, length, Option, Some, arith, refl, ap, sym, ◌∙◌, subst}
use Rattle.em_log.specs.Operations.{op_id}
use Rattle.em_acks.specs.declared.unfinished.Unfinished.{Unfinished}
use Rattle.em_acks.specs.State.{AckState, first_at}
use Rattle.em_acks.specs.Slots.{slot_at, unfinished_in}
use Rattle.em_acks.specs.Whole.{IsWhole}
use Rattle.em_acks.specs.Changes.{begun_by}
use Rattle.em_acks.proofs.Slots.{slot-past, pushed-at, pushed-length, pushed-other, pushed-in}
use Rattle.em_acks.proofs.OwedSets.{marked-all}
use Rattle.em_acks.proofs.Places.{first-pending-at, free-target, free-room}
use Rattle.em_acks.proofs.Indexed.{begun-indexed}
use Rattle.em_acks.proofs.acks.Acks.open.Goals as goal

pub invariant_of-self : goal.invariant_of-self
invariant_of-self c =
    let items = c.self.inside.begun.items in
    let sets = c.self.inside.owed.items in
    let is = c.self.invariant.indexed in
    let n = c.len.result in
    let u : Unfinished = record { op = op_id n; job = c.args.job; target = c.args.target; owing = c.at_first.result } in
    let count : length items ≡ n = let e = c.len.ensures in omega arith in
    let begun = ap (λ (v : AckState). v.begun) c.self.view_is in
    let lt = free-room c.args.self.now.begun (first_at c.args.target c.args.self.now.unfinished) c.requires.free in
    let free = first-pending-at items is.numbered c.self.inside.pending is.told is.found c.args.target
    ∙ (ap (λ (v : AckState). first_at c.args.target v.unfinished) c.self.view_is
    ∙ free-target c.args.self.now.begun (first_at c.args.target c.args.self.now.unfinished) c.requires.free) in
    let now = items ++ Some u ∷ [] in
    subst (λ (l : List (Option Unfinished)). IsWhole c.self.inside.cores l c.mark.new.owed.items c.put.new.self (vec_capacity c.push_reserved.new.self)) (sym c.push_reserved.ensures.items)
    (record {
      few_cores = c.self.invariant.few_cores;
      few = let l = pushed-length items (Some u) in omega arith;
      enough = let same = c.push_reserved.ensures.capacity in let most = c.self.invariant.enough in omega arith;
      indexed =
          begun-indexed is now n u (ap (slot_at now) (sym count) ∙ pushed-at items (Some u)) (λ m ne. pushed-other items (Some u) m (λ e. ne (e ∙ count)))
          refl (slot-past items n (omega arith)) free c.mark.new.owed.items c.mark.ensures.count
          (marked-all sets c.mark.new.owed.items n (Some u) c.mark.ensures.sets) c.put.new.self c.put.ensures.places c.put.ensures.value;
    })

pub returns-clause-value : goal.returns-clause-value
returns-clause-value c =
    let items = c.self.inside.begun.items in
    let cores = c.self.inside.cores in
    let n = c.len.result in
    let u : Unfinished = record { op = op_id n; job = c.args.job; target = c.args.target; owing = c.at_first.result } in
    let count : length items ≡ n = let e = c.len.ensures in omega arith in
    ap (λ (l : List (Option Unfinished)). record { cores = cores; begun = length l; unfinished = unfinished_in l }) c.push_reserved.ensures.items
    ∙ ((λ i. record { cores = cores; begun = pushed-length items (Some u) i; unfinished = pushed-in items u i })
    ∙ ((λ i. record {
      cores = cores;
      begun = suc (length items);
      unfinished = unfinished_in items ++ record { op = op_id (sym count i); job = c.args.job; target = c.args.target; owing = c.at_first.ensures i } ∷ [];
    })
    ∙ ap (λ (v : AckState). begun_by v c.args.core.0 c.args.job c.args.target) c.self.view_is))
