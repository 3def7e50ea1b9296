use Rattle.std.proofs.Common.{◌≡◌, ℕ, Option, Some, None, arith, ap, sym, ◌∙◌}
use Rattle.std.specs.Option.{option_map, option_and_then}
use Rattle.std.proofs.lemmas.List.{get_or_default}
use Rattle.em_log.specs.declared.ids.OpId.{OpId}
use Rattle.em_log.specs.Operations.{op_id}
use Rattle.em_acks.specs.declared.job.Phase.{Phase}
use Rattle.em_acks.specs.declared.sets.OperationSet.{OperationSet}
use Rattle.em_acks.specs.Sets.{contains, set_at, owes, no_operations}
use Rattle.em_acks.specs.State.{AckState, first_owed_in, owed_at}
use Rattle.em_acks.specs.Slots.{slot_at}
use Rattle.em_acks.proofs.Slots.{owed_of, step_at, find-slot, first-owed-at}
use Rattle.em_acks.proofs.acks.Acks.first_owed.Goals as goal
use Rattle.em_acks.proofs.acks.Acks.first_owed.Goals.{After-first, After-owed_to}

set_is : (c : After-first) → c.index.result.now ≡ set_at c.self.inside.owed.items c.args.core.0
set_is c =
    let sets = c.self.inside.owed.items in
    let cores = ap (λ (v : AckState). v.cores) c.self.view_is in
    c.index.ensures
    ∙ (get_or_default sets c.from.result c.index.result.now no_operations
    (let at = c.from.ensures in let lt = c.requires in let count = c.self.invariant.indexed.set_count in omega arith)
    ∙ ap (set_at sets) c.from.ensures)

tells_owed : (c : After-first) → (n : ℕ) → contains c.index.result.now n ≡ owes c.args.core.0 (slot_at c.self.inside.begun.items n)
tells_owed c n =
    let cores = ap (λ (v : AckState). v.cores) c.self.view_is in
    ap (λ (s : OperationSet). contains s n) (set_is c) ∙ c.self.invariant.indexed.owed c.args.core.0 n (let lt = c.requires in omega arith)

first_is : (c : After-first)
    → first_owed_in c.args.core.0 c.args.self.now.unfinished
    ≡ option_and_then (λ n. step_at c.args.core.0 n (slot_at c.self.inside.begun.items n)) (option_map (λ (x : OpId). x.0) c.first.result)
first_is c =
    sym (ap (λ (v : AckState). first_owed_in c.args.core.0 v.unfinished) c.self.view_is)
    ∙ first-owed-at c.self.inside.begun.items c.self.invariant.indexed.numbered c.args.core.0 (contains c.index.result.now) (tells_owed c)
    (option_map (λ (x : OpId). x.0) c.first.result) c.first.ensures

first_in : (c : After-first) (o : Option OpId) → c.first.result ≡ o
    → first_owed_in c.args.core.0 c.args.self.now.unfinished
    ≡ option_and_then (λ n. step_at c.args.core.0 n (slot_at c.self.inside.begun.items n)) (option_map (λ (x : OpId). x.0) o)
first_in c o is =
    first_is c
    ∙ ap (λ (r : Option OpId). option_and_then (λ n. step_at c.args.core.0 n (slot_at c.self.inside.begun.items n)) (option_map (λ (x : OpId). x.0) r)) is

owed_is : (c : After-owed_to) → owed_of c.args.core.0 (slot_at c.self.inside.begun.items c.in-Some.op.0) ≡ c.owed_to.result
owed_is c =
    ap (owed_of c.args.core.0) (sym (find-slot c.self.inside.begun.items c.self.invariant.indexed.numbered c.in-Some.op.0))
    ∙ (ap (λ (v : AckState). owed_at v c.args.core.0 c.in-Some.op.0) c.self.view_is ∙ sym c.owed_to.ensures)

pub returns-in-Some-owed_to : goal.returns-in-Some-owed_to
returns-in-Some-owed_to c =
    sym (first_in c.before.before.before (Some c.in-Some.op) c.in-Some.is
    ∙ ap (option_map (λ (p : Phase). (op_id c.in-Some.op.0, p))) (owed_is c.before ∙ c.in-Some-owed_to.is))

pub returns-in-None-owed_to : goal.returns-in-None-owed_to
returns-in-None-owed_to c =
    sym (first_in c.before.before.before (Some c.in-Some.op) c.in-Some.is
    ∙ ap (option_map (λ (p : Phase). (op_id c.in-Some.op.0, p))) (owed_is c.before ∙ c.in-None-owed_to.is))

pub returns-in-None : goal.returns-in-None
returns-in-None c = sym (first_in c.before None c.in-None.is)
