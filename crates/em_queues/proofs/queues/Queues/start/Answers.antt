use Rattle.std.proofs.Common.{◌≡◌, ◌<◌, ℕ, List, false, length, get_or, set, drop, Some, ap, sym, ◌∙◌, subst}
use Rattle.std.specs.Prelude.{slice_get}
use Rattle.em_queues.specs.Events as events
use Rattle.em_queues.specs.Rows.{taken_number}
use Rattle.em_queues.specs.Changes.{started}
use Rattle.em_queues.proofs.SeenEvents.{slice-some, slice-first}
use Rattle.em_queues.proofs.QueueCalls.{core-there, seen-taken, started-left}
use Rattle.em_queues.proofs.queues.Queues.start.Goals as goal

pub remove_first-requires-clause-some : goal.remove_first-requires-clause-some
remove_first-requires-clause-some c =
    subst (λ k. 0 < length (events.list_in c.self.inside.lists.lists k)) (sym c.taken_list.ensures)
    (slice-some (events.list_in c.self.inside.lists.lists (taken_number c.args.core.0)) c.args.index (subst (λ (xs : List ℕ). slice_get xs 0 ≡ Some c.args.index) (seen-taken c.self.inside.kinds.items c.self.inside.lists c.self.inside.cores.items c.self.invariant c.self.view_is c.args.core.0 (core-there c.self.inside.kinds.items c.self.inside.lists c.self.inside.cores.items c.self.invariant c.self.view_is c.args.core.0 c.requires.core)) c.requires.first))

pub invariant_of-self : goal.invariant_of-self
invariant_of-self c =
    (started-left c.self.inside.kinds.items c.self.inside.lists c.self.inside.cores.items c.self.invariant c.args.core.0 (core-there c.self.inside.kinds.items c.self.inside.lists c.self.inside.cores.items c.self.invariant c.self.view_is c.args.core.0 c.requires.core) c.args.index c.remove_first.new.self
    (subst (λ i. c.remove_first.new.self.listed ≡ set c.self.inside.lists.listed i false) (ap (λ k. get_or (events.list_in c.self.inside.lists.lists k) 0 0) c.taken_list.ensures ∙ slice-first (events.list_in c.self.inside.lists.lists (taken_number c.args.core.0)) c.args.index (subst (λ (xs : List ℕ). slice_get xs 0 ≡ Some c.args.index) (seen-taken c.self.inside.kinds.items c.self.inside.lists c.self.inside.cores.items c.self.invariant c.self.view_is c.args.core.0 (core-there c.self.inside.kinds.items c.self.inside.lists c.self.inside.cores.items c.self.invariant c.self.view_is c.args.core.0 c.requires.core)) c.requires.first)) c.remove_first.ensures.listed)
    (subst (λ k. c.remove_first.new.self.lists ≡ set c.self.inside.lists.lists k (drop 1 (events.list_in c.self.inside.lists.lists k))) c.taken_list.ensures c.remove_first.ensures.lists)).whole

pub returns : goal.returns
returns c =
    (started-left c.self.inside.kinds.items c.self.inside.lists c.self.inside.cores.items c.self.invariant c.args.core.0 (core-there c.self.inside.kinds.items c.self.inside.lists c.self.inside.cores.items c.self.invariant c.self.view_is c.args.core.0 c.requires.core) c.args.index c.remove_first.new.self
    (subst (λ i. c.remove_first.new.self.listed ≡ set c.self.inside.lists.listed i false) (ap (λ k. get_or (events.list_in c.self.inside.lists.lists k) 0 0) c.taken_list.ensures ∙ slice-first (events.list_in c.self.inside.lists.lists (taken_number c.args.core.0)) c.args.index (subst (λ (xs : List ℕ). slice_get xs 0 ≡ Some c.args.index) (seen-taken c.self.inside.kinds.items c.self.inside.lists c.self.inside.cores.items c.self.invariant c.self.view_is c.args.core.0 (core-there c.self.inside.kinds.items c.self.inside.lists c.self.inside.cores.items c.self.invariant c.self.view_is c.args.core.0 c.requires.core)) c.requires.first)) c.remove_first.ensures.listed)
    (subst (λ k. c.remove_first.new.self.lists ≡ set c.self.inside.lists.lists k (drop 1 (events.list_in c.self.inside.lists.lists k))) c.taken_list.ensures c.remove_first.ensures.lists)).state
    ∙ ap (λ v. started v c.args.core.0 c.args.index) c.self.view_is
