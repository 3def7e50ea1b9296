use Rattle.std.proofs.Common.{◌&&◌, ◌||◌, arith, sym, subst}
use Rattle.std.specs.Option.{option_map}
use Rattle.em_queues.specs.Sets.{contains, IsLeast}
use Rattle.em_queues.proofs.BestQueues.{least-either}
use Rattle.em_queues.specs.State.{core_at}
use Rattle.em_queues.specs.Waiting.{is_ready, list_in}
use Rattle.em_queues.proofs.QueueCalls.{core-there, seen-shared-ready, seen-local-ready}
use Rattle.em_queues.proofs.queues.Queues.first_of_rank.Goals as goal

pub index-requires : goal.index-requires
index-requires c = let lt = (core-there c.self.inside.kinds.items c.self.inside.lists c.self.inside.cores.items c.self.invariant c.self.view_is c.args.core.0 c.requires.core) in let at = c.from.ensures in omega arith

pub returns : goal.returns
returns c =
    let shared : IsLeast (λ q. is_ready c.args.rank (list_in c.args.self.now.shared q) && contains c.args.may.now q) (option_map (λ x. x.0) c.first.result) =
    subst (λ f. IsLeast f (option_map (λ x. x.0) c.first.result))
    (λ i. λ q. seen-shared-ready c.self.inside.kinds.items c.self.inside.lists c.self.inside.cores.items c.self.invariant c.self.view_is c.args.rank q i && contains c.args.may.now q) c.first.ensures in
    let local : IsLeast (λ q. is_ready c.args.rank (list_in (core_at c.args.self.now c.args.core.0).local q) && contains c.args.may.now q) (option_map (λ x. x.0) c.first-2.result) =
    subst (λ f. IsLeast f (option_map (λ x. x.0) c.first-2.result))
    (λ i. λ q. seen-local-ready c.self.inside.kinds.items c.self.inside.lists c.self.inside.cores.items c.self.invariant c.self.view_is c.args.core.0 (core-there c.self.inside.kinds.items c.self.inside.lists c.self.inside.cores.items c.self.invariant c.self.view_is c.args.core.0 c.requires.core) c.from.result c.from.ensures c.index.result.now c.index.ensures c.args.rank q i && contains c.args.may.now q) c.first-2.ensures in
    subst
    (IsLeast (λ q. (is_ready c.args.rank (list_in c.args.self.now.shared q) && contains c.args.may.now q)
    || (is_ready c.args.rank (list_in (core_at c.args.self.now c.args.core.0).local q) && contains c.args.may.now q)))
    (sym c.lesser.ensures)
    (least-either (λ q. is_ready c.args.rank (list_in c.args.self.now.shared q) && contains c.args.may.now q)
    (λ q. is_ready c.args.rank (list_in (core_at c.args.self.now c.args.core.0).local q) && contains c.args.may.now q)
    (option_map (λ x. x.0) c.first.result) (option_map (λ x. x.0) c.first-2.result) shared local)
