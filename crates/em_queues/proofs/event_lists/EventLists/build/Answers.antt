use Rattle.std.proofs.Common.{List, ℕ, replicate, map, ap, sym, ◌∙◌, subst}
use Rattle.em_queues.specs.declared.event_lists.ListEnds.{ListEnds}
use Rattle.em_queues.specs.Links.{no_ends, all_events, is_linked, AreLinked}
use Rattle.em_queues.proofs.EmptyLists.{empty-linked, all-empty, none-listed}
use Rattle.em_queues.proofs.event_lists.EventLists.build.Goals as goal

pub invariant_of-result : goal.invariant_of-result
invariant_of-result c =
    subst (λ (es : List ListEnds). AreLinked es c.in_ok-unlisted.field-0.items) (sym c.in_ok-empty_ends.ensures)
    (subst (λ (ns : List ℕ). AreLinked (replicate c.args.lists no_ends) ns) (sym c.in_ok-unlisted.ensures) (empty-linked c.args.lists c.args.events c.requires))

pub returns : goal.returns
returns c = λ i. record {
  lists = (ap (λ es. all_events es c.in_ok-unlisted.field-0.items) c.in_ok-empty_ends.ensures ∙ all-empty c.args.lists c.in_ok-unlisted.field-0.items) i;
  listed = (ap (map is_linked) c.in_ok-unlisted.ensures ∙ none-listed c.args.events) i;
}
