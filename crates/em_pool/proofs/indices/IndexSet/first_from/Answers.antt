use Rattle.std.proofs.Common.{ap, sym, ◌∙◌, false, get_or}
use Rattle.em_pool.specs.Indices.{is_member}
use Rattle.em_pool.proofs.IndexLemmas.{member-is, same_first}
use Rattle.em_pool.proofs.indices.IndexSet.first_from.Goals as goal

pub returns : goal.returns
returns c =
    same_first _ _ c.args.from c.first_in.result
    (λ k. ap (λ ws. is_member ws k) c.as_slice.ensures.value
    ∙ (sym (member-is c.self.inside.size c.self.inside.words.items c.self.invariant k) ∙ ap (λ m. get_or m k false) c.self.view_is))
    c.first_in.ensures
