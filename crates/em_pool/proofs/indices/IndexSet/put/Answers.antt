use Rattle.std.proofs.Common.{◌≡◌, ℕ, ◌<◌, length, set, arith, ap, sym, ◌∙◌, subst, Bool, List}
use Rattle.std.specs.Int.{bit_at}
use Rattle.em_pool.specs.Indices.{members, IsSummed}
use Rattle.em_pool.proofs.IndexLemmas.{IsPut, length-members, members-put, put-summed, put-word}
use Rattle.em_pool.proofs.indices.IndexSet.put.Goals as goal

within_size : {summary : ℕ} (size : ℕ) (words : List ℕ) (old : List Bool) (i : ℕ) → IsSummed size words summary
    → members size words ≡ old → i < length old → i < size
within_size size words old i s e lt = let l = length-members size words in let m = ap length e in omega arith

pub index-requires : goal.index-requires
index-requires c =
    let lt = within_size _ _ _ c.args.index c.self.invariant c.self.view_is c.requires in
    let enough = c.self.invariant.enough in omega arith

pub index_mut-requires : goal.index_mut-requires
index_mut-requires c =
    let lt = within_size _ _ _ c.args.index c.self.invariant c.self.view_is c.requires in
    let enough = c.self.invariant.enough in omega arith

pub with_bit-self-inside-requires : goal.with_bit-self-inside-requires
with_bit-self-inside-requires c =
    let lt = within_size _ _ _ c.args.index c.self.invariant c.self.view_is c.requires in
    let few = c.self.invariant.few in omega arith

the_put : (c : goal.After-self-2-1) → IsPut c.self.inside.words.items c.args.index c.args.is_in c.with_bit-bits.result
the_put c =
    let lt = within_size _ _ _ c.args.index c.self.invariant c.self.view_is c.requires in
    let enough = c.self.invariant.enough in
    put-word c.self.inside.words.items c.args.index c.from-word.result c.from.result c.index.result.now c.with_bit-bits.result c.args.is_in
    c.from-word.ensures c.from.ensures c.index.ensures (omega arith) c.with_bit-bits.ensures.same c.with_bit-bits.ensures.others

pub invariant_of-self : goal.invariant_of-self
invariant_of-self c =
    let lt = within_size _ _ _ c.args.index c.self.invariant c.self.view_is c.requires in
    subst (λ w. IsSummed c.self.inside.size (set c.self.inside.words.items w c.with_bit-bits.result) c.with_bit-self-inside.result)
    (sym c.from-word.ensures)
    (put-summed c.self.inside.size c.self.inside.words.items c.args.index c.args.is_in c.with_bit-bits.result c.with_bit-self-inside.result
    c.self.invariant (the_put c) lt
    (ap (bit_at c.with_bit-self-inside.result) (sym c.from-2.ensures) ∙ c.with_bit-self-inside.ensures.same)
    (λ w ne. c.with_bit-self-inside.ensures.others w (λ e. ne (e ∙ c.from-2.ensures))))

pub returns : goal.returns
returns c =
    let lt = within_size _ _ _ c.args.index c.self.invariant c.self.view_is c.requires in
    let enough = c.self.invariant.enough in
    ap (λ w. members c.self.inside.size (set c.self.inside.words.items w c.with_bit-bits.result)) c.from-word.ensures
    ∙ (members-put c.self.inside.size c.self.inside.words.items c.args.index c.args.is_in c.with_bit-bits.result (the_put c) (omega arith) lt
    ∙ ap (λ m. set m c.args.index c.args.is_in) c.self.view_is)
