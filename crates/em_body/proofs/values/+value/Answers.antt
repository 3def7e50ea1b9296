use Rattle.std.proofs.Common.{◌∙◌, ap, slice_index, ◌+◌, ◌-◌, ◌*◌, ◌/◌, ◌%◌, ◌^◌, ◌==◌, nat_lt, bit_and, bit_or}
use Rattle.std.specs.Prelude.{bit_xor}
use Rattle.em_log.specs.declared.body.Expr.TheVariants as expr
use Rattle.em_log.specs.Expressions.{wrapped, truth, cell_at}
use Rattle.em_body.specs.Environments.{env_of}
use Rattle.em_body.proofs.ValuesOf.{at-one, value-word, value-cell, at-two, value-add, value-sub, value-mul, value-and, value-or, value-xor, value-shr, value-lt, value-eq}
use Rattle.em_body.proofs.values.+value.Goals as goal

pub returns-in-Add : goal.returns-in-Add
returns-in-Add t c =
    at-two expr.Add (λ x y. wrapped (x + y)) value-add _ _ _ _ _ _ _ _ c.in-Add.is c.get-in-Add.ensures c.get-in-Add-2.ensures c.value-in-Add.ensures c.value-in-Add-2.ensures

pub returns-in-Sub : goal.returns-in-Sub
returns-in-Sub t c =
    at-two expr.Sub (λ x y. wrapped (x + (2 ^ 64 - y))) value-sub _ _ _ _ _ _ _ _ c.in-Sub.is c.get-in-Sub.ensures c.get-in-Sub-2.ensures c.value-in-Sub.ensures c.value-in-Sub-2.ensures

pub returns-in-Mul : goal.returns-in-Mul
returns-in-Mul t c =
    at-two expr.Mul (λ x y. wrapped (x * y)) value-mul _ _ _ _ _ _ _ _ c.in-Mul.is c.get-in-Mul.ensures c.get-in-Mul-2.ensures c.value-in-Mul.ensures c.value-in-Mul-2.ensures

pub returns-in-And : goal.returns-in-And
returns-in-And t c =
    at-two expr.And (λ x y. bit_and x y) value-and _ _ _ _ _ _ _ _ c.in-And.is c.get-in-And.ensures c.get-in-And-2.ensures c.value-in-And.ensures c.value-in-And-2.ensures

pub returns-in-Or : goal.returns-in-Or
returns-in-Or t c =
    at-two expr.Or (λ x y. bit_or x y) value-or _ _ _ _ _ _ _ _ c.in-Or.is c.get-in-Or.ensures c.get-in-Or-2.ensures c.value-in-Or.ensures c.value-in-Or-2.ensures

pub returns-in-Xor : goal.returns-in-Xor
returns-in-Xor t c =
    at-two expr.Xor (λ x y. bit_xor x y) value-xor _ _ _ _ _ _ _ _ c.in-Xor.is c.get-in-Xor.ensures c.get-in-Xor-2.ensures c.value-in-Xor.ensures c.value-in-Xor-2.ensures

pub returns-in-Shr : goal.returns-in-Shr
returns-in-Shr t c =
    at-two expr.Shr (λ x y. x / 2 ^ (y % 64)) value-shr _ _ _ _ _ _ _ _ c.in-Shr.is c.get-in-Shr.ensures c.get-in-Shr-2.ensures c.value-in-Shr.ensures c.value-in-Shr-2.ensures

pub returns-in-Lt : goal.returns-in-Lt
returns-in-Lt t c =
    at-two expr.Lt (λ x y. truth (nat_lt x y)) value-lt _ _ _ _ _ _ _ _ c.in-Lt.is c.get-in-Lt.ensures c.get-in-Lt-2.ensures c.value-in-Lt.ensures c.value-in-Lt-2.ensures

pub returns-in-Eq : goal.returns-in-Eq
returns-in-Eq t c =
    at-two expr.Eq (λ x y. truth (x == y)) value-eq _ _ _ _ _ _ _ _ c.in-Eq.is c.get-in-Eq.ensures c.get-in-Eq-2.ensures c.value-in-Eq.ensures c.value-in-Eq-2.ensures

pub returns-in-Word : goal.returns-in-Word
returns-in-Word t c =
    at-one expr.Word (env_of c.args.v.now) (λ n. slice_index c.args.v.now.words n) (λ a. value-word a (env_of c.args.v.now)) _ _ _ _ _
    c.in-Word.is c.get.ensures c.value.ensures (c.item_at-in-Word.ensures ∙ ap (λ xs. slice_index xs c.value.result) c.as_slice-in-Word.ensures.value)

pub returns-in-Cell : goal.returns-in-Cell
returns-in-Cell t c =
    at-one expr.Cell (env_of c.args.v.now) (λ n. cell_at (env_of c.args.v.now).cells n) (λ a. value-cell a (env_of c.args.v.now)) _ _ _ _ _
    c.in-Cell.is c.get-in-Cell.ensures c.value-in-Cell.ensures c.cell_at.ensures
