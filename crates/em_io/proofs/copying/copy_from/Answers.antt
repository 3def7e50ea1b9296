use Rattle.std.proofs.Common.{◌≡◌, ◌-◌, ◌≤◌, ℕ, List, ◌++◌, length, take, drop, arith, sym, ap, ◌∙◌, take-append-drop, length-take-le}
use Rattle.std.proofs.lemmas.List.{drop-drop, take_rest}
use Rattle.std.proofs.Math.Seq.{take-append_seam}
use Rattle.em_io.proofs.copying.copy_from.Goals as goal

-- what was copied stands before what was not
copied-rest : (rest new tail : List ℕ) (count : ℕ) → new ≡ take count rest → count ≤ length rest → rest ≡ take count (new ++ tail) ++ drop count rest
copied-rest rest new tail count copied within =
    let long : count ≡ length new = sym (length-take-le count rest within) ∙ ap length (sym copied) in
    let front : take count (new ++ tail) ≡ new = ap (λ n. take n (new ++ tail)) long ∙ take-append_seam new tail in
    sym (take-append-drop count rest) ∙ ap (λ l. l ++ drop count rest) (sym (front ∙ copied))

pub returns-clause-copied : goal.returns-clause-copied
returns-clause-copied c =
    let bytes = c.args.bytes.now in
    let start = c.args.start in
    let count = c.min-count.result in
    let rest = drop start bytes in
    let new = c.copy_from_slice.new.self in
    let whole : take (length bytes - start) rest ≡ rest = take_rest bytes start in
    let copied : new ≡ take count rest = c.copy_from_slice.ensures.after ∙ ap (take count) whole in
    let within : count ≤ length rest = omega (arith, ap length whole) in
    copied-rest rest new (drop count c.args.buf.now) count copied within ∙ ap (λ l. take count (new ++ drop count c.args.buf.now) ++ l) (drop-drop count start bytes)
