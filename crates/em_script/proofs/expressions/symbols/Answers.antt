use Rattle.std.proofs.Common.{◌≡◌, ◌<◌, ◌+◌, ◌^◌, ℕ, zero, suc, [], ◌∷◌, length, length-append, arith, ap, sym, ◌∙◌}
use Rattle.std.proofs.lemmas.Result.{err_from_is_err_and}
use Rattle.em_script.proofs.Repeats.{token-shorter}
use Rattle.em_script.proofs.Symbols.{symbols-more, symbols-no_token, symbols-no_symbol, symbols-done, places-few}
use Rattle.em_script.proofs.expressions.symbols.Goals as goal

-- what is known once something was read is known of nothing read too, where all is still there
bounded : (read left all bound : ℕ) → read + left ≡ all → left < bound → (0 < read → all < bound) → all < bound
bounded zero left all bound e few small = omega arith
bounded (suc n) left all bound e few small = small (omega arith)

pub returns-in_err-token : goal.returns-in_err-token
returns-in_err-token c =
    let p = err_from_is_err_and c.from_residual.result c.from_residual.ensures.1 in
    let none = rw c.in_err-token.ensures.err at c.in_err-token.ensures.read in
    rw (p.1, p.2, c.in_err-token.ensures.err) (symbols-no_token c.symbols.symbols c.symbols.places c.symbols.line _ (omega arith) none c.symbols.invariant.so_far)

pub returns-in_default : goal.returns-in_default
returns-in_default c = symbols-no_symbol c.symbols.symbols c.symbols.places c.symbols.line c.in_ok-token.token.now c.token.new.self _ (omega arith) c.in_ok-token.ensures.read (sym c.in_default.ensures) c.symbols.invariant.so_far

pub overflow_add-places : goal.overflow_add-places
overflow_add-places c =
    let fewer = token-shorter c.symbols.line c.in_ok-token.token.now c.token.new.self c.in_ok-token.ensures.read in
    let small = bounded (length c.symbols.symbols) (length c.symbols.line.tokens) (length c.args.line.now.tokens) (2 ^ 63) c.symbols.invariant.counted c.in_ok-token.ensures.few c.symbols.invariant.small in
    omega (arith, c.places_of.ensures, places-few c.in-Some.symbol, c.in_ok-token.ensures.few)

pub symbols-smaller : goal.symbols-smaller
symbols-smaller c =
    let fewer = token-shorter c.symbols.line c.in_ok-token.token.now c.token.new.self c.in_ok-token.ensures.read in
    let same : length c.judge.new.self.tokens ≡ length c.token.new.self.tokens = ap (λ r. length r.tokens) c.judge.ensures in
    let less : length c.judge.new.self.tokens < length c.symbols.line.tokens = omega arith in
    less

pub symbols-preserved : goal.symbols-preserved
symbols-preserved c =
    let fewer = token-shorter c.symbols.line c.in_ok-token.token.now c.token.new.self c.in_ok-token.ensures.read in
    let same : length c.judge.new.self.tokens ≡ length c.token.new.self.tokens = ap (λ r. length r.tokens) c.judge.ensures in
    let longer : length c.push.new.self ≡ length c.symbols.symbols + 1 = ap length c.in_ok-push.ensures.ok ∙ length-append c.symbols.symbols (c.in-Some.symbol ∷ []) in
    let places = places-few c.in-Some.symbol in
    record {
      so_far = rw (c.in_ok-push.ensures.ok, c.places_of.ensures, c.judge.ensures, c.is_well.ensures)
          (symbols-more c.symbols.symbols c.symbols.places c.symbols.line c.in_ok-token.token.now c.token.new.self c.in-Some.symbol _ (omega arith) c.in_ok-token.ensures.read (sym c.in-Some.ensures) c.symbols.invariant.so_far);
      few = omega arith;
      counted = omega arith;
      small = λ lt. bounded (length c.symbols.symbols) (length c.symbols.line.tokens) (length c.args.line.now.tokens) (2 ^ 63) c.symbols.invariant.counted c.in_ok-token.ensures.few c.symbols.invariant.small;
    }

pub returns : goal.returns
returns c = symbols-done c.symbols.symbols c.symbols.places c.symbols.line _ (omega arith) c.symbols.invariant.so_far
