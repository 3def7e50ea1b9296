-- A text that is written piece by piece.
use Rattle.std.proofs.Common.{◌≡◌, ℕ, ◌+◌, ◌-◌, ◌≤◌, List, ◌++◌, length, take, drop, Option, sym, ap, subst, ◌∙◌, arith}
use Rattle.std.specs.Prelude.{slice_range}
use Rattle.std.specs.Io.KnownBytes.{append_known}
use Rattle.std.proofs.lemmas.List.{length-drop, length-take-le, take-append-drop}
use Rattle.std.proofs.lemmas.List.Folds.{drop_split}
use Rattle.std.proofs.Math.Seq.{take-append-add}
use Rattle.em_io.specs.Sink.{AppendsPrefix}
use Rattle.em_io.proofs.Writing.{appends_then, prefix_then}

-- a piece ends where the text does, or before
pub piece-end : (bytes : List ℕ) (at n : ℕ) → at ≤ length bytes → n ≤ length (take (length bytes - at) (drop at bytes)) → at + n ≤ length bytes
piece-end bytes at n within most =
    let left = length-drop at bytes in
    let piece = length-take-le (length bytes - at) (drop at bytes) (omega (arith, left, within)) in
    omega (arith, within, most, piece)

-- the first bytes up to the end of a piece
take-range : (bytes : List ℕ) (at end : ℕ) → at ≤ end → end ≤ length bytes → take end bytes ≡ take at bytes ++ slice_range bytes at end
take-range bytes at end up within =
    let k : end ≡ at + (end - at) = omega (arith, up) in
    let n : at ≡ length (take at bytes) = sym (length-take-le at bytes (omega (arith, up, within))) in
    ap (λ m. take m bytes) k ∙ ap (λ m. take (m + (end - at)) bytes) n
    ∙ ap (λ l. take (length (take at bytes) + (end - at)) l) (sym (take-append-drop at bytes)) ∙ take-append-add (take at bytes) (drop at bytes) (end - at)

-- the next piece, whole
pub next-whole : (a b c : Option (List ℕ)) (bytes : List ℕ) (at end : ℕ) → at ≤ end → end ≤ length bytes → b ≡ append_known a (take at bytes)
    → c ≡ append_known b (slice_range bytes at end) → c ≡ append_known a (take end bytes)
next-whole a b c bytes at end up within before piece =
    appends_then a b c (take at bytes) (slice_range bytes at end) before piece ∙ ap (λ l. append_known a l) (sym (take-range bytes at end up within))

-- a part of the next piece
pub next-part : (a b c : Option (List ℕ)) (bytes : List ℕ) (at end : ℕ) → at ≤ end → b ≡ append_known a (take at bytes)
    → AppendsPrefix b c (slice_range bytes at end) → AppendsPrefix a c bytes
next-part a b c bytes at end up before piece =
    let whole : take at bytes ++ (slice_range bytes at end ++ drop end bytes) ≡ bytes =
    ap (λ l. take at bytes ++ l) (sym (drop_split bytes at end up)) ∙ take-append-drop at bytes in
    subst (λ (l : List ℕ). AppendsPrefix a c l) whole (prefix_then a b c (take at bytes) (slice_range bytes at end) (drop end bytes) before piece)
