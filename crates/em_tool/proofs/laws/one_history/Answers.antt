use Rattle.std.proofs.Common.{◌≡◌, ℕ, List, [], ◌∷◌, ◌++◌, Some, sym, ◌∙◌}
use Rattle.std.specs.Io.KnownBytes.{append_known}
use Rattle.em_trace.specs.Text.{text}
use Rattle.em_tool.proofs.laws.one_history.Goals as goal

same-behind : (front xs ys : List ℕ) → front ++ xs ≡ front ++ ys → xs ≡ ys
same-behind [] xs ys e = e
same-behind (b ∷ front) xs ys e = let rest : front ++ xs ≡ front ++ ys = cc in same-behind front xs ys rest

appended : (before xs ys : List ℕ) → append_known (Some before) xs ≡ append_known (Some before) ys → before ++ xs ≡ before ++ ys
appended before xs ys e = cc

pub returns : goal.returns
returns c = λ solo other bytes others end ends before after a b.
    let same = appended before (text a.history end) (text b.history ends) (sym a.written ∙ b.written) in
    c.texts_differ.ensures a.history b.history end ends a.fits b.fits (same-behind before (text a.history end) (text b.history ends) same)
