-- A source in memory that never fails.
use Rattle.std.specs.Prelude.{ℕ, List, drop}
use Rattle.em_io.specs.declared.sure.SureSource.{SureSource}

abbrev pub sure_left : SureSource → List ℕ
sure_left source = drop source.given source.bytes.items

abbrev pub sure_given : SureSource → ℕ
sure_given source = source.given
