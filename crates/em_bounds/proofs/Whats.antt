-- What the entries of a list say, without their cores.
use Rattle.std.proofs.Common.{◌≡◌, ℕ, List, [], ◌∷◌, map, refl, ap}
use Rattle.em_log.specs.declared.entry.Entry.{Entry}
use Rattle.em_log.specs.declared.entry.What.{What}
use Rattle.em_log.specs.History.{entries_by}

abbrev pub whats : List Entry → List What
whats es = map (λ e. e.what) es

pub whats-by : (d : ℕ) (ws : List What) → whats (entries_by d ws) ≡ ws
whats-by d [] = refl
whats-by d (w ∷ ws) = ap (λ xs. w ∷ xs) (whats-by d ws)
