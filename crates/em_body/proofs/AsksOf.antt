-- The asks of statements, by their forms.
use Rattle.std.proofs.Common.{◌≡◌, List, [], ◌∷◌, map, refl, ap}
use Rattle.em_log.specs.declared.body.Expr.{Expr}
use Rattle.em_log.specs.declared.ids.Note.{Note}
use Rattle.em_log.specs.declared.ids.QueueId.{QueueId}
use Rattle.em_log.specs.Expressions.{Env, value, values}
use Rattle.em_log.specs.Bodies.{notes_in}

abbrev pub note_by : Env → Expr × QueueId → Note
note_by v n = record { word = value n.0 v; queue = n.1 }

pub map-values : (v : Env) (es : List Expr) → map (λ e. value e v) es ≡ values es v
map-values v [] = refl
map-values v (e ∷ es) = ap (λ ns. value e v ∷ ns) (map-values v es)

pub map-notes : (v : Env) (ns : List (Expr × QueueId)) → map (note_by v) ns ≡ notes_in ns v
map-notes v [] = refl
map-notes v (n ∷ ns) = ap (λ ms. note_by v n ∷ ms) (map-notes v ns)
