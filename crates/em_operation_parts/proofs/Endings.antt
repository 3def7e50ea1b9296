-- The entries that end a step, one after another, are the tail of its ask.
use Rattle.std.proofs.Common.{◌≡◌, ℕ, Bool, true, false, not, [], ◌∷◌, Some, None, if◌then◌else◌, refl, sym, ap, ◌∙◌}
use Rattle.em_log.specs.declared.declarations.Declarations.{Declarations}
use Rattle.em_log.specs.declared.entry.Body.{Body}
use Rattle.em_log.specs.declared.entry.What.{What}
use Rattle.em_log.specs.declared.ids.OpId.{OpId}
use Rattle.em_log.specs.History.{Past, entry_by}
use Rattle.em_log.specs.Operations.{all_acked}
use Rattle.em_log.specs.Tails.{ack_tail, completion, end_tail, global_start_tail, has_failed}
use Rattle.em_laws.proofs.Cores.{none-some, some-inj}
use Rattle.em_operation_parts.specs.Endings.{Ending, Acknowledges, EndsStart, Completes, told_then, told_from, ending_of}

ack-told : (k : Declarations) (now : Past) (c : ℕ) (op : OpId) → told_then k now c (if all_acked k now op.0 then Some (Completes op) else None) ≡ ack_tail k now c op
ack-told k now c op = by_acked (all_acked k now op.0)
  where
    by_acked : (b : Bool) → told_then k now c (if b then Some (Completes op) else None) ≡ (if b then completion k now c op else [])
    by_acked true = refl
    by_acked false = refl

-- an acknowledgement of a change, by a take
pub change-told : (k : Declarations) (past : Past) (c : ℕ) (op : OpId) → told_from k past c (Acknowledges op) ≡ What.Ack op ∷ ack_tail k (entry_by c (What.Ack op) ∷ past) c op
change-told k past c op = ap (λ ws. What.Ack op ∷ ws) (ack-told k (entry_by c (What.Ack op) ∷ past) c op)

start-told : (k : Declarations) (now : Past) (c : ℕ) (op : OpId) (failed : Bool) → told_from k now c (EndsStart op (not failed)) ≡ global_start_tail op failed
start-told k now c op true = refl
start-told k now c op false = refl

-- the end of a context of a step
pub end-told : (k : Declarations) (past now : Past) (c : ℕ) (b : Body) (e : Ending) → ending_of b (has_failed past c) ≡ Some e
    → told_from k now c e ≡ end_tail k past now c (Some (What.Enter b))
end-told k past now c Body.Boot e is = absurd (none-some e is)
end-told k past now c (Body.GlobalStart op) e is = ap (told_from k now c) (sym (some-inj _ e is)) ∙ start-told k now c op (has_failed past c)
end-told k past now c (Body.LocalStart op) e is = ap (told_from k now c) (sym (some-inj _ e is)) ∙ change-told k now c op
end-told k past now c (Body.LocalStop op) e is = ap (told_from k now c) (sym (some-inj _ e is))
end-told k past now c (Body.GlobalStop op) e is = ap (told_from k now c) (sym (some-inj _ e is))
