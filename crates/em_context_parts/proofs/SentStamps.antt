-- The stamp of what was sent is that of the spending of its handle.
use Rattle.std.proofs.Common.{refl}
use Rattle.std.proofs.lemmas.Bool.{eq-eqb}
use Rattle.em_log.specs.declared.declarations.Declarations.{Declarations}
use Rattle.em_log.specs.declared.entry.What.{What}
use Rattle.em_log.specs.declared.ids.Limits.{Limits}
use Rattle.em_log.specs.History.{Past}
use Rattle.em_log.specs.Lawful.{AllAllowed}
use Rattle.em_laws.proofs.Spent.{usable, spending-kept, spends-now, notes-spent, applied-spent}
use Rattle.em_context_parts.specs.SentStamps.{IsSentWith, StampsKept}
use Rattle.em_context_parts.proofs.Carried.{IsCarried, sends-carried, let-in-carried, waiting-carried, taken-carried}

sent-with : (k : Declarations) (l : Limits) → IsCarried k l IsSentWith
sent-with k l = record {
  kept = λ past d w h s p. record { how = p.how; spent = spending-kept past d w h p.how p.spent; stamp = p.stamp };
  send = λ past d h q t s m.
      let free = usable past d h m.rule in
      record {
        how = record { before = past; core = d; what = What.Send (record { 0 = h }) (record { 0 = q }) t s };
        spent = spends-now past d (What.Send (record { 0 = h }) (record { 0 = q }) t s) h free.unspent (rw (eq-eqb h h refl) refl);
        stamp = refl;
      };
  begun = λ past all n o is h there.
      let s = (notes-spent k l past all n o is).spent h there in
      record { how = record { before = s.before; core = s.core; what = What.Begin s.op s.job s.notes }; spent = s.spent; stamp = refl };
  applied = λ past all g h there.
      let s = (applied-spent k l past all g).spent h there in
      record { how = record { before = s.before; core = s.core; what = What.Apply s.group s.app s.count s.notes }; spent = s.spent; stamp = refl };
}

pub stamps-kept : (k : Declarations) (l : Limits) (past : Past) → AllAllowed k l past → StampsKept k past
stamps-kept k l past all = record {
  sent = sends-carried k l IsSentWith (sent-with k l) past all;
  let_in = λ now t. let-in-carried k l IsSentWith (sent-with k l) past now all t;
  waiting = waiting-carried k l IsSentWith (sent-with k l) past all;
  taken = taken-carried k l IsSentWith (sent-with k l) past all;
}
