-- What a call comes to, from what it read.
use Rattle.std.proofs.Common.{ℕ, ◌≡◌, List, Ok, Err, refl, sym, subst}
use Rattle.em_log.specs.declared.entry.Entry.{Entry}
use Rattle.em_log.specs.declared.ids.EndKind.{EndKind}
use Rattle.em_trace.specs.Reading.{Found, trace_of}
use Rattle.em_view.specs.declared.outcome.Outcome.{Outcome}
use Rattle.em_view.specs.declared.outcome.Outcome.TheVariants as outcomes
use Rattle.em_view.specs.Outcome.{Reading, ReadsAll, ComesTo, Due, Refused, Drawn, status_of, told_of}

due-found : (r : Reading) (bytes : List ℕ) (found : Found) (o : Outcome) → ReadsAll r bytes → trace_of bytes ≡ found → ComesTo found o
    → Due 0 r (status_of o) (told_of o)
due-found r bytes (Ok trace) (outcomes.Drawn page) reads is comes = Drawn refl bytes reads trace.0 trace.1 is refl comes
due-found r bytes (Ok trace) outcomes.NotKnown reads is comes = absurd comes
due-found r bytes (Ok trace) outcomes.ReadFailed reads is comes = absurd comes
due-found r bytes (Ok trace) outcomes.TooLong reads is comes = absurd comes
due-found r bytes (Ok trace) (outcomes.Refused line rule) reads is comes = absurd comes
due-found r bytes (Err (line, rule)) (outcomes.Refused l s) reads is comes =
    let same : trace_of bytes ≡ Err (l, s) = cc (is, comes.0, comes.1) in Refused refl bytes reads l s same refl refl
due-found r bytes (Err (line, rule)) outcomes.NotKnown reads is comes = absurd comes
due-found r bytes (Err (line, rule)) outcomes.ReadFailed reads is comes = absurd comes
due-found r bytes (Err (line, rule)) outcomes.TooLong reads is comes = absurd comes
due-found r bytes (Err (line, rule)) (outcomes.Drawn page) reads is comes = absurd comes

-- what the bytes come to is due
pub due-of : (r : Reading) (bytes : List ℕ) (o : Outcome) → ReadsAll r bytes → ComesTo (trace_of bytes) o → Due 0 r (status_of o) (told_of o)
due-of r bytes o reads comes = due-found r bytes (trace_of bytes) o reads refl comes

pub is_drawn : (found : Found) (history : List Entry) (end : EndKind) (o : Outcome) → found ≡ Ok (history, end)
    → ComesTo (Ok (history, end)) o → ComesTo found o
is_drawn found history end o is comes = subst (λ (f : Found). ComesTo f o) (sym is) comes

pub is_refused : (found : Found) (line rule : ℕ) (o : Outcome) → found ≡ Err (line, rule) → ComesTo (Err (line, rule)) o → ComesTo found o
is_refused found line rule o is comes = subst (λ (f : Found). ComesTo f o) (sym is) comes
