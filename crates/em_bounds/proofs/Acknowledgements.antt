-- Each core acknowledges each operation at most once.
use Rattle.std.proofs.Common.{◌≡◌, ◌≢◌, ℕ, ◌+◌, ◌*◌, ◌≤◌, ◌<◌, false, [], ◌∷◌, Option, refl, sym, ◌∙◌, ap, arith}
use Rattle.std.specs.List.{sum_by, count_by}
use Rattle.std.proofs.lemmas.Bool.{eq-eqb}
use Rattle.em_log.specs.declared.declarations.Declarations.{Declarations}
use Rattle.em_log.specs.declared.entry.Body.{Body}
use Rattle.em_log.specs.declared.entry.What.{What}
use Rattle.em_log.specs.declared.ids.Cells.{Cells}
use Rattle.em_log.specs.declared.ids.Limits.{Limits}
use Rattle.em_log.specs.declared.ids.OpId.{OpId}
use Rattle.em_log.specs.History.{Past, entry_by, has}
use Rattle.em_log.specs.Declarations.{below}
use Rattle.em_log.specs.Operations.{operations, acked}
use Rattle.em_log.specs.Lawful.{AllAllowed}
use Rattle.em_moments.proofs.Moments.{Moment, AckMoment, AckChange, AckStart, AckStop, allowed-moment}
use Rattle.em_moments.proofs.Steps.{Owes, OwesAck, OwesGlobalStart, OwesLocalStart, OwesLocalStop, OwesGlobalStop}
use Rattle.em_laws.proofs.Begun.{numbered}
use Rattle.em_laws.proofs.Cores.{Compared, Same, Other, compared, if-own}
use Rattle.em_laws.proofs.Steps.{InStep, InBoot, InGlobalStart, InLocalStart, InLocalStop, InGlobalStop, Contexts, contexts, always-before, ack-begun}
use Rattle.em_laws.proofs.Tickets.{one_if}
use Rattle.em_bounds.proofs.Sums.{sum-one, sum-more, sum-most, count-one, count-le}
use Rattle.em_bounds.proofs.Payments.{total}

abbrev pub acks : What → ℕ
acks (What.Ack op) = 1
acks w = 0

-- how many cores have acknowledged operation n
ackers : Declarations → Past → ℕ → ℕ
ackers k past n = count_by (has (acked past n)) (below k.cores)

in-step-unacked : (k : Declarations) (before : Past) (c lost : ℕ) (cells : Option Cells) (op : OpId) (b : Body) → InStep k before c b
    → ((b ≡ Body.LocalStart op) → has (acked before op.0) c ≡ false) × ((b ≡ Body.LocalStop op) → has (acked before op.0) c ≡ false)
in-step-unacked k before c lost cells op b (InBoot e) = (λ is. absurd (cc (e, is)), λ is. absurd (cc (e, is)))
in-step-unacked k before c lost cells op b (InGlobalStart n o x e is job none core) = (λ at. absurd (cc (e, at)), λ at. absurd (cc (e, at)))
in-step-unacked k before c lost cells op b (InLocalStart n o x e is job done un) =
    (λ at. let same : op.0 ≡ n = cc (e, at) in ap (λ (i : ℕ). has (acked before i) c) same ∙ un, λ at. absurd (cc (e, at)))
in-step-unacked k before c lost cells op b (InLocalStop n o x e is job un) =
    (λ at. absurd (cc (e, at)), λ at. let same : op.0 ≡ n = cc (e, at) in ap (λ (i : ℕ). has (acked before i) c) same ∙ un)
in-step-unacked k before c lost cells op b (InGlobalStop n o x e is job none all last) = (λ at. absurd (cc (e, at)), λ at. absurd (cc (e, at)))

owes-unacked : (k : Declarations) (past : Past) (c : ℕ) (op : OpId) → Owes k past c (What.Ack op) → has (acked past op.0) c ≡ false
owes-unacked k past c op (OwesAck n o g m is job un e) = let same : op.0 ≡ n = cc e in ap (λ (i : ℕ). has (acked past i) c) same ∙ un
owes-unacked k past c op (OwesGlobalStart n o x is job un by e) = absurd (cc e)
owes-unacked k past c op (OwesLocalStart n o x is job done un e) = absurd (cc e)
owes-unacked k past c op (OwesLocalStop n o x is job done un e) = absurd (cc e)
owes-unacked k past c op (OwesGlobalStop n o x is job done at last e) = absurd (cc e)

unacked : (k : Declarations) (l : Limits) (past : Past) (c : ℕ) (op : OpId) → AllAllowed k l past → AckMoment k past c op → has (acked past op.0) c ≡ false
unacked k l past c op all (AckChange between owed owes) = owes-unacked k past c op owes
unacked k l past c op all (AckStart before lost cells was is) =
    let h : Contexts k before = always-before (Contexts k) past before _ was (contexts k l past all) in
    ap (λ (p : Past). has (acked p op.0) c) was ∙ (in-step-unacked k before c lost cells op _ (h.steps c _ is)).0 refl
unacked k l past c op all (AckStop before lost cells was is) =
    let h : Contexts k before = always-before (Contexts k) past before _ was (contexts k l past all) in
    ap (λ (p : Past). has (acked p op.0) c) was ∙ (in-step-unacked k before c lost cells op _ (h.steps c _ is)).1 refl

acks-next : (k : Declarations) (l : Limits) (past : Past) (d : ℕ) (w : What) → d < k.cores → AllAllowed k l past → Moment k l past d w
    → total acks past ≤ sum_by (ackers k past) (below (operations past))
    → acks w + total acks past ≤ sum_by (ackers k (entry_by d w ∷ past)) (below (operations (entry_by d w ∷ past)))
unfolding ackers
acks-next k l past d (What.Ack op) lt all m older =
    let now : Past = entry_by d (What.Ack op) ∷ past in
    let b = ack-begun k past d op (contexts k l past all) m in
    let number = numbered k l past all op.0 b.0 b.1 in
    let sum = sum-one (ackers k past) (ackers k now) op.0 (operations past) number (λ n ne. by_number n (compared op.0 n) ne) in
    let own : acked now op.0 ≡ d ∷ acked past op.0 = if-own op.0 _ _ in
    let count = count-one (has (acked past op.0)) (has (acked now op.0)) d k.cores lt (λ c ne. ap (λ ms. has ms c) own ∙ by_core c (compared d c) ne) in
    let was : one_if (has (acked past op.0) d) ≡ 0 = ap one_if (unacked k l past d op all m) in
    let is : one_if (has (acked now op.0) d) ≡ 1 = ap (λ ms. one_if (has ms d)) own ∙ rw (eq-eqb d d refl) refl in
    omega (arith, older, sum, count, was, is)
  where
    by_number : (n : ℕ) → Compared op.0 n → n ≢ op.0 → ackers k (entry_by d (What.Ack op) ∷ past) n ≡ ackers k past n
    by_number n (Same t e) ne = absurd (ne (sym e))
    by_number n (Other f e) ne = rw f refl

    by_core : (c : ℕ) → Compared d c → c ≢ d → has (d ∷ acked past op.0) c ≡ has (acked past op.0) c
    by_core c (Same t e) ne = absurd (ne (sym e))
    by_core c (Other f e) ne = rw f refl
acks-next k l past d (What.Begin op job notes) lt all m older = let more = sum-more (ackers k past) (operations past) in omega (arith, older, more)
acks-next k l past d w lt all m older =
    let same : total acks past ≤ sum_by (ackers k (entry_by d w ∷ past)) (below (operations (entry_by d w ∷ past))) = older in
    omega (arith, same)

acks-counted : (k : Declarations) (l : Limits) (past : Past) → AllAllowed k l past → total acks past ≤ sum_by (ackers k past) (below (operations past))
acks-counted k l [] all = omega arith
acks-counted k l (e ∷ past) all =
    acks-next k l past e.core.0 e.what all.0.core all.1 (allowed-moment k l past e all.1 all.0) (acks-counted k l past all.1)

pub acks-within : (k : Declarations) (l : Limits) (past : Past) → AllAllowed k l past → total acks past ≤ operations past * k.cores
unfolding ackers
acks-within k l past all =
    let counted = acks-counted k l past all in
    let most = sum-most (ackers k past) k.cores (operations past) (λ n. count-le (has (acked past n)) k.cores) in
    omega (arith, counted, most)
