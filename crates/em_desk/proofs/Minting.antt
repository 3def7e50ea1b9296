-- There is room for the mintings of an ask.
use Rattle.std.proofs.Common.{◌≡◌, ℕ, ◌+◌, ◌<◌, ◌≤◌, [], ◌∷◌, List, length, Option, Some, None, refl, ap, arith}
use Rattle.em_log.specs.declared.ask.Ask.{Ask}
use Rattle.em_log.specs.declared.declarations.Declarations.{Declarations}
use Rattle.em_log.specs.declared.entry.What.{What}
use Rattle.em_log.specs.declared.ids.Note.{Note}
use Rattle.em_log.specs.History.{Past}
use Rattle.em_log.specs.Allowance.{cost_of_ask, left}
use Rattle.em_moments.proofs.Asked.{asks-open}
use Rattle.em_bounds.specs.Paid.{paid, pays}
use Rattle.em_pool.specs.Steps.{PoolStep, mintings}
use Rattle.em_parts.specs.PoolSteps.{Move, moved, moves, noted_steps, direct, pool_steps}
use Rattle.em_desk.specs.declared.parts.Parts.{Parts}
use Rattle.em_bounds.specs.Room.{left_if, left_open, needed}
use Rattle.em_bounds.proofs.Room.{has-room}
use Rattle.em_desk.specs.Standing.{Stands}
use Rattle.em_desk.specs.State.{MayAsk}
use Rattle.em_desk.proofs.Begun.{settled-pools}
use Rattle.em_desk.proofs.Rooms.{lefts-has, needed-most, limit-most}

-- each minting is paid for

moved-mintings : (ms : List Move) (s : List PoolStep) → mintings (moved ms s) ≡ mintings s
moved-mintings [] s = refl
moved-mintings (m ∷ ms) s = moved-mintings ms _

noted-mintings : (c p : ℕ) (ns : List Note) (s : List PoolStep) → mintings (noted_steps c p ns s) ≡ mintings s
noted-mintings c p [] s = refl
noted-mintings c p (n ∷ ns) s = noted-mintings c p ns _

direct-mintings : (k : Declarations) (past : Past) (c : ℕ) (w : What) (s : List PoolStep) → mintings (direct k past c w s) ≤ pays w + mintings s
direct-mintings k past c (What.Alloc p e) s = omega arith
direct-mintings k past c (What.Start q e t) s = omega arith
direct-mintings k past c (What.Claim None) s = omega arith
direct-mintings k past c (What.Claim (Some e)) s = omega arith
direct-mintings k past c (What.Dequeue q None) s = omega arith
direct-mintings k past c (What.Dequeue q (Some e)) s = omega arith
direct-mintings k past c (What.Free h) s = omega arith
direct-mintings k past c (What.Send h q t st) s = omega arith
direct-mintings k past c (What.Keep h) s = omega arith
direct-mintings k past c (What.Begin op job notes) s = let same = noted-mintings c (length past) notes s in omega (arith, same)
direct-mintings k past c (What.Apply g a n notes) s = let same = noted-mintings c (length past) notes s in omega (arith, same)
direct-mintings k past c (What.End lost cells) s = omega arith
direct-mintings k past c w s = omega arith

pub mintings-paid : (k : Declarations) (past : Past) → mintings (pool_steps k past) ≤ paid past
mintings-paid k [] = omega arith
mintings-paid k (e ∷ past) =
    let rest = mintings-paid k past in
    let same = moved-mintings (moves k past e.core.0 e.what) (direct k past e.core.0 e.what (pool_steps k past)) in
    let here = direct-mintings k past e.core.0 e.what (pool_steps k past) in
    omega (arith, rest, same, here)

-- few enough handles were minted for one more
pub can-mint : (p : Parts) → Stands p → p.pools.mintings < 4294967295
can-mint p s =
    let minted = mintings-paid p.declarations p.history.past in
    let count = (settled-pools p 0 s).count in
    let enough = needed-most p.declarations p.limits p.history.past s.fixed.limits.some_burst (record { each = s.all; whole = s.due }) s.afforded in
    let most = limit-most p.declarations p.limits s.fixed.graph.most_cores s.fixed.limits.most_receives in
    omega (arith, minted, count, enough, most)

-- and the pools have room

pub has-spare : (p : Parts) (c : ℕ) (a : Ask) → Stands p → MayAsk p.declarations p.history.past c a → 1 ≤ cost_of_ask a → 1 ≤ p.pools.spare
has-spare p c a s may costs =
    let o = asks-open p.declarations p.history.past c a may.may in
    let open_now : left_open p.declarations p.history.past c ≡ left p.declarations p.history.past c =
    ap (λ (b : Option What). left_if b (left p.declarations p.history.past c)) o.1 in
    let has = lefts-has p.declarations p.history.past c may.core in
    let fits = s.mintable in
    let enough = may.enough in
    omega (arith, open_now, has, fits, enough, costs)

-- and the history has few entries
pub few-entries : (p : Parts) → Stands p → length p.history.past < 4294967295
few-entries p s =
    let fits = has-room p.declarations p.limits p.history.past (needed p.declarations p.history.past) s.all (omega arith) in
    let enough = needed-most p.declarations p.limits p.history.past s.fixed.limits.some_burst (record { each = s.all; whole = s.due }) s.afforded in
    let most = limit-most p.declarations p.limits s.fixed.graph.most_cores s.fixed.limits.most_receives in
    omega (arith, fits, enough, most)
