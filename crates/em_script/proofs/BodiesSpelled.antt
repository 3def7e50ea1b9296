-- The lines of the bodies of a graph, and the last line, are spelled so that each is read as it is.
use Rattle.std.proofs.Common.{◌≡◌, ℕ, suc, ◌+◌, ◌-◌, ◌^◌, ◌<◌, ◌≤◌, Bool, true, false, ◌||◌, List, [], ◌∷◌, ◌++◌, length, Option, Some, None, refl, sym, subst, arith}
use Rattle.std.specs.List.{flat_map}
use Rattle.em_log.specs.declared.body.Stmt.{Stmt}
use Rattle.em_log.specs.declared.graph.Config.{Config}
use Rattle.em_log.specs.declared.graph.EoDecl.{EoDecl}
use Rattle.em_script.specs.declared.line.Line.TheVariants as lines
use Rattle.em_script.specs.declared.line.Part.TheVariants as parts
use Rattle.em_script.specs.declared.line.Place.{Place}
use Rattle.em_script.specs.declared.line.Place.TheVariants as places
use Rattle.em_script.specs.Declarations.{begins_body}
use Rattle.em_script.specs.Judging.{where_of}
use Rattle.em_script.specs.Names.{Table}
use Rattle.em_script.specs.Spelling.{Placed, block_lines, body_lines, bodies_of, bodies_of_object, bodies_of_objects, optional_body, written_body}
use Rattle.em_script.specs.State.{is_boot, with_body}
use Rattle.em_script.proofs.BlocksRead.{extended}
use Rattle.em_script.proofs.BlocksSpelled.{AreAllNamed, block_spelled, line_spelled}
use Rattle.em_script.proofs.BodiesRead.{AreBlocks, IsBlock, between, block_read, body_read, inside}
use Rattle.em_script.proofs.DeclarationForms.{TopFits, first_word}
use Rattle.em_script.proofs.DeclarationsRead.{declaring}
use Rattle.em_script.proofs.LineSpelled.{AreSpelled-append, both_ways, top-spelled}
use Rattle.em_script.proofs.Saying.{AreSpelled, IsSpelled}

-- ---- one body

abbrev pub IsPlaced : Config → Place → Type 0
IsPlaced g places.Boot = Unit {0}
IsPlaced g places.Error = Unit {0}
IsPlaced g (places.Object eo p) = eo.0 < length g.eos

pub place-fits : (g : Config) (t : Table) (k : AreAllNamed g t) (cores : ℕ) (p : Place) → IsPlaced g p → TopFits (both_ways g t) cores (lines.Body p)
place-fits g t k cores places.Boot h = tt
place-fits g t k cores places.Error h = tt
place-fits g t k cores (places.Object eo p) h = (k.all.eos eo h, (tt, tt))

pub place-begins : (p : Place) → begins_body (first_word (lines.Body p)) ≡ true
place-begins places.Boot = refl
place-begins places.Error = refl
place-begins (places.Object eo p) = refl

-- the lines of a body behind the first
pub inside_spelled : (g : Config) (t : Table) (k : AreAllNamed g t) (now : Config) (has_boot : Bool) (p : Placed) → IsBlock g p → AreSpelled g (block_lines p.1 ++ lines.End ∷ []) (inside p.0 now t has_boot)
inside_spelled g t k now has_boot p well =
    let s = inside p.0 now t has_boot in
    let last : AreSpelled g (lines.End ∷ []) (extended p.1 (inside p.0 now t has_boot)) = (line_spelled g t k p.0 lines.End (extended p.1 (inside p.0 now t has_boot)) refl refl tt, tt) in
    AreSpelled-append g (block_lines p.1) (lines.End ∷ []) s (block_spelled g t k p.0 16 p.1 well s refl refl)
    (subst (AreSpelled g (lines.End ∷ [])) (sym (block_read g (where_of p.0) 16 p.1 well s)) last)

pub body_spelled : (g : Config) (t : Table) (k : AreAllNamed g t) (now : Config) (has_boot : Bool) (p : Placed) → 2 ^ now.cores - 1 < 2 ^ 64 → IsPlaced g p.0 → IsBlock g p → AreSpelled g (body_lines p) (between now t has_boot)
body_spelled g t k now has_boot p few placed well =
    (top-spelled g (between now t has_boot) (lines.Body p.0) k.is few (λ r. refl) (place-begins p.0) (place-fits g t k now.cores p.0 placed), inside_spelled g t k now has_boot p well)

-- ---- one after the other

abbrev pub ArePlaced : Config → List Placed → Type 0
ArePlaced g [] = Unit {0}
ArePlaced g (p ∷ ps) = IsPlaced g p.0 × ArePlaced g ps

ArePlaced-append : (g : Config) (xs ys : List Placed) → ArePlaced g xs → ArePlaced g ys → ArePlaced g (xs ++ ys)
ArePlaced-append g [] ys a b = b
ArePlaced-append g (x ∷ xs) ys a b = (a.0, ArePlaced-append g xs ys a.1 b)

same-cores : (p : Place) (b : List Stmt) (now : Config) → (with_body p b now).cores ≡ now.cores
same-cores places.Boot b now = refl
same-cores places.Error b now = refl
same-cores (places.Object eo p) b now = refl

pub few-too : (p : Place) (b : List Stmt) (now : Config) → 2 ^ now.cores - 1 < 2 ^ 64 → 2 ^ (with_body p b now).cores - 1 < 2 ^ 64
few-too p b now few = subst (λ n. 2 ^ n - 1 < 2 ^ 64) (sym (same-cores p b now)) few

pub bodies_spelled : (g : Config) (t : Table) (k : AreAllNamed g t) (now : Config) (has_boot : Bool) (ps : List Placed) → 2 ^ now.cores - 1 < 2 ^ 64 → ArePlaced g ps → AreBlocks g ps → AreSpelled g (flat_map body_lines ps) (between now t has_boot)
bodies_spelled g t k now has_boot [] few placed well = tt
bodies_spelled g t k now has_boot (p ∷ ps) few placed well =
    AreSpelled-append g (body_lines p) (flat_map body_lines ps) (between now t has_boot) (body_spelled g t k now has_boot p few placed.0 well.0)
    (subst (AreSpelled g (flat_map body_lines ps)) (sym (body_read g now t has_boot p well.0)) (bodies_spelled g t k (with_body p.0 p.1 now) (has_boot || is_boot p.0) ps (few-too p.0 p.1 now few) placed.1 well.1))

-- ---- the bodies of a graph

written-placed : (g : Config) (given : Bool) (p : Place) (b : List Stmt) → IsPlaced g p → ArePlaced g (written_body given p b)
written-placed g true p b h = (h, tt)
written-placed g false p b h = tt

optional-placed : (g : Config) (p : Place) (b : Option (List Stmt)) → IsPlaced g p → ArePlaced g (optional_body p b)
optional-placed g p None h = tt
optional-placed g p (Some b) h = (h, tt)

object-placed : (g : Config) (n : ℕ) (d : EoDecl) → n < length g.eos → ArePlaced g (bodies_of_object (record { 0 = n }) d)
object-placed g n d h =
    let w1 = written_body d.given.receive (places.Object (record { 0 = n }) parts.Receive) d.receive in
    let w2 = written_body d.given.start (places.Object (record { 0 = n }) parts.Start) d.start in
    let w3 = written_body d.given.stop (places.Object (record { 0 = n }) parts.Stop) d.stop in
    let w4 = written_body d.given.lstart (places.Object (record { 0 = n }) parts.LocalStart) d.lstart in
    let w5 = written_body d.given.lstop (places.Object (record { 0 = n }) parts.LocalStop) d.lstop in
    let w6 = optional_body (places.Object (record { 0 = n }) parts.Error) d.error in
    ArePlaced-append g w1 (w2 ++ (w3 ++ (w4 ++ (w5 ++ w6)))) (written-placed g d.given.receive (places.Object (record { 0 = n }) parts.Receive) d.receive h)
    (ArePlaced-append g w2 (w3 ++ (w4 ++ (w5 ++ w6))) (written-placed g d.given.start (places.Object (record { 0 = n }) parts.Start) d.start h)
    (ArePlaced-append g w3 (w4 ++ (w5 ++ w6)) (written-placed g d.given.stop (places.Object (record { 0 = n }) parts.Stop) d.stop h)
    (ArePlaced-append g w4 (w5 ++ w6) (written-placed g d.given.lstart (places.Object (record { 0 = n }) parts.LocalStart) d.lstart h)
    (ArePlaced-append g w5 w6 (written-placed g d.given.lstop (places.Object (record { 0 = n }) parts.LocalStop) d.lstop h) (optional-placed g (places.Object (record { 0 = n }) parts.Error) d.error h)))))

objects-placed : (g : Config) (n : ℕ) (ds : List EoDecl) → n + length ds ≤ length g.eos → ArePlaced g (bodies_of_objects n ds)
objects-placed g n [] h = tt
objects-placed g n (d ∷ ds) h =
    let here : n < length g.eos = omega arith in
    let rest : suc n + length ds ≤ length g.eos = omega arith in
    ArePlaced-append g (bodies_of_object (record { 0 = n }) d) (bodies_of_objects (suc n) ds) (object-placed g n d here) (objects-placed g (suc n) ds rest)

pub later-placed : (g : Config) → ArePlaced g (optional_body places.Error g.error ++ bodies_of_objects 0 g.eos)
later-placed g =
    let all : 0 + length g.eos ≤ length g.eos = omega arith in
    ArePlaced-append g (optional_body places.Error g.error) (bodies_of_objects 0 g.eos) (optional-placed g places.Error g.error tt) (objects-placed g 0 g.eos all)

-- boot comes behind the declarations
pub bodies_of_spelled : (g : Config) (t : Table) (k : AreAllNamed g t) (now : Config) → 2 ^ now.cores - 1 < 2 ^ 64 → AreBlocks g (bodies_of g) → AreSpelled g (flat_map body_lines (bodies_of g)) (declaring now t)
bodies_of_spelled g t k now few well =
    let later = optional_body places.Error g.error ++ bodies_of_objects 0 g.eos in
    let boot : Placed = (places.Boot, g.boot) in
    let first : IsSpelled g (declaring now t) (lines.Body places.Boot) = top-spelled g (declaring now t) (lines.Body places.Boot) k.is few (λ r. refl) refl tt in
    AreSpelled-append g (body_lines (places.Boot, g.boot)) (flat_map body_lines later) (declaring now t) (first, inside_spelled g t k now false (places.Boot, g.boot) well.0)
    (subst (AreSpelled g (flat_map body_lines later)) (sym (body_read g now t false (places.Boot, g.boot) well.0)) (bodies_spelled g t k (with_body places.Boot g.boot now) true later few (later-placed g) well.1))

pub done_spelled : (g : Config) (t : Table) (k : AreAllNamed g t) (now : Config) (has_boot : Bool) → 2 ^ now.cores - 1 < 2 ^ 64 → AreSpelled g (lines.Done ∷ []) (between now t has_boot)
done_spelled g t k now has_boot few = (top-spelled g (between now t has_boot) lines.Done k.is few (λ r. refl) refl tt, tt)
