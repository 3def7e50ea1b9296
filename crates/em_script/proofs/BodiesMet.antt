-- The lines of the bodies of a graph, and the last line, break no rule that the state decides.
use Rattle.std.proofs.Common.{◌≡◌, ℕ, suc, Bool, true, false, not, List, [], ◌∷◌, ◌++◌, length, map, Option, Some, None, refl, sym, ap, subst, ◌∙◌, append_assoc, arith, length-append}
use Rattle.std.specs.List.{flat_map, list_all}
use Rattle.em_log.specs.WellFormed.{are_given}
use Rattle.em_log.specs.declared.body.Stmt.{Stmt}
use Rattle.em_log.specs.declared.graph.Config.{Config}
use Rattle.em_log.specs.declared.graph.EoDecl.{EoDecl}
use Rattle.em_script.specs.declared.line.Line.TheVariants as lines
use Rattle.em_script.specs.declared.line.Part.{Part}
use Rattle.em_script.specs.declared.line.Part.TheVariants as parts
use Rattle.em_script.specs.declared.line.Place.TheVariants as places
use Rattle.em_script.specs.Judging.{has_part, is_given}
use Rattle.em_script.specs.Names.{Table}
use Rattle.em_script.specs.Spelling.{Placed, block_lines, body_lines, bodies_of, bodies_of_object, bodies_of_objects, optional_body, written_body}
use Rattle.em_script.specs.State.{with_body}
use Rattle.em_script.proofs.Ascii.{both}
use Rattle.em_script.proofs.BodiesRead.{AreBlocks, IsBlock, bare, between, body_read, error_read, given-of, inside, lstart_read, lstop_read, object_at, object_read, receive_read, start_read, stop_read, unwritten, with-lstart, with-lstop, with-receive, with-start, with-stop, with_bodies, with_object}
use Rattle.em_script.proofs.RulesMet.{AreMet, AreMet-append, block_lines_met, unless-met}

pub body_met : (whole g : Config) (table : Table) (has_boot : Bool) (p : Placed) → IsBlock whole p → is_given (between g table has_boot) p.0 ≡ false → AreMet (body_lines p) (between g table has_boot)
body_met whole g table has_boot p well new =
    (unless-met (not (is_given (between g table has_boot) p.0)) 8 (ap not new), AreMet-append (block_lines p.1) (lines.End ∷ []) (inside p.0 g table has_boot) (block_lines_met whole p.0 16 p.1 well (inside p.0 g table has_boot) refl (omega arith)) (refl, tt))

-- none of these bodies was given before it, once boot has been
abbrev pub AreNew : Table → List Placed → Config → Type 0
AreNew table [] g = Unit {0}
AreNew table (p ∷ ps) g = (is_given (between g table true) p.0 ≡ false) × AreNew table ps (with_body p.0 p.1 g)

AreNew-append : (table : Table) (xs ys : List Placed) (g : Config) → AreNew table xs g → AreNew table ys (with_bodies xs g) → AreNew table (xs ++ ys) g
AreNew-append table [] ys g a b = b
AreNew-append table (x ∷ xs) ys g a b = (a.0, AreNew-append table xs ys (with_body x.0 x.1 g) a.1 b)

bodies_met : (whole g : Config) (table : Table) (ps : List Placed) → AreBlocks whole ps → AreNew table ps g → AreMet (flat_map body_lines ps) (between g table true)
bodies_met whole g table [] well new = tt
bodies_met whole g table (p ∷ ps) well new =
    AreMet-append (body_lines p) (flat_map body_lines ps) (between g table true) (body_met whole g table true p well.0 new.0)
    (subst (AreMet (flat_map body_lines ps)) (sym (body_read whole g table true p well.0)) (bodies_met whole (with_body p.0 p.1 g) table ps well.1 new.1))

-- ---- the bodies of objects

is_given-at : (g : Config) (table : Table) (front back : List EoDecl) (d : EoDecl) (n : ℕ) (p : Part) → length front ≡ n → has_part p d ≡ false → is_given (between (with_object g front d back) table true) (places.Object (record { 0 = n }) p) ≡ false
is_given-at g table front back d n p is none = rw (object_at front back d n is) none

written_new : (g : Config) (table : Table) (front back : List EoDecl) (d : EoDecl) (n : ℕ) (given : Bool) (p : Part) (b : List Stmt) → length front ≡ n → has_part p d ≡ false → AreNew table (written_body given (places.Object (record { 0 = n }) p) b) (with_object g front d back)
written_new g table front back d n true p b is none = (is_given-at g table front back d n p is none, tt)
written_new g table front back d n false p b is none = tt

optional_new : (g : Config) (table : Table) (front back : List EoDecl) (d : EoDecl) (n : ℕ) (b : Option (List Stmt)) → length front ≡ n → has_part parts.Error d ≡ false → AreNew table (optional_body (places.Object (record { 0 = n }) parts.Error) b) (with_object g front d back)
optional_new g table front back d n None is none = tt
optional_new g table front back d n (Some b) is none = (is_given-at g table front back d n parts.Error is none, tt)

object_new : (g : Config) (table : Table) (front back : List EoDecl) (d : EoDecl) (n : ℕ) → length front ≡ n → are_given d ≡ true → AreNew table (bodies_of_object (record { 0 = n }) d) (with_object g front (bare d) back)
object_new g table front back d n is well =
    let a = given-of d well in
    let w1 = written_body d.given.receive (places.Object (record { 0 = n }) parts.Receive) d.receive in
    let w2 = written_body d.given.start (places.Object (record { 0 = n }) parts.Start) d.start in
    let w3 = written_body d.given.stop (places.Object (record { 0 = n }) parts.Stop) d.stop in
    let w4 = written_body d.given.lstart (places.Object (record { 0 = n }) parts.LocalStart) d.lstart in
    let w5 = written_body d.given.lstop (places.Object (record { 0 = n }) parts.LocalStop) d.lstop in
    let w6 = optional_body (places.Object (record { 0 = n }) parts.Error) d.error in
    AreNew-append table w1 (w2 ++ (w3 ++ (w4 ++ (w5 ++ w6)))) (with_object g front (bare d) back) (written_new g table front back (bare d) n d.given.receive parts.Receive d.receive is refl)
    (subst (AreNew table (w2 ++ (w3 ++ (w4 ++ (w5 ++ w6))))) (sym (receive_read g front back d n is a.receive))
    (AreNew-append table w2 (w3 ++ (w4 ++ (w5 ++ w6))) (with_object g front (with-receive d) back) (written_new g table front back (with-receive d) n d.given.start parts.Start d.start is refl)
    (subst (AreNew table (w3 ++ (w4 ++ (w5 ++ w6)))) (sym (start_read g front back d n is a.start))
    (AreNew-append table w3 (w4 ++ (w5 ++ w6)) (with_object g front (with-start d) back) (written_new g table front back (with-start d) n d.given.stop parts.Stop d.stop is refl)
    (subst (AreNew table (w4 ++ (w5 ++ w6))) (sym (stop_read g front back d n is a.stop))
    (AreNew-append table w4 (w5 ++ w6) (with_object g front (with-stop d) back) (written_new g table front back (with-stop d) n d.given.lstart parts.LocalStart d.lstart is refl)
    (subst (AreNew table (w5 ++ w6)) (sym (lstart_read g front back d n is a.lstart))
    (AreNew-append table w5 w6 (with_object g front (with-lstart d) back) (written_new g table front back (with-lstart d) n d.given.lstop parts.LocalStop d.lstop is refl)
    (subst (AreNew table w6) (sym (lstop_read g front back d n is a.lstop)) (optional_new g table front back (with-lstop d) n d.error is refl))))))))))

objects_new : (g : Config) (table : Table) (front ds : List EoDecl) (n : ℕ) → length front ≡ n → list_all are_given ds ≡ true → AreNew table (bodies_of_objects n ds) (record g { eos = front ++ map bare ds })
objects_new g table front [] n is well = tt
objects_new g table front (d ∷ ds) n is well =
    let each = both (are_given d) (list_all are_given ds) well in
    let more : length (front ++ d ∷ []) ≡ suc n = simp length-append (omega arith) in
    let rest = objects_new g table (front ++ d ∷ []) ds (suc n) more each.1 in
    let at = ap (λ eos. record g { eos = eos }) (append_assoc front (d ∷ []) (map bare ds)) ∙ sym (object_read g front (map bare ds) d n is each.0) in
    AreNew-append table (bodies_of_object (record { 0 = n }) d) (bodies_of_objects (suc n) ds) (record g { eos = front ++ bare d ∷ map bare ds }) (object_new g table front (map bare ds) d n is each.0)
    (subst (AreNew table (bodies_of_objects (suc n) ds)) at rest)

error_new : (g : Config) (table : Table) (b : Option (List Stmt)) → AreNew table (optional_body places.Error b) (record g { error = None })
error_new g table None = tt
error_new g table (Some b) = (refl, tt)

pub later_new : (g : Config) (table : Table) → list_all are_given g.eos ≡ true → AreNew table (optional_body places.Error g.error ++ bodies_of_objects 0 g.eos) (record g { eos = map bare g.eos; error = None })
later_new g table well =
    AreNew-append table (optional_body places.Error g.error) (bodies_of_objects 0 g.eos) (record g { eos = map bare g.eos; error = None }) (error_new (record g { eos = map bare g.eos }) table g.error)
    (subst (AreNew table (bodies_of_objects 0 g.eos)) (sym (error_read (record g { eos = map bare g.eos }) g.error)) (objects_new g table [] g.eos 0 refl well))

pub bodies_of_met : (g : Config) (table : Table) → AreBlocks g (bodies_of g) → list_all are_given g.eos ≡ true → AreMet (flat_map body_lines (bodies_of g)) (between (unwritten g) table false)
bodies_of_met g table well given =
    let later = optional_body places.Error g.error ++ bodies_of_objects 0 g.eos in
    AreMet-append (body_lines (places.Boot, g.boot)) (flat_map body_lines later) (between (unwritten g) table false) (body_met g (unwritten g) table false (places.Boot, g.boot) well.0 refl)
    (subst (AreMet (flat_map body_lines later)) (sym (body_read g (unwritten g) table false (places.Boot, g.boot) well.0)) (bodies_met g (record g { eos = map bare g.eos; error = None }) table later well.1 (later_new g table given)))
