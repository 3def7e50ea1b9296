-- The lines of bodies, read: each body comes to its place.
use Rattle.std.proofs.Common.{◌≡◌, ℕ, suc, ◌<◌, Bool, true, false, ◌&&◌, ◌||◌, List, [], ◌∷◌, ◌++◌, length, map, Option, Some, None, refl, sym, ap, ◌∙◌, append_assoc, append-nil, arith, length-append}
use Rattle.std.specs.List.{flat_map, list_all}
use Rattle.std.specs.Prelude.{slice_get}
use Rattle.std.proofs.lemmas.Option.{slice_get-get_or}
use Rattle.std.proofs.Math.Seq.{set-append_seam, get_or-append_seam}
use Rattle.em_log.specs.WellFormed.{Where, is_statement, is_unwritten, are_given}
use Rattle.em_log.specs.declared.body.Stmt.{Stmt}
use Rattle.em_log.specs.declared.graph.Config.{Config}
use Rattle.em_log.specs.declared.graph.EoDecl.{EoDecl}
use Rattle.em_script.specs.declared.line.Line.TheVariants as lines
use Rattle.em_script.specs.declared.line.Part.{Part}
use Rattle.em_script.specs.declared.line.Part.TheVariants as parts
use Rattle.em_script.specs.declared.line.Place.{Place}
use Rattle.em_script.specs.declared.line.Place.TheVariants as places
use Rattle.em_script.specs.declared.phase.Phase.TheVariants as phases
use Rattle.em_script.specs.Judging.{where_of}
use Rattle.em_script.specs.Names.{Table}
use Rattle.em_script.specs.Spelling.{Placed, statement_lines, block_lines, body_lines, written_body, optional_body, bodies_of, bodies_of_object, bodies_of_objects}
use Rattle.em_script.specs.State.{State, after_all, is_boot, new_eo, with_body, with_body_at, with_part}
use Rattle.em_script.proofs.Ascii.{both}
use Rattle.em_script.proofs.BlocksRead.{after_all-append, extended, statement_read}

pub block_read : (g : Config) (w : Where) (d : ℕ) (block : List Stmt) → list_all (is_statement g w d) block ≡ true → (s : State) → after_all (block_lines block) s ≡ extended block s
block_read g w d [] well s = ap (λ b. record s { block = b }) (sym (append-nil s.block))
block_read g w d (x ∷ xs) well s =
    let each = both (is_statement g w d x) (list_all (is_statement g w d) xs) well in
    after_all-append (statement_lines x) (block_lines xs) s ∙ ap (after_all (block_lines xs)) (statement_read g w d x each.0 s) ∙ block_read g w d xs each.1 (extended (x ∷ []) s) ∙ ap (λ b. record s { block = b }) (append_assoc s.block (x ∷ []) xs)

-- between bodies
abbrev pub between : Config → Table → Bool → State
between g table has_boot = record { graph = g; table = table; has_boot = has_boot; phase = phases.Bodies; block = []; nest = [] }

abbrev pub inside : Place → Config → Table → Bool → State
inside p g table has_boot = record { graph = g; table = table; has_boot = has_boot; phase = phases.Body p; block = []; nest = [] }

-- the statements of a body are well formed in their place
abbrev pub IsBlock : Config → Placed → Type 0
IsBlock g p = list_all (is_statement g (where_of p.0) 16) p.1 ≡ true

pub body_read : (whole g : Config) (table : Table) (has_boot : Bool) (p : Placed) → IsBlock whole p → after_all (body_lines p) (between g table has_boot) ≡ between (with_body p.0 p.1 g) table (has_boot || is_boot p.0)
body_read whole g table has_boot p well =
    after_all-append (block_lines p.1) (lines.End ∷ []) (inside p.0 g table has_boot) ∙ ap (after_all (lines.End ∷ [])) (block_read whole (where_of p.0) 16 p.1 well (inside p.0 g table has_boot))

-- ---- one after the other

abbrev pub with_bodies : List Placed → Config → Config
with_bodies [] g = g
with_bodies (p ∷ ps) g = with_bodies ps (with_body p.0 p.1 g)

abbrev pub boot_among : List Placed → Bool → Bool
boot_among [] has_boot = has_boot
boot_among (p ∷ ps) has_boot = boot_among ps (has_boot || is_boot p.0)

abbrev pub AreBlocks : Config → List Placed → Type 0
AreBlocks g [] = Unit {0}
AreBlocks g (p ∷ ps) = IsBlock g p × AreBlocks g ps

pub bodies_read : (whole g : Config) (table : Table) (has_boot : Bool) (ps : List Placed) → AreBlocks whole ps → after_all (flat_map body_lines ps) (between g table has_boot) ≡ between (with_bodies ps g) table (boot_among ps has_boot)
bodies_read whole g table has_boot [] well = refl
bodies_read whole g table has_boot (p ∷ ps) well =
    after_all-append (body_lines p) (flat_map body_lines ps) (between g table has_boot) ∙ ap (after_all (flat_map body_lines ps)) (body_read whole g table has_boot p well.0) ∙ bodies_read whole (with_body p.0 p.1 g) table (has_boot || is_boot p.0) ps well.1

pub with_bodies-append : (xs ys : List Placed) (g : Config) → with_bodies (xs ++ ys) g ≡ with_bodies ys (with_bodies xs g)
with_bodies-append [] ys g = refl
with_bodies-append (x ∷ xs) ys g = with_bodies-append xs ys (with_body x.0 x.1 g)

-- ---- the bodies of an object

-- a graph with this object between others
abbrev pub with_object : Config → List EoDecl → EoDecl → List EoDecl → Config
with_object g front d back = record g { eos = front ++ d ∷ back }

pub object_at : (front back : List EoDecl) (d : EoDecl) (n : ℕ) → length front ≡ n → slice_get (front ++ d ∷ back) n ≡ Some d
object_at front back d n is =
    let lt : length front < length (front ++ d ∷ back) = simp length-append (omega arith) in
    ap (slice_get (front ++ d ∷ back)) (sym is) ∙ slice_get-get_or (front ++ d ∷ back) (length front) d lt ∙ ap (λ x. Some x) (get_or-append_seam front d back d)

with_body_at-seam : (front back : List EoDecl) (d : EoDecl) (n : ℕ) (p : Part) (b : List Stmt) → length front ≡ n → with_body_at n p b (front ++ d ∷ back) ≡ front ++ with_part p b d ∷ back
with_body_at-seam front back d n p b is =
    let got : slice_get (front ++ d ∷ back) (length front) ≡ Some d = object_at front back d (length front) refl in
    rw (← is, got) (set-append_seam front d back (with_part p b d))

abbrev put : Bool → Part → List Stmt → EoDecl → EoDecl
put true p b d = with_part p b d
put false p b d = d

put_read : (g : Config) (front back : List EoDecl) (d : EoDecl) (n : ℕ) (given : Bool) (p : Part) (b : List Stmt) → length front ≡ n → with_bodies (written_body given (places.Object (record { 0 = n }) p) b) (with_object g front d back) ≡ with_object g front (put given p b d) back
put_read g front back d n true p b is = ap (λ eos. record g { eos = eos }) (with_body_at-seam front back d n p b is)
put_read g front back d n false p b is = refl

abbrev put_error : Option (List Stmt) → EoDecl → EoDecl
put_error None d = d
put_error (Some b) d = with_part parts.Error b d

put_error_read : (g : Config) (front back : List EoDecl) (d : EoDecl) (n : ℕ) (b : Option (List Stmt)) → length front ≡ n → with_bodies (optional_body (places.Object (record { 0 = n }) parts.Error) b) (with_object g front d back) ≡ with_object g front (put_error b d) back
put_error_read g front back d n None is = refl
put_error_read g front back d n (Some b) is = ap (λ eos. record g { eos = eos }) (with_body_at-seam front back d n parts.Error b is)

-- ---- an object as it was declared, and with its bodies

unwritten-is : (b : List Stmt) → is_unwritten b ≡ true → b ≡ []
unwritten-is [] e = refl
unwritten-is (x ∷ xs) e = absurd cc

put-Receive : (given : Bool) (b : List Stmt) (d : EoDecl) → (given || is_unwritten b) ≡ true → d.receive ≡ [] → d.given.receive ≡ false → put given parts.Receive b d ≡ record d { receive = b; given = record d.given { receive = given } }
put-Receive true b d well none off = refl
put-Receive false b d well none off = λ i. record d { receive = (none ∙ sym (unwritten-is b well)) i; given = record d.given { receive = off i } }

put-Start : (given : Bool) (b : List Stmt) (d : EoDecl) → (given || is_unwritten b) ≡ true → d.start ≡ [] → d.given.start ≡ false → put given parts.Start b d ≡ record d { start = b; given = record d.given { start = given } }
put-Start true b d well none off = refl
put-Start false b d well none off = λ i. record d { start = (none ∙ sym (unwritten-is b well)) i; given = record d.given { start = off i } }

put-Stop : (given : Bool) (b : List Stmt) (d : EoDecl) → (given || is_unwritten b) ≡ true → d.stop ≡ [] → d.given.stop ≡ false → put given parts.Stop b d ≡ record d { stop = b; given = record d.given { stop = given } }
put-Stop true b d well none off = refl
put-Stop false b d well none off = λ i. record d { stop = (none ∙ sym (unwritten-is b well)) i; given = record d.given { stop = off i } }

put-LocalStart : (given : Bool) (b : List Stmt) (d : EoDecl) → (given || is_unwritten b) ≡ true → d.lstart ≡ [] → d.given.lstart ≡ false → put given parts.LocalStart b d ≡ record d { lstart = b; given = record d.given { lstart = given } }
put-LocalStart true b d well none off = refl
put-LocalStart false b d well none off = λ i. record d { lstart = (none ∙ sym (unwritten-is b well)) i; given = record d.given { lstart = off i } }

put-LocalStop : (given : Bool) (b : List Stmt) (d : EoDecl) → (given || is_unwritten b) ≡ true → d.lstop ≡ [] → d.given.lstop ≡ false → put given parts.LocalStop b d ≡ record d { lstop = b; given = record d.given { lstop = given } }
put-LocalStop true b d well none off = refl
put-LocalStop false b d well none off = λ i. record d { lstop = (none ∙ sym (unwritten-is b well)) i; given = record d.given { lstop = off i } }

put_error-is : (b : Option (List Stmt)) (d : EoDecl) → d.error ≡ None → put_error b d ≡ record d { error = b }
put_error-is None d none = λ i. record d { error = none i }
put_error-is (Some b) d none = refl

abbrev pub bare : EoDecl → EoDecl
bare d = new_eo d.name d.running

abbrev pub with-receive : EoDecl → EoDecl
with-receive d = record (bare d) { receive = d.receive; given = record (bare d).given { receive = d.given.receive } }

abbrev pub with-start : EoDecl → EoDecl
with-start d = record (with-receive d) { start = d.start; given = record (with-receive d).given { start = d.given.start } }

abbrev pub with-stop : EoDecl → EoDecl
with-stop d = record (with-start d) { stop = d.stop; given = record (with-start d).given { stop = d.given.stop } }

abbrev pub with-lstart : EoDecl → EoDecl
with-lstart d = record (with-stop d) { lstart = d.lstart; given = record (with-stop d).given { lstart = d.given.lstart } }

abbrev pub with-lstop : EoDecl → EoDecl
with-lstop d = record (with-lstart d) { lstop = d.lstop; given = record (with-lstart d).given { lstop = d.given.lstop } }

pub receive_read : (g : Config) (front back : List EoDecl) (d : EoDecl) (n : ℕ) → length front ≡ n → (d.given.receive || is_unwritten d.receive) ≡ true → with_bodies (written_body d.given.receive (places.Object (record { 0 = n }) parts.Receive) d.receive) (with_object g front (bare d) back) ≡ with_object g front (with-receive d) back
receive_read g front back d n is well = put_read g front back (bare d) n d.given.receive parts.Receive d.receive is ∙ ap (λ x. with_object g front x back) (put-Receive d.given.receive d.receive (bare d) well refl refl)

pub start_read : (g : Config) (front back : List EoDecl) (d : EoDecl) (n : ℕ) → length front ≡ n → (d.given.start || is_unwritten d.start) ≡ true → with_bodies (written_body d.given.start (places.Object (record { 0 = n }) parts.Start) d.start) (with_object g front (with-receive d) back) ≡ with_object g front (with-start d) back
start_read g front back d n is well = put_read g front back (with-receive d) n d.given.start parts.Start d.start is ∙ ap (λ x. with_object g front x back) (put-Start d.given.start d.start (with-receive d) well refl refl)

pub stop_read : (g : Config) (front back : List EoDecl) (d : EoDecl) (n : ℕ) → length front ≡ n → (d.given.stop || is_unwritten d.stop) ≡ true → with_bodies (written_body d.given.stop (places.Object (record { 0 = n }) parts.Stop) d.stop) (with_object g front (with-start d) back) ≡ with_object g front (with-stop d) back
stop_read g front back d n is well = put_read g front back (with-start d) n d.given.stop parts.Stop d.stop is ∙ ap (λ x. with_object g front x back) (put-Stop d.given.stop d.stop (with-start d) well refl refl)

pub lstart_read : (g : Config) (front back : List EoDecl) (d : EoDecl) (n : ℕ) → length front ≡ n → (d.given.lstart || is_unwritten d.lstart) ≡ true → with_bodies (written_body d.given.lstart (places.Object (record { 0 = n }) parts.LocalStart) d.lstart) (with_object g front (with-stop d) back) ≡ with_object g front (with-lstart d) back
lstart_read g front back d n is well = put_read g front back (with-stop d) n d.given.lstart parts.LocalStart d.lstart is ∙ ap (λ x. with_object g front x back) (put-LocalStart d.given.lstart d.lstart (with-stop d) well refl refl)

pub lstop_read : (g : Config) (front back : List EoDecl) (d : EoDecl) (n : ℕ) → length front ≡ n → (d.given.lstop || is_unwritten d.lstop) ≡ true → with_bodies (written_body d.given.lstop (places.Object (record { 0 = n }) parts.LocalStop) d.lstop) (with_object g front (with-lstart d) back) ≡ with_object g front (with-lstop d) back
lstop_read g front back d n is well = put_read g front back (with-lstart d) n d.given.lstop parts.LocalStop d.lstop is ∙ ap (λ x. with_object g front x back) (put-LocalStop d.given.lstop d.lstop (with-lstart d) well refl refl)

pub record AreGiven (d : EoDecl) : Type 0 where
  pub receive : (d.given.receive || is_unwritten d.receive) ≡ true
  pub start : (d.given.start || is_unwritten d.start) ≡ true
  pub stop : (d.given.stop || is_unwritten d.stop) ≡ true
  pub lstart : (d.given.lstart || is_unwritten d.lstart) ≡ true
  pub lstop : (d.given.lstop || is_unwritten d.lstop) ≡ true

pub given-of : (d : EoDecl) → are_given d ≡ true → AreGiven d
given-of d well =
    let five = both ((d.given.receive || is_unwritten d.receive) && (d.given.start || is_unwritten d.start) && (d.given.stop || is_unwritten d.stop) && (d.given.lstart || is_unwritten d.lstart)) (d.given.lstop || is_unwritten d.lstop) well in
    let four = both ((d.given.receive || is_unwritten d.receive) && (d.given.start || is_unwritten d.start) && (d.given.stop || is_unwritten d.stop)) (d.given.lstart || is_unwritten d.lstart) five.0 in
    let three = both ((d.given.receive || is_unwritten d.receive) && (d.given.start || is_unwritten d.start)) (d.given.stop || is_unwritten d.stop) four.0 in
    let two = both (d.given.receive || is_unwritten d.receive) (d.given.start || is_unwritten d.start) three.0 in
    record { receive = two.0; start = two.1; stop = three.1; lstart = four.1; lstop = five.1 }

pub object_read : (g : Config) (front back : List EoDecl) (d : EoDecl) (n : ℕ) → length front ≡ n → are_given d ≡ true → with_bodies (bodies_of_object (record { 0 = n }) d) (with_object g front (bare d) back) ≡ with_object g front d back
object_read g front back d n is well =
    let a = given-of d well in
    let w1 = written_body d.given.receive (places.Object (record { 0 = n }) parts.Receive) d.receive in
    let w2 = written_body d.given.start (places.Object (record { 0 = n }) parts.Start) d.start in
    let w3 = written_body d.given.stop (places.Object (record { 0 = n }) parts.Stop) d.stop in
    let w4 = written_body d.given.lstart (places.Object (record { 0 = n }) parts.LocalStart) d.lstart in
    let w5 = written_body d.given.lstop (places.Object (record { 0 = n }) parts.LocalStop) d.lstop in
    let w6 = optional_body (places.Object (record { 0 = n }) parts.Error) d.error in
    with_bodies-append w1 (w2 ++ (w3 ++ (w4 ++ (w5 ++ w6)))) (with_object g front (bare d) back)
    ∙ ap (with_bodies (w2 ++ (w3 ++ (w4 ++ (w5 ++ w6))))) (receive_read g front back d n is a.receive)
    ∙ with_bodies-append w2 (w3 ++ (w4 ++ (w5 ++ w6))) (with_object g front (with-receive d) back)
    ∙ ap (with_bodies (w3 ++ (w4 ++ (w5 ++ w6)))) (start_read g front back d n is a.start)
    ∙ with_bodies-append w3 (w4 ++ (w5 ++ w6)) (with_object g front (with-start d) back)
    ∙ ap (with_bodies (w4 ++ (w5 ++ w6))) (stop_read g front back d n is a.stop)
    ∙ with_bodies-append w4 (w5 ++ w6) (with_object g front (with-stop d) back)
    ∙ ap (with_bodies (w5 ++ w6)) (lstart_read g front back d n is a.lstart)
    ∙ with_bodies-append w5 w6 (with_object g front (with-lstart d) back)
    ∙ ap (with_bodies w6) (lstop_read g front back d n is a.lstop)
    ∙ put_error_read g front back (with-lstop d) n d.error is
    ∙ ap (λ x. with_object g front x back) (put_error-is d.error (with-lstop d) refl)

objects_read : (g : Config) (front ds : List EoDecl) (n : ℕ) → length front ≡ n → list_all are_given ds ≡ true → with_bodies (bodies_of_objects n ds) (record g { eos = front ++ map bare ds }) ≡ record g { eos = front ++ ds }
objects_read g front [] n is well = refl
objects_read g front (d ∷ ds) n is well =
    let each = both (are_given d) (list_all are_given ds) well in
    let more : length (front ++ d ∷ []) ≡ suc n = simp length-append (omega arith) in
    with_bodies-append (bodies_of_object (record { 0 = n }) d) (bodies_of_objects (suc n) ds) (record g { eos = front ++ bare d ∷ map bare ds })
    ∙ ap (with_bodies (bodies_of_objects (suc n) ds)) (object_read g front (map bare ds) d n is each.0)
    ∙ ap (λ eos. with_bodies (bodies_of_objects (suc n) ds) (record g { eos = eos })) (sym (append_assoc front (d ∷ []) (map bare ds)))
    ∙ objects_read g (front ++ d ∷ []) ds (suc n) more each.1
    ∙ ap (λ eos. record g { eos = eos }) (append_assoc front (d ∷ []) ds)

-- ---- the bodies of a graph

-- a graph before its bodies
abbrev pub unwritten : Config → Config
unwritten g = record g { eos = map bare g.eos; boot = []; error = None }

pub error_read : (g : Config) (b : Option (List Stmt)) → with_bodies (optional_body places.Error b) (record g { error = None }) ≡ record g { error = b }
error_read g None = refl
error_read g (Some b) = refl

pub bodies_of_read : (g : Config) → list_all are_given g.eos ≡ true → with_bodies (bodies_of g) (unwritten g) ≡ g
bodies_of_read g well =
    let error = optional_body places.Error g.error in
    let objects = bodies_of_objects 0 g.eos in
    with_bodies-append error objects (record g { eos = map bare g.eos; error = None })
    ∙ ap (with_bodies objects) (error_read (record g { eos = map bare g.eos }) g.error)
    ∙ objects_read g [] g.eos 0 refl well

boot_stays : (ps : List Placed) → boot_among ps true ≡ true
boot_stays [] = refl
boot_stays (p ∷ ps) = boot_stays ps

pub boot_read : (g : Config) → boot_among (bodies_of g) false ≡ true
boot_read g = boot_stays (optional_body places.Error g.error ++ bodies_of_objects 0 g.eos)
