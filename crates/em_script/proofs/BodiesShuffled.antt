-- The bodies of a graph in any order, read: each comes to its own place, and none is given twice.
use Rattle.std.proofs.Common.{◌≡◌, ℕ, zero, suc, ◌<◌, Bool, true, false, ◌||◌, List, [], ◌∷◌, length, Option, Some, None, refl, sym, ap, subst, ◌∙◌, arith}
use Rattle.std.specs.Prelude.{slice_get, slice_set}
use Rattle.std.specs.Option.{option_map_or}
use Rattle.em_log.specs.declared.body.Stmt.{Stmt}
use Rattle.em_log.specs.declared.graph.Config.{Config}
use Rattle.em_log.specs.declared.graph.EoDecl.{EoDecl}
use Rattle.em_script.specs.declared.line.Part.{Part}
use Rattle.em_script.specs.declared.line.Part.TheVariants as parts
use Rattle.em_script.specs.declared.line.Place.{Place}
use Rattle.em_script.specs.declared.line.Place.TheVariants as places
use Rattle.em_script.specs.Judging.{has_part, is_given}
use Rattle.em_script.specs.Names.{Table}
use Rattle.em_script.specs.Spelling.{Placed}
use Rattle.em_script.specs.State.{is_boot, with_body, with_body_at, with_part}
use Rattle.em_script.proofs.BodiesRead.{IsBlock, between, boot_among, with_bodies}
use Rattle.em_script.proofs.BodiesSpelled.{IsPlaced}
use Rattle.em_script.proofs.Shuffling.{Exchanges}

-- ---- two bodies of objects

abbrev pub given_at : ℕ → Part → List EoDecl → Bool
given_at n p ds = option_map_or (has_part p) (slice_get ds n) false

behind : (o : Option EoDecl) (d : EoDecl) (ds : List EoDecl) (n : ℕ) (p : Part) (b : List Stmt) → option_map_or (λ x. slice_set (d ∷ ds) (suc n) (with_part p b x)) o (d ∷ ds) ≡ d ∷ option_map_or (λ x. slice_set ds n (with_part p b x)) o ds
behind None d ds n p b = refl
behind (Some x) d ds n p b = refl

pub later-at : (d : EoDecl) (ds : List EoDecl) (n : ℕ) (p : Part) (b : List Stmt) → with_body_at (suc n) p b (d ∷ ds) ≡ d ∷ with_body_at n p b ds
later-at d ds n p b = behind (slice_get ds n) d ds n p b

pub as-many : (n : ℕ) (p : Part) (b : List Stmt) (ds : List EoDecl) → length (with_body_at n p b ds) ≡ length ds
as-many n p b [] = refl
as-many zero p b (d ∷ ds) = refl
as-many (suc n) p b (d ∷ ds) = ap length (later-at d ds n p b) ∙ ap suc (as-many n p b ds)

-- two bodies, where the second is not given behind the first
pub record AreApart (n m : ℕ) (p q : Part) (b c : List Stmt) (ds : List EoDecl) : Type 0 where
  pub new : given_at m q ds ≡ false
  pub kept : given_at n p (with_body_at m q c ds) ≡ given_at n p ds
  pub same : with_body_at m q c (with_body_at n p b ds) ≡ with_body_at n p b (with_body_at m q c ds)

pub record PartsApart (p q : Part) (b c : List Stmt) (d : EoDecl) : Type 0 where
  pub new : has_part q d ≡ false
  pub kept : has_part p (with_part q c d) ≡ has_part p d
  pub same : with_part q c (with_part p b d) ≡ with_part p b (with_part q c d)

parts-apart : (p q : Part) (b c : List Stmt) (d : EoDecl) → has_part q (with_part p b d) ≡ false → PartsApart p q b c d
parts-apart parts.Receive parts.Receive b c d e = absurd cc
parts-apart parts.Receive parts.Start b c d e = record { new = e; kept = refl; same = refl }
parts-apart parts.Receive parts.Stop b c d e = record { new = e; kept = refl; same = refl }
parts-apart parts.Receive parts.LocalStart b c d e = record { new = e; kept = refl; same = refl }
parts-apart parts.Receive parts.LocalStop b c d e = record { new = e; kept = refl; same = refl }
parts-apart parts.Receive parts.Error b c d e = record { new = e; kept = refl; same = refl }
parts-apart parts.Start parts.Receive b c d e = record { new = e; kept = refl; same = refl }
parts-apart parts.Start parts.Start b c d e = absurd cc
parts-apart parts.Start parts.Stop b c d e = record { new = e; kept = refl; same = refl }
parts-apart parts.Start parts.LocalStart b c d e = record { new = e; kept = refl; same = refl }
parts-apart parts.Start parts.LocalStop b c d e = record { new = e; kept = refl; same = refl }
parts-apart parts.Start parts.Error b c d e = record { new = e; kept = refl; same = refl }
parts-apart parts.Stop parts.Receive b c d e = record { new = e; kept = refl; same = refl }
parts-apart parts.Stop parts.Start b c d e = record { new = e; kept = refl; same = refl }
parts-apart parts.Stop parts.Stop b c d e = absurd cc
parts-apart parts.Stop parts.LocalStart b c d e = record { new = e; kept = refl; same = refl }
parts-apart parts.Stop parts.LocalStop b c d e = record { new = e; kept = refl; same = refl }
parts-apart parts.Stop parts.Error b c d e = record { new = e; kept = refl; same = refl }
parts-apart parts.LocalStart parts.Receive b c d e = record { new = e; kept = refl; same = refl }
parts-apart parts.LocalStart parts.Start b c d e = record { new = e; kept = refl; same = refl }
parts-apart parts.LocalStart parts.Stop b c d e = record { new = e; kept = refl; same = refl }
parts-apart parts.LocalStart parts.LocalStart b c d e = absurd cc
parts-apart parts.LocalStart parts.LocalStop b c d e = record { new = e; kept = refl; same = refl }
parts-apart parts.LocalStart parts.Error b c d e = record { new = e; kept = refl; same = refl }
parts-apart parts.LocalStop parts.Receive b c d e = record { new = e; kept = refl; same = refl }
parts-apart parts.LocalStop parts.Start b c d e = record { new = e; kept = refl; same = refl }
parts-apart parts.LocalStop parts.Stop b c d e = record { new = e; kept = refl; same = refl }
parts-apart parts.LocalStop parts.LocalStart b c d e = record { new = e; kept = refl; same = refl }
parts-apart parts.LocalStop parts.LocalStop b c d e = absurd cc
parts-apart parts.LocalStop parts.Error b c d e = record { new = e; kept = refl; same = refl }
parts-apart parts.Error parts.Receive b c d e = record { new = e; kept = refl; same = refl }
parts-apart parts.Error parts.Start b c d e = record { new = e; kept = refl; same = refl }
parts-apart parts.Error parts.Stop b c d e = record { new = e; kept = refl; same = refl }
parts-apart parts.Error parts.LocalStart b c d e = record { new = e; kept = refl; same = refl }
parts-apart parts.Error parts.LocalStop b c d e = record { new = e; kept = refl; same = refl }
parts-apart parts.Error parts.Error b c d e = absurd cc

pub objects-apart : (n m : ℕ) (p q : Part) (b c : List Stmt) (ds : List EoDecl) → n < length ds → given_at m q (with_body_at n p b ds) ≡ false → AreApart n m p q b c ds
objects-apart n m p q b c [] lt e = absurd (omega (arith, lt))
objects-apart zero zero p q b c (d ∷ ds) lt e =
    let a = parts-apart p q b c d e in
    record { new = a.new; kept = a.kept; same = ap (λ x. x ∷ ds) a.same }
objects-apart zero (suc m) p q b c (d ∷ ds) lt e = record {
  new = e;
  kept = ap (given_at zero p) (later-at d ds m q c);
  same = later-at (with_part p b d) ds m q c ∙ ap (with_body_at zero p b) (sym (later-at d ds m q c));
}
objects-apart (suc n) zero p q b c (d ∷ ds) lt e =
    let first = ap (given_at zero q) (later-at d ds n p b) in
    record {
      new = sym first ∙ e;
      kept = refl;
      same = ap (with_body_at zero q c) (later-at d ds n p b) ∙ sym (later-at (with_part q c d) ds n p b);
    }
objects-apart (suc n) (suc m) p q b c (d ∷ ds) lt e =
    let a = objects-apart n m p q b c ds (omega (arith, lt)) (ap (given_at (suc m) q) (sym (later-at d ds n p b)) ∙ e) in
    record {
      new = a.new;
      kept = ap (given_at (suc n) p) (later-at d ds m q c) ∙ a.kept;
      same = ap (with_body_at (suc m) q c) (later-at d ds n p b) ∙ later-at d (with_body_at n p b ds) m q c ∙ ap (λ xs. d ∷ xs) a.same ∙ sym (later-at d (with_body_at m q c ds) n p b) ∙ ap (with_body_at (suc n) p b) (sym (later-at d ds m q c));
    }

-- ---- two bodies of a graph

or-false : (b : Bool) → (b || false) ≡ b
or-false true = refl
or-false false = refl

or-true : (b : Bool) → (b || true) ≡ true
or-true true = refl
or-true false = refl

or-swap : (b c d : Bool) → ((b || c) || d) ≡ ((b || d) || c)
or-swap true c d = refl
or-swap false true true = refl
or-swap false true false = refl
or-swap false false true = refl
or-swap false false false = refl

pub so-many-objects : (p : Place) (b : List Stmt) (h : Config) → length (with_body p b h).eos ≡ length h.eos
so-many-objects places.Boot b h = refl
so-many-objects places.Error b h = refl
so-many-objects (places.Object eo p) b h = as-many eo.0 p b h.eos

pub record BodiesApart (t : Table) (p q : Place) (b c : List Stmt) (h : Config) (boot : Bool) : Type 0 where
  pub new : is_given (between h t boot) q ≡ false
  pub kept : is_given (between (with_body q c h) t (boot || is_boot q)) p ≡ is_given (between h t boot) p
  pub same : with_body q c (with_body p b h) ≡ with_body p b (with_body q c h)

bodies-apart : (t : Table) (g : Config) (p q : Place) (b c : List Stmt) (h : Config) (boot : Bool) → length h.eos ≡ length g.eos → IsPlaced g p → is_given (between (with_body p b h) t (boot || is_boot p)) q ≡ false → BodiesApart t p q b c h boot
bodies-apart t g places.Boot places.Boot b c h boot many placed e = absurd (let k : true ≡ false = sym (or-true boot) ∙ e in cc)
bodies-apart t g places.Boot places.Error b c h boot many placed e = record { new = e; kept = or-false boot; same = refl }
bodies-apart t g places.Boot (places.Object n q) b c h boot many placed e = record { new = e; kept = or-false boot; same = refl }
bodies-apart t g places.Error places.Boot b c h boot many placed e = record { new = sym (or-false boot) ∙ e; kept = refl; same = refl }
bodies-apart t g places.Error places.Error b c h boot many placed e = absurd cc
bodies-apart t g places.Error (places.Object n q) b c h boot many placed e = record { new = e; kept = refl; same = refl }
bodies-apart t g (places.Object n p) places.Boot b c h boot many placed e = record { new = sym (or-false boot) ∙ e; kept = refl; same = refl }
bodies-apart t g (places.Object n p) places.Error b c h boot many placed e = record { new = e; kept = refl; same = refl }
bodies-apart t g (places.Object n p) (places.Object m q) b c h boot many placed e =
    let a = objects-apart n.0 m.0 p q b c h.eos (omega (arith, many, placed)) e in
    record { new = a.new; kept = a.kept; same = ap (λ eos. record h { eos = eos }) a.same }

-- ---- bodies of which none was given before it

-- each is well formed in its place, which is in the graph, and was not given before it
abbrev pub AreFresh : Config → Table → List Placed → Config → Bool → Type 0
AreFresh g t [] h boot = Unit {0}
AreFresh g t (p ∷ ps) h boot = IsPlaced g p.0 × IsBlock g p × (is_given (between h t boot) p.0 ≡ false) × AreFresh g t ps (with_body p.0 p.1 h) (boot || is_boot p.0)

-- what is fresh in one order is in the other, and comes to the same
pub record ComesTo (g : Config) (t : Table) (xs ys : List Placed) (h : Config) (boot : Bool) : Type 0 where
  pub fresh : AreFresh g t ys h boot
  pub graph : with_bodies xs h ≡ with_bodies ys h
  pub booted : boot_among xs boot ≡ boot_among ys boot

abbrev pub AreAlike : Config → Table → List Placed → List Placed → Type 0
AreAlike g t xs ys = (h : Config) (boot : Bool) → length h.eos ≡ length g.eos → AreFresh g t xs h boot → ComesTo g t xs ys h boot

alike-two : (g : Config) (t : Table) (x y : Placed) (ps : List Placed) → AreAlike g t (x ∷ y ∷ ps) (y ∷ x ∷ ps)
alike-two g t x y ps h boot many fresh =
    let two = fresh.3 in
    let a = bodies-apart t g x.0 y.0 x.1 y.1 h boot many fresh.0 two.2 in
    let both_boot = or-swap boot (is_boot x.0) (is_boot y.0) in
    record {
      fresh = (two.0, two.1, a.new, (fresh.0, fresh.1, a.kept ∙ fresh.2, subst (λ b. AreFresh g t ps (with_body x.0 x.1 (with_body y.0 y.1 h)) b) both_boot (subst (λ (k : Config). AreFresh g t ps k ((boot || is_boot x.0) || is_boot y.0)) a.same two.3)));
      graph = ap (with_bodies ps) a.same;
      booted = ap (boot_among ps) both_boot;
    }

alike-under : (g : Config) (t : Table) (x : Placed) (xs ys : List Placed) → AreAlike g t xs ys → AreAlike g t (x ∷ xs) (x ∷ ys)
alike-under g t x xs ys alike h boot many fresh =
    let a = alike (with_body x.0 x.1 h) (boot || is_boot x.0) (so-many-objects x.0 x.1 h ∙ many) fresh.3 in
    record { fresh = (fresh.0, fresh.1, fresh.2, a.fresh); graph = a.graph; booted = a.booted }

alike-then : (g : Config) (t : Table) (xs ys zs : List Placed) → AreAlike g t xs ys → AreAlike g t ys zs → AreAlike g t xs zs
alike-then g t xs ys zs first second h boot many fresh =
    let a = first h boot many fresh in
    let b = second h boot many a.fresh in
    record { fresh = b.fresh; graph = a.graph ∙ b.graph; booted = a.booted ∙ b.booted }

pub alike : (g : Config) (t : Table) → Exchanges (AreAlike g t)
alike g t = record {
  same = λ xs h boot many fresh. record { fresh = fresh; graph = refl; booted = refl };
  then = alike-then g t;
  under = alike-under g t;
  first_two = alike-two g t;
}
