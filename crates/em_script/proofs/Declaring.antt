-- What is known of the names while a graph is declared.
use Rattle.std.proofs.Common.{◌≡◌, ℕ, suc, Bool, true, false, leb-true, length, sym, ap, subst, arith}
use Rattle.em_log.specs.WellFormed.{Counts, IsWellFormed, counted, is_declared_next}
use Rattle.em_log.specs.declared.graph.Config.{Config}
use Rattle.em_log.specs.declared.graph.Decl.{Decl}
use Rattle.em_script.specs.declared.named.Named.{Named}
use Rattle.em_script.specs.declared.named.Named.TheVariants as named
use Rattle.em_script.specs.Names.{Table, name_in}
use Rattle.em_script.proofs.BlocksSpelled.{AreAllNamed}
use Rattle.em_script.proofs.DeclarationsRead.{AreWithin, named_too}
use Rattle.em_script.proofs.LineSpelled.{both_ways}
use Rattle.em_script.proofs.NameForms.{IsNaming}
use Rattle.em_script.proofs.NamesDistinct.{well-distinct, well-given, well-plain}
use Rattle.em_script.proofs.NamesKnown.{AreBefore, AreKnown, before-more, counts_of, next-before, next-fresh, next-inserted, next-known, next_of, within-declared}
use Rattle.em_script.proofs.NamesRead.{AreNamed, named_too-named}
use Rattle.em_script.proofs.SlotForms.{IsFree}

-- so many of each kind are known by their names, and nothing else is
pub record Knows (g : Config) (n : Counts) (t : Table) : Type 0 where
  pub named : AreNamed g t
  pub before : AreBefore n t
  pub known : AreKnown g n t

pub knows-next : (g : Config) → IsWellFormed g → (d : Decl) (n : Counts) (t : Table) → is_declared_next g d n ≡ true → AreWithin g (counted d n) → Knows g n t → Knows g (counted d n) (named_too g d t)
knows-next g well d n t e w k = record {
  named = named_too-named g d t k.named;
  before = subst (AreBefore (counted d n)) (sym (next-inserted g d n t e w)) (before-more d n t (name_in g (next_of d n)) k.before (next-before d n));
  known = next-known g (well-distinct g well) d n t e w k.before k.named k.known;
}

pub naming-of : (g : Config) → IsWellFormed g → (n : Counts) (t : Table) → AreWithin g n → Knows g n t → IsNaming (both_ways g t)
naming-of g well n t w k = record {
  named = k.named;
  plain = λ x known. well-plain g well x (within-declared g n x w (k.before (name_in g x) x known));
}

abbrev is_group : Named → Bool
is_group (named.Group id) = true
is_group x = false

abbrev group_number : Named → ℕ
group_number (named.Group id) = id.0
group_number x = 0

next-other : (d : Decl) (n : Counts) → next_of d n ≡ named.Group (record { 0 = 0 }) → ⊥
next-other (Decl.Pool k) n e = absurd (let t : true ≡ false = ap is_group (sym e) in cc)
next-other (Decl.Group k) n e = absurd (let z : suc n.groups ≡ 0 = ap group_number e in omega arith)
next-other (Decl.Eo k) n e = absurd (let t : true ≡ false = ap is_group (sym e) in cc)
next-other (Decl.Agroup k) n e = absurd (let t : true ≡ false = ap is_group (sym e) in cc)
next-other (Decl.Queue k) n e = absurd (let t : true ≡ false = ap is_group (sym e) in cc)
next-other (Decl.Egroup k) n e = absurd (let t : true ≡ false = ap is_group (sym e) in cc)

-- the next name is free
pub next-free : (g : Config) → IsWellFormed g → (d : Decl) (n : Counts) (t : Table) → AreWithin g (counted d n) → Knows g n t → IsFree (both_ways g t) (name_in g (next_of d n))
next-free g well d n t w k = record {
  name-is = well-given g well (next_of d n) (within-declared g (counted d n) (next_of d n) w (next-before d n)) (next-other d n);
  unused = next-fresh g (well-distinct g well) d n t w k.before k.named;
}

-- after all declarations
pub all-named : (g : Config) → IsWellFormed g → (t : Table) → Knows g (counts_of g) t → AreAllNamed g t
all-named g well t k =
    let w : AreWithin g (counts_of g) = record { pools = omega arith; groups = omega arith; eos = omega arith; agroups = omega arith; queues = omega arith; egroups = omega arith } in
    record {
      is = naming-of g well (counts_of g) t w k;
      all = record {
        pools = λ id h. k.known (named.Pool id) h;
        groups = λ id h. k.known (named.Group id) (leb-true id.0 (length g.groups) h);
        eos = λ id h. k.known (named.Eo id) h;
        agroups = λ n h. k.known (named.Agroup n) h;
        queues = λ id h. k.known (named.Queue id) h;
        egroups = λ id h. k.known (named.Egroup id) h;
      };
    }
