-- The parts of a well-formed graph have different names.
use Rattle.std.proofs.Common.{◌≡◌, ℕ, zero, suc, ◌+◌, ◌<◌, ◌≤◌, true, false, List, [], ◌∷◌, ◌++◌, length, map, Some, refl, sym, ap, subst, ◌∙◌, arith, inl, inr, ◌⊎◌, append_assoc, length-append}
use Rattle.std.specs.List.{list_all}
use Rattle.std.specs.Option.{option_map_or}
use Rattle.std.specs.Prelude.{codes, slice_get}
use Rattle.std.proofs.lemmas.List.{map-append}
use Rattle.std.proofs.lemmas.Option.{slice_get-get_or}
use Rattle.std.proofs.Math.Seq.{get_or-append_seam}
use Rattle.em_log.specs.Names.{are_different, is_name}
use Rattle.em_log.specs.WellFormed.{IsWellFormed, names_of}
use Rattle.em_log.specs.declared.graph.Config.{Config}
use Rattle.em_script.specs.declared.named.Named.{Named}
use Rattle.em_script.specs.declared.named.Named.TheVariants as named
use Rattle.em_script.specs.Names.{name_in}
use Rattle.em_script.proofs.Ascii.{both}
use Rattle.em_script.proofs.Distinct.{IsAmong, only_one}
use Rattle.em_script.proofs.Forms.{IsPlain}
use Rattle.em_script.proofs.SlotForms.{name-plain}
use Rattle.em_script.proofs.WordForms.{plain-word}
use Rattle.em_script.proofs.NamesKnown.{AreDistinct, IsBefore, counts_of}

-- the parts of a kind, by number
abbrev numbered : {A : Type 0} → (ℕ → Named) → ℕ → List A → List Named
numbered part n [] = []
numbered part n (x ∷ xs) = part n ∷ numbered part (suc n) xs

among-numbered : {A : Type 0} (part : ℕ → Named) (n : ℕ) (xs : List A) (i : ℕ) → i < length xs → IsAmong (part (n + i)) (numbered part n xs)
among-numbered part n [] i lt = absurd (omega arith)
among-numbered part n (x ∷ xs) zero lt = inl (ap part (omega arith))
among-numbered part n (x ∷ xs) (suc i) lt = inr (let e : suc n + i ≡ n + suc i = omega arith in subst (λ k. IsAmong (part k) (numbered part (suc n) xs)) e (among-numbered part (suc n) xs i (omega arith)))

at_seam : {A : Type 0} (front back : List A) (x : A) → slice_get (front ++ x ∷ back) (length front) ≡ Some x
at_seam front back x =
    let lt : length front < length (front ++ x ∷ back) = simp length-append (omega arith) in
    slice_get-get_or (front ++ x ∷ back) (length front) x lt ∙ ap (λ y. Some y) (get_or-append_seam front x back x)

names-numbered : {A : Type 0} (g : Config) (part : ℕ → Named) (name : A → List ℕ) (whole : List A) → ((n : ℕ) → name_in g (part n) ≡ option_map_or name (slice_get whole n) []) → (front xs : List A) → whole ≡ front ++ xs → map (name_in g) (numbered part (length front) xs) ≡ map name xs
names-numbered g part name whole is front [] e = refl
names-numbered g part name whole is front (x ∷ xs) e =
    let first : name_in g (part (length front)) ≡ name x = is (length front) ∙ ap (λ ys. option_map_or name (slice_get ys (length front)) []) e ∙ ap (λ o. option_map_or name o []) (at_seam front xs x) in
    let more = names-numbered g part name whole is (front ++ x ∷ []) xs (e ∙ sym (append_assoc front (x ∷ []) xs)) in
    let n : length (front ++ x ∷ []) ≡ suc (length front) = simp length-append (omega arith) in
    λ i. first i ∷ (ap (λ k. map (name_in g) (numbered part k xs)) (sym n) ∙ more) i

among-left : (x : Named) (xs ys : List Named) → IsAmong x xs → IsAmong x (xs ++ ys)
among-left x [] ys h = absurd h
among-left x (z ∷ zs) ys (inl e) = inl e
among-left x (z ∷ zs) ys (inr h) = inr (among-left x zs ys h)

among-right : (x : Named) (xs ys : List Named) → IsAmong x ys → IsAmong x (xs ++ ys)
among-right x [] ys h = h
among-right x (z ∷ zs) ys h = inr (among-right x zs ys h)

abbrev pools_of : Config → List Named
pools_of g = numbered (λ n. named.Pool (record { 0 = n })) 0 g.pools

pools-names : (g : Config) → map (name_in g) (pools_of g) ≡ map (λ d. d.name) g.pools
pools-names g = names-numbered g (λ n. named.Pool (record { 0 = n })) (λ d. d.name) g.pools (λ n. refl) [] g.pools refl

abbrev groups_of : Config → List Named
groups_of g = numbered (λ n. named.Group (record { 0 = suc n })) 0 g.groups

groups-names : (g : Config) → map (name_in g) (groups_of g) ≡ map (λ d. d.name) g.groups
groups-names g = names-numbered g (λ n. named.Group (record { 0 = suc n })) (λ d. d.name) g.groups (λ n. refl) [] g.groups refl

abbrev eos_of : Config → List Named
eos_of g = numbered (λ n. named.Eo (record { 0 = n })) 0 g.eos

eos-names : (g : Config) → map (name_in g) (eos_of g) ≡ map (λ d. d.name) g.eos
eos-names g = names-numbered g (λ n. named.Eo (record { 0 = n })) (λ d. d.name) g.eos (λ n. refl) [] g.eos refl

abbrev agroups_of : Config → List Named
agroups_of g = numbered (λ n. named.Agroup n) 0 g.agroups

agroups-names : (g : Config) → map (name_in g) (agroups_of g) ≡ map (λ d. d.name) g.agroups
agroups-names g = names-numbered g (λ n. named.Agroup n) (λ d. d.name) g.agroups (λ n. refl) [] g.agroups refl

abbrev queues_of : Config → List Named
queues_of g = numbered (λ n. named.Queue (record { 0 = n })) 0 g.queues

queues-names : (g : Config) → map (name_in g) (queues_of g) ≡ map (λ d. d.name) g.queues
queues-names g = names-numbered g (λ n. named.Queue (record { 0 = n })) (λ d. d.name) g.queues (λ n. refl) [] g.queues refl

abbrev egroups_of : Config → List Named
egroups_of g = numbered (λ n. named.Egroup (record { 0 = n })) 0 g.egroups

egroups-names : (g : Config) → map (name_in g) (egroups_of g) ≡ map (λ d. d) g.egroups
egroups-names g = names-numbered g (λ n. named.Egroup (record { 0 = n })) (λ d. d) g.egroups (λ n. refl) [] g.egroups refl

abbrev parts_of : Config → List Named
parts_of g = pools_of g ++ (groups_of g ++ (eos_of g ++ (agroups_of g ++ (queues_of g ++ egroups_of g))))

map-same : (xs : List (List ℕ)) → map (λ x. x) xs ≡ xs
map-same [] = refl
map-same (x ∷ xs) = ap (λ ys. x ∷ ys) (map-same xs)

regroup : (a b c d e f : List (List ℕ)) → a ++ (b ++ (c ++ (d ++ (e ++ f)))) ≡ ((((a ++ b) ++ c) ++ d) ++ e) ++ f
regroup a b c d e f = simp append_assoc

parts-names : (g : Config) → map (name_in g) (parts_of g) ≡ names_of g
parts-names g =
    map-append (name_in g) (pools_of g) (groups_of g ++ (eos_of g ++ (agroups_of g ++ (queues_of g ++ egroups_of g))))
    ∙ ap (λ ts. map (name_in g) (pools_of g) ++ ts) (map-append (name_in g) (groups_of g) (eos_of g ++ (agroups_of g ++ (queues_of g ++ egroups_of g))))
    ∙ ap (λ ts. map (name_in g) (pools_of g) ++ ts) (ap (λ ts. map (name_in g) (groups_of g) ++ ts) (map-append (name_in g) (eos_of g) (agroups_of g ++ (queues_of g ++ egroups_of g))))
    ∙ ap (λ ts. map (name_in g) (pools_of g) ++ ts) (ap (λ ts. map (name_in g) (groups_of g) ++ ts) (ap (λ ts. map (name_in g) (eos_of g) ++ ts) (map-append (name_in g) (agroups_of g) (queues_of g ++ egroups_of g))))
    ∙ ap (λ ts. map (name_in g) (pools_of g) ++ ts) (ap (λ ts. map (name_in g) (groups_of g) ++ ts) (ap (λ ts. map (name_in g) (eos_of g) ++ ts) (ap (λ ts. map (name_in g) (agroups_of g) ++ ts) (map-append (name_in g) (queues_of g) (egroups_of g)))))
    ∙ (λ j. pools-names g j ++ (groups-names g j ++ (eos-names g j ++ (agroups-names g j ++ (queues-names g j ++ ((egroups-names g ∙ map-same g.egroups) j))))))
    ∙ regroup (map (λ d. d.name) g.pools) (map (λ d. d.name) g.groups) (map (λ d. d.name) g.eos) (map (λ d. d.name) g.agroups) (map (λ d. d.name) g.queues) g.egroups

group-among : (g : Config) (k : ℕ) → k ≤ length g.groups → (named.Group (record { 0 = k }) ≡ named.Group (record { 0 = 0 })) ⊎ IsAmong (named.Group (record { 0 = k })) (parts_of g)
group-among g zero h = inl refl
group-among g (suc n) h = inr (among-right (named.Group (record { 0 = suc n })) (pools_of g) (groups_of g ++ (eos_of g ++ (agroups_of g ++ (queues_of g ++ egroups_of g)))) (among-left (named.Group (record { 0 = suc n })) (groups_of g) (eos_of g ++ (agroups_of g ++ (queues_of g ++ egroups_of g))) (let e : 0 + n ≡ n = omega arith in subst (λ k. IsAmong (named.Group (record { 0 = suc k })) (groups_of g)) e (among-numbered (λ n. named.Group (record { 0 = suc n })) 0 g.groups n (omega arith)))))

among-parts : (g : Config) (x : Named) → IsBefore (counts_of g) x → (x ≡ named.Group (record { 0 = 0 })) ⊎ IsAmong x (parts_of g)
among-parts g (named.Pool id) h = inr (among-left (named.Pool id) (pools_of g) (groups_of g ++ (eos_of g ++ (agroups_of g ++ (queues_of g ++ egroups_of g)))) (let e : 0 + id.0 ≡ id.0 = omega arith in subst (λ k. IsAmong (named.Pool (record { 0 = k })) (pools_of g)) e (among-numbered (λ n. named.Pool (record { 0 = n })) 0 g.pools id.0 h)))
among-parts g (named.Group id) h = group-among g id.0 h
among-parts g (named.Eo id) h = inr (among-right (named.Eo id) (pools_of g) (groups_of g ++ (eos_of g ++ (agroups_of g ++ (queues_of g ++ egroups_of g)))) (among-right (named.Eo id) (groups_of g) (eos_of g ++ (agroups_of g ++ (queues_of g ++ egroups_of g))) (among-left (named.Eo id) (eos_of g) (agroups_of g ++ (queues_of g ++ egroups_of g)) (let e : 0 + id.0 ≡ id.0 = omega arith in subst (λ k. IsAmong (named.Eo (record { 0 = k })) (eos_of g)) e (among-numbered (λ n. named.Eo (record { 0 = n })) 0 g.eos id.0 h)))))
among-parts g (named.Agroup y) h = inr (among-right (named.Agroup y) (pools_of g) (groups_of g ++ (eos_of g ++ (agroups_of g ++ (queues_of g ++ egroups_of g)))) (among-right (named.Agroup y) (groups_of g) (eos_of g ++ (agroups_of g ++ (queues_of g ++ egroups_of g))) (among-right (named.Agroup y) (eos_of g) (agroups_of g ++ (queues_of g ++ egroups_of g)) (among-left (named.Agroup y) (agroups_of g) (queues_of g ++ egroups_of g) (let e : 0 + y ≡ y = omega arith in subst (λ k. IsAmong (named.Agroup k) (agroups_of g)) e (among-numbered (λ n. named.Agroup n) 0 g.agroups y h))))))
among-parts g (named.Queue id) h = inr (among-right (named.Queue id) (pools_of g) (groups_of g ++ (eos_of g ++ (agroups_of g ++ (queues_of g ++ egroups_of g)))) (among-right (named.Queue id) (groups_of g) (eos_of g ++ (agroups_of g ++ (queues_of g ++ egroups_of g))) (among-right (named.Queue id) (eos_of g) (agroups_of g ++ (queues_of g ++ egroups_of g)) (among-right (named.Queue id) (agroups_of g) (queues_of g ++ egroups_of g) (among-left (named.Queue id) (queues_of g) (egroups_of g) (let e : 0 + id.0 ≡ id.0 = omega arith in subst (λ k. IsAmong (named.Queue (record { 0 = k })) (queues_of g)) e (among-numbered (λ n. named.Queue (record { 0 = n })) 0 g.queues id.0 h)))))))
among-parts g (named.Egroup id) h = inr (among-right (named.Egroup id) (pools_of g) (groups_of g ++ (eos_of g ++ (agroups_of g ++ (queues_of g ++ egroups_of g)))) (among-right (named.Egroup id) (groups_of g) (eos_of g ++ (agroups_of g ++ (queues_of g ++ egroups_of g))) (among-right (named.Egroup id) (eos_of g) (agroups_of g ++ (queues_of g ++ egroups_of g)) (among-right (named.Egroup id) (agroups_of g) (queues_of g ++ egroups_of g) (among-right (named.Egroup id) (queues_of g) (egroups_of g) (let e : 0 + id.0 ≡ id.0 = omega arith in subst (λ k. IsAmong (named.Egroup (record { 0 = k })) (egroups_of g)) e (among-numbered (λ n. named.Egroup (record { 0 = n })) 0 g.egroups id.0 h)))))))

name-of : (g : Config) (x : Named) (zs : List Named) → list_all is_name (map (name_in g) zs) ≡ true → IsAmong x zs → is_name (name_in g x) ≡ true
name-of g x [] all h = absurd h
name-of g x (z ∷ zs) all (inl e) = ap (λ y. is_name (name_in g y)) e ∙ (both (is_name (name_in g z)) (list_all is_name (map (name_in g) zs)) all).0
name-of g x (z ∷ zs) all (inr h) = name-of g x zs (both (is_name (name_in g z)) (list_all is_name (map (name_in g) zs)) all).1 h

all-reserved : is_name (codes "all") ≡ false
all-reserved = refl

apart : (g : Config) (x y : Named) → list_all is_name (map (name_in g) (parts_of g)) ≡ true → x ≡ named.Group (record { 0 = 0 }) → IsAmong y (parts_of g) → name_in g x ≡ name_in g y → ⊥
apart g x y all is h e =
    let n : name_in g y ≡ codes "all" = sym e ∙ ap (name_in g) is in
    let good : is_name (codes "all") ≡ true = ap is_name (sym n) ∙ name-of g y (parts_of g) all h in
    let t : true ≡ false = sym good ∙ all-reserved in
    cc

distinct : (g : Config) → list_all is_name (map (name_in g) (parts_of g)) ≡ true → are_different (map (name_in g) (parts_of g)) ≡ true → (x y : Named) → (x ≡ named.Group (record { 0 = 0 })) ⊎ IsAmong x (parts_of g) → (y ≡ named.Group (record { 0 = 0 })) ⊎ IsAmong y (parts_of g) → name_in g x ≡ name_in g y → x ≡ y
distinct g all diff x y (inl p) (inl q) e = p ∙ sym q
distinct g all diff x y (inl p) (inr q) e = absurd (apart g x y all p q e)
distinct g all diff x y (inr p) (inl q) e = absurd (apart g y x all q p (sym e))
distinct g all diff x y (inr p) (inr q) e = only_one (name_in g) (parts_of g) diff x y p q e

pub well-distinct : (g : Config) → IsWellFormed g → AreDistinct g
well-distinct g well x y p q e =
    let w = both (list_all is_name (names_of g)) (are_different (names_of g)) well.names in
    distinct g (ap (list_all is_name) (parts-names g) ∙ w.0) (ap are_different (parts-names g) ∙ w.1) x y (among-parts g x p) (among-parts g y q) e

-- ---- and each has a name that may be given, apart from the queue group of every core

parts-well : (g : Config) → IsWellFormed g → list_all is_name (map (name_in g) (parts_of g)) ≡ true
parts-well g well = ap (list_all is_name) (parts-names g) ∙ (both (list_all is_name (names_of g)) (are_different (names_of g)) well.names).0

plain-of : (g : Config) (x : Named) → list_all is_name (map (name_in g) (parts_of g)) ≡ true → (x ≡ named.Group (record { 0 = 0 })) ⊎ IsAmong x (parts_of g) → IsPlain (name_in g x)
plain-of g x all (inl e) = subst (λ y. IsPlain (name_in g y)) (sym e) (plain-word (codes "all") refl refl)
plain-of g x all (inr h) = name-plain (name_in g x) (name-of g x (parts_of g) all h)

pub well-plain : (g : Config) → IsWellFormed g → (x : Named) → IsBefore (counts_of g) x → IsPlain (name_in g x)
well-plain g well x h = plain-of g x (parts-well g well) (among-parts g x h)

given-of : (g : Config) (x : Named) → list_all is_name (map (name_in g) (parts_of g)) ≡ true → (x ≡ named.Group (record { 0 = 0 }) → ⊥) → (x ≡ named.Group (record { 0 = 0 })) ⊎ IsAmong x (parts_of g) → is_name (name_in g x) ≡ true
given-of g x all other (inl e) = absurd (other e)
given-of g x all other (inr h) = name-of g x (parts_of g) all h

pub well-given : (g : Config) → IsWellFormed g → (x : Named) → IsBefore (counts_of g) x → (x ≡ named.Group (record { 0 = 0 }) → ⊥) → is_name (name_in g x) ≡ true
well-given g well x h other = given-of g x (parts-well g well) other (among-parts g x h)
