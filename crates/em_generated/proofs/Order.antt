-- The order of declarations: the pool, the objects, and the queues, each of which uses an object before it.
use Rattle.std.proofs.Common.{◌≡◌, ℕ, zero, suc, ◌+◌, ◌<◌, true, false, ◌&&◌, List, [], ◌∷◌, ◌++◌, length, map, Some, refl, ap, sym, ◌∙◌, subst, ⊎_elim, arith, IsTrue, eqb, eq-eqb, lt-ltb}
use Rattle.std.specs.Prelude.{slice_get}
use Rattle.std.specs.List.{range_with_len}
use Rattle.std.specs.Option.{option_map_or}
use Rattle.std.proofs.lemmas.Bool.{cases_eq}
use Rattle.std.proofs.lemmas.List.FromFn.{length-map-range_with_len}
use Rattle.em_log.specs.declared.graph.Config.{Config}
use Rattle.em_log.specs.declared.graph.Decl.{Decl}
use Rattle.em_log.specs.WellFormed.{Counts, is_all, is_order_from, no_counts, uses_queue, uses_of_queue}
use Rattle.em_script.proofs.Forms.{and-both}
use Rattle.em_generated.specs.Graph.{object_of, queue_of, output, generated_graph}

-- ---- lengths

pub objects-length : (n : ℕ) → length (generated_graph n).eos ≡ n
unfolding generated_graph
objects-length n = length-map-range_with_len (object_of n) 0 n

behind-length : (ks : List ℕ) → length (map queue_of ks ++ output ∷ []) ≡ suc (length (map queue_of ks))
behind-length [] = refl
behind-length (k ∷ ks) = ap suc (behind-length ks)

pub queues-length : (n : ℕ) → length (generated_graph n).queues ≡ suc n
unfolding generated_graph
queues-length n = behind-length (range_with_len 0 n) ∙ ap suc (length-map-range_with_len queue_of 0 n)

-- ---- the queue under each number

under : (w a i : ℕ) → i < w → slice_get (map queue_of (range_with_len a w) ++ output ∷ []) i ≡ Some (queue_of (a + i))
under zero a i lt = absurd (omega arith)
under (suc w) a zero lt = let same : a ≡ a + 0 = omega arith in ap (λ k. Some (queue_of k)) same
under (suc w) a (suc i) lt =
    let same : a + 1 + i ≡ a + suc i = omega arith in
    under w (a + 1) i (omega arith) ∙ ap (λ k. Some (queue_of k)) same

under-own : (n i : ℕ) → i < n → slice_get (map queue_of (range_with_len 0 n) ++ output ∷ []) i ≡ Some (queue_of i)
under-own n i lt = let same : 0 + i ≡ i = omega arith in under n 0 i lt ∙ ap (λ k. Some (queue_of k)) same

last-under : (w a : ℕ) → slice_get (map queue_of (range_with_len a w) ++ output ∷ []) w ≡ Some output
last-under zero a = refl
last-under (suc w) a = last-under w (a + 1)

-- ---- the order

abbrev counts : ℕ → ℕ → Counts
counts eos queues = record { pools = 1; groups = 0; eos = eos; agroups = 0; queues = queues; egroups = 0 }

objects-come : (g : Config) (ds : List Decl) (w a : ℕ) → is_order_from g ds (counts (a + w) 0) ≡ true
    → is_order_from g (map (λ i. Decl.Eo i) (range_with_len a w) ++ ds) (counts a 0) ≡ true
objects-come g ds zero a rest = let same : a + 0 ≡ a = omega arith in subst (λ k. is_order_from g ds (counts k 0) ≡ true) same rest
objects-come g ds (suc w) a rest =
    let next : a + 1 ≡ suc a = omega arith in
    let end : a + suc w ≡ a + 1 + w = omega arith in
    let ds' = map (λ i. Decl.Eo i) (range_with_len (a + 1) w) ++ ds in
    and-both (eqb a a) (is_order_from g ds' (counts (suc a) 0)) (eq-eqb a a refl)
    (subst (λ k. is_order_from g ds' (counts k 0) ≡ true) next
    (objects-come g ds w (a + 1) (subst (λ k. is_order_from g ds (counts k 0) ≡ true) end rest)))

queues-come : (g : Config) (n limit : ℕ) → ((i : ℕ) → i < limit → uses_queue g i (counts n i) ≡ true) → is_all g (counts n limit) ≡ true
    → (w a : ℕ) → a + w ≡ limit → is_order_from g (map (λ i. Decl.Queue i) (range_with_len a w)) (counts n a) ≡ true
queues-come g n limit uses all zero a end = let same : limit ≡ a = omega arith in subst (λ k. is_all g (counts n k) ≡ true) same all
queues-come g n limit uses all (suc w) a end =
    let next : a + 1 ≡ suc a = omega arith in
    let ds' = map (λ i. Decl.Queue i) (range_with_len (a + 1) w) in
    and-both (eqb a a && uses_queue g a (counts n a)) (is_order_from g ds' (counts n (suc a)))
    (and-both (eqb a a) (uses_queue g a (counts n a)) (eq-eqb a a refl) (uses a (omega arith)))
    (subst (λ k. is_order_from g ds' (counts n k) ≡ true) next (queues-come g n limit uses all w (a + 1) (omega arith)))

-- a queue uses its object, which has come
uses-object : (n i : ℕ) → i < n → uses_of_queue (counts n i) (queue_of i) ≡ true
uses-object n i lt = rw (lt-ltb i n lt) refl

uses : (n i : ℕ) → i < n + 1 → uses_queue (generated_graph n) i (counts n i) ≡ true
unfolding generated_graph
uses n i lt = ⊎_elim
    (λ same. ap (λ o. option_map_or (uses_of_queue (counts n i)) o false) (ap (slice_get (map queue_of (range_with_len 0 n) ++ output ∷ [])) same ∙ last-under n 0))
    (λ ne. ap (λ o. option_map_or (uses_of_queue (counts n i)) o false) (under-own n i (omega arith)) ∙ uses-object n i (omega arith))
    (cases_eq i n)

all-come : (n : ℕ) → is_all (generated_graph n) (counts n (n + 1)) ≡ true
unfolding generated_graph
all-come n =
    let objects : eqb n (length (generated_graph n).eos) ≡ true = eq-eqb n (length (generated_graph n).eos) (sym (objects-length n)) in
    let long : n + 1 ≡ length (generated_graph n).queues = (let next : n + 1 ≡ suc n = omega arith in next ∙ sym (queues-length n)) in
    let queues : eqb (n + 1) (length (generated_graph n).queues) ≡ true = eq-eqb (n + 1) (length (generated_graph n).queues) long in
    rw (objects, queues) refl

pub order : (n : ℕ) → IsTrue (is_order_from (generated_graph n) (generated_graph n).order no_counts)
unfolding generated_graph
order n =
    let queues = map (λ i. Decl.Queue i) (range_with_len 0 (n + 1)) in
    let same : n ≡ 0 + n = omega arith in
    objects-come (generated_graph n) queues n 0
    (subst (λ k. is_order_from (generated_graph n) queues (counts k 0) ≡ true) same
    (queues-come (generated_graph n) n (n + 1) (uses n) (all-come n) (n + 1) 0 (omega arith)))
