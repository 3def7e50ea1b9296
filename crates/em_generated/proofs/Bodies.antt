-- The queues and the bodies of the graph.
use Rattle.std.proofs.Common.{◌≡◌, ℕ, zero, suc, ◌+◌, ◌*◌, ◌%◌, ◌<◌, ◌≤◌, true, List, [], ◌∷◌, ◌++◌, length, map, None, refl, ◌∙◌, arith, IsTrue, ltb, lt-ltb, le-leb}
use Rattle.std.specs.List.{list_all, range_with_len}
use Rattle.std.proofs.lemmas.List.Folds.{list_all-append, list_all-map}
use Rattle.std.proofs.lemmas.List.FromFn.{length-range_with_len}
use Rattle.std.proofs.lemmas.Nat.{mod_below}
use Rattle.em_log.specs.declared.ids.QueueId.{QueueId}
use Rattle.em_log.specs.Weights.{weight_of, steps_of}
use Rattle.em_log.specs.WellFormed.{Boot, Receive, is_body, are_bodies, is_statement, is_queue_of, is_queue_decl}
use Rattle.em_script.proofs.Forms.{and-both}
use Rattle.em_generated.specs.Graph.{begun, filled, boot_of, forwarded, counted, received, next_queue, kind_of_rest, object_of, queue_of, output, generated_graph}
use Rattle.em_generated.proofs.Numbers.{all-numbers}
use Rattle.em_generated.proofs.Order.{objects-length, queues-length}

-- ---- numbers that are declared

is-object : (n i : ℕ) → i < n → ltb i (length (generated_graph n).eos) ≡ true
is-object n i lt = lt-ltb i (length (generated_graph n).eos) (omega (arith, objects-length n))

is-queue : (n i : ℕ) → i ≤ n → ltb i (length (generated_graph n).queues) ≡ true
is-queue n i le = lt-ltb i (length (generated_graph n).queues) (omega (arith, queues-length n))

is-next : (n i : ℕ) → i < n → ltb ((i + 1) % n) (length (generated_graph n).queues) ≡ true
is-next n i lt = let below : (i + 1) % n < n = mod_below (i + 1) n (omega arith) in is-queue n ((i + 1) % n) (omega arith)

-- ---- queues

queue-stands : (n i r : ℕ) → i < n → is_queue_of (generated_graph n) (queue_of i) (kind_of_rest r) ≡ true
unfolding generated_graph
queue-stands n i zero lt = rw (is-object n i lt) refl
queue-stands n i (suc zero) lt = rw (is-object n i lt) refl
queue-stands n i (suc (suc r)) lt = rw (is-object n i lt) refl

pub queues : (n : ℕ) → IsTrue (list_all (is_queue_decl (generated_graph n)) (generated_graph n).queues)
unfolding generated_graph
queues n =
    list_all-append (is_queue_decl (generated_graph n)) (map queue_of (range_with_len 0 n)) (output ∷ [])
    ∙ and-both (list_all (is_queue_decl (generated_graph n)) (map queue_of (range_with_len 0 n))) true
    (list_all-map (is_queue_decl (generated_graph n)) queue_of (range_with_len 0 n)
    ∙ all-numbers (λ i. is_queue_decl (generated_graph n) (queue_of i)) n 0 (λ i from to. queue-stands n i (i % 3) (omega arith)))
    refl

-- ---- boot

begun-stands : (n i : ℕ) → i < n → is_statement (generated_graph n) Boot 16 (begun i) ≡ true
begun-stands n i lt = rw (is-object n i lt) refl

filled-stands : (n : ℕ) → is_statement (generated_graph n) Boot 16 filled ≡ true
unfolding generated_graph Rattle.em_log.specs.declared.body.Expr.TheBlock.hidden-the_row-Expr-0 denote.Hole.Carrier.hidden Rattle.em_log.specs.declared.body.Stmt.TheBlock.hidden-the_row-Stmt-0
filled-stands n = rw (is-queue n 0 (omega arith)) refl

boot-weight : (ks : List ℕ) → weight_of 0 (map begun ks ++ filled ∷ []) ≡ 3 * length ks + 120
unfolding Rattle.em_log.specs.declared.body.Expr.TheBlock.hidden-the_row-Expr-0 denote.Hole.Carrier.hidden Rattle.em_log.specs.declared.body.Stmt.TheBlock.hidden-the_row-Stmt-0
boot-weight [] = refl
boot-weight (k ∷ ks) = let rest = boot-weight ks in omega arith

boot-steps : (ks : List ℕ) → steps_of 0 (map begun ks ++ filled ∷ []) ≡ length ks + 81
unfolding Rattle.em_log.specs.declared.body.Expr.TheBlock.hidden-the_row-Expr-0 denote.Hole.Carrier.hidden Rattle.em_log.specs.declared.body.Stmt.TheBlock.hidden-the_row-Stmt-0
boot-steps [] = refl
boot-steps (k ∷ ks) = let rest = boot-steps ks in omega arith

boot-statements : (n : ℕ) → list_all (is_statement (generated_graph n) Boot 16) (boot_of n) ≡ true
boot-statements n =
    let each = is_statement (generated_graph n) Boot 16 in
    list_all-append each (map begun (range_with_len 0 n)) (filled ∷ [])
    ∙ and-both (list_all each (map begun (range_with_len 0 n))) (list_all each (filled ∷ []))
    (list_all-map each begun (range_with_len 0 n) ∙ all-numbers (λ i. each (begun i)) n 0 (λ i from to. begun-stands n i (omega arith)))
    (and-both (each filled) true (filled-stands n) refl)

pub boot : (n : ℕ) → n ≤ 40 → IsTrue (is_body (generated_graph n) Boot (generated_graph n).error (generated_graph n).boot)
unfolding generated_graph
boot n few =
    let long = length-range_with_len 0 n in
    let weight = boot-weight (range_with_len 0 n) in
    let steps = boot-steps (range_with_len 0 n) in
    let light = le-leb (weight_of 0 (boot_of n)) 256 (omega arith) in
    let short = le-leb (steps_of 0 (boot_of n)) 65536 (omega arith) in
    rw (boot-statements n, light, short) refl

-- ---- receive bodies

forwarded-stands : (n : ℕ) (q : QueueId) → ltb q.0 (length (generated_graph n).queues) ≡ true → is_body (generated_graph n) Receive None (forwarded q ∷ []) ≡ true
unfolding Rattle.em_log.specs.declared.body.Expr.TheBlock.hidden-the_row-Expr-0 denote.Hole.Carrier.hidden Rattle.em_log.specs.declared.body.Stmt.TheBlock.hidden-the_row-Stmt-0
forwarded-stands n q known = rw known refl

counted-stands : (n : ℕ) → 0 < n → is_body (generated_graph n) Receive None (counted n) ≡ true
unfolding generated_graph Rattle.em_log.specs.declared.body.Expr.TheBlock.hidden-the_row-Expr-0 denote.Hole.Carrier.hidden Rattle.em_log.specs.declared.body.Stmt.TheBlock.hidden-the_row-Stmt-0
counted-stands n some = rw (is-queue n n (omega arith), is-next n 0 some) refl

received-stands : (n i : ℕ) → i < n → is_body (generated_graph n) Receive None (received n i) ≡ true
received-stands n zero lt = counted-stands n lt
received-stands n (suc i) lt = forwarded-stands n (next_queue n (suc i)) (is-next n (suc i) lt)

object-stands : (n i : ℕ) → i < n → are_bodies (generated_graph n) (object_of n i) ≡ true
unfolding generated_graph
object-stands n i lt = rw (received-stands n i lt) refl

pub objects : (n : ℕ) → IsTrue (list_all (are_bodies (generated_graph n)) (generated_graph n).eos)
unfolding generated_graph
objects n =
    list_all-map (are_bodies (generated_graph n)) (object_of n) (range_with_len 0 n)
    ∙ all-numbers (λ i. are_bodies (generated_graph n) (object_of n i)) n 0 (λ i from to. object-stands n i (omega arith))
