-- The names that a script may give.
use Rattle.std.specs.Prelude.{ℕ, ◌==◌, Bool, true, false, not, ◌&&◌, ◌||◌, nat_le, List, [], ◌∷◌, ◌++◌, length, codes}
use Rattle.std.specs.List.{list_all, list_any}

abbrev pub same_text : List ℕ → List ℕ → Bool
same_text [] [] = true
same_text (m ∷ ms) (n ∷ ns) = (m == n) && same_text ms ns
same_text _ _ = false

-- declarations and bodies, priorities, places, words of expressions, and statements
abbrev pub declaration_words : List (List ℕ)
declaration_words =
    codes "cores" ∷ codes "pool" ∷ codes "group" ∷ codes "eo" ∷ codes "running" ∷ codes "agroup" ∷ codes "queue" ∷ codes "atomic"
    ∷ codes "in" ∷ codes "parallel" ∷ codes "ordered" ∷ codes "local" ∷ codes "unscheduled" ∷ codes "output" ∷ codes "egroup"
    ∷ codes "boot" ∷ codes "error" ∷ codes "body" ∷ codes "done" ∷ codes "all" ∷ []

abbrev pub slot_words : List (List ℕ)
slot_words =
    codes "lowest" ∷ codes "low" ∷ codes "normal" ∷ codes "high" ∷ codes "highest"
    ∷ codes "receive" ∷ codes "start" ∷ codes "stop" ∷ codes "lstart" ∷ codes "lstop" ∷ []

abbrev pub expression_words : List (List ℕ)
expression_words =
    codes "kind" ∷ codes "size" ∷ codes "word" ∷ codes "me" ∷ codes "core" ∷ codes "cell" ∷ codes "ok" ∷ codes "fault" ∷ codes "detail"
    ∷ codes "add" ∷ codes "sub" ∷ codes "mul" ∷ codes "and" ∷ codes "or" ∷ codes "xor" ∷ codes "shr" ∷ codes "lt" ∷ codes "eq" ∷ []

abbrev pub statement_words : List (List ℕ)
statement_words =
    codes "set" ∷ codes "if" ∷ codes "else" ∷ codes "end" ∷ codes "repeat" ∷ codes "say" ∷ codes "alloc" ∷ codes "free" ∷ codes "keep"
    ∷ codes "send" ∷ codes "sendg" ∷ codes "claim" ∷ codes "dequeue" ∷ codes "enable" ∷ codes "disable" ∷ codes "endatomic"
    ∷ codes "endordered" ∷ codes "endgroup" ∷ codes "apply" ∷ codes "increment" ∷ codes "abort" ∷ codes "modify" ∷ codes "fail"
    ∷ codes "note" ∷ []

abbrev pub variable_words : List (List ℕ)
variable_words =
    codes "v0" ∷ codes "v1" ∷ codes "v2" ∷ codes "v3" ∷ codes "v4" ∷ codes "v5" ∷ codes "v6" ∷ codes "v7" ∷ codes "v8" ∷ codes "v9"
    ∷ codes "v10" ∷ codes "v11" ∷ codes "v12" ∷ codes "v13" ∷ codes "v14" ∷ codes "v15" ∷ []

abbrev pub is_reserved : List ℕ → Bool
is_reserved text =
    list_any (same_text text) (declaration_words ++ slot_words ++ expression_words ++ statement_words ++ variable_words)

abbrev pub is_letter : ℕ → Bool
is_letter b = nat_le 97 b && nat_le b 122

-- a letter, a digit or an underscore
abbrev pub is_name_byte : ℕ → Bool
is_name_byte b = is_letter b || (nat_le 48 b && nat_le b 57) || (b == 95)

abbrev pub begins_well : List ℕ → Bool
begins_well [] = false
begins_well (b ∷ bs) = is_letter b && list_all is_name_byte bs

-- a name has 1 to 16 bytes, begins with a letter, and is no reserved word
abbrev pub is_name : List ℕ → Bool
is_name text = begins_well text && nat_le (length text) 16 && not (is_reserved text)

-- no text stands twice
abbrev pub are_different : List (List ℕ) → Bool
are_different [] = true
are_different (t ∷ ts) = not (list_any (same_text t) ts) && are_different ts
