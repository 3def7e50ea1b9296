-- What the split of words gives, and where it fails.
use Rattle.std.proofs.Common.{rules, cond, ◌≡◌, ◌++◌, ◌∷◌, ◌||◌, ℕ, Bool, List, [], Option, Some, None, true, false, codes, fold, refl, sym, ap, ap₂, ◌∙◌, subst, append_assoc, append-nil, option_map, unwrap_or}
use Rattle.std.specs.Prelude.{find}
use Rattle.std.specs.List.{list_any}
use Rattle.std.specs.Str.{bytes_eq}
use Rattle.std.specs.Option.{option_map_or}
use Rattle.std.specs.Cmp.Lexicographic.{same_text}
use Rattle.std.specs.Prelude.{Box}
use Rattle.std.specs.Box.{box_value}
use Rattle.clap.specs.Words.{Kinds, Row, Rule, Shape, Text, built, fault_of, first_value, is_simple, is_simple_and_free, rows_of, subcommand_name_of, subcommand_of, subcommand_rows, subcommand_rows_of}
use Rattle.clap.specs.declared.parser.matches.ArgMatches.{ArgMatches}
use Rattle.clap.specs.declared.parser.matches.ArgMatches.TheViews.{out-ArgMatches, out-SubCommand}
use Rattle.clap.specs.declared.parser.matches.Found.{Found}
use Rattle.clap.specs.declared.parser.matches.SubCommand.{SubCommand}
use Rattle.clap.proofs.WalkLemmas.{first_value-rows}
use Rattle.clap.specs.Kinds.{or_else}
use Rattle.clap.specs.Faults.{bundle_fault, check_fault, defaults_fault, entered_fault, flag_word_fault, level_fault, other_fault, settle_fault, step_fault, turn_fault, walk_fault}
use Rattle.clap.specs.Simple.{label_of, names_of, new_shape}
use Rattle.clap.specs.Lexer.{long_of, short_of}
use Rattle.clap.specs.Walk.{Held, Names, Step, Walk, after_step, answers_to, arg_by_index, finished, long_or_other, nothing_held, settled, short_or_plain, subcommand_met, subcommand_or_other, to_positional, walk, walk_from, walked, walked_from, word_met}
use Rattle.clap.specs.Walk.Waiting.{idle}
use Rattle.clap.specs.Walk.Step.{trailing, value}
use Rattle.clap.specs.declared.error.kind.ErrorKind.{ErrorKind}
use Rattle.clap.specs.declared.error.kind.ErrorKind.TheVariants as kind
use Rattle.clap.proofs.OnLiterals.{clap_on_literals}
use Rattle.em_tool.specs.Splitting.{AreValues, command_line, is_option, values_in, words_in}

pub simple : is_simple_and_free command_line ≡ true
unfolding clap_on_literals
simple = refl

-- a word that is no option has no flag's form
abbrev pub IsValue : Text → Type 0
IsValue word = (bytes_eq word (45 ∷ 45 ∷ []) ≡ false) × (long_of word ≡ None) × (short_of word ≡ None)

pub value_word : (word : Text) → is_option word ≡ false → IsValue word
value_word [] plain = (refl, refl, refl)
value_word (x ∷ xs) plain = (search rules, search rules, search rules)

-- between two words, where the next value goes to this position
abbrev at : ℕ → Held → Walk
at n h = record { held = h; waiting = idle; position = n; is_trailing = false; stopped = None }

module _ (s : Shape) (names : Names) (n : ℕ) (h : Held) (word : Text) (v : IsValue word) (none : subcommand_met names idle word ≡ None) where
  value_met : word_met s.rules names false idle n word h ≡ (h, value)
  value_met = ap (λ o. subcommand_or_other s.rules o idle n word h) none
      ∙ ap (λ b. cond b (h, trailing n) (long_or_other s.rules idle word (long_of word) h)) v.0
      ∙ ap (λ o. long_or_other s.rules idle word o h) v.1
      ∙ ap (λ o. short_or_plain s.rules idle word o h) v.2

  value_walked : walked s.rules names (at n h) word ≡ to_positional s.rules (arg_by_index s.rules n) word (at n h) h
  unfolding clap_on_literals
  value_walked = ap (λ met. after_step s.rules word (at n h) met.0 met.1) value_met

  value_right : other_fault s (subcommand_met names idle word) word h ≡ []
  value_right = ap (λ o. other_fault s o word h) none
      ∙ ap (λ b. cond b [] (flag_word_fault s.rules s.args_override_self (long_of word) word h)) v.0
      ∙ ap (λ o. flag_word_fault s.rules s.args_override_self o word h) v.1
      ∙ ap (λ o. option_map_or (λ flags. bundle_fault s.rules s.args_override_self flags h) o []) v.2

  value_fault : turn_fault s names (at n h) word ≡ step_fault s n h value
  value_fault = ap₂ or_else value_right (ap (λ (met : Held × Step). step_fault s n met.0 met.1) value_met)

  walk_next : (rest : List Text) → walk_fault s names (at n h) (word ∷ rest)
      ≡ or_else (step_fault s n h value) (walk_fault s names (to_positional s.rules (arg_by_index s.rules n) word (at n h) h) rest)
  unfolding clap_on_literals
  walk_next rest = ap₂ or_else value_fault (ap (λ w. walk_fault s names w rest) value_walked)

-- the subcommand of this name
abbrev line_of : Text → Shape
line_of name = unwrap_or (find (λ s. answers_to name (label_of s)) (built command_line).subs) (new_shape [])

abbrev solo : Shape
solo = line_of (codes "solo")

abbrev check : Shape
check = line_of (codes "check")

abbrev next_walk : Walk → Text → Walk
next_walk w word = to_positional solo.rules (arg_by_index solo.rules w.position) word w w.held

abbrev w0 : Walk
w0 = walk_from nothing_held

abbrev w1 : Text → Walk
w1 a = next_walk w0 a

abbrev w2 : Text → Text → Walk
w2 a b = next_walk (w1 a) b

abbrev w3 : Text → Text → Text → Walk
w3 a b d = next_walk (w2 a b) d

abbrev level_of : Shape → Kinds → Held → Kinds
level_of s f end = or_else f (or_else [] (or_else (settle_fault s.rules s.args_override_self end)
    (or_else (defaults_fault (settled s.rules end).rows s.rules) (check_fault s (finished s.rules end) false))))

-- at `solo`
module _ (a : Text) (va : IsValue a) where
  one_walked : walk solo.rules [] nothing_held (a ∷ []) ≡ w1 a
  one_walked = value_walked solo [] 1 nothing_held a va refl

  one_right : (rest : List Text) → walk_fault solo [] w0 (a ∷ rest) ≡ walk_fault solo [] (w1 a) rest
  one_right rest = walk_next solo [] 1 nothing_held a va refl rest

  one_fault : level_fault solo [] nothing_held (a ∷ []) false [] ≡ kind.MissingRequiredArgument ∷ []
  unfolding clap_on_literals
  one_fault = ap₂ (level_of solo) (one_right []) (ap (λ (w : Walk). w.held) one_walked)

  module _ (b : Text) (vb : IsValue b) where
    two_walked : walk solo.rules [] nothing_held (a ∷ b ∷ []) ≡ w2 a b
    two_walked = ap (λ w. walked solo.rules [] w b) one_walked ∙ value_walked solo [] 2 (w1 a).held b vb refl

    two_right : (rest : List Text) → walk_fault solo [] w0 (a ∷ b ∷ rest) ≡ walk_fault solo [] (w2 a b) rest
    two_right rest = one_right (b ∷ rest) ∙ walk_next solo [] 2 (w1 a).held b vb refl rest

    two_fault : level_fault solo [] nothing_held (a ∷ b ∷ []) false [] ≡ kind.MissingRequiredArgument ∷ []
    unfolding clap_on_literals
    two_fault = ap₂ (level_of solo) (two_right []) (ap (λ (w : Walk). w.held) two_walked)

    module _ (d : Text) (vd : IsValue d) where
      three_walked : walk solo.rules [] nothing_held (a ∷ b ∷ d ∷ []) ≡ w3 a b d
      three_walked = ap (λ w. walked solo.rules [] w d) two_walked ∙ value_walked solo [] 3 (w2 a b).held d vd refl

      three_right : (rest : List Text) → walk_fault solo [] w0 (a ∷ b ∷ d ∷ rest) ≡ walk_fault solo [] (w3 a b d) rest
      three_right rest = two_right (d ∷ rest) ∙ walk_next solo [] 3 (w2 a b).held d vd refl rest

      three_fault : level_fault solo [] nothing_held (a ∷ b ∷ d ∷ []) false [] ≡ []
      unfolding clap_on_literals
      three_fault = ap₂ (level_of solo) (three_right []) (ap (λ (w : Walk). w.held) three_walked)

      pub three_words : words_in (subcommand_of command_line (codes "solo" ∷ a ∷ b ∷ d ∷ [])) ≡ codes "solo" ∷ a ∷ b ∷ d ∷ []
      unfolding clap_on_literals
      three_words = ap (λ (w : Walk). words_in (Some (codes "solo", finished solo.rules w.held))) three_walked

      pub solo_right : fault_of command_line (codes "solo" ∷ a ∷ b ∷ d ∷ []) ≡ []
      unfolding clap_on_literals
      solo_right = ap (λ f. or_else f []) three_fault

      more_right : (e : Text) → IsValue e → (rest : List Text) → walk_fault solo [] w0 (a ∷ b ∷ d ∷ e ∷ rest) ≡ kind.UnknownArgument ∷ []
      more_right e ve rest = three_right (e ∷ rest) ∙ walk_next solo [] 4 (w3 a b d).held e ve refl rest

-- ---- above the subcommands

abbrev top : Shape
top = (built command_line).top

abbrev names : Names
names = names_of (built command_line)

or_left : (a b : Kinds) → or_else a b ≡ [] → a ≡ []
or_left [] b e = refl
or_left (k ∷ ks) b e = absurd (cc (e))

or_right : (a b : Kinds) → or_else a b ≡ [] → b ≡ []
or_right [] b e = e
or_right (k ∷ ks) b e = absurd (cc (e))

some_kind : (k : ErrorKind) (ks kinds : Kinds) → kinds ≡ k ∷ ks → kinds ≡ [] → ⊥
some_kind k ks kinds some none = absurd (cc (some, none))

or_parts : (a b : Bool) → (a || b) ≡ false → (a ≡ false) × (b ≡ false)
or_parts true b e = absurd (cc (e))
or_parts false b e = (refl, e)

no_name : (word : Text) → bytes_eq (codes "solo") word ≡ false → bytes_eq (codes "check") word ≡ false → bytes_eq (codes "help") word ≡ false → subcommand_met names idle word ≡ None
no_name word a b d =
    let first : Option (Text × List Text) → Option Text = option_map (λ (p : Text × List Text). p.0) in
    ap (λ t. first (cond (t || false) (Some (codes "solo", [])) (find (answers_to word) ((codes "check", []) ∷ (codes "help", []) ∷ [])))) a
    ∙ ap (λ t. first (cond (t || false) (Some (codes "check", [])) (find (answers_to word) ((codes "help", []) ∷ [])))) b
    ∙ ap (λ t. first (cond (t || false) (Some (codes "help", [])) None)) d

stray : (word : Text) (rest : List Text) → IsValue word → subcommand_met names idle word ≡ None → fault_of command_line (word ∷ rest) ≡ [] → ⊥
stray word rest v none e =
    some_kind kind.UnknownArgument (kind.InvalidSubcommand ∷ []) _ (walk_next top names 1 nothing_held word v none rest) (or_left (walk_fault top names w0 (word ∷ rest)) _ e)

-- the words after the one that names a subcommand are left to it
stops : (c : List Rule) (others : Names) (rest : List Text) (w : Walk) (name : Text) (before : List Text) → w.stopped ≡ Some (name, before)
    → (fold (walked c others) w rest).stopped ≡ Some (name, before ++ rest)
unfolding clap_on_literals
stops c others [] w name before e = e ∙ ap (λ l. Some (name, l)) (sym (append-nil before))
stops c others (word ∷ rest) w name before e =
    stops c others rest (walked c others w word) name (before ++ word ∷ []) (ap (λ s. (walked_from c others s w word).stopped) e)
    ∙ ap (λ l. Some (name, l)) (append_assoc before (word ∷ []) rest)

below : (words : List Text) → fault_of command_line words ≡ [] → entered_fault (built command_line) (walk top.rules names nothing_held words).stopped ≡ []
below words e = or_left (entered_fault (built command_line) (walk top.rules names nothing_held words).stopped) _ (or_right (walk_fault top names w0 words) _ e)

solo_level : (rest : List Text) → fault_of command_line (codes "solo" ∷ rest) ≡ [] → level_fault solo [] nothing_held rest false [] ≡ []
unfolding clap_on_literals
solo_level rest e =
    sym (ap (entered_fault (built command_line)) (stops top.rules names rest (walked top.rules names w0 (codes "solo")) (codes "solo") [] refl)) ∙ below (codes "solo" ∷ rest) e

check_level : (rest : List Text) → fault_of command_line (codes "check" ∷ rest) ≡ [] → level_fault check [] nothing_held rest false [] ≡ []
unfolding clap_on_literals
check_level rest e =
    sym (ap (entered_fault (built command_line)) (stops top.rules names rest (walked top.rules names w0 (codes "check")) (codes "check") [] refl)) ∙ below (codes "check" ∷ rest) e

none_fault : level_fault solo [] nothing_held [] false [] ≡ kind.MissingRequiredArgument ∷ []
unfolding clap_on_literals
none_fault = refl

heads : (word : Text) (rest : List Text) → list_any is_option (word ∷ rest) ≡ false → IsValue word × (list_any is_option rest ≡ false)
heads word rest e = let parts = or_parts (is_option word) (list_any is_option rest) e in (value_word word parts.0, parts.1)

whole_solo : (rest : List Text) → list_any is_option rest ≡ false → fault_of command_line (codes "solo" ∷ rest) ≡ []
    → words_in (subcommand_of command_line (codes "solo" ∷ rest)) ≡ codes "solo" ∷ rest
whole_solo [] plain e = absurd (some_kind _ _ _ none_fault (solo_level [] e))
whole_solo (a ∷ []) plain e = absurd (some_kind _ _ _ (one_fault a (heads a [] plain).0) (solo_level (a ∷ []) e))
whole_solo (a ∷ b ∷ []) plain e =
    let (va, more) = heads a (b ∷ []) plain in
    let (vb, others) = heads b [] more in
    absurd (some_kind _ _ _ (two_fault a va b vb) (solo_level (a ∷ b ∷ []) e))
whole_solo (a ∷ b ∷ d ∷ []) plain e =
    let (va, more) = heads a (b ∷ d ∷ []) plain in
    let (vb, others) = heads b (d ∷ []) more in
    let (vd, end) = heads d [] others in
    three_words a va b vb d vd
whole_solo (a ∷ b ∷ d ∷ f ∷ rest) plain e =
    let (va, more) = heads a (b ∷ d ∷ f ∷ rest) plain in
    let (vb, others) = heads b (d ∷ f ∷ rest) more in
    let (vd, last) = heads d (f ∷ rest) others in
    let (vf, end) = heads f rest last in
    absurd (some_kind _ _ _ (more_right a va b vb d vd f vf rest) (or_left (walk_fault solo [] w0 (a ∷ b ∷ d ∷ f ∷ rest)) _ (solo_level (a ∷ b ∷ d ∷ f ∷ rest) e)))

check_words : words_in (subcommand_of command_line (codes "check" ∷ [])) ≡ codes "check" ∷ []
unfolding clap_on_literals
check_words = refl

pub check_right : fault_of command_line (codes "check" ∷ []) ≡ []
unfolding clap_on_literals
check_right = refl

whole_check : (rest : List Text) → list_any is_option rest ≡ false → fault_of command_line (codes "check" ∷ rest) ≡ []
    → words_in (subcommand_of command_line (codes "check" ∷ rest)) ≡ codes "check" ∷ rest
whole_check [] plain e = check_words
whole_check (a ∷ rest) plain e =
    absurd (some_kind kind.UnknownArgument [] _ (walk_next check [] 1 nothing_held a (heads a rest plain).0 refl rest) (or_left (walk_fault check [] w0 (a ∷ rest)) _ (check_level (a ∷ rest) e)))

no_words : words_in (subcommand_of command_line []) ≡ []
unfolding clap_on_literals
no_words = refl

-- where the split of values does not fail, it has given back all of them
pub whole : (words : List Text) → AreValues words → fault_of command_line words ≡ [] → words_in (subcommand_of command_line words) ≡ words
whole [] v e = no_words
whole (word ∷ rest) v e = by_name (bytes_eq (codes "solo") word) (bytes_eq (codes "check") word) (bytes_eq (codes "help") word) refl refl refl
  where
    by_name : (a b d : Bool) → bytes_eq (codes "solo") word ≡ a → bytes_eq (codes "check") word ≡ b → bytes_eq (codes "help") word ≡ d
        → words_in (subcommand_of command_line (word ∷ rest)) ≡ word ∷ rest
    by_name true b d is_solo is_check is_help =
        subst (λ t. fault_of command_line (t ∷ rest) ≡ [] → words_in (subcommand_of command_line (t ∷ rest)) ≡ t ∷ rest) (same_text (codes "solo") word (sym is_solo))
        (whole_solo rest (heads word rest v.0).1) e
    by_name false true d is_solo is_check is_help =
        subst (λ t. fault_of command_line (t ∷ rest) ≡ [] → words_in (subcommand_of command_line (t ∷ rest)) ≡ t ∷ rest) (same_text (codes "check") word (sym is_check))
        (whole_check rest (heads word rest v.0).1) e
    by_name false false true is_solo is_check is_help = absurd (v.1 rest (ap (λ t. t ∷ rest) (sym (same_text (codes "help") word (sym is_help)))))
    by_name false false false is_solo is_check is_help = absurd (stray word rest (heads word rest v.0).0 (no_name word is_solo is_check is_help) e)

-- ---- the subcommand that a parse gives

names_rows : (m : ArgMatches) → subcommand_name_of m ≡ option_map (λ (p : Text × List Row). p.0) (subcommand_rows_of m)
names_rows m = go (out-ArgMatches m).subcommand
  where
    go : {Z : Type 0} (s : Option (Box SubCommand Z)) → option_map (λ b. (out-SubCommand (box_value b)).name.now) s ≡ option_map (λ (p : Text × List Row). p.0) (subcommand_rows s)
    go None = refl
    go (Some b) = refl

module _ (m : ArgMatches) (name : Text) (f : Found) (named : Some name ≡ subcommand_name_of m) (found : Some (rows_of f) ≡ option_map (λ (p : Text × List Row). p.1) (subcommand_rows_of m)) where
  split_rows : subcommand_rows_of m ≡ Some (name, rows_of f)
  split_rows = by_rows (subcommand_rows_of m) (named ∙ names_rows m) found
    where
      by_rows : (rows : Option (Text × List Row)) → Some name ≡ option_map (λ (p : Text × List Row). p.0) rows → Some (rows_of f) ≡ option_map (λ (p : Text × List Row). p.1) rows → rows ≡ Some (name, rows_of f)
      by_rows None first second = absurd (cc (first))
      by_rows (Some p) first second = sym (ap₂ (λ t rows. Some (t, rows)) (ap (λ o. unwrap_or o []) first) (ap (λ o. unwrap_or o []) second))

  -- the words that were split are the name and the values
  pub given : words_in (subcommand_rows_of m) ≡ name ∷ values_in (first_value f (codes "LIMIT")) (first_value f (codes "BURST")) (first_value f (codes "ORDER"))
  given = ap words_in split_rows ∙ sym (ap₂ (λ a (p : Option Text × Option Text). name ∷ values_in a p.0 p.1) (first_value-rows f (codes "LIMIT"))
      (ap₂ (λ b d. (b, d)) (first_value-rows f (codes "BURST")) (first_value-rows f (codes "ORDER"))))

module _ (texts : List Text) (name : Text) (l b d : Option Text) (whole : texts ≡ name ∷ values_in l b d) where
  pub no_limit : l ≡ None → texts ≡ name ∷ []
  no_limit first = whole ∙ ap (λ o. name ∷ values_in o b d) first

  pub no_burst : (x : Text) → l ≡ Some x → b ≡ None → texts ≡ name ∷ []
  no_burst x first second = whole ∙ ap₂ (λ o p. name ∷ values_in o p d) first second

  pub no_order : (x y : Text) → l ≡ Some x → b ≡ Some y → d ≡ None → texts ≡ name ∷ []
  no_order x y first second third = whole ∙ ap₂ (λ o p. name ∷ values_in o p d) first second ∙ ap (λ o. name ∷ values_in (Some x) (Some y) o) third

  pub all_values : (x y z : Text) → l ≡ Some x → b ≡ Some y → d ≡ Some z → texts ≡ name ∷ x ∷ y ∷ z ∷ []
  all_values x y z first second third = whole ∙ ap₂ (λ o p. name ∷ values_in o p d) first second ∙ ap (λ o. name ∷ values_in (Some x) (Some y) o) third

pub simple_alone : is_simple command_line ≡ true
unfolding clap_on_literals
simple_alone = refl
