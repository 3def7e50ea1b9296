-- Names are ASCII.
use Rattle.std.proofs.Common.{◌≡◌, ◌<◌, ℕ, zero, suc, Bool, List, [], ◌∷◌, true, false, refl, arith}
use Rattle.std.specs.Prelude.{◌&&◌, length, nat_le, not}
use Rattle.std.specs.List.{list_all}
use Rattle.std.specs.Str.{IsAscii, IsUtf8}
use Rattle.std.proofs.lemmas.Bool.Decides.{nat_tests}
use Rattle.std.proofs.lemmas.Str.{IsAscii-append, IsUtf8-from_ascii}
use Rattle.std.proofs.lemmas.Str.Ascii.{IsAscii-nil}
use Rattle.em_log.specs.Names.{is_name, is_name_byte, is_letter, is_reserved, begins_well}

pub both : (a b : Bool) → (a && b) ≡ true → (a ≡ true) × (b ≡ true)
both true b e = (refl, e)
both false b e = absurd cc

IsAscii-single : (b : ℕ) → b < 128 → IsAscii (b ∷ [])
IsAscii-single b small zero = small
IsAscii-single b small (suc i) = omega arith

IsAscii-cons : (b : ℕ) (bs : List ℕ) → b < 128 → IsAscii bs → IsAscii (b ∷ bs)
IsAscii-cons b bs small rest = IsAscii-append (b ∷ []) bs (IsAscii-single b small) rest

name_byte_below : (b : ℕ) → is_name_byte b ≡ true → b < 128
name_byte_below b e = grind (arith, nat_tests)

letter_below : (b : ℕ) → is_letter b ≡ true → b < 128
letter_below b e = grind (arith, nat_tests)

IsAscii-bytes : (bs : List ℕ) → list_all is_name_byte bs ≡ true → IsAscii bs
IsAscii-bytes [] all = IsAscii-nil
IsAscii-bytes (b ∷ bs) all =
    let (first, rest) = both (is_name_byte b) (list_all is_name_byte bs) all in
    IsAscii-cons b bs (name_byte_below b first) (IsAscii-bytes bs rest)

IsAscii-begins : (text : List ℕ) → begins_well text ≡ true → IsAscii text
IsAscii-begins [] well = IsAscii-nil
IsAscii-begins (b ∷ bs) well =
    let (first, rest) = both (is_letter b) (list_all is_name_byte bs) well in
    IsAscii-cons b bs (letter_below b first) (IsAscii-bytes bs rest)

pub IsUtf8-name : (text : List ℕ) → is_name text ≡ true → IsUtf8 text
IsUtf8-name text name =
    let (front, free) = both (begins_well text && nat_le (length text) 16) (not (is_reserved text)) name in
    let (well, short) = both (begins_well text) (nat_le (length text) 16) front in
    IsUtf8-from_ascii text (IsAscii-begins text well)
