-- Markup: text that is escaped, and elements that are balanced.
use Rattle.std.specs.Prelude.{◌≡◌, ◌==◌, ℕ, ◌||◌, List, [], ◌∷◌, ◌++◌, codes, nat_lt, if◌then◌else◌}
use Rattle.std.specs.List.{flat_map}
use Rattle.em_view.specs.declared.tag.Tag.{Tag}
use Rattle.em_view.specs.declared.tag.Tag.TheVariants as tags
use Rattle.em_view.specs.Tags.{attributes, tag_word}

-- `&` (38), `<` (60) and `>` (62) have names, and what is not printable becomes `?` (63)
abbrev pub escape : ℕ → List ℕ
escape byte =
    if byte == 38 then codes "&amp;"
    else (if byte == 60 then codes "&lt;"
    else (if byte == 62 then codes "&gt;"
    else (if nat_lt byte 32 || nat_lt 126 byte then 63 ∷ [] else byte ∷ [])))

abbrev pub escaped : List ℕ → List ℕ
escaped text = flat_map escape text

-- an element round what stands in it
abbrev pub element : Tag → List ℕ → List ℕ
element tag inner = codes "<" ++ (tag_word tag ++ (attributes tag ++ (codes ">" ++ (inner ++ (codes "</" ++ (tag_word tag ++ codes ">"))))))

-- what stands in an element: text and elements, one behind the other
pub data Content : Type 0 where
  Nothing : Content
  Text : List ℕ → Content → Content
  Element : Tag → Content → Content → Content

unfoldable pub spelling : Content → List ℕ
spelling Nothing = []
spelling (Text text rest) = escaped text ++ spelling rest
spelling (Element tag inner rest) = element tag (spelling inner) ++ spelling rest

-- the bytes are text and elements
abbrev pub IsContent : List ℕ → Type 0
IsContent bytes = (content : Content) × (bytes ≡ spelling content)

-- the bytes are one element `svg`, and nothing beside it
pub record Page (bytes : List ℕ) : Type 0 where
  pub width : ℕ
  pub height : ℕ
  pub content : Content
  pub spelled : bytes ≡ element (tags.Page width height) (spelling content)

abbrev pub IsPage : List ℕ → Type 0
IsPage bytes = ∥ Page bytes ∥₁
