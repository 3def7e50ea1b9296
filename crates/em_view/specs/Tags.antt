-- The elements of a page: their names and their attributes, none of which stands twice.
use Rattle.std.specs.Prelude.{ℕ, List, [], ◌∷◌, ◌++◌, codes, decimal}
use Rattle.em_view.specs.declared.tag.Class.{Class}
use Rattle.em_view.specs.declared.tag.Class.TheVariants as classes
use Rattle.em_view.specs.declared.tag.Tag.{Tag}
use Rattle.em_view.specs.declared.tag.Tag.TheVariants as tags

abbrev pub class_word : Class → List ℕ
class_word classes.Lane = codes "lane"
class_word classes.Head = codes "head"
class_word classes.Place = codes "place"
class_word classes.Entry = codes "entry"
class_word classes.Refused = codes "refused"
class_word classes.Receive = codes "receive"
class_word classes.Step = codes "step"
class_word classes.Fault = codes "fault"
class_word classes.Done = codes "done"
class_word classes.Notify = codes "notify"
class_word classes.Out = codes "out"

abbrev pub tag_word : Tag → List ℕ
tag_word (tags.Page width height) = codes "svg"
tag_word tags.Style = codes "style"
tag_word tags.Title = codes "title"
tag_word (tags.Area class hue x y width height) = codes "rect"
tag_word (tags.Label class x y) = codes "text"

-- attributes stand behind a space each, their values in quotes (39)

abbrev pub position : ℕ → ℕ → List ℕ
position x y = codes " x='" ++ (decimal x ++ (codes "' y='" ++ (decimal y ++ 39 ∷ [])))

abbrev pub size : ℕ → ℕ → List ℕ
size width height = codes " width='" ++ (decimal width ++ (codes "' height='" ++ (decimal height ++ 39 ∷ [])))

abbrev pub attributes : Tag → List ℕ
attributes (tags.Page width height) = codes " xmlns='http://www.w3.org/2000/svg'" ++ size width height
attributes tags.Style = []
attributes tags.Title = []
attributes (tags.Area class hue x y width height) =
    codes " class='" ++ (class_word class ++ (codes " h" ++ (decimal hue ++ (39 ∷ [] ++ (position x y ++ size width height)))))
attributes (tags.Label class x y) = codes " class='" ++ (class_word class ++ (39 ∷ [] ++ position x y))
