-- Which texts are scripts of a graph.
use Rattle.std.specs.Prelude.{◌≡◌, ℕ, not, List, map, filter, IsTrue, IsPermutation}
use Rattle.std.specs.List.{list_all}
use Rattle.em_log.specs.declared.graph.Config.{Config}
use Rattle.em_script.specs.Lines.{lines, tokens, is_plain_line}
use Rattle.em_script.specs.Names.{writing}
use Rattle.em_script.specs.Judging.{is_skipped}
use Rattle.em_script.specs.Spelling.{Placed, bodies_of, arranged, line_tokens}

-- the tokens of the lines that are not skipped
abbrev pub written_lines : List ℕ → List (List (List ℕ))
written_lines bytes = filter (λ ts. not (is_skipped ts)) (map tokens (lines bytes))

-- the bytes are a script of the graph: its lines are those of the graph, with the bodies in any order
pub record IsScript (bytes : List ℕ) (graph : Config) : Type 0 where
  pub plain : IsTrue (list_all is_plain_line (lines bytes))
  pub bodies : List Placed
  pub same : IsPermutation bodies (bodies_of graph)
  pub written : written_lines bytes ≡ map (line_tokens (writing graph)) (arranged graph bodies)
