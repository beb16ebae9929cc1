-- How the origins of words are printed.
use Rattle.std.specs.Prelude.{ℕ, List, codes}
use Rattle.tables.specs.LineIds.{line_id_text}
use Rattle.rules.specs.declared.words.Origin.{Origin}
use Rattle.rules.specs.declared.words.Origin.TheVariants.{Start, Line}

-- the line whose word it is, as 2.1, or the start
abbrev pub origin_text : Origin → List ℕ
origin_text (Start c) = codes "start"
origin_text (Line l) = line_id_text l
