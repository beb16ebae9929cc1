-- How many tables there are and how many lines each may have; and the numbers of lines and events.
use Rattle.std.specs.Prelude.{◌≡◌, ℕ, ◌+◌, ◌*◌, ◌/◌, ◌%◌, ◌<◌}
use Rattle.std.proofs.Common.{lit<}

pub record Size : Type 0 where
  pub tables : ℕ
  pub lines : ℕ
  pub some_line : 0 < lines

-- this unit: four processors, 32 lines a table
abbrev pub unit : Size
unit = record { tables = 4; lines = 32; some_line = lit< tt }

-- how many barriers a table may have, and the highest cell
abbrev pub most_barriers : ℕ
most_barriers = 31

abbrev pub last_cell : ℕ
last_cell = 63

-- the number of the line in row k of table p, both counted from 0; it is also the line's place on a sheet
unfoldable pub number : Size → ℕ → ℕ → ℕ
number z p k = z.lines * p + k

-- the table of a line, and its row there
unfoldable pub table : Size → ℕ → ℕ
table z n = n / z.lines

unfoldable pub row : Size → ℕ → ℕ
row z n = n % z.lines

-- how many lines there may be in all; so many places has a sheet
unfoldable pub places : Size → ℕ
places z = z.lines * z.tables

-- line m stands in n's table, above n: it comes first in program order
abbrev pub Earlier : Size → ℕ → ℕ → Type 0
Earlier z m n = (table z m ≡ table z n) × (m < n)

-- the codes of a line's read and of its write
abbrev pub rd : ℕ → ℕ
rd n = 2 * n

abbrev pub wr : ℕ → ℕ
wr n = 2 * n + 1
