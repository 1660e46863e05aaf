-- What the program's text makes of a lent buffer.
use Rattle.std.specs.Prelude.{cond, List, ◌++◌, ℕ, leb, length, drop}
use Rattle.market.specs.Program.{printed}
use Rattle.printed_lines.specs.Room.{most_text}

-- the number of bytes that are written into a buffer of so many: the whole text, or none where a text could be longer
unfoldable pub report_count : List ℕ → ℕ → ℕ
report_count input room = cond (leb most_text room) (length (printed input)) 0

-- the buffer afterwards
unfoldable pub report_buffer : List ℕ → List ℕ → List ℕ
report_buffer input old = cond (leb most_text (length old)) (printed input ++ drop (length (printed input)) old) old
