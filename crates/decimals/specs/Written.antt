-- Text that grows in a lent buffer, and how much room it may take.
use Rattle.std.specs.Prelude.{List, ◌++◌, ◌≡◌, ℕ, ◌+◌, ◌≤◌, ◌*◌, length, take, drop}
use Rattle.market.specs.Program.{decimal}
use Rattle.decimals.specs.declared.Text.{Text}
use Rattle.decimals.specs.declared.Label.{Label}
use Rattle.decimals.specs.declared.Label.TheVariants.{Word, Number}

-- there is room for so many bytes more
abbrev pub HasRoom : ℕ → Text → Type 0
HasRoom n text = text.length + n ≤ length text.buffer.now

-- the text has got these bytes more, in the same buffer, and what stands beyond them stays
abbrev pub Adds : List ℕ → Text → Text → Type 0
Adds bytes old new =
    (new.buffer.ghost_name ≡ old.buffer.ghost_name)
    × (new.length ≡ old.length + length bytes)
    × (new.buffer.now ≡ take old.length old.buffer.now ++ (bytes ++ drop (old.length + length bytes) old.buffer.now))

-- a number of 64 bits, its sign beside it
abbrev pub most_digits : ℕ
most_digits = 20

abbrev pub most_decimal : ℕ
most_decimal = 21

-- n numbers, a space before each, and a line feed
abbrev pub most_figures : ℕ → ℕ
most_figures n = 22 * n + 1

-- what a line begins with
abbrev pub label_text : Label → List ℕ
label_text (Word word) = word.now
label_text (Number number) = decimal number

abbrev pub most_label : Label → ℕ
most_label (Word word) = length word.now
most_label (Number number) = most_decimal
