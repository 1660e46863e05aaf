-- The fields of the file whose numbers a list has, and how many bytes it has.
use Rattle.std.specs.Prelude.{List, ℕ}
use Rattle.market.specs.Numbers.{Field}
use Rattle.fields.specs.Layout.{fields_of}
use Rattle.write_numbers.specs.Writing.{size_of}
use Rattle.write_numbers.specs.declared.NumberList.{NumberList}

abbrev pub fields_in : NumberList → List Field
fields_in list = fields_of list.file list.counts.version list.counts.resources list.counts.zones list.counts.flowgates

abbrev pub size_in : NumberList → ℕ
size_in list = size_of list.file list.counts.version list.counts.resources list.counts.zones list.counts.flowgates
