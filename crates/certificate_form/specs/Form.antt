-- Two of the tests of a certificate's form, of counts by value (01, 'How each operation refuses').
use Rattle.std.specs.Prelude.{Bool, ◌&&◌, List, ℕ, length, eqb}
use Rattle.market.specs.declared.Counts.{Counts}
use Rattle.market.specs.Bytes.{u8_at}
use Rattle.market.specs.Certificate.{certificate_size}

-- 10
unfoldable pub counts_are : List ℕ → Counts → Bool
counts_are q n = eqb (u8_at q 5) n.resources && eqb (u8_at q 6) n.zones && eqb (u8_at q 7) n.flowgates

-- 11
unfoldable pub size_is : List ℕ → Counts → Bool
size_is q n = eqb (length q) (certificate_size n.version n.resources n.zones n.flowgates)
