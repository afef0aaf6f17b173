-- What marks a connection or a link in memory, as its two sides show it.
use Rattle.std.specs.Prelude.{ℕ, Bool, List, [], ◌∷◌, Option, None, Some}
use Rattle.front_ports.specs.declared.mem_duplex.MemVisitor.{MemVisitor}

-- who visits: an address, byte by byte, and what the connection will wish
abbrev pub visitor_mark : MemVisitor → List ℕ
visitor_mark visitor = visitor.from

abbrev pub visitor_wishes : MemVisitor → Option (List Bool)
visitor_wishes visitor = Some visitor.wishes.items

-- the number of a call, which wishes nothing
abbrev pub number_mark : ℕ → List ℕ
number_mark n = n ∷ []

abbrev pub number_wishes : ℕ → Option (List Bool)
number_wishes n = None
