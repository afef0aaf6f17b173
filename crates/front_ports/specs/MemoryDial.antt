-- What a dial in memory tells.
use Rattle.std.specs.Prelude.{◌≡◌, ℕ, List, [], ◌∷◌, map, Bool, true, false, ◌||◌, Option, Some, None, ⊤, if◌then◌else◌}
use Rattle.front_ports.specs.Memory.{duplex_left}
use Rattle.front_ports.specs.MemoryStream.{duplex_stream}
use Rattle.front_ports.specs.Scripts.{next_is_listed}
use Rattle.front_ports.specs.declared.dial.Call.{Call}
use Rattle.front_ports.specs.declared.mem_dial.Ready.{Ready}
use Rattle.front_ports.specs.declared.mem_dial.MemDial.{MemDial}
use Rattle.front_ports.specs.declared.mem_duplex.MemDuplex.{MemDuplex}
use Rattle.front_ports.specs.declared.mem_stream.MemStream.{MemStream}

-- what each of some links has to give
abbrev pub links_held : List (MemDuplex ℕ) → List (List ℕ)
links_held links = map duplex_left links

abbrev pub ready_links : List Ready → List (MemDuplex ℕ)
ready_links ready = map (λ r. r.link) ready

-- what each link that no dial has had yet has to give
abbrev pub dial_links : MemDial → List (List ℕ)
dial_links dial = links_held (ready_links dial.ready.items)

-- its calls, until there was one past the last link
abbrev pub dial_calls : MemDial → Option (List Call)
dial_calls dial = if dial.past then None else Some dial.calls.items

-- how many dials failed, and how many links on which a read or a write had
abbrev pub dial_faults : MemDial → ℕ
dial_faults dial = dial.faults

abbrev pub dial_link_faults : MemDial → ℕ
dial_link_faults dial = dial.link_faults

-- calls are told no longer only where no link was left
abbrev pub LosesPast : Option (List Call) → Option (List Call) → List (List ℕ) → Type 0
LosesPast None new links = ⊤
LosesPast (Some calls) None links = links ≡ []
LosesPast (Some calls) (Some more) links = ⊤

-- the two sides of each of some links, and of each that no dial has had yet
abbrev pub links_streams : List (MemDuplex ℕ) → List MemStream
links_streams links = map duplex_stream links

abbrev pub dial_streams : MemDial → List MemStream
dial_streams dial = links_streams (ready_links dial.ready.items)

-- the numbers of the dials that fail, and how many dials there were
abbrev pub dial_fails : MemDial → List ℕ
dial_fails dial = dial.fails.items

abbrev pub dial_dials : MemDial → ℕ
dial_dials dial = dial.dials

-- whether none is left
abbrev pub is_out_of_links : List (List ℕ) → Bool
is_out_of_links [] = true
is_out_of_links (link ∷ links) = false

-- whether the next dial fails: it is listed, or past the last link
abbrev pub dial_will_fail : MemDial → Bool
dial_will_fail dial = next_is_listed (dial_fails dial) (dial_dials dial) || is_out_of_links (dial_links dial)
