-- How often the calls of a dial and of its links failed, and the sides of a link, which tell no bytes.
use Rattle.std.specs.Prelude.{ℕ, [], ◌∷◌, None}
use Rattle.front_ports.specs.Side.{Side}
use Rattle.client_dial.specs.declared.dial.ClientDial.{ClientDial}
use Rattle.client_dial.specs.declared.link.ClientLink.{ClientLink}

-- how many dials failed, and how many links were handed back on which a call had failed
abbrev pub dial_faults : {R : Type 0} → ClientDial R → ℕ
dial_faults dial = dial.faults

abbrev pub dial_link_faults : {R : Type 0} → ClientDial R → ℕ
dial_link_faults dial = dial.link_faults

-- how many reads and writes of a link failed
abbrev pub link_read_faults : {R : Type 0} → ClientLink R → ℕ
link_read_faults link = link.read_faults

abbrev pub link_write_faults : {R : Type 0} → ClientLink R → ℕ
link_write_faults link = link.write_faults

-- its input and its output; since its dial notes no calls, each link has the number 0
abbrev pub link_input : {R : Type 0} → ClientLink R → Side
link_input link = record { told = None; faults = link.read_faults; mark = 0 ∷ []; wishes = None }

abbrev pub link_output : {R : Type 0} → ClientLink R → Side
link_output link = record { told = None; faults = link.write_faults; mark = 0 ∷ []; wishes = None }
