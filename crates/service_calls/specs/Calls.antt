-- Requests, and what a dial and a link tell.
use Rattle.std.specs.Prelude.{ℕ, List, Option}
use Rattle.forward_link.specs.Exchange.{LinkState}
use Rattle.front_base.specs.declared.address.Address.{Address}
use Rattle.front_ports.specs.declared.dial.Call.{Call}

-- a request that is to be sent to an address
pub record Due : Type 0 where
  pub to : Address
  pub text : List ℕ

-- what a dial tells: its calls, how often it failed, and how often a link of it did
pub record DialState : Type 0 where
  pub calls : Option (List Call)
  pub faults : ℕ
  pub link_faults : ℕ

abbrev pub dial_state : Option (List Call) → ℕ → ℕ → DialState
dial_state calls faults link_faults = record { calls = calls; faults = faults; link_faults = link_faults }

-- a link, by what is left of it, what was written to it, the number of its call, and how many of its calls failed
abbrev pub link_state : Option (List ℕ) → Option (List ℕ) → ℕ → ℕ → LinkState
link_state left written number faults = record { left = left; written = written; number = number; faults = faults }
