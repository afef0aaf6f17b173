-- Calls of a dial, and what came of them.
use Rattle.std.specs.Prelude.{◌≡◌, ℕ, ◌+◌, ◌-◌, ◌^◌, ◌≤◌, min, Bool, true, false, ◌&&◌, nat_le, nat_lt, List, [], ◌∷◌, ◌++◌, map, take, Option, Some, None, IfSome}
use Rattle.std.specs.List.{AllByRecursion}
use Rattle.front_ports.specs.declared.dial.Call.{Call}
use Rattle.forward_link.specs.Says.{Said, whole, stream, bad, cut, Got}
use Rattle.service_calls.specs.Calls.{DialState, Due}

-- the status of the final head that bytes say, as a reply is read that is forwarded; none where none is taken
abbrev pub status_in : Said → Option ℕ
status_in (whole head body) = Some head.status
status_in (stream head frame after) = Some head.status
status_in bad = None
status_in cut = None

-- all bytes of a link say this status, or none; what follows the final head says nothing
pub record Answers (held : List ℕ) (answer : Option ℕ) : Type 0 where
  pub said : Said
  pub got : Got false true held said
  pub answer_is : answer ≡ status_in said

-- how a call went: its link's bytes were read up to its answer; no link was opened; or a read or a write of the link failed
pub data Went : Type 0 where
  answered : Went
  not_dialed : Went
  broken : Went

-- a call: what was due, what was sent, all bytes that its link held, and its answer
pub record Contact : Type 0 where
  pub due : Due
  pub sent : List ℕ
  pub held : List ℕ
  pub went : Went
  pub answer : Option ℕ

abbrev pub IsPart : List ℕ → List ℕ → Type 0
IsPart sent text = (n : ℕ) × (sent ≡ take n text)

-- what is known of a call by how it went
abbrev pub Tells : Went → Contact → Type 0
Tells answered c = (c.sent ≡ c.due.text) × Answers c.held c.answer
Tells not_dialed c = (c.answer ≡ None) × (c.sent ≡ []) × (c.held ≡ [])
Tells broken c = (c.answer ≡ None) × IsPart c.sent c.due.text

abbrev pub IsContact : Contact → Type 0
IsContact c = Tells c.went c

-- a call that was left off before its answer, since memory ran out
pub record Left : Type 0 where
  pub due : Due
  pub sent : List ℕ
  pub held : List ℕ

abbrev pub IsLeft : Left → Type 0
IsLeft l = IsPart l.sent l.due.text

-- ---- lists of them

abbrev pub dues : List Contact → List Due
dues contacts = map (λ (c : Contact). c.due) contacts

abbrev pub answers : List Contact → List (Option ℕ)
answers contacts = map (λ (c : Contact). c.answer) contacts

-- as a dial notes them
abbrev pub noted : List Contact → List Call
noted contacts = map (λ (c : Contact). record { to = c.due.to; sent = c.sent; held = c.held }) contacts

abbrev pub left_dues : Option Left → List Due
left_dues None = []
left_dues (Some l) = l.due ∷ []

abbrev pub left_noted : Option Left → List Call
left_noted None = []
left_noted (Some l) = record { to = l.due.to; sent = l.sent; held = l.held } ∷ []

abbrev pub was_dialed : Went → Bool
was_dialed answered = true
was_dialed not_dialed = false
was_dialed broken = true

abbrev pub all_dialed : List Contact → Bool
all_dialed [] = true
all_dialed (c ∷ cs) = was_dialed c.went && all_dialed cs

abbrev pub one_if_not_dialed : Went → ℕ
one_if_not_dialed answered = 0
one_if_not_dialed not_dialed = 1
one_if_not_dialed broken = 0

abbrev pub one_if_broken : Went → ℕ
one_if_broken answered = 0
one_if_broken not_dialed = 0
one_if_broken broken = 1

-- how many of them failed as the dial's own count says, and as its count of links does
abbrev pub dial_failures : List Contact → ℕ
dial_failures [] = 0
dial_failures (c ∷ cs) = one_if_not_dialed c.went + dial_failures cs

abbrev pub link_failures : List Contact → ℕ
link_failures [] = 0
link_failures (c ∷ cs) = one_if_broken c.went + link_failures cs

-- ---- what a dial tells of them

-- told calls are joined by these, and told no longer only where one was not dialed
abbrev pub Joined : Bool → Option (List Call) → Option (List Call) → List Call → Type 0
Joined dialed None new more = new ≡ None
Joined dialed (Some before) None more = dialed ≡ false
Joined dialed (Some before) (Some after) more = after ≡ before ++ more

-- a count rose by so much at least, or it stands at the last value of its type
abbrev pub RoseBy : ℕ → ℕ → ℕ → Type 0
RoseBy n before after = min (before + n) (2 ^ 64 - 1) ≤ after

-- these calls were made, one after another, and no others
pub record Makes (contacts : List Contact) (p q : DialState) : Type 0 where
  pub each : AllByRecursion IsContact contacts
  pub calls : Joined (all_dialed contacts) p.calls q.calls (noted contacts)
  pub dials : RoseBy (dial_failures contacts) p.faults q.faults
  pub links : RoseBy (link_failures contacts) p.link_faults q.link_faults

-- the same, and then one call may be left off
pub record MakesPart (contacts : List Contact) (left : Option Left) (p q : DialState) : Type 0 where
  pub each : AllByRecursion IsContact contacts
  pub last : IfSome left IsLeft
  pub calls : Joined (all_dialed contacts) p.calls q.calls (noted contacts ++ left_noted left)
  pub dials : RoseBy (dial_failures contacts) p.faults q.faults
  pub links : RoseBy (link_failures contacts) p.link_faults q.link_faults

-- one call was made, with this answer
pub record Asks (due : Due) (answer : Option ℕ) (p q : DialState) : Type 0 where
  pub contact : Contact
  pub due_is : contact.due ≡ due
  pub answer_is : contact.answer ≡ answer
  pub makes : Makes (contact ∷ []) p q

-- it was left off
pub record LeavesOff (due : Due) (p q : DialState) : Type 0 where
  pub left : Left
  pub due_is : left.due ≡ due
  pub makes : MakesPart [] (Some left) p q

-- a status from 200 to 299 (RFC 9110, section 15.3)
abbrev pub is_good : Option ℕ → Bool
is_good None = false
is_good (Some status) = nat_le 200 status && nat_lt status 300
