-- How many bytes the lines of a request's events have at most.
use Rattle.std.specs.Prelude.{ℕ, ◌+◌, ◌*◌, ◌<◌, ⊤, max, List, [], ◌∷◌, length}
use Rattle.audit_core.specs.declared.offers.Outcome.{Outcome}
use Rattle.audit_core.specs.declared.offers.Outcome.TheVariants as outcome
use Rattle.audit_core.specs.declared.stamp.Stamp.{Stamp}
use Rattle.front_base.specs.declared.moment.TheConstants.{MOMENT_END}
use Rattle.front_base.specs.declared.user.User.{User}
use Rattle.http_head.specs.declared.header.Header.{Header}
use Rattle.http_head.specs.declared.block.TheConstants.{MOST_HEAD_BYTES}
use Rattle.line_bounds.specs.Bounds.{IsAddress}
use Rattle.line_bounds.specs.declared.TheConstants.{OTHER_BYTES}
use Rattle.token_users.specs.Who.{authenticated, nobody}
use Rattle.token_users.specs.declared.record.Record.{Record}
use Rattle.truncate_backend.specs.declared.fitted.Fit.{Fit}
use Rattle.truncate_backend.specs.declared.fitted.Fit.TheVariants as fit
use Rattle.request_bounds.specs.declared.TheConstants.{PER_HEAD_BYTE, PER_USER_BYTE}

-- ---- how many bytes heads and users have

-- names and values, with a colon and a line's end for each header
abbrev pub headers_length : List Header → ℕ
headers_length [] = 0
headers_length (h ∷ hs) = length h.name + length h.value + 2 + headers_length hs

-- each group with one byte more
abbrev pub groups_length : List (List ℕ) → ℕ
groups_length [] = 0
groups_length (group ∷ groups) = length group + 1 + groups_length groups

-- name, uid and groups
abbrev pub user_length : User → ℕ
user_length user = length user.name + length user.uid + groups_length user.groups

-- the longest user of a token file, or 0 where it has none
abbrev pub longest_user : List Record → ℕ
longest_user [] = 0
longest_user (first ∷ others) = max (user_length first.user) (longest_user others)

-- the longest user that a request can count as by that file: one of its users, perhaps in one group more, or the anonymous one
abbrev pub longest_asker : List Record → ℕ
longest_asker records = max (longest_user records + (length authenticated + 1)) (user_length nobody)

-- ---- how many bytes a line has at most

-- the line of an event without its objects, by the bytes of the request's head and of its user
abbrev pub most_line_bytes : ℕ → ℕ → ℕ
most_line_bytes head user = PER_HEAD_BYTE * head + PER_USER_BYTE * user + OTHER_BYTES

-- the same whatever the request is, by the records of a token file
abbrev pub line_limit : List Record → ℕ
line_limit records = most_line_bytes MOST_HEAD_BYTES (longest_asker records)

-- the numbers of a stamp are values of their types
pub record IsStamp (stamp : Stamp) : Type 0 where
  pub peer : IsAddress stamp.peer
  pub received : stamp.received < MOMENT_END
  pub started : stamp.started < MOMENT_END
  pub complete : stamp.complete < MOMENT_END

-- ---- what isn't left out for its length

-- an event, of which at least the line without its objects is written
abbrev pub IsWritten : Fit → Type 0
IsWritten (fit.Whole line) = ⊤
IsWritten (fit.Stripped line) = ⊤
IsWritten (fit.TooLarge size) = ⊥

-- a note of one that was offered to the sink, whatever became of it there
abbrev pub IsOffered : Outcome → Type 0
IsOffered outcome.Taken = ⊤
IsOffered outcome.Full = ⊤
IsOffered outcome.Failed = ⊤
IsOffered (outcome.TooLarge size) = ⊥
