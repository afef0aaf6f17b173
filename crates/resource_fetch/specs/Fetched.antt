-- What comes of asking a server of APIs for the resources of a group version.
use Rattle.std.specs.Prelude.{◌≡◌, ℕ, ◌⊎◌, List, Option, Some, None}
use Rattle.apiservice_rows.specs.Row.{Row}
use Rattle.front_base.specs.declared.address.Address.{Address}
use Rattle.group_resources.specs.Lists.{Lists}
use Rattle.resource_fetch.specs.Version.{version_of}
use Rattle.resource_fetch.specs.declared.listing.Listing.{Listing}
use Rattle.resource_fetch.specs.declared.listing.Listing.TheVariants as listing
use Rattle.service_calls.specs.Calls.{DialState, Due}
use Rattle.service_calls.specs.Fetched as calls
use Rattle.service_calls.specs.Request.{request_bytes}
use Rattle.service_calls.specs.declared.reply.Fetched.{Fetched}
use Rattle.service_calls.specs.declared.reply.Fetched.TheVariants as fetched

-- whom is asked, with which bytes, for which group version
pub record Asking : Type 0 where
  pub version : List ℕ
  pub due : Due

abbrev pub asking : Row → Address → Asking
asking row to = record { version = version_of row; due = record { to = to; text = request_bytes row to } }

-- the array that is listed, if any is
abbrev pub listed_in : Listing → Option (List ℕ)
listed_in (listing.Listed resources) = Some resources
listed_in _ = None

-- what a reply of that status and that body lists: its array, or no array, and why
abbrev pub IsListing : List ℕ → ℕ → List ℕ → Listing → Type 0
IsListing version status body (listing.Listed resources) = Lists version status body resources
IsListing version status body (listing.OtherStatus s) = (s ≡ status) × (status ≡ 200 → ⊥)
IsListing version status body listing.NoList = (status ≡ 200) × ((resources : List ℕ) → Lists version status body resources → ⊥)
IsListing version status body _ = ⊥

-- the same of a reply whose body is too long
abbrev pub IsLong : ℕ → Listing → Type 0
IsLong status (listing.OtherStatus s) = (s ≡ status) × (status ≡ 200 → ⊥)
IsLong status listing.TooLong = status ≡ 200
IsLong status _ = ⊥

-- what comes of what was fetched
abbrev pub Reads : List ℕ → Fetched → Listing → Type 0
Reads version (fetched.Reply status body) got = IsListing version status body got
Reads version (fetched.TooLong status) got = IsLong status got
Reads version fetched.NoReply got = got ≡ listing.NoReply
Reads version fetched.NotDialed got = got ≡ listing.NotDialed
Reads version fetched.LinkFault got = got ≡ listing.LinkFault

-- one call was made, and this came of it
pub record Fetches (own : Asking) (m n : DialState) (got : Listing) : Type 0 where
  pub reply : Fetched
  pub fetches : calls.Fetches own.due m n reply
  pub reads : Reads own.version reply got

-- memory ran out before the call, after some front of the bytes was sent, or after the call
abbrev pub StopsFetching : Asking → DialState → DialState → Type 0
StopsFetching own m n = calls.StopsFetching own.due m n ⊎ ((reply : Fetched) × calls.Fetches own.due m n reply)
