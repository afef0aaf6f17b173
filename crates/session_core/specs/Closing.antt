-- What a connection wished, and when a reply says that it ends (RFC 9112, section 9.6).
use Rattle.std.specs.Prelude.{◌≡◌, ◌⊎◌, ℕ, ◌||◌, Bool, true, false, List, [], ◌∷◌, ◌++◌, map, Option}
use Rattle.exchange_replies.specs.declared.reply_tag.ReplyTag.{ReplyTag}
use Rattle.front_base.specs.AuditId.{AuditId}
use Rattle.front_ports.specs.Wishes.{GivesWish}
use Rattle.http_edge.specs.Requests.{asks}
use Rattle.http_edge.specs.declared.request.Request.{Request}
use Rattle.session_core.specs.declared.exchange.Exchange.{Exchange}

-- the connection ends after the reply: the request asks so, or the connection wished it
abbrev pub closes : Request → Bool → Bool
closes r wished = wished || asks r

-- what the head of its reply says
abbrev pub tag_by : Request → AuditId → Bool → ReplyTag
tag_by r id wished = record { id = id; closing = closes r wished }

-- a connection was asked once whether it wishes to end, and that is known; or it wasn't asked, and what is known stays
abbrev pub MayWish : Option (List Bool) → Option (List Bool) → Bool → Bool → Type 0
MayWish old new before after = ((new ≡ old) × (after ≡ before)) ⊎ GivesWish old new after

-- what was wished at each of these
abbrev pub wishes_of : List Exchange → List Bool
wishes_of xs = map (λ x. x.wished) xs

-- the connection wished to go on after each of these
abbrev pub NoneWished : List Exchange → Type 0
NoneWished [] = Unit {0}
NoneWished (x ∷ xs) = (x.wished ≡ false) × NoneWished xs

-- the last of these is the one after which it wished to end
pub record LastWished (xs : List Exchange) : Type 0 where
  pub before : List Exchange
  pub last : Exchange
  pub exchanges_are : xs ≡ before ++ last ∷ []
  pub none : NoneWished before
  pub wished : last.wished ≡ true

-- a call leaves whose connection it is, what is left to read, and how often a read failed
abbrev pub IsAside : List ℕ → List ℕ → Option (List ℕ) → Option (List ℕ) → ℕ → ℕ → Type 0
IsAside from0 from1 left0 left1 faults0 faults1 = (from1 ≡ from0) × (left1 ≡ left0) × (faults1 ≡ faults0)
