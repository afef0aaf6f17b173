-- Where the records of a token stand.
use Rattle.std.specs.Prelude.{ℕ, suc, List, [], ◌∷◌, Option, Some, None, option_map, bytes_eq, if◌then◌else◌, true, ◌≡◌, String}
use Rattle.std.specs.BTreeMap.{BTreeMap, get_by_text}
use Rattle.std.specs.List.{AllByRecursion}
use Rattle.std.specs.Str.{is_utf8}
use Rattle.front_base.specs.declared.user.User.{User}
use Rattle.token_users.specs.declared.record.Record.{Record}

abbrev pub later_or : {A : Type 0} → Option A → Option A → Option A
later_or None earlier = earlier
later_or (Some x) earlier = Some x

-- the user of a token: that of its last record
unfoldable pub last_user : List ℕ → List Record → Option User
last_user token [] = None
last_user token (first ∷ others) =
    later_or (last_user token others) (if bytes_eq first.token token then Some first.user else None)

-- the place of that record
unfoldable pub last_place : List ℕ → List Record → Option ℕ
last_place token [] = None
last_place token (first ∷ others) =
    later_or (option_map suc (last_place token others)) (if bytes_eq first.token token then Some 0 else None)

-- the tokens of records are texts
abbrev pub AreTexts : List Record → Type 0
AreTexts records = AllByRecursion (λ r. is_utf8 r.token ≡ true) records

-- a map has for each token the place of its last record
pub record HasPlaces {Y : Type 0} (places : BTreeMap (String Y) ℕ) (records : List Record) : Type 0 where
  pub found : (token : List ℕ) → get_by_text places token ≡ last_place token records
  pub texts : AreTexts records
