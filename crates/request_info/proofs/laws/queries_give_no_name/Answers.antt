use Rattle.std.proofs.Common.{refl, Option, Some, None, ap, ◌≡◌, List, ℕ}
use Rattle.request_info.specs.Request.{path_info}
use Rattle.request_info.specs.Resource.{Api}
use Rattle.request_info.specs.Watch.{asks_watch}
use Rattle.request_info.proofs.laws.queries_give_no_name.Goals as goal

alike : (method path one two : List ℕ) (found : Option Api) → asks_watch one ≡ asks_watch two
    → path_info method one path found ≡ path_info method two path found
alike method path one two None e = refl
alike method path one two (Some api) e = rw e refl

pub returns : goal.returns
returns c = record { alike = alike; name = λ query path api verb named. refl }
