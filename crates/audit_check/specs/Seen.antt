-- What is remembered of the lines that were accepted: the last stage of each request. Requests of one bay that have numbers
-- next to each other are remembered together.
use Rattle.std.specs.Prelude.{◌≡◌, ℕ, ◌/◌, ◌%◌, ◌==◌, ◌&&◌, Bool, List, Option, Some, None, get_or, length, replicate}
use Rattle.std.specs.BTreeMap.{is_at}
use Rattle.std.specs.Map.{lookup}
use Rattle.std.specs.Ordering.{ordering_then, nat_cmp}
use Rattle.std.specs.declared.cmp.Ordering.{Ordering}
use Rattle.front_base.specs.AuditId.{AuditId}
use Rattle.front_base.specs.declared.stage.Stage.{Stage}
use Rattle.policy_rules.specs.declared.policy.Policy.{Policy}
use Rattle.audit_check.specs.declared.block.Block.{Block}

abbrev pub is_same : AuditId → AuditId → Bool
is_same a b = (a.boot == b.boot) && ((a.bay == b.bay) && (a.number == b.number))

-- 64 requests, and which of them it is
abbrev pub block_of : AuditId → Block
block_of id = record { boot = id.boot; bay = id.bay; index = id.number / 64 }

abbrev pub place_of : AuditId → ℕ
place_of id = id.number % 64

abbrev pub block_cmp : Block → Block → Ordering
block_cmp a b = ordering_then (nat_cmp a.boot b.boot) (ordering_then (nat_cmp a.bay b.bay) (nat_cmp a.index b.index))

-- what contracts see: of each block the last stage of each of its requests, if one was seen
pub record Seen : Type 0 where
  pub blocks : List (Block × List (Option Stage))

abbrev pub stages_in : Option (List (Option Stage)) → List (Option Stage)
stages_in None = replicate 64 None
stages_in (Some stages) = stages

-- each block has all its requests
abbrev pub AreWhole : List (Block × List (Option Stage)) → Type 0
AreWhole blocks = (b : Block) → length (stages_in (lookup (is_at (block_cmp b)) blocks)) ≡ 64

abbrev pub stages_of : Seen → Block → List (Option Stage)
stages_of seen block = stages_in (lookup (is_at (block_cmp block)) seen.blocks)

-- the last stage of a request, if one was seen
abbrev pub last_seen : Seen → AuditId → Option Stage
last_seen seen id = get_or (stages_of seen (block_of id)) (place_of id) None

-- what contracts see of a checker
pub record Checked : Type 0 where
  pub policy : Policy
  pub seen : Seen
