use Rattle.std.proofs.Common.{◌≡◌, ℕ, ◌<◌, List, length, set, cond, Option, Some, ap, ◌∙◌, arith}
use Rattle.std.specs.BTreeMap.{is_at}
use Rattle.std.specs.Map.{lookup}
use Rattle.front_base.specs.declared.stage.Stage.{Stage}
use Rattle.audit_check.specs.Seen.{Seen, block_cmp, block_of, place_of, stages_of}
use Rattle.audit_check.specs.declared.block.Block.{Block}
use Rattle.audit_check.proofs.SeenLemmas.{noted, whole_noted}
use Rattle.audit_check.proofs.seen.Seen.note.Goals as goal

pub returns-clause-ok : goal.returns-clause-ok
returns-clause-ok c =
    let old = c.args.self.now in
    let id = c.args.id in
    let stage = Some c.args.stage in
    let inside = c.self.inside.blocks.entries in
    let block : c.block_of-block.result ≡ block_of id = c.block_of-block.ensures in
    let stages : c.stages-stages.result ≡ stages_of old (block_of id) = c.stages-stages.ensures.value ∙ ap (stages_of old) block in
    let place : c.place_of.result ≡ place_of id = c.place_of.ensures.value in
    let within : place_of id < length (stages_of old (block_of id)) =
    omega (arith, c.place_of.ensures.within, place, ap length stages, c.stages-stages.ensures.whole) in
    noted old (record { blocks = c.insert.new.self.entries }) id c.args.stage within
    (λ b.
    c.in_ok-insert.ensures.updates.0 b
    ∙ ap (λ (k : Block). cond (is_at (block_cmp k) b) (Some (set c.stages-stages.result c.place_of.result stage)) (lookup (is_at (block_cmp b)) inside)) block
    ∙ ap (λ (s : List (Option Stage)). cond (is_at (block_cmp (block_of id)) b) (Some (set s c.place_of.result stage)) (lookup (is_at (block_cmp b)) inside)) stages
    ∙ ap (λ (n : ℕ). cond (is_at (block_cmp (block_of id)) b) (Some (set (stages_of old (block_of id)) n stage)) (lookup (is_at (block_cmp b)) inside)) place
    ∙ ap (λ (v : Seen). cond (is_at (block_cmp (block_of id)) b) (Some (set (stages_of old (block_of id)) (place_of id) stage)) (lookup (is_at (block_cmp b)) v.blocks)) c.self.view_is)

pub invariant_of-self-2 : goal.invariant_of-self-2
invariant_of-self-2 c =
    whole_noted c.self.inside.blocks.entries c.insert.new.self.entries c.block_of-block.result c.stages-stages.result c.place_of.result (Some c.args.stage) c.self.invariant c.stages-stages.ensures.whole
    c.in_ok-insert.ensures.updates.0
