use Rattle.std.proofs.Common.{◌<◌, length, string_bytes, arith, Some, refl, ◌∙◌, ap}
use Rattle.std.proofs.lemmas.Map.Text.{btree_map_updates_text}
use Rattle.service_endpoints.specs.Find.{last_place}
use Rattle.service_endpoints.proofs.FindLemmas.{placed}
use Rattle.service_endpoints.proofs.endpoints.Endpoints.new.Goals as goal

pub loop-i-init : goal.loop-i-init
unfolding last_place
loop-i-init c = λ q. rw c.new-places.ensures.empty refl

pub loop-i-preserved : goal.loop-i-preserved
loop-i-preserved c =
    let records = c.args.records.items in
    let i = c.loop-i.i in
    let r = c.index.result.now in
    let within : i < length records = omega (arith, c.args.records.ok, c.len-i-end.ensures, c.loop-i-test.true) in
    let key = c.as_str.ensures ∙ ap (λ x. x.key) c.index.ensures in
    let updated = btree_map_updates_text (string_bytes c.in_ok-key.key) c.loop-i.places c.insert.new.self (Some i) c.in_ok-insert.ensures.updates in
    λ q. placed i records r (string_bytes c.in_ok-key.key) q _ _ within (c.in_ok-key.ensures.ok ∙ key) (c.loop-i.invariant q) (updated q)
