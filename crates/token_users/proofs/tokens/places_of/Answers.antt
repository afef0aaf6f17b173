use Rattle.std.proofs.Common.{◌<◌, length, string_bytes, Some, refl, sym, ap, ◌∙◌}
use Rattle.std.proofs.lemmas.Map.Text.{btree_map_updates_text}
use Rattle.std.proofs.lemmas.Str.{is_utf8-from_IsUtf8}
use Rattle.std.specs.Str.{is_utf8}
use Rattle.token_users.specs.Places.{last_place}
use Rattle.token_users.proofs.PlaceLemmas.{placed, texts_more}
use Rattle.token_users.proofs.tokens.places_of.Goals as goal

pub loop-i-init : goal.loop-i-init
unfolding last_place
loop-i-init c = record { found = λ q. rw c.new-places.ensures.empty refl; texts = tt }

pub loop-i-preserved : goal.loop-i-preserved
loop-i-preserved c =
    let records = c.args.records.now in
    let i = c.loop-i.i in
    let r = c.index-records-i.result in
    let within : i < length records = c.loop-i-test.true in
    let token = c.as_str.ensures in
    let updated = btree_map_updates_text (string_bytes c.in_ok-token.token) c.loop-i.places c.insert.new.self (Some i) c.in_ok-insert.ensures.updates in
    record {
      found = λ q. placed i records r (string_bytes c.in_ok-token.token) q _ _ within (c.in_ok-token.ensures.ok ∙ token) (c.loop-i.invariant.found q) (updated q);
      texts = texts_more i records r within c.loop-i.invariant.texts (ap is_utf8 (sym token) ∙ is_utf8-from_IsUtf8 _ c.as_str.utf8);
    }
