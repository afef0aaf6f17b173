use Rattle.std.proofs.Common.{◌≡◌, ℕ, List, Ok, true, refl, ap, sym, ◌∙◌, inl, inr, subst}
use Rattle.std.specs.Prelude.{codes}
use Rattle.audit_core.specs.Errand.{info_in, user_in, asker, act_in}
use Rattle.audit_core.specs.Exchange.{decision_in}
use Rattle.audit_core.specs.declared.settings.Settings.{Settings}
use Rattle.audit_core.specs.declared.stamp.Stamp.{Stamp}
use Rattle.fact_ranges.specs.InRange.{AreInRange}
use Rattle.http_edge.specs.declared.request.Request.{Request}
use Rattle.http_head.specs.Name.{first_value}
use Rattle.http_head.specs.declared.request.Head.{Head}
use Rattle.policy_rules.specs.Policy.{first}
use Rattle.policy_rules.specs.declared.decision.Decision.{Decision}
use Rattle.request_info.specs.Request.{audit_info}
use Rattle.stage_event.specs.Due.{request_show, reply_show}
use Rattle.stage_event.specs.declared.facts.Facts.{Facts}
use Rattle.token_users.specs.Carried.{IsCarriedUser}
use Rattle.token_users.specs.File.{file_records}
use Rattle.token_users.specs.Who.{user_of, who}
use Rattle.token_users.specs.declared.record.Record.{Record}
use Rattle.audit_reader.specs.Plain.{somebody_or_none}
use Rattle.audit_check.specs.Agreement.{acting_in_place, user_in_place}
use Rattle.audit_check.specs.OwnLines.{AreOfFile, IsRecorded}
use Rattle.audit_check.proofs.ActLemmas.{acts_in_place, acts_somebody}
use Rattle.audit_check.proofs.OwnLemmas.{FitLaws, KeptLaws, Recorded, shown, shown_of_any, own_conform, own_are_of}
use Rattle.audit_check.proofs.UserLemmas.{carried_in_place, nobody_in_place}
use Rattle.audit_check.proofs.laws.recorded_lines.Goals as goal

-- the law of users that requests count as
abbrev CarriesUsers : Type 0
CarriesUsers = (bytes : List ℕ) → (records : List Record) → file_records bytes ≡ Ok records → (head : Head)
    → IsCarriedUser (user_of (who records head))

placed : CarriesUsers → (records : List Record) → AreOfFile records → (head : Head) → user_in_place (user_of (who records head)) ≡ true
placed law records (inl none) head =
    subst (λ (rs : List Record). user_in_place (user_of (who rs head)) ≡ true) (sym none)
    (nobody_in_place (first_value (codes "authorization") head.headers))
placed law records (inr file) head = carried_in_place (user_of (who records head)) (law file.0 records file.1 head)

known : KeptLaws → CarriesUsers → (set : Settings) (stamp : Stamp) (r : Request) (d : Decision) (facts : Facts) → AreOfFile set.tokens
    → IsRecorded set stamp r d facts → AreInRange facts → Recorded set.policy r.head.method d facts
unfolding info_in user_in decision_in act_in
known law users set stamp r d facts tokens h in_range =
    let is = h.facts_are in
    record {
      info = ap (λ f. f.info) is ∙ ap (audit_info r.head.method) (sym (ap (λ f. f.target) is));
      decision = h.decision_is ∙ sym (ap (λ f. first set.policy f.user f.info) is);
      acting = ap (λ f. somebody_or_none f.acting) is ∙ acts_somebody (asker set r) r.head;
      user_placed =
          ap (λ f. user_in_place f.user) is
          ∙ placed users set.tokens tokens r.head;
      acting_placed = ap (λ f. acting_in_place f.user f.acting) is ∙ acts_in_place (asker set r) r.head;
      request = shown law (request_show (decision_in set r).level (decision_in set r).omit_managed (info_in r)) r.body facts.request h.request_is;
      reply = shown_of_any law (reply_show (decision_in set r).level (decision_in set r).omit_managed (info_in r)) facts.reply h.reply_is;
      in_range = in_range;
    }

pub returns : goal.returns
returns c =
    let kept : KeptLaws = record {
      stands = c.kept_is_json.ensures.stands;
      once = c.mended_once.ensures.once;
      order = c.mended_once.ensures.order;
    } in
    let fits : FitLaws = record {
      whole = c.what_fits.ensures.whole;
      stripped = c.what_fits.ensures.stripped;
      bare = c.no_objects_no_strip.ensures;
    } in
    let users : CarriesUsers = c.users_are_carried.ensures.counted in
    record {
      conform = λ set stamp r d facts max before tokens h in_range others.
          own_conform c.reads_back.ensures.one fits c.the_method_gives_the_verb_alone.ensures set.policy r.head.method d.level d facts max before refl
          (known kept users set stamp r d facts tokens h in_range) others;
      own = λ set stamp r d facts max tokens h in_range.
          own_are_of fits c.the_method_gives_the_verb_alone.ensures set.policy r.head.method d.level d facts max refl
          (known kept users set stamp r d facts tokens h in_range);
    }
