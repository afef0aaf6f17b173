-- All lines that a bay's exchanges owe conform, and so do those of many bays.
use Rattle.std.proofs.Common.{◌≡◌, ℕ, ◌+◌, ◌<◌, Bool, List, [], ◌∷◌, ◌++◌, sym, ap, ◌∙◌, arith, subst}
use Rattle.std.specs.List.{AllByRecursion, Contains}
use Rattle.audit_check.specs.Conforms.{AllConform}
use Rattle.audit_check.specs.Lines.{HasStage}
use Rattle.audit_check.specs.OwnLines.{AreOfFile, AreOfOthers, IsLineOf, IsRecorded}
use Rattle.audit_core.specs.Owed.{fitted_lines, owed}
use Rattle.audit_core.specs.declared.offers.Outcome.{Outcome}
use Rattle.audit_core.specs.declared.settings.Settings.{Settings}
use Rattle.audit_core.specs.declared.sinks.Sink.{Sink}
use Rattle.audit_core.specs.declared.stamp.Stamp.{Stamp}
use Rattle.bay_logs.specs.Noted.{AreNoted, IsNoted}
use Rattle.bay_logs.specs.Woven.{AreWoven, IsPart, texts}
use Rattle.bay_logs.proofs.KeptLemmas.{all_texts, kept_of_all}
use Rattle.bay_logs.proofs.PartLemmas.{all_at, all_part, both_conform, part_conforms, stage_cases}
use Rattle.bay_logs.proofs.WeaveLemmas.{IsLogOf, IsOfBay, OneEvent, woven_conform}
use Rattle.connection_laws.specs.Whole.{offered_in, offers_in}
use Rattle.event_offers.specs.Taken.{lines_for}
use Rattle.fact_ranges.specs.InRange.{AreInRange}
use Rattle.front_base.specs.AuditId.{AuditId}
use Rattle.front_base.specs.Line.{Line}
use Rattle.front_base.specs.declared.stage.Stage.{Stage}
use Rattle.http_edge.specs.declared.request.Request.{Request}
use Rattle.policy_rules.specs.declared.decision.Decision.{Decision}
use Rattle.session_core.specs.declared.exchange.Exchange.{Exchange}
use Rattle.stage_event.specs.declared.event.Event.{Event}
use Rattle.stage_event.specs.declared.facts.Facts.{Facts}

-- the laws of lines of a request
abbrev pub LinesConform : Type 0
LinesConform = (set : Settings) (stamp : Stamp) (r : Request) (d : Decision) (facts : Facts) (max : ℕ) (before : List (List ℕ))
    → AreOfFile set.tokens → IsRecorded set stamp r d facts → AreInRange facts → AreOfOthers before facts.id → AllConform set.policy before (fitted_lines max (owed d facts))

abbrev pub LinesAreOwn : Type 0
LinesAreOwn = (set : Settings) (stamp : Stamp) (r : Request) (d : Decision) (facts : Facts) (max : ℕ)
    → AreOfFile set.tokens → IsRecorded set stamp r d facts → AreInRange facts → AllByRecursion (IsLineOf facts.id) (fitted_lines max (owed d facts))

-- the requests of lines have lower numbers
abbrev AreBefore : List (List ℕ) → ℕ → Type 0
AreBefore lines number = (id : AuditId) (stage : Stage) → HasStage lines id stage → id.number < number

never : (m n : ℕ) → m ≡ n → m < n → ⊥
never m n e h = absurd (omega (arith, e, h))

up : (m n : ℕ) → m < n → m < n + 1
up m n h = omega (arith, h)

just_below : (m n : ℕ) → m ≡ n → m < n + 1
just_below m n e = omega (arith, e)

all_append : (P : List ℕ → Type 0) (a b : List (List ℕ)) → AllByRecursion P a → AllByRecursion P b → AllByRecursion P (a ++ b)
all_append P [] b h k = k
all_append P (x ∷ a) b h k = (h.0, all_append P a b h.1 k)

of_its_bay : (id : AuditId) (bay : ℕ) (lines : List (List ℕ)) → id.bay ≡ bay → AllByRecursion (IsLineOf id) lines → AllByRecursion (IsOfBay bay) lines
of_its_bay id bay [] e h = tt
of_its_bay id bay (line ∷ lines) e h =
    let own = h.0 in
    (record { event = own.event; line = own.line; bay_is = ap (λ (i : AuditId). i.bay) own.id_is ∙ e }, of_its_bay id bay lines e h.1)

module _ (one : OneEvent) (conform : LinesConform) (own : LinesAreOwn) (set : Settings) (tokens : AreOfFile set.tokens) (boot bay : ℕ) where
  id_of : (number : ℕ) (x : Exchange) → IsNoted set boot bay number x → x.facts.id ≡ record { boot = boot; bay = bay; number = number }
  id_of number x h = ap (λ (f : Facts). f.id) h.recorded.facts_are ∙ h.id_is

  number_of : (number : ℕ) (x : Exchange) → IsNoted set boot bay number x → x.facts.id.number ≡ number
  number_of number x h = ap (λ (i : AuditId). i.number) (id_of number x h)

  next_before : (number : ℕ) (id : AuditId) (before lines : List (List ℕ)) → AreBefore before number → AllByRecursion (IsLineOf id) lines → id.number ≡ number
      → AreBefore (before ++ lines) (number + 1)
  next_before number id before lines low mine e = λ other stage has.
      stage_cases (other.number < number + 1) before lines other stage has (λ old. up other.number number (low other stage old))
      (λ new.
      let line = all_at (IsLineOf id) lines new.text mine new.contained in
      let is : line.event ≡ new.event = one line.event new.event new.text line.line new.line in
      let same : other ≡ id = sym new.of_it ∙ (sym (ap (λ (v : Event). v.id) is) ∙ line.id_is) in
      just_below other.number number (ap (λ (i : AuditId). i.number) same ∙ e))

  own_of : (number : ℕ) (x : Exchange) → IsNoted set boot bay number x
      → AllByRecursion (IsLineOf x.facts.id) (fitted_lines set.max_event (owed x.decision x.facts))
  own_of number x h = own set h.stamp x.request x.decision x.facts set.max_event tokens h.recorded h.in_range

  owed_after : (number : ℕ) (xs : List Exchange) (before : List (List ℕ)) → AreNoted set boot bay number xs → AreBefore before number
      → AllConform set.policy before (all_texts set xs)
  owed_after number [] before noted low = tt
  owed_after number (x ∷ xs) before noted low =
      let mine = fitted_lines set.max_event (owed x.decision x.facts) in
      let h = noted.0 in
      both_conform set.policy before mine (all_texts set xs)
      (conform set h.stamp x.request x.decision x.facts set.max_event before tokens h.recorded h.in_range
      (λ stage has. never x.facts.id.number number (number_of number x h) (low x.facts.id stage has)))
      (owed_after (number + 1) xs (before ++ mine) noted.1
      (next_before number x.facts.id before mine low (own_of number x h) (number_of number x h)))

  owed_are_own : (number : ℕ) (xs : List Exchange) → AreNoted set boot bay number xs → AllByRecursion (IsOfBay bay) (all_texts set xs)
  owed_are_own number [] noted = tt
  owed_are_own number (x ∷ xs) noted =
      let mine = fitted_lines set.max_event (owed x.decision x.facts) in
      all_append (IsOfBay bay) mine (all_texts set xs)
      (of_its_bay x.facts.id bay mine (ap (λ (i : AuditId). i.bay) (id_of number x noted.0)) (own_of number x noted.0))
      (owed_are_own (number + 1) xs noted.1)

  bay_log : (xs : List Exchange) (lines : List (List ℕ)) → AreNoted set boot bay 0 xs → IsPart lines (all_texts set xs) → IsLogOf set.policy bay [] lines
  bay_log xs lines noted part = record {
    conforms = part_conforms set.policy lines (all_texts set xs) (owed_after 0 xs [] noted (λ id stage has. none has.text has.contained)) part;
    own = all_part (IsOfBay bay) lines (all_texts set xs) (owed_are_own 0 xs noted) part;
  }
    where
      none : {A : Type 0} (text : List ℕ) → Contains [] text → A
      none text h = absurd (let small = h.1 in omega arith)

pub lines_of_bays : OneEvent → LinesConform → LinesAreOwn → (set : Settings) → AreOfFile set.tokens → (boot : ℕ) (keeps : Outcome → Bool) (sink : Sink) (xs : ℕ → List Exchange) (lines : List Line)
    → ((bay : ℕ) → AreNoted set boot bay 0 (xs bay)) → AreWoven keeps set sink xs lines → AllConform set.policy [] (texts lines)
lines_of_bays one conform own set tokens boot keeps sink xs lines noted woven =
    woven_conform one set.policy lines
    (λ bay. subst (λ (ls : List Line). IsLogOf set.policy bay [] (texts ls)) (sym (woven bay))
    (bay_log one conform own set tokens boot bay (xs bay) (texts (lines_for keeps sink bay 0 (offered_in set (xs bay)) (offers_in (xs bay)))) (noted bay)
    (kept_of_all keeps set sink bay 0 (xs bay) (offers_in (xs bay)))))
