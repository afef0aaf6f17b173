-- The lines that a sink keeps of exchanges are a part of all that these owe.
use Rattle.std.proofs.Common.{◌≡◌, ℕ, zero, suc, ◌+◌, Bool, true, false, List, [], ◌∷◌, ◌++◌, length, map, take, inl, refl, sym, ap, ◌∙◌, subst, append-nil, append_assoc}
use Rattle.std.specs.Prelude.{if◌then◌else◌}
use Rattle.std.proofs.lemmas.List.{map-append}
use Rattle.audit_core.specs.Offers.{Due, due_at, is_on, offers_due, sinks_on}
use Rattle.audit_core.specs.Owed.{fitted_lines, lines_in, owed}
use Rattle.audit_core.specs.declared.offers.OfferNote.{OfferNote}
use Rattle.audit_core.specs.declared.offers.Outcome.{Outcome}
use Rattle.audit_core.specs.declared.settings.Settings.{Settings}
use Rattle.audit_core.specs.declared.sinks.Sink.{Sink}
use Rattle.audit_core.specs.declared.sinks.Sink.TheVariants.{Log, Webhook}
use Rattle.bay_logs.specs.Woven.{IsPart, texts}
use Rattle.bay_logs.proofs.PartLemmas.{part_whole, part_append, part_trans}
use Rattle.connection_laws.specs.Whole.{offered_in, offered_of}
use Rattle.event_offers.specs.Taken.{count_in, is_for, kept_line, line_in, lines_for}
use Rattle.front_base.specs.Line.{Line}
use Rattle.front_base.specs.declared.stage.Stage.{Stage}
use Rattle.session_core.specs.declared.exchange.Exchange.{Exchange}
use Rattle.stage_event.specs.declared.event.Event.{Event}
use Rattle.truncate_backend.specs.Fits.{fitted}
use Rattle.truncate_backend.specs.Tries.{Try, done_of, lines_done, lines_of}
use Rattle.truncate_backend.specs.declared.fitted.Fit.{Fit}
use Rattle.truncate_backend.specs.declared.fitted.Fit.TheVariants as fit
use Rattle.truncate_backend.specs.declared.tries.TryAnswer.{TryAnswer}
use Rattle.truncate_backend.specs.declared.tries.TryAnswer.TheVariants as answers

-- the lines of what is due to a sink, whatever became of it
abbrev pub due_texts : Sink → List Due → List (List ℕ)
due_texts sink [] = []
due_texts sink (due ∷ dues) = if is_for sink due.sink then lines_in due.fit ++ due_texts sink dues else due_texts sink dues

-- all lines that exchanges owe
abbrev pub all_texts : Settings → List Exchange → List (List ℕ)
all_texts set [] = []
all_texts set (x ∷ xs) = fitted_lines set.max_event (owed x.decision x.facts) ++ all_texts set xs

-- ---- what was kept of what was due

kept_part : (b : Bool) (line : Line) → IsPart (texts (kept_line b line)) (line.bytes ∷ [])
kept_part true line = inl (refl, tt)
kept_part false line = tt

line_part : (keeps : Outcome → Bool) (bay before : ℕ) (written : Fit) (own : Outcome) → IsPart (texts (line_in keeps bay before written own)) (lines_in written)
line_part keeps bay before (fit.Whole bytes) own = kept_part (keeps own) (record { bay = bay; number = before; bytes = bytes })
line_part keeps bay before (fit.Stripped bytes) own = kept_part (keeps own) (record { bay = bay; number = before; bytes = bytes })
line_part keeps bay before (fit.TooLarge size) own = tt

part_if : (b : Bool) (u v w : List Line) (p q : List (List ℕ)) → IsPart (texts u) p → IsPart (texts v) q → IsPart (texts w) q
    → IsPart (texts (if b then u ++ v else w)) (if b then p ++ q else q)
part_if true u v w p q h k l =
    subst (λ (ls : List (List ℕ)). IsPart ls (p ++ q)) (sym (map-append (λ (x : Line). x.bytes) u v)) (part_append (texts u) (texts v) p q h k)
part_if false u v w p q h k l = l

kept_are_due : (keeps : Outcome → Bool) (sink : Sink) (bay before : ℕ) (dues : List Due) (notes : List OfferNote)
    → IsPart (texts (lines_for keeps sink bay before dues notes)) (due_texts sink dues)
kept_are_due keeps sink bay before [] notes = tt
kept_are_due keeps sink bay before (due ∷ dues) [] = tt
kept_are_due keeps sink bay before (due ∷ dues) (note ∷ notes) =
    part_if (is_for sink due.sink) (line_in keeps bay before due.fit note.outcome) (lines_for keeps sink bay (before + count_in due.fit) dues notes)
    (lines_for keeps sink bay before dues notes) (lines_in due.fit) (due_texts sink dues) (line_part keeps bay before due.fit note.outcome)
    (kept_are_due keeps sink bay (before + count_in due.fit) dues notes) (kept_are_due keeps sink bay before dues notes)

-- ---- what was due of what is owed

append_if : (b : Bool) (p x y z : List (List ℕ)) → x ≡ y ++ z → (if b then p ++ x else x) ≡ (if b then p ++ y else y) ++ z
append_if true p x y z e = ap (λ (ls : List (List ℕ)). p ++ ls) e ∙ sym (append_assoc p y z)
append_if false p x y z e = e

due_append : (sink : Sink) (a b : List Due) → due_texts sink (a ++ b) ≡ due_texts sink a ++ due_texts sink b
due_append sink [] b = refl
due_append sink (due ∷ a) b =
    append_if (is_for sink due.sink) (lines_in due.fit) (due_texts sink (a ++ b)) (due_texts sink a) (due_texts sink b) (due_append sink a b)

two_parts : (sink : Sink) (a b : List Due) (c d : List (List ℕ)) → IsPart (due_texts sink a) c → IsPart (due_texts sink b) d → IsPart (due_texts sink (a ++ b)) (c ++ d)
two_parts sink a b c d h k =
    subst (λ (ls : List (List ℕ)). IsPart ls (c ++ d)) (sym (due_append sink a b)) (part_append (due_texts sink a) (due_texts sink b) c d h k)

same_if : (b : Bool) (p x y : List (List ℕ)) → IsPart x y → IsPart (if b then p ++ x else x) (if b then p ++ y else y)
same_if true p x y h = part_append p x p y (part_whole p) h
same_if false p x y h = h

first_due : (sink : Sink) (count : ℕ) (dues : List Due) → IsPart (due_texts sink (take count dues)) (due_texts sink dues)
first_due sink zero dues = tt
first_due sink (suc count) [] = tt
first_due sink (suc count) (due ∷ dues) =
    same_if (is_for sink due.sink) (lines_in due.fit) (due_texts sink (take count dues)) (due_texts sink dues) (first_due sink count dues)

-- of one event at most one of its offers is to the sink
alone : (lines : List (List ℕ)) → IsPart (lines ++ []) lines
alone lines = subst (λ (ls : List (List ℕ)). IsPart ls lines) (sym (append-nil lines)) (part_whole lines)

abbrev sinks_if : Bool → Bool → List Sink
sinks_if log hook = (if log then Log ∷ [] else []) ++ (if hook then Webhook ∷ [] else [])

sink_part : (sink : Sink) (log hook : Bool) (stage : Stage) (written : Fit)
    → IsPart (due_texts sink (map (λ (s : Sink). record { sink = s; stage = stage; fit = written }) (sinks_if log hook))) (lines_in written)
sink_part Log true true stage written = alone (lines_in written)
sink_part Log true false stage written = alone (lines_in written)
sink_part Log false true stage written = tt
sink_part Log false false stage written = tt
sink_part Webhook true true stage written = alone (lines_in written)
sink_part Webhook true false stage written = tt
sink_part Webhook false true stage written = alone (lines_in written)
sink_part Webhook false false stage written = tt

offers_part : (set : Settings) (sink : Sink) (events : List Event) → IsPart (due_texts sink (offers_due set events)) (fitted_lines set.max_event events)
offers_part set sink [] = tt
offers_part set sink (e ∷ es) =
    two_parts sink (map (due_at set e) (sinks_on set)) (offers_due set es) (lines_in (fitted e set.max_event)) (fitted_lines set.max_event es)
    (sink_part sink (is_on set.log) (is_on set.hook) e.stage (fitted e set.max_event)) (offers_part set sink es)

offered_part : (set : Settings) (sink : Sink) (xs : List Exchange) → IsPart (due_texts sink (offered_in set xs)) (all_texts set xs)
offered_part set sink [] = tt
offered_part set sink (x ∷ xs) =
    let dues = offers_due set (owed x.decision x.facts) in
    let own = fitted_lines set.max_event (owed x.decision x.facts) in
    two_parts sink (offered_of set x) (offered_in set xs) own (all_texts set xs)
    (part_trans (due_texts sink (offered_of set x)) (due_texts sink dues) own (first_due sink (length x.offers) dues)
    (offers_part set sink (owed x.decision x.facts)))
    (offered_part set sink xs)

pub kept_of_all : (keeps : Outcome → Bool) (set : Settings) (sink : Sink) (bay before : ℕ) (xs : List Exchange) (notes : List OfferNote)
    → IsPart (texts (lines_for keeps sink bay before (offered_in set xs) notes)) (all_texts set xs)
kept_of_all keeps set sink bay before xs notes =
    part_trans (texts (lines_for keeps sink bay before (offered_in set xs) notes)) (due_texts sink (offered_in set xs)) (all_texts set xs)
    (kept_are_due keeps sink bay before (offered_in set xs) notes) (offered_part set sink xs)

-- ---- what was written of what was tried

done_part : (answer : TryAnswer) (lines : List Line) → IsPart (texts (lines_done answer lines)) (texts lines)
done_part answers.Done lines = part_whole (texts lines)
done_part answers.Port lines = tt
done_part (answers.Refused code) lines = tt
done_part answers.BadAnswer lines = tt

pub written_part : (tries : List Try) → IsPart (texts (done_of tries)) (texts (lines_of tries))
written_part [] = tt
written_part (t ∷ ts) =
    let own = lines_done t.note.answer t.lines in
    subst (λ (ls : List (List ℕ)). IsPart ls (texts (t.lines ++ lines_of ts))) (sym (map-append (λ (x : Line). x.bytes) own (done_of ts)))
    (subst (λ (ls : List (List ℕ)). IsPart (texts own ++ texts (done_of ts)) ls) (sym (map-append (λ (x : Line). x.bytes) t.lines (lines_of ts)))
    (part_append (texts own) (texts (done_of ts)) (texts t.lines) (texts (lines_of ts)) (done_part t.note.answer t.lines) (written_part ts)))
