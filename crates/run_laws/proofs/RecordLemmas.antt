-- What a record gives back.
use Rattle.std.proofs.Common.{◌≡◌, ◌==◌, ◌≤◌, ◌+◌, ◌⊎◌, inl, inr, ℕ, zero, suc, Bool, true, false, cond, if◌then◌else◌, List, [], ◌∷◌, ◌++◌, length, map, take, drop, slice_get, Option, None, Some, IfSome, All, refl, sym, ap, ap₂, ◌∙◌, subst, arith}
use Rattle.std.proofs.Math.Seq.{take-append_seam, drop-append_seam}
use Rattle.std.proofs.lemmas.Bool.Decides.{nat_tests}
use Rattle.std.proofs.lemmas.List.Elements.{All-head, All-tail}
use Rattle.std.proofs.lemmas.Option.{slice_get_past}
use Rattle.std.specs.Prelude.{option_map}
use Rattle.audit_core.specs.Offers.{Due}
use Rattle.audit_core.specs.declared.offers.OfferNote.{OfferNote}
use Rattle.audit_core.specs.declared.offers.Outcome.{Outcome}
use Rattle.audit_core.specs.declared.settings.Settings.{Settings}
use Rattle.audit_core.specs.declared.sinks.Sink.{Sink}
use Rattle.audit_core.specs.declared.sinks.SinkMode.{SinkMode}
use Rattle.audit_core.specs.declared.sinks.SinkMode.TheVariants.{Off, Batch, Blocking, Strict}
use Rattle.connection_laws.specs.Whole.{offered_in, offers_in}
use Rattle.event_offers.specs.Taken.{is_for, is_taken, is_tried, kept_line, line_in, count_in, lines_for}
use Rattle.front_base.specs.Line.{Line}
use Rattle.front_plants.specs.Fresh.{SinkOpens, SentAll}
use Rattle.serve_bays.specs.declared.options.RunOptions.{RunOptions}
use Rattle.role_threads.specs.Lists.{AllPairs}
use Rattle.run_laws.specs.Record.{AreGiven, SinkRecord, WasGiven, bytes_by, by_turns, cut_bytes, drained, is_put, notes_of, sink_record, sink_records, sinks_of, turns_of}
use Rattle.run_laws.specs.Told.{BatchedLines, BatchesTell, TriedLines, TriesTell, lines_by}
use Rattle.serve_roles.specs.Doors.{BayHandles}
use Rattle.serve_roles.specs.declared.bay_end.BayEnd.{BayEnd}
use Rattle.session_core.specs.declared.exchange.Exchange.{Exchange}
use Rattle.shared_queue.specs.Bays.{of_bay}
use Rattle.sink_lanes.specs.declared.ending.SinkEnd.{SinkEnd}
use Rattle.truncate_backend.specs.Tries.{IsNoted, SentAfter, SinkTells, Try, lines_of, sent_bytes}
use Rattle.truncate_backend.specs.declared.fitted.Fit.{Fit}
use Rattle.truncate_backend.specs.declared.fitted.Fit.TheVariants as fit
use Rattle.truncate_backend.specs.declared.sink.BatchSink as sinks

-- ---- lines by turns

own_first : (x : Line) (xs : List Line) → of_bay x.bay (x ∷ xs) ≡ x ∷ of_bay x.bay xs
own_first x xs = grind (arith, nat_tests)

first_of : (x : Line) (part xs : List Line) → part ≡ x ∷ xs → take 1 part ≡ x ∷ []
first_of x part xs e = ap (take 1) e ∙ take-append_seam (x ∷ []) xs

rest_of : (x : Line) (part xs : List Line) → part ≡ x ∷ xs → drop 1 part ≡ xs
rest_of x part xs e = ap (drop 1) e ∙ drop-append_seam (x ∷ []) xs

rest_if : (b : Bool) (x : Line) (part xs : List Line) → part ≡ cond b (x ∷ xs) xs → (if b then drop 1 part else part) ≡ xs
rest_if true x part xs e = rest_of x part xs e
rest_if false x part xs e = e

-- the lines of many bays, each with its part
pub by_turns_is : (ls : List Line) (parts : ℕ → List Line) → ((bay : ℕ) → parts bay ≡ of_bay bay ls) → by_turns (turns_of ls) parts ≡ ls
by_turns_is [] parts h = refl
by_turns_is (l ∷ ls) parts h =
    ap₂ (λ a b. a ++ b) (first_of l (parts l.bay) (of_bay l.bay ls) (h l.bay ∙ own_first l ls))
    (by_turns_is ls (λ k. if l.bay == k then drop 1 (parts k) else parts k)
    (λ k. rest_if (l.bay == k) l (parts k) (of_bay k ls) (h k)))

-- lines of one bay
abbrev pub AreOf : ℕ → List Line → Type 0
AreOf bay [] = Unit {0}
AreOf bay (l ∷ ls) = (l.bay ≡ bay) × AreOf bay ls

own_test : (l : Line) (bay : ℕ) (part xs : List Line) → l.bay ≡ bay → part ≡ l ∷ xs → (if l.bay == bay then drop 1 part else part) ≡ xs
own_test l bay part xs e f =
    let yes : (l.bay == bay) ≡ true = grind (arith, nat_tests) in
    ap (λ b. if b then drop 1 part else part) yes ∙ rest_of l part xs f

pub own_turns : (bay : ℕ) (ls : List Line) (parts : ℕ → List Line) → AreOf bay ls → parts bay ≡ ls → by_turns (turns_of ls) parts ≡ ls
own_turns bay [] parts own e = refl
own_turns bay (l ∷ ls) parts own e =
    ap₂ (λ a b. a ++ b) (first_of l (parts l.bay) ls (ap parts own.0 ∙ e))
    (own_turns bay ls (λ k. if l.bay == k then drop 1 (parts k) else parts k) own.1 (own_test l bay (parts bay) ls own.0 e))

-- ---- the lines of a bay's offers are its own

more_of : (bay : ℕ) (ls ks : List Line) → AreOf bay ls → AreOf bay ks → AreOf bay (ls ++ ks)
more_of bay [] ks h g = g
more_of bay (l ∷ ls) ks h g = (h.0, more_of bay ls ks h.1 g)

kept_of : (b : Bool) (l : Line) → AreOf l.bay (kept_line b l)
kept_of true l = (refl, tt)
kept_of false l = tt

line_of : (keeps : Outcome → Bool) (bay before : ℕ) (written : Fit) (own : Outcome) → AreOf bay (line_in keeps bay before written own)
line_of keeps bay before (fit.Whole bytes) own = kept_of (keeps own) (record { bay = bay; number = before; bytes = bytes })
line_of keeps bay before (fit.Stripped bytes) own = kept_of (keeps own) (record { bay = bay; number = before; bytes = bytes })
line_of keeps bay before (fit.TooLarge size) own = tt

either_of : (mine : Bool) (bay : ℕ) (ls ks : List Line) → AreOf bay ls → AreOf bay ks → AreOf bay (if mine then ls else ks)
either_of true bay ls ks h g = h
either_of false bay ls ks h g = g

lines_of_bay : (keeps : Outcome → Bool) (sink : Sink) (bay before : ℕ) (dues : List Due) (notes : List OfferNote)
    → AreOf bay (lines_for keeps sink bay before dues notes)
lines_of_bay keeps sink bay before [] notes = tt
lines_of_bay keeps sink bay before (due ∷ dues) [] = tt
lines_of_bay keeps sink bay before (due ∷ dues) (note ∷ notes) =
    either_of (is_for sink due.sink) bay (line_in keeps bay before due.fit note.outcome ++ lines_for keeps sink bay (before + count_in due.fit) dues notes)
    (lines_for keeps sink bay before dues notes)
    (more_of bay (line_in keeps bay before due.fit note.outcome) (lines_for keeps sink bay (before + count_in due.fit) dues notes)
    (line_of keeps bay before due.fit note.outcome) (lines_of_bay keeps sink bay (before + count_in due.fit) dues notes))
    (lines_of_bay keeps sink bay before dues notes)

-- ---- cut into tries

cut_is : (text : List Line → List ℕ) (ts : List Try) → All (IsNoted text) ts → cut_bytes text (notes_of ts) (lines_of ts) ≡ sent_bytes text ts
cut_is text [] h = refl
cut_is text (t ∷ ts) h =
    let own = (All-head (IsNoted text) t ts h).lines in
    ap₂ (λ ls rest. take t.note.sent (text ls) ++ rest)
    (ap (λ n. take n (t.lines ++ lines_of ts)) own ∙ take-append_seam t.lines (lines_of ts))
    (ap (cut_bytes text (notes_of ts)) (ap (λ n. drop n (t.lines ++ lines_of ts)) own ∙ drop-append_seam t.lines (lines_of ts))
    ∙ cut_is text ts (All-tail (IsNoted text) t ts h))

-- where the turns give the lines, the record gives the bytes
record_is : (text : List Line → List ℕ) (parts : ℕ → List Line) (ts : List Try) → All (IsNoted text) ts
    → by_turns (turns_of (lines_of ts)) parts ≡ lines_of ts
    → sent_bytes text ts ≡ cut_bytes text (notes_of ts) (by_turns (turns_of (lines_of ts)) parts)
record_is text parts ts h e = sym (cut_is text ts h) ∙ ap (cut_bytes text (notes_of ts)) (sym e)

-- ---- what one sink was given

of_told : (text : List Line → List ℕ) (bytes : SinkRecord → List ℕ) (given : List ℕ) (o : Option (List Try)) → SentAfter [] text (Some (Some given)) o
    → IfSome o (λ ts. sent_bytes text ts ≡ bytes (sink_record ts))
    → IfSome (option_map bytes (option_map sink_record o)) (λ own. given ≡ own)
of_told text bytes given None s f = tt
of_told text bytes given (Some ts) s f = s ∙ f

given_is : (opens : SinkOpens) (tells : SinkTells) (bytes : SinkRecord → List ℕ) → SentAll opens tells
    → IfSome tells.tries (λ ts. sent_bytes opens.text ts ≡ bytes (sink_record ts))
    → WasGiven opens.sent tells (option_map bytes (option_map sink_record tells.tries))
given_is opens tells bytes sent f = λ opened given e.
    of_told opens.text bytes given tells.tries (subst (λ z. SentAfter [] opens.text z tells.tries) e (sent.bytes opened)) f

pairs_by : {S B C : Type 0} (R : S → C → Type 0) (g : S → B) (f : B → C) (all : List S) → ((k : ℕ) → IfSome (slice_get all k) (λ s. R s (f (g s))))
    → AllPairs R all (map f (map g all))
pairs_by R g f [] h = tt
pairs_by R g f (s ∷ all) h = (h zero, pairs_by R g f all (λ k. h (suc k)))

if_tries : (o : Option (List Try)) (ts : List Try) (P : List Try → Type 0) → IfSome o (λ own. own ≡ ts) → P ts → IfSome o P
if_tries None ts P h p = tt
if_tries (Some own) ts P h p = subst P (sym h) p

both_tries : (o : Option (List Try)) (P Q R : List Try → Type 0) → ((ts : List Try) → P ts → Q ts → R ts) → IfSome o P → IfSome o Q → IfSome o R
both_tries None P Q R f g h = tt
both_tries (Some ts) P Q R f g h = f ts g h

past_end : {A : Type 0} (xs : List A) (k : ℕ) → slice_get xs k ≡ None → length xs ≤ k
past_end [] k e = omega arith
past_end (x ∷ xs) zero e = absurd cc
past_end (x ∷ xs) (suc k) e = let h = past_end xs k e in omega arith

-- ---- the sinks of a run

module _ {R L N W H K Y D C S : Type 0} (h : BayHandles R L N W H K Y D C) (s : sinks.Ghosts S) (opens : SinkOpens) (set : Settings) (sink : Sink)
    (options : RunOptions) (allots : List ℕ) (xs : ℕ → List Exchange) (bays : List (BayEnd R L K Y D)) (end : SinkEnd S K)
    (count : length bays ≡ options.bays) (none : (k : ℕ) → slice_get bays k ≡ None → xs k ≡ []) where
  -- ---- in mode batch

  parts_are : (b : BatchesTell h s opens set sink options allots xs bays end) (k : ℕ) (o : Option (BayEnd R L K Y D)) → slice_get bays k ≡ o
      → IfSome o (BatchedLines h set sink options.buffer allots (of_bay k (lines_of b.tries)) (xs k) k)
      → lines_by is_taken set sink (xs k) k ≡ of_bay k (lines_of b.tries)
  parts_are b k None e g =
      ap (λ ys. lines_by is_taken set sink ys k) (none k e) ∙ sym (b.others k (subst (λ n. n ≤ k) count (past_end bays k e)))
  parts_are b k (Some x) e g = sym g.lines

  batch_sent : (b : BatchesTell h s opens set sink options allots xs bays end)
      → sent_bytes opens.text b.tries ≡ bytes_by opens.text Batch set sink xs (sink_record b.tries)
  batch_sent b =
      record_is opens.text (λ bay. lines_by is_taken set sink (xs bay) bay) b.tries b.noted
      (by_turns_is (lines_of b.tries) (λ bay. lines_by is_taken set sink (xs bay) bay) (λ k. parts_are b k (slice_get bays k) refl (b.each k)))

  drained_pairs : (b : BatchesTell h s opens set sink options allots xs bays end)
      → AreGiven s opens.sent (sinks_of Batch end)
      (map (option_map (bytes_by opens.text Batch set sink xs)) (sink_records s Batch end))
  drained_pairs b =
      subst
      (λ d. AreGiven s opens.sent (drained d)
      (map (option_map (bytes_by opens.text Batch set sink xs)) (map (λ to. option_map sink_record (s.tells to).tries) (drained d))))
      (sym b.drain_is) (
        given_is opens (s.tells b.drain.sink) (bytes_by opens.text Batch set sink xs) b.sent
            (if_tries (s.tells b.drain.sink).tries b.tries (λ ts. sent_bytes opens.text ts ≡ bytes_by opens.text Batch set sink xs (sink_record ts)) b.told (batch_sent b)),
        tt,
      )

  -- ---- written to at once

  module _ (mode : SinkMode) (tried : is_put mode ≡ is_tried) where
    own_sent : (k : ℕ) (ts : List Try) → lines_of ts ≡ lines_by is_tried set sink (xs k) k → All (IsNoted opens.text) ts
        → sent_bytes opens.text ts ≡ bytes_by opens.text mode set sink xs (sink_record ts)
    own_sent k ts e noted =
        record_is opens.text (λ bay. lines_by (is_put mode) set sink (xs bay) bay) ts noted
        (own_turns k (lines_of ts) (λ bay. lines_by (is_put mode) set sink (xs bay) bay)
        (subst (AreOf k) (sym e) (lines_of_bay is_tried sink k 0 (offered_in set (xs k)) (offers_in (xs k))))
        (ap (λ keeps. lines_by keeps set sink (xs k) k) tried ∙ sym e))

    own_given : (k : ℕ) (x : BayEnd R L K Y D) (t : TriedLines h s opens set sink end.own.items (xs k) k x)
        → WasGiven opens.sent (s.tells t.to) (option_map (bytes_by opens.text mode set sink xs) (option_map sink_record (s.tells t.to).tries))
    own_given k x t =
        given_is opens (s.tells t.to) (bytes_by opens.text mode set sink xs) t.sent
        (both_tries (s.tells t.to).tries (λ ts. lines_of ts ≡ lines_by is_tried set sink (xs k) k) (All (IsNoted opens.text))
        (λ ts. sent_bytes opens.text ts ≡ bytes_by opens.text mode set sink xs (sink_record ts)) (own_sent k) t.lines t.sent.noted)

    abbrev Given : S → Type 0
    Given to = WasGiven opens.sent (s.tells to) (option_map (bytes_by opens.text mode set sink xs) (option_map sink_record (s.tells to).tries))

    own_at : (own : length end.own.items ≡ options.bays) (k : ℕ) (o : Option (BayEnd R L K Y D)) → slice_get bays k ≡ o
        → IfSome o (TriedLines h s opens set sink end.own.items (xs k) k) → IfSome (slice_get end.own.items k) Given
    own_at own k None e t =
        subst (λ z. IfSome z Given)
        (sym (slice_get_past end.own.items k (subst (λ n. n ≤ k) (count ∙ sym own) (past_end bays k e)))) tt
    own_at own k (Some x) e t = subst (λ z. IfSome z Given) (sym t.to_is) (own_given k x t)

    own_pairs : length end.own.items ≡ options.bays → TriesTell h s opens set sink xs bays end
        → AreGiven s opens.sent end.own.items
        (map (option_map (bytes_by opens.text mode set sink xs)) (map (λ to. option_map sink_record (s.tells to).tries) end.own.items))
    own_pairs own t =
        pairs_by (λ to own. WasGiven opens.sent (s.tells to) own) (λ to. option_map sink_record (s.tells to).tries)
        (option_map (bytes_by opens.text mode set sink xs)) end.own.items
        (λ k. own_at own k (slice_get bays k) refl (t k))

  -- ---- in any mode

  pub all_given : (mode own : SinkMode) → own ≡ mode → (own ≡ Batch → BatchesTell h s opens set sink options allots xs bays end)
      → ((own ≡ Blocking) ⊎ (own ≡ Strict) → length end.own.items ≡ options.bays)
      → ((own ≡ Blocking) ⊎ (own ≡ Strict) → TriesTell h s opens set sink xs bays end)
      → AreGiven s opens.sent (sinks_of mode end)
      (map (option_map (bytes_by opens.text mode set sink xs)) (sink_records s mode end))
  all_given Off own e batch few tries = tt
  all_given Batch own e batch few tries = drained_pairs (batch e)
  all_given Blocking own e batch few tries = own_pairs Blocking refl (few (inl e)) (tries (inl e))
  all_given Strict own e batch few tries = own_pairs Strict refl (few (inr e)) (tries (inr e))
