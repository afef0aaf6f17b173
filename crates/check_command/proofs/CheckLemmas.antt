-- Lines that were read and accepted one after another.
use Rattle.std.proofs.Common.{◌≡◌, ◌≢◌, ◌<◌, ◌≤◌, ◌+◌, inl, inr, nat_eq, ℕ, Bool, true, false, List, [], ◌∷◌, ◌++◌, length, take, drop, Option, Some, None, Err, refl, sym, ap, ◌∙◌, subst, arith, append-nil, append_assoc, length-append}
use Rattle.std.proofs.lemmas.Grind.{common_steps}
use Rattle.std.proofs.Math.Seq.{drop-append-add}
use Rattle.std.proofs.lemmas.Bool.Decides.{nat_tests}
use Rattle.std.proofs.KnownBytes.{Consumes-nil, Consumes-trans}
use Rattle.audit_check.specs.Conforms.{AllConform, Conforms, HasAccepted, Judges}
use Rattle.audit_check.specs.Seen.{Checked}
use Rattle.audit_check.specs.declared.fault.LineFault.{LineFault}
use Rattle.audit_check.specs.declared.fault.LineFault.TheVariants as fault
use Rattle.front_base.specs.declared.audit_id.TheConstants.{MOST_REQUESTS}
use Rattle.front_ports.specs.Cause.{Rose}
use Rattle.check_command.specs.Checks.{Accepts, AreShort, Checks, ChecksNext, Conformed, EndsNext, KeepsCount, HasMore, KeepsCountNext, MayStand, SoFar, Stays, end_of, refused, stop_of}
use Rattle.check_command.specs.declared.check.CheckEnd.{CheckEnd}
use Rattle.check_command.specs.declared.check.CheckEnd.TheVariants.{Done, Refused, Cut, ReadFault, NumbersSpent, NoMemory}
use Rattle.check_command.specs.declared.next.Next.{Next}
use Rattle.check_command.specs.declared.next.Next.TheVariants as next
use Rattle.front_base.specs.declared.line.TheConstants.{MOST_LINE_BYTES}
use Rattle.log_lines.specs.Lines.{HoldsLine, NoLine, ReadsLines, StartsTooLong, StartsWithLine}
use Rattle.log_lines.specs.Seen.{Seen}
use Rattle.log_lines.specs.declared.buffer.ReadStop.TheVariants as read_stop
use Rattle.log_lines.specs.declared.next.LineStop.{LineStop}
use Rattle.log_lines.specs.declared.next.LineStop.TheVariants as line_stop
use Rattle.policy_rules.specs.declared.policy.Policy.{Policy}

-- ---- one line more

all_more : (policy : Policy) (before lines : List (List ℕ)) (line : List ℕ) → AllConform policy before lines
    → Conforms policy (before ++ lines) line → AllConform policy before (lines ++ line ∷ [])
all_more policy before [] line a c = (subst (λ b. Conforms policy b line) (append-nil before) c, tt)
all_more policy before (l ∷ ls) line a c =
    (a.0, all_more policy (before ++ l ∷ []) ls line a.1 (subst (λ b. Conforms policy b line) (sym (append_assoc before (l ∷ []) ls)) c))

pub short_more : (lines : List (List ℕ)) (line : List ℕ) → AreShort lines → length line ≤ MOST_LINE_BYTES → AreShort (lines ++ line ∷ [])
short_more [] line h s = (s, tt)
short_more (l ∷ ls) line h s = (h.0, short_more ls line h.1 s)

pub short_line : (line : List ℕ) (len : ℕ) → length line ≡ len → len ≤ MOST_LINE_BYTES → length line ≤ MOST_LINE_BYTES
short_line line len e h = subst (λ n. n ≤ MOST_LINE_BYTES) (sym e) h

starts_more : (bytes line after more : List ℕ) → StartsWithLine bytes line after → StartsWithLine (bytes ++ more) line (after ++ more)
starts_more bytes line after more s =
    record { split = ap (λ b. b ++ more) s.split ∙ append_assoc line (10 ∷ after) more; plain = s.plain }

pub reads_more : (bytes : List ℕ) (lines : List (List ℕ)) (rest more after line : List ℕ) → ReadsLines bytes lines rest
    → StartsWithLine (rest ++ more) line after → ReadsLines (bytes ++ more) (lines ++ line ∷ []) after
reads_more bytes [] rest more after line r s = (after, subst (λ b. StartsWithLine (b ++ more) line after) (sym r) s, refl)
reads_more bytes (l ∷ ls) rest more after line r s =
    (r.0 ++ more, starts_more bytes l r.0 more r.1, reads_more r.0 ls rest more after line r.2 s)

pub reads_rest : (bytes : List ℕ) (lines : List (List ℕ)) (rest more : List ℕ) → ReadsLines bytes lines rest
    → ReadsLines (bytes ++ more) lines (rest ++ more)
reads_rest bytes [] rest more r = ap (λ b. b ++ more) r
reads_rest bytes (l ∷ ls) rest more r = (r.0 ++ more, starts_more bytes l r.0 more r.1, reads_rest r.0 ls rest more r.2)

-- ---- so far

pub so_far_start : (policy : Policy) (a : Option (List ℕ)) (checked : Checked) → HasAccepted policy [] checked → SoFar policy a a [] 0 checked
so_far_start policy a checked h = record {
  conformed =
      record { lines = []; taken = []; consumed = Consumes-nil a; reads = refl; short = tt; conform = tt; count_is = refl; few = omega arith };
  accepted = h;
}

pub so_far_more : (policy : Policy) (a b c : Option (List ℕ)) (held after : List ℕ) (count : ℕ) (checked then : Checked) (spent : Bool)
    → (s : SoFar policy a b held count checked) → count < MOST_REQUESTS → Accepts policy s.conformed.lines b c held after spent then
    → SoFar policy a c after (count + 1) then
so_far_more policy a b c held after count checked then spent s few m =
    let old = s.conformed in
    record {
      conformed = record {
        lines = old.lines ++ m.line ∷ [];
        taken = old.taken ++ m.seen.taken;
        consumed = Consumes-trans a b c old.taken m.seen.taken old.consumed m.seen.consumed;
        reads = reads_more old.taken old.lines held m.seen.taken after m.line old.reads (subst (λ z. StartsWithLine z m.line after) m.seen.all m.starts);
        short = short_more old.lines m.line old.short m.short;
        conform = all_more policy [] old.lines m.line old.conform m.conforms;
        count_is = length-append old.lines (m.line ∷ []) ∙ ap (λ n. n + 1) old.count_is;
        few = omega (arith, few);
      };
      accepted = m.accepted;
    }

-- what was seen further, without a line more
abbrev seen_rest : (policy : Policy) (a b c : Option (List ℕ)) (held bytes : List ℕ) (count : ℕ) → Conformed policy a b count held → Seen b c held bytes
    → Conformed policy a c count bytes
seen_rest policy a b c held bytes count old s = record {
  lines = old.lines;
  taken = old.taken ++ s.taken;
  consumed = Consumes-trans a b c old.taken s.taken old.consumed s.consumed;
  reads = subst (λ z. ReadsLines (old.taken ++ s.taken) old.lines z) (sym s.all) (reads_rest old.taken old.lines held s.taken old.reads);
  short = old.short;
  conform = old.conform;
  count_is = old.count_is;
  few = old.few;
}

-- ---- the end

module _ (policy : Policy) (a b c : Option (List ℕ)) (held bytes : List ℕ) (count : ℕ) (checked : Checked) (rose0 rose : Type 0) where
  pub ends : (spent : Bool) (s : SoFar policy a b held count checked) (end : CheckEnd) → (rose0 → rose) → (spent ≡ true → count ≡ MOST_REQUESTS)
      → (spent ≡ false → count < MOST_REQUESTS) → EndsNext policy s.conformed.lines b c held bytes spent rose0 end → Checks policy a c rose count end
  ends spent s Done f all few e =
      (subst (λ z. Conformed policy a c count z) e.1 (seen_rest policy a b c held bytes count s.conformed e.0), e.2)
  ends spent s (Refused why) f all few e = (bytes, seen_rest policy a b c held bytes count s.conformed e.0, few e.1, inr (e.2, e.3))
  ends spent s Cut f all few e = (bytes, seen_rest policy a b c held bytes count s.conformed e.0, few e.1, e.2)
  ends spent s ReadFault f all few e = (bytes, seen_rest policy a b c held bytes count s.conformed e.0, e.1, f e.2)
  ends spent s NumbersSpent f all few e = (bytes, seen_rest policy a b c held bytes count s.conformed e.0, all e.1, e.2)
  ends spent s NoMemory f all few e = (b, held, s.conformed)

  -- a check that looks no further than to the first line that doesn't conform
  pub stops_at : (then : Checked) (spent : Bool) (s : SoFar policy a b held count checked) (one : Next) (end : CheckEnd) → stop_of one ≡ Some end
      → (rose0 → rose) → (spent ≡ true → count ≡ MOST_REQUESTS) → (spent ≡ false → count < MOST_REQUESTS)
      → ChecksNext policy s.conformed.lines b c held bytes spent rose0 then one → Checks policy a c rose count end
  stops_at then spent s next.Accepted end e f all few h = absurd (cc e)
  stops_at then spent s (next.Refused len why) end e f all few h =
      let is : Refused why ≡ end = cc e in
      subst (λ x. Checks policy a c rose count x) is
      (bytes, seen_rest policy a b c held bytes count s.conformed h.holds.seen, few h.few, inl (h.holds.line, h.holds.after, h.holds.starts, h.is_fault))
  stops_at then spent s (next.End own) end e f all few h =
      let is : own ≡ end = cc e in
      subst (λ x. Checks policy a c rose count x) is (ends spent s own f all few h)

-- ---- what one more call comes to

not_empty : (bytes line after : List ℕ) → StartsWithLine bytes line after → bytes ≢ []
not_empty bytes [] after s e = cc (sym e ∙ s.split)
not_empty bytes (b ∷ bs) after s e = cc (sym e ∙ s.split)

long_not_empty : (bytes : List ℕ) → StartsTooLong bytes → bytes ≢ []
long_not_empty bytes s e = omega (arith, s.many, ap length e)

module _ (policy : Policy) (before : List (List ℕ)) (a b : Option (List ℕ)) (held0 held : List ℕ) (rose : Type 0) where
  pub stops : (stop : LineStop) (spent more : Bool) → (more ≡ false → held ≡ []) → (more ≡ true → held ≢ []) → NoLine a b held0 held rose stop
      → EndsNext policy before a b held0 held spent rose (end_of stop spent more)
  stops line_stop.TooLong true more f g n = (n.0, refl, long_not_empty held n.1)
  stops line_stop.TooLong false more f g n = (n.0, refl, n.1, refl)
  stops (line_stop.Input read_stop.AtEnd) spent false f g n = (n.0, f refl, n.2)
  stops (line_stop.Input read_stop.AtEnd) true true f g n = (n.0, refl, g refl)
  stops (line_stop.Input read_stop.AtEnd) false true f g n = (n.0, refl, (g refl, n.1, n.2))
  stops (line_stop.Input read_stop.ReadFault) spent more f g n = n
  stops (line_stop.Input read_stop.NoMemory) spent more f g n = tt

  pub spent_stops : (len : ℕ) (spent : Bool) → spent ≡ true → HoldsLine a b held0 held len → EndsNext policy before a b held0 held spent rose NumbersSpent
  spent_stops len spent e h = (h.seen, e, not_empty held h.line h.after h.starts)

  pub refuses : (checked : Checked) (len : ℕ) (spent : Bool) (why : LineFault) → spent ≡ false → (h : HoldsLine a b held0 held len)
      → Judges policy before h.line (Err why) → ChecksNext policy before a b held0 held spent rose checked (refused len why)
  refuses checked len spent fault.Form e h j = record { holds = h; is_fault = (short_line h.line len h.length_is h.short, (λ q. cc q), j); few = e }
  refuses checked len spent fault.Place e h j = record { holds = h; is_fault = (short_line h.line len h.length_is h.short, (λ q. cc q), j); few = e }
  refuses checked len spent (fault.Level first) e h j = record { holds = h; is_fault = (short_line h.line len h.length_is h.short, (λ q. cc q), j); few = e }
  refuses checked len spent (fault.Stage last) e h j = record { holds = h; is_fault = (short_line h.line len h.length_is h.short, (λ q. cc q), j); few = e }
  refuses checked len spent fault.NoMemory e h j = tt

pub keeps_refused : (m n len : ℕ) (why : LineFault) → n ≡ m → KeepsCountNext m n (refused len why)
keeps_refused m n len fault.Form e = e
keeps_refused m n len fault.Place e = e
keeps_refused m n len (fault.Level first) e = e
keeps_refused m n len (fault.Stage last) e = e
keeps_refused m n len fault.NoMemory e = e

pub stays_refused : (old new : Checked) (len : ℕ) (why : LineFault) → new ≡ old → Stays old new (refused len why)
stays_refused old new len fault.Form e = e
stays_refused old new len fault.Place e = e
stays_refused old new len (fault.Level first) e = e
stays_refused old new len (fault.Stage last) e = e
stays_refused old new len fault.NoMemory e = e

pub stands_refused : (held : List ℕ) (spent : Bool) (len : ℕ) (why : LineFault) → len ≤ MOST_LINE_BYTES → len + 1 ≤ length held → spent ≡ false
    → MayStand held spent (refused len why)
stands_refused held spent len fault.Form s h e = (s, h, e)
stands_refused held spent len fault.Place s h e = (s, h, e)
stands_refused held spent len (fault.Level first) s h e = (s, h, e)
stands_refused held spent len (fault.Stage last) s h e = (s, h, e)
stands_refused held spent len fault.NoMemory s h e = tt

pub stands_ended : (stop : LineStop) (spent more : Bool) → HasMore (end_of stop spent more) (spent ≡ false)
stands_ended line_stop.TooLong true more = tt
stands_ended line_stop.TooLong false more = refl
stands_ended (line_stop.Input read_stop.AtEnd) spent false = tt
stands_ended (line_stop.Input read_stop.AtEnd) true true = tt
stands_ended (line_stop.Input read_stop.AtEnd) false true = refl
stands_ended (line_stop.Input read_stop.ReadFault) spent more = tt
stands_ended (line_stop.Input read_stop.NoMemory) spent more = tt

-- a line that was accepted
pub accepted_by : (policy : Policy) (before : List (List ℕ)) (a b : Option (List ℕ)) (held0 held : List ℕ) (spent : Bool) (rose : Type 0) (checked : Checked)
    (one : Next) → stop_of one ≡ None → ChecksNext policy before a b held0 held spent rose checked one → Accepts policy before a b held0 held spent checked
accepted_by policy before a b held0 held spent rose checked next.Accepted e h = h
accepted_by policy before a b held0 held spent rose checked (next.Refused len why) e h = absurd (cc e)
accepted_by policy before a b held0 held spent rose checked (next.End end) e h = absurd (cc e)

pub calm_by : (m n : ℕ) (one : Next) → stop_of one ≡ None → KeepsCountNext m n one → n ≡ m
calm_by m n next.Accepted e h = h
calm_by m n (next.Refused len why) e h = absurd (cc e)
calm_by m n (next.End end) e h = absurd (cc e)

-- what a check that began without a fault keeps of the count
pub keeps_by : (l m n : ℕ) (one : Next) (end : CheckEnd) → stop_of one ≡ Some end → m ≡ l → KeepsCountNext m n one → KeepsCount l n end
keeps_by l m n next.Accepted end e same h = absurd (cc e)
keeps_by l m n (next.Refused len why) end e same h =
    let is : Refused why ≡ end = cc e in
    subst (λ x. KeepsCount l n x) is (h ∙ same)
keeps_by l m n (next.End own) end e same h =
    let is : own ≡ end = cc e in
    subst (λ x. KeepsCount l n x) is (from_first own h)
  where
    from_first : (x : CheckEnd) → KeepsCount m n x → KeepsCount l n x
    from_first Done k = k ∙ same
    from_first (Refused why) k = k ∙ same
    from_first Cut k = k ∙ same
    from_first ReadFault k = tt
    from_first NumbersSpent k = k ∙ same
    from_first NoMemory k = k ∙ same

-- the text of a line, and what comes after it
pub text_is : (bytes line after : List ℕ) (len : ℕ) → StartsWithLine bytes line after → length line ≡ len → take len bytes ≡ line
text_is bytes line after len s e = grind (arith, common_steps, s.split, e)

pub after_is : (bytes line after : List ℕ) (len : ℕ) → StartsWithLine bytes line after → length line ≡ len → drop (len + 1) bytes ≡ after
after_is bytes line after len s e =
    ap (λ k. drop (k + 1) bytes) (sym e) ∙ (ap (λ z. drop (length line + 1) z) s.split ∙ drop-append-add line (10 ∷ after) 1)

-- fewer than the most
pub below : (n : ℕ) → n ≤ MOST_REQUESTS → nat_eq n MOST_REQUESTS ≡ false → n < MOST_REQUESTS
below n h e = grind (arith, nat_tests, h, e)

pub all_of_them : (n : ℕ) → nat_eq n MOST_REQUESTS ≡ true → n ≡ MOST_REQUESTS
all_of_them n e = grind (arith, nat_tests, e)

pub fits : (bytes line after : List ℕ) (len : ℕ) → StartsWithLine bytes line after → length line ≡ len → len + 1 ≤ length bytes
fits bytes line after len s e = omega (arith, ap length s.split, length-append line (10 ∷ after), e)

pub rose_earlier : (a b c : ℕ) → a ≤ b → Rose b c → Rose a c
rose_earlier a b c h r = omega arith
