-- Lines that were read and judged one after another, whichever of them conform.
use Rattle.std.proofs.Common.{◌≡◌, ◌<◌, ◌≤◌, ◌+◌, ◌⊎◌, inl, inr, ℕ, suc, Bool, true, false, List, [], ◌∷◌, ◌++◌, length, drop, Option, Some, None, refl, sym, ap, ◌∙◌, subst, arith, length-append}
use Rattle.std.proofs.KnownBytes.{Consumes-nil, Consumes-trans}
use Rattle.audit_check.specs.Conforms.{Conforms, HasAccepted}
use Rattle.audit_check.specs.Seen.{Checked}
use Rattle.audit_check.specs.declared.fault.LineFault.{LineFault}
use Rattle.audit_check.specs.declared.fault.LineFault.TheVariants as fault
use Rattle.check_command.specs.Checks.{Accepts, EndsNext, IsFault, KeepsCount, Refuses}
use Rattle.check_command.specs.Reviews.{EndsAs, IsJudged, Judged, KeepsList, Lists, Passed, Reviews, ReviewsNext, SoFar}
use Rattle.check_command.specs.declared.bad_lines.BadLine.{BadLine}
use Rattle.check_command.specs.declared.bad_lines.BadLines.{BadLines}
use Rattle.check_command.specs.declared.check.CheckEnd.{CheckEnd}
use Rattle.check_command.specs.declared.check.CheckEnd.TheVariants.{Done, Refused, Cut, ReadFault, NumbersSpent, NoMemory}
use Rattle.check_command.specs.declared.review.Reviewed.{Reviewed}
use Rattle.check_command.proofs.CheckLemmas.{after_is, reads_more, reads_rest, short_more}
use Rattle.front_base.specs.declared.audit_id.TheConstants.{MOST_REQUESTS}
use Rattle.log_lines.specs.Lines.{ReadsLines, StartsWithLine}
use Rattle.log_lines.specs.Seen.{Seen}
use Rattle.policy_rules.specs.declared.policy.Policy.{Policy}

-- ---- one line more

next_number : (n m k : ℕ) → m ≡ n + suc k → m ≡ n + 1 + k
next_number n m k e = omega (arith, e)

first_number : (n m : ℕ) → m ≡ n + 0 → m ≡ n
first_number n m e = omega (arith, e)

-- one that conforms
pub judged_good : (policy : Policy) (n : ℕ) (before lines : List (List ℕ)) (bad : List BadLine) (after : List (List ℕ)) (line : List ℕ)
    → Judged policy n before lines bad after → Conforms policy after line → Judged policy n before (lines ++ line ∷ []) bad (after ++ line ∷ [])
judged_good policy n before [] bad after line j c =
    inl (subst (λ b. Conforms policy b line) j.1 c, (j.0, ap (λ b. b ++ line ∷ []) j.1))
judged_good policy n before (l ∷ ls) bad after line (inl j) c = inl (j.0, judged_good policy (n + 1) (before ++ l ∷ []) ls bad after line j.1 c)
judged_good policy n before (l ∷ ls) bad after line (inr j) c =
    inr (j.0, j.1, j.2, j.3, judged_good policy (n + 1) before ls j.1 after line j.4 c)

-- one that doesn't
pub judged_bad : (policy : Policy) (n m : ℕ) (before lines : List (List ℕ)) (bad : List BadLine) (after : List (List ℕ)) (line : List ℕ) (why : LineFault)
    → m ≡ n + length lines → Judged policy n before lines bad after → IsFault policy after line why
    → Judged policy n before (lines ++ line ∷ []) (bad ++ record { number = m; why = why } ∷ []) after
judged_bad policy n m before [] bad after line why e j f =
    let one : List BadLine = record { number = m; why = why } ∷ [] in
    inr (
      why,
      [],
      subst (λ (b : List (List ℕ)). IsFault policy b line why) j.1 f,
      ap (λ (b : List BadLine). b ++ one) j.0 ∙ ap (λ (k : ℕ). as_one k) (first_number n m e),
      (refl, j.1),
    )
  where
    as_one : ℕ → List BadLine
    as_one k = record { number = k; why = why } ∷ []
judged_bad policy n m before (l ∷ ls) bad after line why e (inl j) f =
    inl (j.0, judged_bad policy (n + 1) m (before ++ l ∷ []) ls bad after line why (next_number n m (length ls) e) j.1 f)
judged_bad policy n m before (l ∷ ls) bad after line why e (inr j) f =
    let one : List BadLine = record { number = m; why = why } ∷ [] in
    inr (
      j.0,
      j.1 ++ one,
      j.2,
      ap (λ (b : List BadLine). b ++ one) j.3,
      judged_bad policy (n + 1) m before ls j.1 after line why (next_number n m (length ls) e) j.4 f,
    )

-- ---- so far

pub so_far_start : (policy : Policy) (a : Option (List ℕ)) (checked : Checked) (listed : BadLines) → HasAccepted policy [] checked → Lists listed []
    → listed.count ≡ 0 → SoFar policy a a [] 0 checked listed
so_far_start policy a checked listed h l e = record {
  bad = [];
  passed = record {
    lines = [];
    taken = [];
    consumed = Consumes-nil a;
    reads = refl;
    short = tt;
    conforming = [];
    judged = (refl, refl);
    count_is = refl;
    few = omega arith;
  };
  accepted = h;
  lists = l;
  fewer = omega (arith, e);
}

-- what is known of one line more, and what of it is noted
abbrev Verdict : Policy → List (List ℕ) → List BadLine → ℕ → List ℕ → Checked → BadLines → Type 0
Verdict policy before bad count line checked listed =
    (Conforms policy before line × HasAccepted policy (before ++ line ∷ []) checked × Lists listed bad)
    ⊎ ((why : LineFault) × IsFault policy before line why × HasAccepted policy before checked
    × Lists listed (bad ++ record { number = count + 1; why = why } ∷ []))

so_far_by : (policy : Policy) (a b c : Option (List ℕ)) (held after : List ℕ) (count : ℕ) (checked then : Checked) (listed more : BadLines) (spent : Bool)
    (s : SoFar policy a b held count checked listed) → count < MOST_REQUESTS → more.count ≤ count + 1
    → (m : IsJudged policy s.passed.conforming s.bad count b c held after spent then more)
    → Verdict policy s.passed.conforming s.bad count m.line then more → SoFar policy a c after (count + 1) then more
so_far_by policy a b c held after count checked then listed more spent s few fewer m (inl v) =
    let old = s.passed in
    record {
      bad = s.bad;
      passed = record {
        lines = old.lines ++ m.line ∷ [];
        taken = old.taken ++ m.seen.taken;
        consumed = Consumes-trans a b c old.taken m.seen.taken old.consumed m.seen.consumed;
        reads = reads_more old.taken old.lines held m.seen.taken after m.line old.reads (subst (λ z. StartsWithLine z m.line after) m.seen.all m.starts);
        short = short_more old.lines m.line old.short m.short;
        conforming = old.conforming ++ m.line ∷ [];
        judged = judged_good policy 1 [] old.lines s.bad old.conforming m.line old.judged v.0;
        count_is = length-append old.lines (m.line ∷ []) ∙ ap (λ n. n + 1) old.count_is;
        few = omega (arith, few);
      };
      accepted = v.1;
      lists = v.2;
      fewer = fewer;
    }
so_far_by policy a b c held after count checked then listed more spent s few fewer m (inr v) =
    let old = s.passed in
    let number : count + 1 ≡ 1 + length old.lines = let is = old.count_is in omega (arith, is) in
    record {
      bad = s.bad ++ record { number = count + 1; why = v.0 } ∷ [];
      passed = record {
        lines = old.lines ++ m.line ∷ [];
        taken = old.taken ++ m.seen.taken;
        consumed = Consumes-trans a b c old.taken m.seen.taken old.consumed m.seen.consumed;
        reads = reads_more old.taken old.lines held m.seen.taken after m.line old.reads (subst (λ z. StartsWithLine z m.line after) m.seen.all m.starts);
        short = short_more old.lines m.line old.short m.short;
        conforming = old.conforming;
        judged = judged_bad policy 1 (count + 1) [] old.lines s.bad old.conforming m.line v.0 number old.judged v.1;
        count_is = length-append old.lines (m.line ∷ []) ∙ ap (λ n. n + 1) old.count_is;
        few = omega (arith, few);
      };
      accepted = v.2;
      lists = v.3;
      fewer = fewer;
    }

pub so_far_more : (policy : Policy) (a b c : Option (List ℕ)) (held after : List ℕ) (count : ℕ) (checked then : Checked) (listed more : BadLines) (spent : Bool)
    (s : SoFar policy a b held count checked listed) → count < MOST_REQUESTS → more.count ≤ count + 1
    → IsJudged policy s.passed.conforming s.bad count b c held after spent then more → SoFar policy a c after (count + 1) then more
so_far_more policy a b c held after count checked then listed more spent s few fewer m =
    so_far_by policy a b c held after count checked then listed more spent s few fewer m m.verdict

-- what was seen further, without a line more
abbrev seen_rest : (policy : Policy) (a b c : Option (List ℕ)) (held bytes : List ℕ) (count : ℕ) (bad : List BadLine) → Passed policy a b count bad held
    → Seen b c held bytes → Passed policy a c count bad bytes
seen_rest policy a b c held bytes count bad old s = record {
  lines = old.lines;
  taken = old.taken ++ s.taken;
  consumed = Consumes-trans a b c old.taken s.taken old.consumed s.consumed;
  reads = subst (λ z. ReadsLines (old.taken ++ s.taken) old.lines z) (sym s.all) (reads_rest old.taken old.lines held s.taken old.reads);
  short = old.short;
  conforming = old.conforming;
  judged = old.judged;
  count_is = old.count_is;
  few = old.few;
}

-- ---- what one more look comes to

module _ (policy : Policy) (before : List (List ℕ)) (bad : List BadLine) (count : ℕ) (a b : Option (List ℕ)) (held0 held : List ℕ) (spent : Bool) (rose : Type 0) where
  pub looked_accepted : (checked : Checked) (listed : BadLines) → Accepts policy before a b held0 held spent checked → Lists listed bad
      → ReviewsNext policy before bad count a b held0 held spent rose checked listed None
  looked_accepted checked listed m l =
      record { bytes = m.bytes; seen = m.seen; line = m.line; starts = m.starts; short = m.short; few = m.few; verdict = inl (m.conforms, m.accepted, l) }

  pub looked_refused : (checked : Checked) (listed more : BadLines) (len : ℕ) (why : LineFault) (after : List ℕ)
      → Refuses policy before a b held0 held spent len why → HasAccepted policy before checked → after ≡ drop (len + 1) held
      → ((earlier : List BadLine) → Lists listed earlier → Lists more (earlier ++ record { number = count + 1; why = why } ∷ []))
      → Lists listed bad → ReviewsNext policy before bad count a b held0 after spent rose checked more None
  looked_refused checked listed more len why after h k passes notes l =
      let line = h.holds in
      record {
        bytes = held;
        seen = line.seen;
        line = line.line;
        starts =
            subst (λ z. StartsWithLine held line.line z) (sym (passes ∙ after_is held line.line line.after len line.starts line.length_is)) line.starts;
        short = h.is_fault.0;
        few = h.few;
        verdict = inr (why, h.is_fault, k, notes bad l);
      }

  pub looked_ended : (checked : Checked) (listed : BadLines) (end : CheckEnd) → EndsNext policy before a b held0 held spent rose end → Lists listed bad
      → ReviewsNext policy before bad count a b held0 held spent rose checked listed (Some end)
  looked_ended checked listed end h l = (h, l)

-- ---- the end

module _ (policy : Policy) (a b c : Option (List ℕ)) (held bytes : List ℕ) (count : ℕ) (checked then : Checked) (listed more : BadLines) (spent : Bool)
    (rose0 rose : Type 0) (s : SoFar policy a b held count checked listed) (r : Reviewed) where
  abbrev Whole : CheckEnd → Type 0
  Whole end = Reviews policy a c rose count r.bad end

  abbrev further : Seen b c held bytes → Passed policy a c count s.bad bytes
  further seen = seen_rest policy a b c held bytes count s.bad s.passed seen

  -- memory ran out
  abbrev out_of_memory : r.end ≡ NoMemory → Lists r.bad s.bad → Whole r.end
  out_of_memory is l = subst Whole (sym is) (b, s.bad, held, s.passed, l)

  ends_by : (end : CheckEnd) → (rose0 → rose) → (spent ≡ true → count ≡ MOST_REQUESTS) → (spent ≡ false → count < MOST_REQUESTS)
      → ReviewsNext policy s.passed.conforming s.bad count b c held bytes spent rose0 then more (Some end) → EndsAs more count end r → Whole r.end
  ends_by Done f all few h e =
      subst Whole (sym e.0) (s.bad, subst (λ z. Passed policy a c count s.bad z) h.0.1 (further h.0.0), h.0.2, e.1 s.bad h.1)
  ends_by (Refused why) f all few h (inl e) = out_of_memory e.0 (e.1 s.bad h.1)
  ends_by (Refused why) f all few h (inr e) =
      subst Whole (sym e.0) (s.bad, bytes, further h.0.0, few h.0.1, h.0.2, h.0.3, e.1 s.bad h.1)
  ends_by Cut f all few h (inl e) = out_of_memory e.0 (e.1 s.bad h.1)
  ends_by Cut f all few h (inr e) = subst Whole (sym e.0) (s.bad, bytes, further h.0.0, few h.0.1, h.0.2, e.1 s.bad h.1)
  ends_by ReadFault f all few h e = subst Whole (sym e.0) (s.bad, bytes, further h.0.0, h.0.1, f h.0.2, e.1 s.bad h.1)
  ends_by NumbersSpent f all few h e = subst Whole (sym e.0) (s.bad, bytes, further h.0.0, all h.0.1, h.0.2, e.1 s.bad h.1)
  ends_by NoMemory f all few h e = out_of_memory e.0 (e.1 s.bad h.1)

  pub reviews_end : (end : CheckEnd) → (rose0 → rose) → (spent ≡ true → count ≡ MOST_REQUESTS) → (spent ≡ false → count < MOST_REQUESTS)
      → ReviewsNext policy s.passed.conforming s.bad count b c held bytes spent rose0 then more (Some end) → EndsAs more count end r → r.lines ≡ count
      → Reviews policy a c rose r.lines r.bad r.end
  reviews_end end f all few h e same =
      subst (λ n. Reviews policy a c rose n r.bad r.end) (sym same) (ends_by end f all few h e)

pub keeps_same : (listed : BadLines) → KeepsList listed listed
keeps_same listed = λ bad l. l

-- before a line is read
pub reviews_none : (policy : Policy) (a : Option (List ℕ)) (listed : BadLines) → Lists listed [] → Reviews policy a a (Unit {0}) 0 listed NoMemory
reviews_none policy a listed l = (
  a,
  [],
  [],
  record {
    lines = [];
    taken = [];
    consumed = Consumes-nil a;
    reads = refl;
    short = tt;
    conforming = [];
    judged = (refl, refl);
    count_is = refl;
    few = omega arith;
  },
  l,
)

pub keeps_end : (m n count : ℕ) (old : BadLines) (end : CheckEnd) (r : Reviewed) → EndsAs old count end r → KeepsCount m n end → KeepsCount m n r.end
keeps_end m n count old Done r e k = subst (KeepsCount m n) (sym e.0) k
keeps_end m n count old (Refused why) r (inl e) k = subst (KeepsCount m n) (sym e.0) k
keeps_end m n count old (Refused why) r (inr e) k = subst (KeepsCount m n) (sym e.0) k
keeps_end m n count old Cut r (inl e) k = subst (KeepsCount m n) (sym e.0) k
keeps_end m n count old Cut r (inr e) k = subst (KeepsCount m n) (sym e.0) k
keeps_end m n count old ReadFault r e k = subst (KeepsCount m n) (sym e.0) k
keeps_end m n count old NumbersSpent r e k = subst (KeepsCount m n) (sym e.0) k
keeps_end m n count old NoMemory r e k = subst (KeepsCount m n) (sym e.0) k

-- what began without a fault
pub keeps_later : (l m n : ℕ) (end : CheckEnd) → m ≡ l → KeepsCount m n end → KeepsCount l n end
keeps_later l m n Done e k = k ∙ e
keeps_later l m n (Refused why) e k = k ∙ e
keeps_later l m n Cut e k = k ∙ e
keeps_later l m n ReadFault e k = tt
keeps_later l m n NumbersSpent e k = k ∙ e
keeps_later l m n NoMemory e k = k ∙ e
