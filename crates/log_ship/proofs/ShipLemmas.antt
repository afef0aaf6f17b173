-- Lines that are read and added one after another.
use Rattle.std.proofs.Common.{◌≡◌, ◌≢◌, ◌<◌, ◌≤◌, ◌+◌, ⊎_elim, nat_eq, ℕ, zero, suc, Bool, true, false, List, [], ◌∷◌, ◌++◌, length, take, drop, All, Option, Some, refl, sym, ap, ◌∙◌, subst, arith, inl, inr, append-nil, append_assoc, length-append}
use Rattle.std.proofs.lemmas.Grind.{common_steps}
use Rattle.std.proofs.Math.Seq.{drop-append-add}
use Rattle.std.proofs.lemmas.Bool.Decides.{nat_tests}
use Rattle.std.proofs.lemmas.List.Elements.{All-push, All-nil}
use Rattle.std.proofs.KnownBytes.{Consumes-nil, Consumes-trans}
use Rattle.batch_backend.specs.declared.limits.Limits.{Limits}
use Rattle.log_ship.specs.Cuts.{AreBatches, AreGathered, Gathered, could_take, lines_from}
use Rattle.front_base.specs.Line.{Line}
use Rattle.front_base.specs.declared.audit_id.TheConstants.{MOST_REQUESTS}
use Rattle.front_ports.specs.Cause.{Rose}
use Rattle.log_lines.specs.Lines.{HoldsLine, NoLine, ReadsLines, StartsTooLong, StartsWithLine}
use Rattle.log_lines.specs.Seen.{Seen}
use Rattle.log_lines.specs.declared.buffer.ReadStop.TheVariants as read_stop
use Rattle.log_lines.specs.declared.next.LineStop.{LineStop}
use Rattle.log_lines.specs.declared.next.LineStop.TheVariants as line_stop
use Rattle.log_ship.specs.Chains.{Side, Chain, Posted}
use Rattle.log_ship.specs.Texts.{IsShippable}
use Rattle.log_ship.specs.Shipped.{Setup, Begins, IsShort, Reads, ReadsPast, Ships, ShipsPart, ShipsInput, EndsNext, HoldsText, StopsBefore, SendsLines, SendsRest, SendsAtEnd, Takes, SoFar, end_of, no_batch}
use Rattle.log_ship.specs.declared.end.ShipEnd.{ShipEnd}
use Rattle.log_ship.specs.declared.end.ShipEnd.TheVariants.{Done, NotJson, TooLong, Cut, ReadFault, NumbersSpent, NoMemory}
use Rattle.log_ship.specs.declared.tally.Tally.{Tally}
use Rattle.retry_throttle.specs.Sendings.{Rules}
use Rattle.log_ship.proofs.ChainLemmas.{ClockLaws, chain_more, tally_more, posted}

-- what gathering does to the batches of lines
pub record CutLaws : Type 0 where
  pub none : (limits : Limits) → AreGathered limits [] [] []
  pub joins : (limits : Limits) (lines : List Line) (batches : List (List Line)) (pending : List Line) (x : Line) → 0 < limits.lines
      → AreGathered limits lines batches pending → could_take limits pending (length x.bytes) ≡ true → AreGathered limits (lines ++ x ∷ []) batches (pending ++ x ∷ [])
  pub begins : (limits : Limits) (lines : List Line) (batches : List (List Line)) (pending : List Line) (x : Line)
      → AreGathered limits lines batches pending → could_take limits pending (length x.bytes) ≡ false
      → AreGathered limits (lines ++ x ∷ []) (batches ++ pending ∷ []) (x ∷ [])
  pub ends : (limits : Limits) (lines : List Line) (batches : List (List Line)) → AreGathered limits lines batches [] → AreBatches limits lines batches
  pub ends_with : (limits : Limits) (lines : List Line) (batches : List (List Line)) (x : Line) (xs : List Line) → AreGathered limits lines batches (x ∷ xs)
      → AreBatches limits lines (batches ++ (x ∷ xs) ∷ [])
  pub clocks : ClockLaws
  pub numbers : (n : ℕ) (texts : List (List ℕ)) (text : List ℕ)
      → lines_from n (texts ++ text ∷ []) ≡ lines_from n texts ++ record { bay = 0; number = n + length texts; bytes = text } ∷ []

-- ---- lines that are read

starts_more : (bytes line after more : List ℕ) → StartsWithLine bytes line after → StartsWithLine (bytes ++ more) line (after ++ more)
starts_more bytes line after more s =
    record { split = ap (λ b. b ++ more) s.split ∙ append_assoc line (10 ∷ after) more; plain = s.plain }

reads_more : (bytes : List ℕ) (lines : List (List ℕ)) (rest more after line : List ℕ) → ReadsLines bytes lines rest
    → StartsWithLine (rest ++ more) line after → ReadsLines (bytes ++ more) (lines ++ line ∷ []) after
reads_more bytes [] rest more after line r s = (after, subst (λ b. StartsWithLine (b ++ more) line after) (sym r) s, refl)
reads_more bytes (l ∷ ls) rest more after line r s =
    (r.0 ++ more, starts_more bytes l r.0 more r.1, reads_more r.0 ls rest more after line r.2 s)

reads_rest : (bytes : List ℕ) (lines : List (List ℕ)) (rest more : List ℕ) → ReadsLines bytes lines rest
    → ReadsLines (bytes ++ more) lines (rest ++ more)
reads_rest bytes [] rest more r = ap (λ b. b ++ more) r
reads_rest bytes (l ∷ ls) rest more r = (r.0 ++ more, starts_more bytes l r.0 more r.1, reads_rest r.0 ls rest more r.2)

module _ (a b c : Option (List ℕ)) (passed texts : List (List ℕ)) (held bytes : List ℕ) (r : Reads a b passed texts held) (s : Seen b c held bytes) where
  -- what was seen further, without a line more
  pub read_rest : Reads a c passed texts bytes
  read_rest = record {
    taken = r.taken ++ s.taken;
    consumed = Consumes-trans a b c r.taken s.taken r.consumed s.consumed;
    reads = subst (λ z. ReadsLines (r.taken ++ s.taken) (passed ++ texts) z) (sym s.all) (reads_rest r.taken (passed ++ texts) held s.taken r.reads);
    short = r.short;
    shippable = r.shippable;
    few = r.few;
  }

  pub read_more : (line after : List ℕ) → StartsWithLine bytes line after → IsShort line → IsShippable line → length texts < MOST_REQUESTS
      → Reads a c passed (texts ++ line ∷ []) after
  read_more line after w short shippable few = record {
    taken = r.taken ++ s.taken;
    consumed = Consumes-trans a b c r.taken s.taken r.consumed s.consumed;
    reads = subst (λ z. ReadsLines (r.taken ++ s.taken) z after) (append_assoc passed texts (line ∷ []))
        (reads_more r.taken (passed ++ texts) held s.taken after line r.reads (subst (λ z. StartsWithLine z line after) s.all w));
    short = subst (All IsShort) (append_assoc passed texts (line ∷ [])) (All-push IsShort (passed ++ texts) line r.short short);
    shippable = All-push IsShippable texts line r.shippable shippable;
    few = let n = length-append texts (line ∷ []) in omega (arith, n, few);
  }

-- ---- so far

pub past_start : (a : Option (List ℕ)) → ReadsPast a a 0 []
past_start a = record { passed = []; taken = []; consumed = Consumes-nil a; reads = refl; short = All-nil IsShort; passed_is = refl }

-- one more line was read past
pub past_more : (a b c : Option (List ℕ)) (first : ℕ) (held bytes line after : List ℕ) → ReadsPast a b first held → Seen b c held bytes
    → StartsWithLine bytes line after → IsShort line → ReadsPast a c (first + 1) after
past_more a b c first held bytes line after g s w short = record {
  passed = g.passed ++ line ∷ [];
  taken = g.taken ++ s.taken;
  consumed = Consumes-trans a b c g.taken s.taken g.consumed s.consumed;
  reads = reads_more g.taken g.passed held s.taken after line g.reads (subst (λ z. StartsWithLine z line after) s.all w);
  short = All-push IsShort g.passed line g.short short;
  passed_is = length-append g.passed (line ∷ []) ∙ ap (λ n. n + 1) g.passed_is;
}

pub so_far_start : CutLaws → (setup : Setup) (p : Side) (a b : Option (List ℕ)) (first : ℕ) (held : List ℕ) → ReadsPast a b first held
    → SoFar setup p a b first 0 held (record { limits = setup.limits; lines = [] }) no_batch p
so_far_start laws setup p a b first held g = (
  record {
    passed = g.passed;
    texts = [];
    read = record {
      taken = g.taken;
      consumed = g.consumed;
      reads = subst (λ z. ReadsLines g.taken z held) (sym (append-nil g.passed)) g.reads;
      short = subst (All IsShort) (sym (append-nil g.passed)) g.short;
      shippable = All-nil IsShippable;
      few = omega arith;
    };
    passed_is = g.passed_is;
    count_is = refl;
    batches = [];
    pending = [];
    ends = [];
    cut = laws.none setup.limits;
    chain = refl;
    posted = posted setup.rules laws.clocks p [] [] p refl;
    tally_is = refl;
  },
  refl,
)

module _ (laws : CutLaws) (setup : Setup) (p : Side) (a b c : Option (List ℕ)) (first count : ℕ) (held after : List ℕ) (old new : Gathered) (t u : Tally) (q r : Side)
    (some : 0 < setup.limits.lines) (few : count < MOST_REQUESTS) where
  abbrev line_at : List ℕ → Line
  line_at text = record { bay = 0; number = first + count; bytes = text }

  lines_more : (texts : List (List ℕ)) (text : List ℕ) → length texts ≡ count → lines_from first texts ++ line_at text ∷ [] ≡ lines_from first (texts ++ text ∷ [])
  lines_more texts text e =
      sym (laws.numbers first texts text ∙ ap (λ k. lines_from first texts ++ record { bay = 0; number = first + k; bytes = text } ∷ []) e)

  one_more : (texts : List (List ℕ)) (text : List ℕ) → length texts ≡ count → length (texts ++ text ∷ []) ≡ count + 1
  one_more texts text e = length-append texts (text ∷ []) ∙ ap (λ n. n + 1) e

  module _ (s : ShipsPart setup p a b first count held t q) (m : Takes setup.rules b c held after false (first + count) q (record { limits = setup.limits; lines = s.pending }) t r new u) where
    read_on : Reads a c s.passed (s.texts ++ m.line ∷ []) after
    read_on = read_more a b c s.passed s.texts held m.bytes s.read m.seen m.line after m.starts m.short m.shippable (let n = s.count_is in omega (arith, n, few))

    joined_on : could_take setup.limits s.pending (length m.line) ≡ true → new.lines ≡ s.pending ++ line_at m.line ∷ [] → new.limits ≡ setup.limits → r ≡ q → u ≡ t
        → SoFar setup p a c first (count + 1) after new u r
    joined_on e n l w v = (
      record {
        passed = s.passed;
        texts = s.texts ++ m.line ∷ [];
        read = read_on;
        passed_is = s.passed_is;
        count_is = one_more s.texts m.line s.count_is;
        batches = s.batches;
        pending = s.pending ++ line_at m.line ∷ [];
        ends = s.ends;
        cut = subst (λ z. AreGathered setup.limits z s.batches (s.pending ++ line_at m.line ∷ [])) (lines_more s.texts m.line s.count_is)
            (laws.joins setup.limits (lines_from first s.texts) s.batches s.pending (line_at m.line) some s.cut e);
        chain = subst (Chain setup.rules p s.batches s.ends) (sym w) s.chain;
        posted = subst (Posted setup.rules p s.batches s.ends) (sym w) s.posted;
        tally_is = v ∙ s.tally_is;
      },
      ap (λ z. record { limits = z; lines = new.lines }) l ∙ ap (λ z. record { limits = setup.limits; lines = z }) n,
    )

    sent_on : could_take setup.limits s.pending (length m.line) ≡ false → new.lines ≡ line_at m.line ∷ [] → new.limits ≡ setup.limits
        → SendsLines setup.rules q s.pending t r u → SoFar setup p a c first (count + 1) after new u r
    sent_on e n l w =
        let chain = chain_more setup.rules p s.batches s.ends q s.pending w.0 r s.chain w.1 in (
          record {
            passed = s.passed;
            texts = s.texts ++ m.line ∷ [];
            read = read_on;
            passed_is = s.passed_is;
            count_is = one_more s.texts m.line s.count_is;
            batches = s.batches ++ s.pending ∷ [];
            pending = line_at m.line ∷ [];
            ends = s.ends ++ w.0 ∷ [];
            cut = subst (λ z. AreGathered setup.limits z (s.batches ++ s.pending ∷ []) (line_at m.line ∷ [])) (lines_more s.texts m.line s.count_is)
                (laws.begins setup.limits (lines_from first s.texts) s.batches s.pending (line_at m.line) s.cut e);
            chain = chain;
            posted = posted setup.rules laws.clocks p (s.batches ++ s.pending ∷ []) (s.ends ++ w.0 ∷ []) r chain;
            tally_is = tally_more setup.rules p s.batches s.ends q s.pending w.0 no_batch t u s.chain s.tally_is w.2;
          },
          ap (λ z. record { limits = z; lines = new.lines }) l ∙ ap (λ z. record { limits = setup.limits; lines = z }) n,
        )

    added : SoFar setup p a c first (count + 1) after new u r
    added = ⊎_elim
        (λ h. joined_on h.0 h.1 m.adds.0 h.2 h.3)
        (λ h. sent_on h.0 h.1 m.adds.0 h.2)
        m.adds.1

  pub so_far_more : (spent : Bool) → (f : SoFar setup p a b first count held old t q) → Takes setup.rules b c held after spent (first + count) q old t r new u
      → SoFar setup p a c first (count + 1) after new u r
  so_far_more spent f m =
      let n : Takes setup.rules b c held after false (first + count) q old t r new u = subst (λ z. Takes setup.rules b c held after z (first + count) q old t r new u) m.few m in
      added f.0 (subst (λ z. Takes setup.rules b c held after false (first + count) q z t r new u) f.1 n)

-- ---- the end

module _ (laws : CutLaws) (setup : Setup) (p : Side) (a b c : Option (List ℕ)) (first count : ℕ) (held bytes : List ℕ) (t u : Tally) (q r : Side) where
  -- those that wait are the last batch
  pub all_sent : (s : ShipsPart setup p a b first count held t q) → Seen b c held bytes → (pending : List Line) → pending ≡ s.pending → SendsRest setup.rules q pending t r u
      → Ships setup p a c first count bytes u r
  all_sent s seen [] e w = record {
    passed = s.passed;
    texts = s.texts;
    read = read_rest a b c s.passed s.texts held bytes s.read seen;
    passed_is = s.passed_is;
    count_is = s.count_is;
    batches = s.batches;
    ends = s.ends;
    cut = laws.ends setup.limits (lines_from first s.texts) s.batches (subst (λ z. AreGathered setup.limits (lines_from first s.texts) s.batches z) (sym e) s.cut);
    chain = subst (Chain setup.rules p s.batches s.ends) (sym w.0) s.chain;
    posted = subst (Posted setup.rules p s.batches s.ends) (sym w.0) s.posted;
    tally_is = w.1 ∙ s.tally_is;
  }
  all_sent s seen (x ∷ xs) e w =
      let chain = chain_more setup.rules p s.batches s.ends q (x ∷ xs) w.0 r s.chain w.1 in record {
        passed = s.passed;
        texts = s.texts;
        read = read_rest a b c s.passed s.texts held bytes s.read seen;
        passed_is = s.passed_is;
        count_is = s.count_is;
        batches = s.batches ++ (x ∷ xs) ∷ [];
        ends = s.ends ++ w.0 ∷ [];
        cut = laws.ends_with setup.limits (lines_from first s.texts) s.batches x xs (subst (λ z. AreGathered setup.limits (lines_from first s.texts) s.batches z) (sym e) s.cut);
        chain = chain;
        posted = posted setup.rules laws.clocks p (s.batches ++ (x ∷ xs) ∷ []) (s.ends ++ w.0 ∷ []) r chain;
        tally_is = tally_more setup.rules p s.batches s.ends q (x ∷ xs) w.0 no_batch t u s.chain s.tally_is w.2;
      }

  module _ (before : ℕ) (g : Begins before first count) (rose0 rose : Type 0) (s : ShipsPart setup p a b first count held t q) where
    pub ends : (spent : Bool) (end : ShipEnd) → (rose0 → rose) → (spent ≡ true → count ≡ MOST_REQUESTS) → (spent ≡ false → count < MOST_REQUESTS)
        → EndsNext b c held bytes spent rose0 end → SendsAtEnd end setup.rules q s.pending t r u → ShipsInput setup before p a c rose first count u end r
    ends spent Done f all few e w = record { begins = g; rest = bytes; ships = all_sent s e.0 s.pending refl w; ends_by = (e.1, e.2) }
    ends spent NotJson f all few e w = record { begins = g; rest = bytes; ships = all_sent s e.0 s.pending refl w; ends_by = (few e.1, e.2) }
    ends spent TooLong f all few e w = record { begins = g; rest = bytes; ships = all_sent s e.0 s.pending refl w; ends_by = (few e.1, e.2) }
    ends spent Cut f all few e w = record { begins = g; rest = bytes; ships = all_sent s e.0 s.pending refl w; ends_by = (few e.1, e.2) }
    ends spent ReadFault f all few e w = record { begins = g; rest = bytes; ships = all_sent s e.0 s.pending refl w; ends_by = (e.1, f e.2) }
    ends spent NumbersSpent f all few e w = record { begins = g; rest = bytes; ships = all_sent s e.0 s.pending refl w; ends_by = (all e.1, e.2) }
    ends spent NoMemory f all few e w = record {
      begins = g;
      left = b;
      rest = held;
      ships = subst (λ z. ShipsPart setup p a b first count held z r) (sym w.1) (subst (λ z. ShipsPart setup p a b first count held t z) (sym w.0) s);
    }

-- ---- no line was shipped

nothing_sent : (rules : Rules) (end : ShipEnd) (p : Side) (t : Tally) → SendsAtEnd end rules p [] t p t
nothing_sent rules Done p t = (refl, refl)
nothing_sent rules NotJson p t = (refl, refl)
nothing_sent rules TooLong p t = (refl, refl)
nothing_sent rules Cut p t = (refl, refl)
nothing_sent rules ReadFault p t = (refl, refl)
nothing_sent rules NumbersSpent p t = (refl, refl)
nothing_sent rules NoMemory p t = (refl, refl)

begins_none : (before : ℕ) → Begins before 0 0
begins_none zero = inl refl
begins_none (suc before) = inr (omega arith, refl)

-- memory ran out before a line was read
pub not_begun : CutLaws → (setup : Setup) (before : ℕ) (p : Side) (a c : Option (List ℕ)) (rose : Type 0) → ShipsInput setup before p a c rose 0 0 no_batch NoMemory p
not_begun laws setup before p a c rose =
    record { begins = begins_none before; left = a; rest = []; ships = (so_far_start laws setup p a a 0 [] (past_start a)).0 }

-- the input ended before the first line that is shipped, or can't be read so far
pub stops_before : (laws : CutLaws) (setup : Setup) (before : ℕ) (p : Side) (a c : Option (List ℕ)) (held : List ℕ) (rose : Type 0) (first : ℕ) (end : ShipEnd)
    → StopsBefore before a c held rose first end → ShipsInput setup before p a c rose first 0 no_batch end p
unfolding so_far_start
stops_before laws setup before p a c held rose first end g =
    ends laws setup p a g.earlier c first 0 g.bytes held no_batch no_batch p p before (inr (g.few, refl)) rose rose
    (so_far_start laws setup p a g.earlier first g.bytes g.past).0 false end (λ r. r) (λ e. absurd (cc e)) (λ e. omega arith) g.ends
    (nothing_sent setup.rules end p no_batch)

-- ---- what one more call comes to

not_empty : (bytes line after : List ℕ) → StartsWithLine bytes line after → bytes ≢ []
not_empty bytes [] after s e = cc (sym e ∙ s.split)
not_empty bytes (b ∷ bs) after s e = cc (sym e ∙ s.split)

long_not_empty : (bytes : List ℕ) → StartsTooLong bytes → bytes ≢ []
long_not_empty bytes s e = omega (arith, s.many, ap length e)

module _ (a b : Option (List ℕ)) (held0 held : List ℕ) (rose : Type 0) where
  pub stops : (stop : LineStop) (spent more : Bool) → (more ≡ false → held ≡ []) → (more ≡ true → held ≢ []) → NoLine a b held0 held rose stop
      → EndsNext a b held0 held spent rose (end_of stop spent more)
  stops line_stop.TooLong true more f g n = (n.0, refl, long_not_empty held n.1)
  stops line_stop.TooLong false more f g n = (n.0, refl, n.1)
  stops (line_stop.Input read_stop.AtEnd) spent false f g n = (n.0, f refl, n.2)
  stops (line_stop.Input read_stop.AtEnd) true true f g n = (n.0, refl, g refl)
  stops (line_stop.Input read_stop.AtEnd) false true f g n = (n.0, refl, (g refl, n.1, n.2))
  stops (line_stop.Input read_stop.ReadFault) spent more f g n = n
  stops (line_stop.Input read_stop.NoMemory) spent more f g n = tt

  pub spent_stops : (size : ℕ) (spent : Bool) → spent ≡ true → HoldsLine a b held0 held size → EndsNext a b held0 held spent rose NumbersSpent
  spent_stops size spent e h = (h.seen, e, not_empty held h.line h.after h.starts)

  pub refuses : (size : ℕ) (spent : Bool) → spent ≡ false → (h : HoldsLine a b held0 held size) → (¬ (IsShippable h.line)) → EndsNext a b held0 held spent rose NotJson
  refuses size spent e h j = (h.seen, e, (h.line, h.after, h.starts, omega (arith, h.length_is, h.short), j))

pub holds : (a b : Option (List ℕ)) (held0 held : List ℕ) (size : ℕ) (spent : Bool) → spent ≡ false → (h : HoldsLine a b held0 held size) → IsShippable h.line
    → HoldsText a b held0 held spent size
holds a b held0 held size spent e h j =
    record { seen = h.seen; line = h.line; after = h.after; starts = h.starts; size_is = h.length_is; short = h.short; shippable = j; few = e }

-- the text of a line, and what comes after it
pub text_is : (bytes line after : List ℕ) (len : ℕ) → StartsWithLine bytes line after → length line ≡ len → take len bytes ≡ line
text_is bytes line after len s e = grind (arith, common_steps, s.split, e)

pub after_is : (bytes line after : List ℕ) (len : ℕ) → StartsWithLine bytes line after → length line ≡ len → drop (len + 1) bytes ≡ after
after_is bytes line after len s e =
    ap (λ k. drop (k + 1) bytes) (sym e) ∙ (ap (λ z. drop (length line + 1) z) s.split ∙ drop-append-add line (10 ∷ after) 1)

-- fewer than the most
pub below : (n : ℕ) → n ≤ MOST_REQUESTS → nat_eq n MOST_REQUESTS ≡ false → n < MOST_REQUESTS
below n h e = grind (arith, nat_tests, h, e)

pub all_of_them : (n : ℕ) → nat_eq n MOST_REQUESTS ≡ true → n ≡ MOST_REQUESTS
all_of_them n e = grind (arith, nat_tests, e)

pub fits : (bytes line after : List ℕ) (len : ℕ) → StartsWithLine bytes line after → length line ≡ len → len + 1 ≤ length bytes
fits bytes line after len s e = omega (arith, ap length s.split, length-append line (10 ∷ after), e)

pub rose_earlier : (a b c : ℕ) → a ≤ b → Rose b c → Rose a c
rose_earlier a b c h r = omega arith
