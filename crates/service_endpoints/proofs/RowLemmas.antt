-- The rows of a file, as `csv` reads them.
use Rattle.std.proofs.Common.{◌≡◌, ℕ, zero, suc, ◌+◌, ◌<◌, ◌≤◌, ◌∷◌, [], ◌++◌, List, length, Bool, true, false, cond, Option, Some, None, refl, sym, ap, ◌∙◌, arith, true≢false}
use Rattle.std.specs.Prelude.{◌==◌, ◌&&◌}
use Rattle.csv.specs.Machine.{Read, step, in_field, start_field, start_record, after_end, ends_with, is_byte, is_end, ends_at_end, next_record, fields_after, field_after}
use Rattle.csv.specs.Reading.{AreRecords, Reached, records, records_from, records_next, ExplainsRead}
use Rattle.csv.specs.declared.parser.Config.{Config}
use Rattle.csv.specs.declared.parser.Terminator.{Terminator}
use Rattle.csv.specs.declared.parser.Terminator.TheVariants as term
use Rattle.csv.specs.declared.parser.State.{State}
use Rattle.csv.specs.declared.parser.State.TheVariants as st
use Rattle.csv.specs.declared.parser.Action.{Action}
use Rattle.csv.specs.declared.parser.Action.TheVariants as act
use Rattle.csv.specs.declared.reader.Reader.{Reader}
use Rattle.csv.specs.declared.error.ErrorKind.{ErrorKind}
use Rattle.csv.specs.declared.error.ErrorKind.TheVariants as kind

-- ---- after a record the machine stands between records

abbrev Settles : State × Action → Type 0
Settles p = is_end p.1 ≡ true → ends_at_end p.0 ≡ false

either : (b : Bool) (x y : State × Action) → Settles x → Settles y → Settles (cond b x y)
either true x y p q = p
either false x y p q = q

goes_on : (s : State) (a : Action) → is_end a ≡ false → Settles (s, a)
goes_on s a e h = absurd (true≢false (sym h ∙ e))

after_end_settled : (t : Terminator) (c : ℕ) → ends_at_end (after_end t c) ≡ false
after_end_settled term.CRLF c = by_cases (c == 13)
  where
    by_cases : (b : Bool) → ends_at_end (cond b st.AfterCr st.StartRecord) ≡ false
    by_cases true = refl
    by_cases false = refl
after_end_settled (term.Any t) c = refl

abbrev skip : State → State × Action
skip s = (s, act.Skip)

abbrev copy : State → State × Action
copy s = (s, act.Copy)

skips : (s : State) → Settles (skip s)
skips s = goes_on s act.Skip refl

copies : (s : State) → Settles (copy s)
copies s = goes_on s act.Copy refl

abbrev end_record : Config → ℕ → State × Action
end_record cfg c = (after_end cfg.terminator c, act.EndRecord)

in_field_settles : (cfg : Config) (c : ℕ) → Settles (in_field cfg c)
in_field_settles cfg c =
    either (c == cfg.delimiter) (st.StartField, act.EndField) (cond (ends_with cfg.terminator c) (end_record cfg c) (copy st.InField))
    (goes_on st.StartField act.EndField refl)
    (either (ends_with cfg.terminator c) (end_record cfg c) (copy st.InField) (λ h. after_end_settled cfg.terminator c) (copies st.InField))

start_field_settles : (cfg : Config) (c : ℕ) → Settles (start_field cfg c)
start_field_settles cfg c = either (cfg.quoting && (c == cfg.quote)) (skip st.InQuoted) (in_field cfg c) (skips st.InQuoted) (in_field_settles cfg c)

start_record_settles : (cfg : Config) (c : ℕ) → Settles (start_record cfg c)
start_record_settles cfg c =
    either (ends_with cfg.terminator c) (skip st.StartRecord) (cond (is_byte cfg.comment c) (skip st.InComment) (start_field cfg c)) (skips st.StartRecord)
    (either (is_byte cfg.comment c) (skip st.InComment) (start_field cfg c) (skips st.InComment) (start_field_settles cfg c))

step_settles : (cfg : Config) (s : State) (c : ℕ) → Settles (step cfg s c)
step_settles cfg st.StartRecord c = start_record_settles cfg c
step_settles cfg st.StartField c = start_field_settles cfg c
step_settles cfg st.InField c = in_field_settles cfg c
step_settles cfg st.InQuoted c =
    either (cfg.quoting && (c == cfg.quote)) (skip st.AfterQuote) (cond (cfg.quoting && is_byte cfg.escape c) (skip st.InEscape) (copy st.InQuoted)) (skips st.AfterQuote)
    (either (cfg.quoting && is_byte cfg.escape c) (skip st.InEscape) (copy st.InQuoted) (skips st.InEscape) (copies st.InQuoted))
step_settles cfg st.InEscape c = copies st.InQuoted
step_settles cfg st.AfterQuote c =
    either (cfg.quoting && cfg.double_quote && (c == cfg.quote)) (copy st.InQuoted) (in_field cfg c) (copies st.InQuoted) (in_field_settles cfg c)
step_settles cfg st.InComment c = either (c == 10) (skip st.StartRecord) (skip st.InComment) (skips st.StartRecord) (skips st.InComment)
step_settles cfg st.AfterCr c = either (c == 10) (skip st.StartRecord) (start_record cfg c) (skips st.StartRecord) (start_record_settles cfg c)

-- what is left after a record is no longer than the text, and the machine stands between records
abbrev Leaves : List ℕ → Option Read → Type 0
Leaves xs None = Unit {0}
Leaves xs (Some p) = (length p.2 ≤ length xs) × (ends_at_end p.1 ≡ false)

next_leaves : (cfg : Config) (s : State) (f : List (List ℕ)) (p xs : List ℕ) → Leaves xs (next_record cfg s f p xs)
unfolding next_record
next_leaves cfg s f p [] = at_end (ends_at_end s)
  where
    at_end : (b : Bool) → Leaves [] (cond b (Some (f ++ (p ∷ []), st.StartRecord, [])) None)
    at_end true = (omega arith, refl)
    at_end false = tt
next_leaves cfg s f p (c ∷ rest) =
    by_end (is_end (step cfg s c).1) (next_record cfg (step cfg s c).0 (fields_after (step cfg s c).1 f p) (field_after (step cfg s c).1 c p) rest) (step_settles cfg s c)
    (next_leaves cfg (step cfg s c).0 (fields_after (step cfg s c).1 f p) (field_after (step cfg s c).1 c p) rest)
  where
    longer : (o : Option Read) → Leaves rest o → Leaves (c ∷ rest) o
    longer None h = tt
    longer (Some q) h = (omega (arith, h.0), h.1)

    by_end : (b : Bool) (o : Option Read) → (b ≡ true → ends_at_end (step cfg s c).0 ≡ false) → Leaves rest o → Leaves (c ∷ rest) (cond b (Some (fields_after (step cfg s c).1 f p, (step cfg s c).0, rest)) o)
    by_end true o settled h = (omega arith, settled refl)
    by_end false o settled h = longer o h

-- a record takes a byte, where the machine stands between records
abbrev Shortens : List ℕ → Option Read → Type 0
Shortens xs None = Unit {0}
Shortens xs (Some p) = (length p.2 < length xs) × (ends_at_end p.1 ≡ false)

next_shortens : (cfg : Config) (s : State) (xs : List ℕ) → ends_at_end s ≡ false → Shortens xs (next_record cfg s [] [] xs)
unfolding next_record
next_shortens cfg s [] e = rw e tt
next_shortens cfg s (c ∷ rest) e =
    by_end (is_end (step cfg s c).1) (next_record cfg (step cfg s c).0 (fields_after (step cfg s c).1 [] []) (field_after (step cfg s c).1 c []) rest) (step_settles cfg s c)
    (next_leaves cfg (step cfg s c).0 (fields_after (step cfg s c).1 [] []) (field_after (step cfg s c).1 c []) rest)
  where
    longer : (o : Option Read) → Leaves rest o → Shortens (c ∷ rest) o
    longer None h = tt
    longer (Some q) h = (omega (arith, h.0), h.1)

    by_end : (b : Bool) (o : Option Read) → (b ≡ true → ends_at_end (step cfg s c).0 ≡ false) → Leaves rest o → Shortens (c ∷ rest) (cond b (Some (fields_after (step cfg s c).1 [] [], (step cfg s c).0, rest)) o)
    by_end true o settled h = (omega arith, settled refl)
    by_end false o settled h = longer o h

-- the records that a reader reaches are those of the text
reached_all : (cfg : Config) (rows : List (List (List ℕ))) (n : ℕ) (s s2 : State) (xs ys : List ℕ) → length xs < n → ends_at_end s ≡ false
    → Reached cfg s xs rows s2 ys → next_record cfg s2 [] [] ys ≡ None → records_from cfg n s xs ≡ rows
unfolding records_from Reached
reached_all cfg rows zero s s2 xs ys room settled h end = absurd (omega arith)
reached_all cfg [] (suc n) s s2 xs ys room settled h end =
    let none : next_record cfg s [] [] xs ≡ None = rw (h.0, h.1) end in
    ap (records_next (records_from cfg n)) none
reached_all cfg (r ∷ rs) (suc n) s s2 xs ys room settled h end =
    let p = h.0 in
    let short : Shortens xs (Some p) = rw h.1 at (next_shortens cfg s xs settled) in
    let later = reached_all cfg rs n p.1 s2 p.2 ys (omega (arith, short.0)) short.1 h.3 end in
    ap (records_next (records_from cfg n)) h.1 ∙ ap (λ l. p.0 ∷ l) later ∙ ap (λ x. x ∷ rs) (sym h.2)

pub records_are : (cfg : Config) (xs : List ℕ) (rows : List (List (List ℕ))) → AreRecords cfg st.StartRecord xs rows → records cfg xs ≡ rows
records_are cfg xs rows h = reached_all cfg rows (length xs + 1) st.StartRecord h.0 xs h.1 (omega arith) refl h.2 h.3

-- ---- why a read of bytes of any length fails

pub fails_for_memory : {R : Type 0} (rem : R → Option (List ℕ)) (a b : Reader R) (k : ErrorKind) → ExplainsRead rem a b false k → a.flexible ≡ true
    → ((e : _) → k ≡ kind.Io e → ⊥) → (k ≡ kind.OutOfMemory → ⊥) → ⊥
fails_for_memory rem a b (kind.Io e) h flexible io memory = io e refl
fails_for_memory rem a b kind.OutOfMemory h flexible io memory = memory refl
fails_for_memory rem a b (kind.UnequalLengths pos expected len) h flexible io memory = true≢false (sym flexible ∙ h.0)
fails_for_memory rem a b (kind.Utf8 pos err) h flexible io memory = true≢false (sym h.0)
fails_for_memory rem a b (kind.Serialize text) h flexible io memory = h
fails_for_memory rem a b (kind.Deserialize pos err) h flexible io memory = h
