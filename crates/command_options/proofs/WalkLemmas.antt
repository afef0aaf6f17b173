-- `clap`'s walk over words, where each option has one value.
use Rattle.std.proofs.Common.{◌≡◌, ℕ, Bool, true, false, cond, List, [], ◌∷◌, ◌++◌, length, drop, encode_utf8, Option, Some, None, IsUtf8, fold, slice_get, refl, sym, ap, ap₂, subst, ◌∙◌, arith}
use Rattle.std.specs.Option.{option_map_or}
use Rattle.std.specs.Str.{bytes_eq, chars, encode_utf8_all}
use Rattle.std.proofs.lemmas.Slice.Eq.{bytes_eq-Decides}
use Rattle.std.proofs.lemmas.Str.{IsUtf8-past_char, encode_ascii, encodes-chars}
use Rattle.clap.specs.Faults.{bundle_step_fault, bundle_fault, flag_word_fault, flags_fault, long_fault, other_fault, settle_fault, short_fault, step_fault, turn_fault, use_fault, walk_fault, word_fault}
use Rattle.clap.specs.Kinds.{Kinds, or_else}
use Rattle.clap.specs.Lexer.{name_and_value}
use Rattle.clap.specs.Simple.{Shape}
use Rattle.clap.specs.Walk.{Held, Row, Rule, Step, Text, Waiting, Walk, after_flag, after_step, arg_by_long, idle, long_met, long_or_other, long_word, next, option, option_word, plain_word, positional, reacted, settled, short_or_plain, subcommand_met, subcommand_or_other, trailing, used, walked, word_met}
use Rattle.clap.specs.declared.error.ErrorKind.{ErrorKind}
use Rattle.clap.specs.declared.error.kind.ErrorKind.TheVariants.{UnknownArgument}
use Rattle.command_options.specs.Parser.{bare}
use Rattle.command_options.specs.Spelling.{Named, is_among}
use Rattle.command_options.proofs.WordLemmas.{IsLong, IsPlain, IsShort}
use Rattle.command_options.proofs.RuleLemmas.{Agrees, found_by_id, found_by_long, none_by_index, none_by_long, none_by_short, or_nothing, read_rule, read_rules}

-- ---- faults

abbrev pub Fails : Kinds → Type 0
Fails kinds = kinds ≡ [] → ⊥

pub fails_first : (a b : Kinds) → Fails a → Fails (or_else a b)
fails_first [] b h e = h refl
fails_first (k ∷ ks) b h e = cc e

pub fails_next : (a b : Kinds) → Fails b → Fails (or_else a b)
fails_next [] b h e = h e
fails_next (k ∷ ks) b h e = cc e

pub fails_as : (a b : Kinds) → a ≡ b → Fails b → Fails a
fails_as a b same h e = h (sym same ∙ e)

in_turn : (a b c : Kinds) → or_else (or_else a b) c ≡ or_else a (or_else b c)
in_turn [] b c = refl
in_turn (k ∷ ks) b c = refl

pub one_kind : (k : ErrorKind) → Fails (k ∷ [])
one_kind k e = cc e

-- ---- where the walk stands

abbrev pub held : List Row → Option (Text × List Text) → Held
held rows pending = record { rows = rows; pending = pending; skip = 0 }

abbrev pub standing : Held → Waiting → Walk
standing h waiting = record { held = h; waiting = waiting; position = 1; is_trailing = false; stopped = None }

abbrev pub top_with : List (List ℕ) → Shape
top_with names = record bare.top { rules = read_rules names; disable_help_subcommand = true; is_built = true }

no_subcommand : (waiting : Waiting) (word : Text) → subcommand_met [] waiting word ≡ None
no_subcommand idle word = refl
no_subcommand (option name) word = refl
no_subcommand positional word = refl

-- a first character
first_char : (c : ℕ) (flags : List ℕ) → IsUtf8 (c ∷ flags) → (x : ℕ) × (slice_get (chars (c ∷ flags)) 0 ≡ Some x)
first_char c flags utf8 = go (chars (c ∷ flags)) refl
  where
    go : (xs : List ℕ) → chars (c ∷ flags) ≡ xs → (x : ℕ) × (slice_get (chars (c ∷ flags)) 0 ≡ Some x)
    go [] e =
        let empty : [] ≡ c ∷ flags = ap encode_utf8_all (sym e) ∙ encodes-chars (c ∷ flags) utf8 in
        absurd (cc empty)
    go (x ∷ xs) e = (x, rw e refl)

flags_utf8 : (word : List ℕ) (c : ℕ) (flags : List ℕ) → word ≡ 45 ∷ c ∷ flags → IsUtf8 word → IsUtf8 (c ∷ flags)
flags_utf8 word c flags is utf8 = IsUtf8-past_char word (c ∷ flags) 45 utf8 (is ∙ sym (ap (λ bs. bs ++ c ∷ flags) (encode_ascii 45 (omega arith))))

abbrev plain_step : Held × Waiting → Held × Step
plain_step p = (p.0, next p.1)

module _ (names : List (List ℕ)) where
  abbrev pub rules : List Rule
  rules = read_rules names

  abbrev pub top : Shape
  top = top_with names

  abbrev met : Waiting → Text → Held → Held × Step
  met waiting word h = word_met rules [] false waiting 1 word h

  abbrev pub fault : Waiting → Text → Held → Kinds
  fault waiting word h = word_fault top [] false waiting word h

  abbrev pub step_of : Waiting → Text → Held → Kinds
  step_of waiting word h = step_fault top 1 (met waiting word h).0 (met waiting word h).1

  abbrev pub turn : Waiting → Text → Held → Kinds
  turn waiting word h = turn_fault top [] (standing h waiting) word

  abbrev pub after : Waiting → Text → Held → Walk
  after waiting word h = walked rules [] (standing h waiting) word

  -- ---- a word with two dashes

  long_is : (word text : Text) (waiting : Waiting) (h : Held) → IsLong word text
      → met waiting word h ≡ long_word rules waiting word (name_and_value text).0 (name_and_value text).1 h
  long_is word text waiting h l =
      ap (λ (o : Option Text). subcommand_or_other rules o waiting 1 word h) (no_subcommand waiting word)
      ∙ ap₂ (λ (b : Bool) (o : Option (Text × Option Text)). cond b (h, trailing 1) (long_or_other rules waiting word o h)) l.not_end l.long

  pub long_fails_by : (word text : Text) (waiting : Waiting) (h : Held) → IsLong word text
      → fault waiting word h ≡ long_fault rules false (arg_by_long rules (name_and_value text).0) (name_and_value text).1 h
  long_fails_by word text waiting h l =
      ap (λ (o : Option Text). other_fault top o word h) (no_subcommand waiting word)
      ∙ ap₂ (λ (b : Bool) (o : Option (Text × Option Text)). cond b [] (flag_word_fault rules false o word h)) l.not_end l.long

  pub unknown_fails : (word text : Text) (waiting : Waiting) (h : Held) → IsLong word text → is_among names (name_and_value text).0 ≡ false → Fails (turn waiting word h)
  unknown_fails word text waiting h l e =
      fails_first (fault waiting word h) (step_of waiting word h) (fails_as (fault waiting word h) (UnknownArgument ∷ [])
      (long_fails_by word text waiting h l ∙ ap (λ (o : Option Rule). long_fault rules false o (name_and_value text).1 h) (none_by_long names (name_and_value text).0 e))
      (one_kind UnknownArgument))

  -- a turn that goes on
  turn_on : (waiting : Waiting) (word : Text) (h now : Held) (kinds : Kinds) (then : Waiting) → fault waiting word h ≡ kinds → met waiting word h ≡ (now, next then)
      → (turn waiting word h ≡ kinds) × (after waiting word h ≡ standing now then)
  unfolding walked
  turn_on waiting word h now kinds then f m = (
    ap₂ (λ (k : Kinds) (p : Held × Step). or_else k (step_fault top 1 p.0 p.1)) f m ∙ or_nothing kinds,
    ap (λ (p : Held × Step). after_step rules word (standing h waiting) p.0 p.1) m,
  )

  -- an option in one word
  pub joined_turn : (word text name value : Text) (waiting : Waiting) (h : Held) → IsLong word text → name_and_value text ≡ (name, Some value) → is_among names name ≡ true
      → (turn waiting word h ≡ or_else (settle_fault rules false h) (use_fault false (read_rule name) (value ∷ []) (settled rules h).rows))
      × (after waiting word h ≡ standing (record h { rows = used (read_rule name) (value ∷ []) (settled rules h).rows; pending = None }) idle)
  joined_turn word text name value waiting h l parts e =
      let found = found_by_long names name e in
      turn_on waiting word h (reacted rules (read_rule name) (value ∷ []) h) (or_else (settle_fault rules false h) (use_fault false (read_rule name) (value ∷ []) (settled rules h).rows)) idle
      (long_fails_by word text waiting h l ∙ ap (λ (p : Text × Option Text). long_fault rules false (arg_by_long rules p.0) p.1 h) parts
      ∙ ap (λ (o : Option Rule). long_fault rules false o (Some value) h) found)
      (long_is word text waiting h l ∙ ap (λ (p : Text × Option Text). long_word rules waiting word p.0 p.1 h) parts
      ∙ ap (λ (o : Option Rule). after_flag rules waiting word (long_met rules o (Some value) h).0 (long_met rules o (Some value) h).1) found)

  -- the name of an option in two words
  pub name_turn : (word text : Text) (waiting : Waiting) (h : Held) → IsLong word text → name_and_value text ≡ (text, None) → is_among names text ≡ true
      → (turn waiting word h ≡ settle_fault rules false h)
      × (after waiting word h ≡ standing (record h { rows = (settled rules h).rows; pending = Some (text, []) }) (option text))
  name_turn word text waiting h l parts e =
      let found = found_by_long names text e in
      turn_on waiting word h (record (settled rules h) { pending = Some (text, []) }) (settle_fault rules false h) (option text)
      (long_fails_by word text waiting h l ∙ ap (λ (p : Text × Option Text). long_fault rules false (arg_by_long rules p.0) p.1 h) parts
      ∙ ap (λ (o : Option Rule). long_fault rules false o None h) found)
      (long_is word text waiting h l ∙ ap (λ (p : Text × Option Text). long_word rules waiting word p.0 p.1 h) parts
      ∙ ap (λ (o : Option Rule). after_flag rules waiting word (long_met rules o None h).0 (long_met rules o None h).1) found)

  -- ---- a word with one dash

  pub short_fails : (word : Text) (c : ℕ) (flags : Text) (waiting : Waiting) (rows : List Row) (pending : Option (Text × List Text)) → IsShort word c flags → IsUtf8 word
      → Fails (turn waiting word (held rows pending))
  unfolding flags_fault
  short_fails word c flags waiting rows pending s utf8 =
      let h = held rows pending in
      let first = first_char c flags (flags_utf8 word c flags s.is utf8) in
      let rest = drop (length (encode_utf8 first.0)) (c ∷ flags) in
      let unknown : bundle_fault rules false (c ∷ flags) h ≡ UnknownArgument ∷ [] =
      ap (λ (o : Option ℕ). bundle_step_fault rules false o (c ∷ flags) 0 h (flags_fault rules false (length flags))) first.1
      ∙ ap (λ (o : Option Rule). short_fault rules false o rest h (flags_fault rules false (length flags) rest 0)) (none_by_short names first.0) in
      let is : fault waiting word h ≡ UnknownArgument ∷ [] =
      ap (λ (o : Option Text). other_fault top o word h) (no_subcommand waiting word)
      ∙ ap₂ (λ (b : Bool) (o : Option (Text × Option Text)). cond b [] (flag_word_fault rules false o word h)) s.not_end s.long
      ∙ ap (λ (o : Option Text). option_map_or (λ flags. bundle_fault rules false flags h) o []) s.short ∙ unknown in
      fails_first (fault waiting word h) (step_of waiting word h) (fails_as (fault waiting word h) (UnknownArgument ∷ []) is (one_kind UnknownArgument))

  -- ---- a word with no dash

  plain_is : (word : Text) (waiting : Waiting) (h : Held) → IsPlain word → met waiting word h ≡ plain_word rules waiting word h
  plain_is word waiting h p =
      ap (λ (o : Option Text). subcommand_or_other rules o waiting 1 word h) (no_subcommand waiting word)
      ∙ ap₂ (λ (b : Bool) (o : Option (Text × Option Text)). cond b (h, trailing 1) (long_or_other rules waiting word o h)) p.not_end p.long
      ∙ ap (λ (o : Option Text). short_or_plain rules waiting word o h) p.short

  plain_passes : (word : Text) (waiting : Waiting) (h : Held) → IsPlain word → fault waiting word h ≡ []
  plain_passes word waiting h p =
      ap (λ (o : Option Text). other_fault top o word h) (no_subcommand waiting word)
      ∙ ap₂ (λ (b : Bool) (o : Option (Text × Option Text)). cond b [] (flag_word_fault rules false o word h)) p.not_end p.long
      ∙ ap (λ (o : Option Text). option_map_or (λ flags. bundle_fault rules false flags h) o []) p.short

  -- where no option waits
  pub stray_fails : (word : Text) (h : Held) → IsPlain word → Fails (turn idle word h)
  stray_fails word h p =
      let is : step_of idle word h ≡ UnknownArgument ∷ [] =
      ap (λ (q : Held × Step). step_fault top 1 q.0 q.1) (plain_is word idle h p)
      ∙ ap (λ (o : Option Rule). option_map_or (λ a. Rattle.clap.specs.Faults.positional_fault rules false a h) o (UnknownArgument ∷ [])) (none_by_index names 1) in
      fails_next (fault idle word h) (step_of idle word h) (fails_as (step_of idle word h) (UnknownArgument ∷ []) is (one_kind UnknownArgument))

  -- the value of an option that waits
  pub value_turn : (word name : Text) (rows : List Row) → IsPlain word → is_among names name ≡ true
      → (turn (option name) word (held rows (Some (name, []))) ≡ []) × (after (option name) word (held rows (Some (name, []))) ≡ standing (held rows (Some (name, word ∷ []))) idle)
  value_turn word name rows p e =
      let h = held rows (Some (name, [])) in
      let now = held rows (Some (name, word ∷ [])) in
      let own : bytes_eq name name ≡ true = (bytes_eq-Decides name name).1 refl in
      let here : option_word (Some (read_rule name)) name word h ≡ (now, idle) = rw own refl in
      let is : plain_word rules (option name) word h ≡ (now, next idle) =
      ap (λ (o : Option Rule). plain_step (option_word o name word h)) (found_by_id names name e) ∙ ap plain_step here in
      turn_on (option name) word h now [] idle (plain_passes word (option name) h p) (plain_is word (option name) h p ∙ is)

  -- ---- the end of the words

  abbrev pub faults : Walk → List Text → Kinds
  faults w words = or_else (walk_fault top [] w words) (settle_fault rules false (fold (walked rules []) w words).held)

  abbrev pub rows_after : Walk → List Text → List Row
  rows_after w words = (settled rules (fold (walked rules []) w words).held).rows

  abbrev pub AgreesAfter : Option (List Named) → Walk → List Text → Type 0
  AgreesAfter given w words = Agrees given (faults w words) (rows_after w words)

  pub no_more_faults : (w : Walk) → faults w [] ≡ settle_fault rules false w.held
  unfolding walk_fault
  no_more_faults w = refl

  more_faults : (w : Walk) (word : Text) (words : List Text) → faults w (word ∷ words) ≡ or_else (turn_fault top [] w word) (faults (walked rules [] w word) words)
  unfolding walk_fault
  more_faults w word words = in_turn (turn_fault top [] w word) (walk_fault top [] (walked rules [] w word) words) (settle_fault rules false (fold (walked rules []) w (word ∷ words)).held)

  -- a turn without a fault
  pub agrees_next : (given : Option (List Named)) (w now : Walk) (word : Text) (words : List Text) → turn_fault top [] w word ≡ [] → walked rules [] w word ≡ now
      → AgreesAfter given now words → AgreesAfter given w (word ∷ words)
  agrees_next given w now word words none is h =
      let same : faults w (word ∷ words) ≡ faults now words =
      more_faults w word words ∙ ap (λ k. or_else k (faults (walked rules [] w word) words)) none ∙ ap (λ v. faults v words) is in
      let rows : rows_after w (word ∷ words) ≡ rows_after now words = ap (λ v. rows_after v words) is in
      subst (λ k. Agrees given k (rows_after w (word ∷ words))) (sym same) (subst (λ r. Agrees given (faults now words) r) (sym rows) h)

  -- a turn with a fault
  pub refused : (given : Option (List Named)) (w : Walk) (word : Text) (words : List Text) → given ≡ None → Fails (turn_fault top [] w word) → AgreesAfter given w (word ∷ words)
  refused given w word words none h =
      rw none (fails_as (faults w (word ∷ words)) _ (more_faults w word words) (fails_first (turn_fault top [] w word) (faults (walked rules [] w word) words) h))
