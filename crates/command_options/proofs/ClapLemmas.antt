-- What `clap` takes of words, and what it finds, is what the definition states.
use Rattle.std.proofs.Common.{◌≡◌, ℕ, ◌&&◌, Bool, true, false, true≢false, cond, not, List, [], ◌∷◌, map, Option, Some, None, Ok, Err, IsOk, IsUtf8, String, string_bytes, arith, suc, fold, is_some, refl, sym, ap, ap₂, ◌∙◌}
use Rattle.std.specs.List.{All, list_any}
use Rattle.std.proofs.lemmas.Str.{IsUtf8-string_bytes}
use Rattle.clap.specs.Faults.{built_fault, entered_fault, fault_of, level_fault, settle_fault, walk_fault}
use Rattle.clap.specs.Kinds.{Kinds, check_kinds, or_else}
use Rattle.clap.specs.Simple.{App, entered, matches_of}
use Rattle.clap.specs.Takes.{is_given}
use Rattle.clap.specs.Walk.{Held, Row, Rule, Text, finished, first_of, has_row, nothing_held, rows_after, settled, walk, walk_from, with_default}
use Rattle.command_options.specs.Parser.{app_with, bare, given_in, is_doubtful, row_for}
use Rattle.command_options.specs.Spelling.{Named, is_among, options_of}
use Rattle.json_value.specs.Results.{found_or}
use Rattle.command_options.specs.Options.{given_of, if_distinct, value_of}
use Rattle.command_options.specs.declared.fault.WordsFault.TheVariants.{Usage}
use Rattle.command_options.proofs.DistinctLemmas.{added_is, value_is}
use Rattle.command_options.proofs.DoubtLemmas.{doubtful_is_none}
use Rattle.command_options.proofs.ParserLemmas.{AreTexts, goes}
use Rattle.command_options.proofs.RuleLemmas.{Agrees, built_rules, no_defaults, or_nothing, read_rules, rows_for}
use Rattle.command_options.proofs.WalkLemmas.{faults, top_with}

-- a command with these rules, once it is built
abbrev built_with : List Rule → App
built_with rules = record { top = record bare.top { rules = rules; disable_help_subcommand = true; is_built = true }; subs = [] }

none_required : (names : List (List ℕ)) (rows : List Row) → list_any (λ a. a.required && not (is_given a.id rows)) (read_rules names) ≡ false
none_required [] rows = refl
none_required (name ∷ names) rows = none_required names rows

as_held : (rows : List Row) (names : List (List ℕ)) → fold with_default rows (read_rules names) ≡ rows
as_held rows [] = refl
as_held rows (name ∷ names) = go (has_row name rows) (as_held rows names)
  where
    go : (b : Bool) → fold with_default rows (read_rules names) ≡ rows → fold with_default (cond b rows rows) (read_rules names) ≡ rows
    go true others = others
    go false others = others

module _ (names : List (List ℕ)) (words : List Text) where
  abbrev end : Held
  end = (walk (read_rules names) [] nothing_held words).held

  abbrev first_fault : Kinds
  first_fault = walk_fault (top_with names) [] (walk_from nothing_held) words

  abbrev last_fault : Kinds
  last_fault = settle_fault (read_rules names) false end

  -- nothing is amiss after the walk
  level_is : level_fault (top_with names) [] nothing_held words false [] ≡ faults names (walk_from nothing_held) words
  level_is =
      let last = ap (λ (b : Bool). check_kinds false false b) (none_required names (finished (read_rules names) end)) in
      ap (λ (k : Kinds). or_else first_fault (or_else last_fault k))
      (ap₂ (λ (d c : Kinds). or_else d c) (no_defaults (settled (read_rules names) end).rows names) last)
      ∙ ap (λ (k : Kinds). or_else first_fault k) (or_nothing last_fault)

  -- and no subcommand is entered
  entered_is : (stop : Option (Text × List Text))
      → level_fault (top_with names) [] nothing_held words (is_some (entered (built_with (read_rules names)) stop)) (entered_fault (built_with (read_rules names)) stop)
      ≡ faults names (walk_from nothing_held) words
  entered_is None = level_is
  entered_is (Some stop) = level_is

  fault_is : fault_of (app_with names) words ≡ faults names (walk_from nothing_held) words
  fault_is =
      ap (λ (rules : List Rule). built_fault (built_with rules) nothing_held words) (built_rules names 1)
      ∙ entered_is (walk (read_rules names) [] nothing_held words).stopped

  found_is : matches_of (app_with names) words ≡ (settled (read_rules names) end).rows
  found_is = ap (λ (rules : List Rule). rows_after rules [] words) (built_rules names 1) ∙ as_held (settled (read_rules names) end).rows names

  -- `clap` refuses the words exactly where they spell no options that are distinct, and else holds these options
  pub agrees : list_any is_doubtful words ≡ false → AreTexts words
      → Agrees (if_distinct (options_of names words)) (fault_of (app_with names) words) (matches_of (app_with names) words)
  agrees sure utf8 =
      rw (fault_is, found_is, ← (added_is (options_of names words))) (goes names words sure utf8 [] None tt)

pub texts : {Z : Type 0} (words : List (String Z)) → AreTexts (map string_bytes words)
texts [] = tt
texts (word ∷ words) = (IsUtf8-string_bytes word, texts words)

-- ---- as the code reads it

given_back : (given : List Named) → given_in (rows_for given) ≡ given
given_back [] = refl
given_back (option ∷ given) = ap (λ others. option ∷ others) (given_back given)

as_rows : (given : List Named) (rows : List Row) → rows ≡ rows_for given → given_in rows ≡ given
as_rows given rows e = ap given_in e ∙ given_back given

-- rows that hold options hold them as they are given
pub holds : (given : List Named) (rows : List Row) → rows ≡ rows_for given → rows ≡ map row_for (given_in rows)
holds given rows e = e ∙ ap rows_for (sym (as_rows given rows e))

module _ (names words : List (List ℕ)) (sure : list_any is_doubtful words ≡ false) (utf8 : AreTexts words) where
  abbrev options : Option (List Named)
  options = if_distinct (options_of names words)

  abbrev faults_of : Kinds
  faults_of = fault_of (app_with names) words

  abbrev found : List Row
  found = matches_of (app_with names) words

  -- where nothing is refused, options are held
  taken : faults_of ≡ [] → (given : List Named) × (options ≡ Some given) × (found ≡ rows_for given)
  taken none = go options refl (agrees names words sure utf8)
    where
      go : (o : Option (List Named)) → options ≡ o → Agrees o faults_of found → (given : List Named) × (options ≡ Some given) × (found ≡ rows_for given)
      go None e fails = absurd (fails none)
      go (Some given) e a = (given, e, a.1)

  pub gives : (rows : List Row) → faults_of ≡ [] → rows ≡ found → given_of names words ≡ Ok (given_in rows)
  unfolding given_of
  gives rows none is =
      let t = taken none in
      let as_given = as_rows t.0 rows (is ∙ t.2) in
      rw (t.1, as_given) refl

  pub keeps : (rows : List Row) → faults_of ≡ [] → rows ≡ found → rows ≡ map row_for (given_in rows)
  keeps rows none is =
      let t = taken none in
      holds t.0 rows (is ∙ t.2)

  -- where something is, the words are no options
  pub refuses : (faults_of ≡ [] → ⊥) → given_of names words ≡ Err Usage
  unfolding given_of
  refuses fails = go options refl (agrees names words sure utf8)
    where
      go : (o : Option (List Named)) → options ≡ o → Agrees o faults_of found → found_or Usage options ≡ Err Usage
      go None e a = rw e refl
      go (Some given) e a = absurd (fails a.0)

  -- what is taken, and the values that are found
  pub takes : (faults_of ≡ [] → IsOk (given_of names words)) × (IsOk (given_of names words) → faults_of ≡ [])
  unfolding given_of
  takes = go options refl (agrees names words sure utf8)
    where
      go : (o : Option (List Named)) → options ≡ o → Agrees o faults_of found → (faults_of ≡ [] → IsOk (found_or Usage options)) × (IsOk (found_or Usage options) → faults_of ≡ [])
      go None e fails = ((λ none. absurd (fails none)), (λ ok. absurd (true≢false (sym (rw e at ok)))))
      go (Some given) e a = ((λ none. rw e refl), (λ ok. a.0))

  pub finds : (given : List Named) (name : List ℕ) → given_of names words ≡ Ok given → first_of name found ≡ value_of name given
  unfolding given_of
  finds given name h = go options refl (agrees names words sure utf8)
    where
      go : (o : Option (List Named)) → options ≡ o → Agrees o faults_of found → first_of name found ≡ value_of name given
      go None e fails =
          let none = sym (ap (found_or Usage) e) ∙ h in
          cc none
      go (Some held) e a =
          let ok = sym (ap (found_or Usage) e) ∙ h in
          let same : held ≡ given = cc ok in
          ap (first_of name) a.1 ∙ value_is name held ∙ ap (value_of name) same

pub as_texts : (words : List (List ℕ)) → All IsUtf8 words → AreTexts words
as_texts [] all = tt
as_texts (word ∷ words) all = (all 0 [] (omega arith), as_texts words (λ k d below. all (suc k) d (omega arith)))

-- doubtful words are none either
pub doubts : (names words : List (List ℕ)) → is_among names [] ≡ false → list_any is_doubtful words ≡ true → given_of names words ≡ Err Usage
unfolding given_of
doubts names words named e = rw (doubtful_is_none names named words e) refl
