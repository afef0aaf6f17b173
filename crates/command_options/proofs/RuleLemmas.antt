-- Options that have one value each, as `clap` looks for them and uses them.
use Rattle.std.proofs.Common.{◌≡◌, ℕ, ◌&&◌, ◌||◌, Bool, true, false, cond, not, true≢false, List, [], ◌∷◌, ◌++◌, map, Option, Some, None, refl, sym, ap, ◌∙◌, append-nil, count_by, is_some}
use Rattle.std.specs.List.{list_all, list_any}
use Rattle.std.specs.Str.{bytes_eq}
use Rattle.std.proofs.lemmas.List.{map-append}
use Rattle.std.proofs.lemmas.Slice.Eq.{bytes_eq-Decides}
use Rattle.clap.specs.Faults.{is_simple_and_free, repeat_fault, use_fault, defaults_fault}
use Rattle.clap.specs.Kinds.{Kinds, or_else}
use Rattle.clap.specs.Simple.{filled_from, is_simple, with_rule}
use Rattle.clap.specs.Walk.{Row, Rule, arg_by_id, arg_by_index, arg_by_long, arg_by_short, at_row, is_early_multiple, has_row, more_values, used, with_values}
use Rattle.clap.specs.declared.builder.value_parser.Reading.TheVariants.{AsWritten}
use Rattle.clap.specs.declared.builder.value_parser.ValueParser.TheVariants as vp
use Rattle.clap.specs.declared.error.kind.ErrorKind.TheVariants.{ArgumentConflict}
use Rattle.clap.specs.declared.parser.matches.ValueSource.TheVariants.{CommandLine}
use Rattle.command_options.specs.Parser.{app_with, bare, option_rule, row_for}
use Rattle.command_options.specs.Spelling.{Named, is_among}
use Rattle.command_options.specs.Options.{has_name}

-- one option more
pub option_more : (names : List (List ℕ)) (name : List ℕ) → with_rule (app_with names) (option_rule name) ≡ app_with (names ++ name ∷ [])
option_more names name = ap (λ (rules : List Rule). record bare { top = record bare.top { rules = rules } }) (sym (map-append option_rule names (name ∷ [])))

-- an option, once the command is built
abbrev pub read_rule : List ℕ → Rule
read_rule name = record (option_rule name) { range = Some (record { start_inclusive = 1; end_inclusive = 1 }); parser = Some vp.String }

abbrev pub read_rules : List (List ℕ) → List Rule
read_rules names = map read_rule names

pub built_rules : (names : List (List ℕ)) (i : ℕ) → filled_from i (map option_rule names) ≡ read_rules names
built_rules [] i = refl
built_rules (name ∷ names) i = ap (λ rules. read_rule name ∷ rules) (built_rules names i)

-- ---- looking for an option

same : (a b : List ℕ) → bytes_eq a b ≡ true → a ≡ b
same a b e = (bytes_eq-Decides a b).0 e

pub found_by_long : (names : List (List ℕ)) (name : List ℕ) → is_among names name ≡ true → arg_by_long (read_rules names) name ≡ Some (read_rule name)
found_by_long [] name e = absurd (true≢false (sym e))
found_by_long (own ∷ names) name e = go (bytes_eq own name) refl e (found_by_long names name)
  where
    go : (b : Bool) → bytes_eq own name ≡ b → (b || is_among names name) ≡ true
        → (is_among names name ≡ true → arg_by_long (read_rules names) name ≡ Some (read_rule name))
        → cond (b || false) (Some (read_rule own)) (arg_by_long (read_rules names) name) ≡ Some (read_rule name)
    go true is e others = ap (λ n. Some (read_rule n)) (same own name is)
    go false is e others = others e

pub none_by_long : (names : List (List ℕ)) (name : List ℕ) → is_among names name ≡ false → arg_by_long (read_rules names) name ≡ None
none_by_long [] name e = refl
none_by_long (own ∷ names) name e = go (bytes_eq own name) e (none_by_long names name)
  where
    go : (b : Bool) → (b || is_among names name) ≡ false → (is_among names name ≡ false → arg_by_long (read_rules names) name ≡ None)
        → cond (b || false) (Some (read_rule own)) (arg_by_long (read_rules names) name) ≡ None
    go true e others = absurd (true≢false e)
    go false e others = others e

pub found_by_id : (names : List (List ℕ)) (name : List ℕ) → is_among names name ≡ true → arg_by_id (read_rules names) name ≡ Some (read_rule name)
found_by_id [] name e = absurd (true≢false (sym e))
found_by_id (own ∷ names) name e = go (bytes_eq own name) refl e (found_by_id names name)
  where
    go : (b : Bool) → bytes_eq own name ≡ b → (b || is_among names name) ≡ true
        → (is_among names name ≡ true → arg_by_id (read_rules names) name ≡ Some (read_rule name))
        → cond b (Some (read_rule own)) (arg_by_id (read_rules names) name) ≡ Some (read_rule name)
    go true is e others = ap (λ n. Some (read_rule n)) (same own name is)
    go false is e others = others e

pub none_by_short : (names : List (List ℕ)) (c : ℕ) → arg_by_short (read_rules names) c ≡ None
none_by_short [] c = refl
none_by_short (own ∷ names) c = none_by_short names c

pub none_by_index : (names : List (List ℕ)) (i : ℕ) → arg_by_index (read_rules names) i ≡ None
none_by_index [] i = refl
none_by_index (own ∷ names) i = none_by_index names i

-- ---- rows

abbrev pub rows_for : List Named → List Row
rows_for given = map row_for given

row_is_there : (name : List ℕ) (given : List Named) → has_row name (rows_for given) ≡ has_name name given
row_is_there name [] = refl
row_is_there name (option ∷ given) = ap (λ b. bytes_eq option.0 name || b) (row_is_there name given)

no_such_row : (name : List ℕ) (change : Row → List Row) (missing : List Row) (given : List Named) → has_name name given ≡ false
    → at_row name change missing (rows_for given) ≡ rows_for given ++ missing
no_such_row name change missing [] e = refl
no_such_row name change missing (option ∷ given) e = go (bytes_eq option.0 name) e (no_such_row name change missing given)
  where
    go : (b : Bool) → (b || has_name name given) ≡ false
        → (has_name name given ≡ false → at_row name change missing (rows_for given) ≡ rows_for given ++ missing)
        → cond b (change (row_for option) ++ rows_for given) (row_for option ∷ at_row name change missing (rows_for given)) ≡ row_for option ∷ (rows_for given ++ missing)
    go true e others = absurd (true≢false e)
    go false e others = ap (λ rows. row_for option ∷ rows) (others e)

-- ---- one use

pub or_nothing : (kinds : Kinds) → or_else kinds [] ≡ kinds
or_nothing [] = refl
or_nothing (kind ∷ kinds) = refl

used_is : (name value : List ℕ) (given : List Named) → has_name name given ≡ false
    → used (read_rule name) (value ∷ []) (rows_for given) ≡ rows_for (given ++ (name, value) ∷ [])
used_is name value given e =
    ap (λ rows. with_values name AsWritten CommandLine (value ∷ []) rows) (no_such_row name (λ _. []) [] given e ∙ append-nil (rows_for given))
    ∙ no_such_row name (more_values CommandLine (value ∷ [])) (row_for (name, value) ∷ []) given e
    ∙ sym (map-append row_for given ((name, value) ∷ []))

fault_is : (name value : List ℕ) (given : List Named)
    → use_fault false (read_rule name) (value ∷ []) (rows_for given) ≡ cond (has_name name given && true) (ArgumentConflict ∷ []) []
fault_is name value given = or_nothing (repeat_fault false name (rows_for given)) ∙ ap (λ b. cond (b && true) (ArgumentConflict ∷ []) []) (row_is_there name given)

-- what is found agrees with the options that the definition states: there is no fault, and they are held; or there is a fault
abbrev pub Agrees : Option (List Named) → Kinds → List Row → Type 0
Agrees None kinds rows = kinds ≡ [] → ⊥
Agrees (Some given) kinds rows = (kinds ≡ []) × (rows ≡ rows_for given)

-- one option more, where there was none of its name
abbrev pub with_one : List Named → Named → Option (List Named)
with_one given option = cond (has_name option.0 given) None (Some (given ++ option ∷ []))

pub use_agrees : (name value : List ℕ) (given : List Named)
    → Agrees (with_one given (name, value)) (use_fault false (read_rule name) (value ∷ []) (rows_for given)) (used (read_rule name) (value ∷ []) (rows_for given))
use_agrees name value given = go (has_name name given) refl
  where
    go : (b : Bool) → has_name name given ≡ b
        → Agrees (cond b None (Some (given ++ (name, value) ∷ []))) (use_fault false (read_rule name) (value ∷ []) (rows_for given)) (used (read_rule name) (value ∷ []) (rows_for given))
    go true e = λ none.
        let conflict : ArgumentConflict ∷ [] ≡ [] = ap (λ b. cond (b && true) (ArgumentConflict ∷ []) []) (sym e) ∙ sym (fault_is name value given) ∙ none in
        cc conflict
    go false e = (fault_is name value given ∙ ap (λ b. cond (b && true) (ArgumentConflict ∷ []) []) e, used_is name value given e)

-- ---- options that weren't given

pub no_defaults : (rows : List Row) (names : List (List ℕ)) → defaults_fault rows (read_rules names) ≡ []
unfolding defaults_fault
no_defaults rows [] = refl
no_defaults rows (name ∷ names) = go (has_row name rows) (no_defaults rows names)
  where
    go : (b : Bool) → defaults_fault rows (read_rules names) ≡ []
        → or_else (cond (b || true) [] []) (defaults_fault (cond b rows rows) (read_rules names)) ≡ []
    go true others = others
    go false others = others

-- ---- the command is a simple one

all_simple : (names : List (List ℕ)) → list_all (λ a. a.is_simple) (map option_rule names) ≡ true
all_simple [] = refl
all_simple (name ∷ names) = all_simple names

all_simple_read : (names : List (List ℕ)) → list_all (λ a. a.is_simple) (read_rules names) ≡ true
all_simple_read [] = refl
all_simple_read (name ∷ names) = all_simple_read names

none_early : (names : List (List ℕ)) (n : ℕ) → list_any (is_early_multiple n) (read_rules names) ≡ false
none_early [] n = refl
none_early (name ∷ names) n = none_early names n

all_free : (names : List (List ℕ)) → list_all (λ a. a.is_free) (read_rules names) ≡ true
all_free [] = refl
all_free (name ∷ names) = all_free names

pub simple : (names : List (List ℕ)) → is_simple (app_with names) ≡ true
simple names = rw (built_rules names 1, all_simple names, all_simple_read names) (ap (λ b. not b && true) (none_early names (count_by (λ a. is_some a.index) (read_rules names))))

pub simple_and_free : (names : List (List ℕ)) → is_simple_and_free (app_with names) ≡ true
simple_and_free names = rw (simple names, built_rules names 1, all_free names) refl
