-- A flag in front of other words.
use Rattle.std.proofs.Common.{◌≡◌, ℕ, ◌&&◌, ◌||◌, Bool, true, false, not, List, [], ◌∷◌, ◌++◌, map, Option, Some, None, Result, Ok, Err, codes, refl, sym, ap, ◌∙◌}
use Rattle.std.specs.List.{list_any}
use Rattle.std.specs.Prelude.{if◌then◌else◌}
use Rattle.std.specs.Str.{bytes_eq}
use Rattle.std.proofs.lemmas.Slice.Eq.{bytes_eq-Decides}
use Rattle.front_base.specs.Cut.{cut_at}
use Rattle.json_value.specs.Results.{◌>>=◌, found_or}
use Rattle.command_options.specs.Flag.{as_option, gives_value, is_flag}
use Rattle.command_options.specs.Spelling.{Named, behind_dashes, has_equals_sign, is_among, joined, options_of, with_option}
use Rattle.command_options.specs.Options.{are_distinct, given_of, given_with, has_name, if_distinct}
use Rattle.command_options.specs.declared.fault.WordsFault.{WordsFault}
use Rattle.command_options.specs.declared.fault.WordsFault.TheVariants.{Usage}
use Rattle.command_options.proofs.OptionLemmas.{joined_first, joined_own}
use Rattle.command_options.proofs.SpellingLemmas.{behind, cut_there, has_sign}
use Rattle.command_options.proofs.WordLemmas.{no_cut}

-- what options are, distinct or not, with the flag before them
abbrev pub Answers : List ℕ → List Named → Result (List Named) WordsFault → Type 0
Answers flag given answer = answer ≡ (if has_name flag given then Err Usage else Ok ((flag, codes "true") ∷ given))

distinct_in_front : (a b : Bool) (option : Named) (given : List Named) → b ≡ true
    → found_or Usage (if not a && b then Some (option ∷ given) else None) ≡ (if a then Err Usage else Ok (option ∷ given))
distinct_in_front true b option given e = refl
distinct_in_front false true option given e = refl
distinct_in_front false false option given e = absurd (cc e)

given_in_front : (flag : List ℕ) (options : Option (List Named)) (given : List Named) → found_or Usage (if_distinct options) ≡ Ok given
    → Answers flag given (found_or Usage (if_distinct (with_option (Some (flag, codes "true")) options)))
given_in_front flag None given h = absurd (cc h)
given_in_front flag (Some own) given h = go (are_distinct own) refl h
  where
    go : (b : Bool) → are_distinct own ≡ b → found_or Usage (if b then Some own else None) ≡ Ok given
        → Answers flag given (found_or Usage (if_distinct (Some ((flag, codes "true") ∷ own))))
    go false e h = absurd (cc h)
    go true e h =
        let same : own ≡ given = cc h in
        ap (λ g. found_or Usage (if_distinct (Some ((flag, codes "true") ∷ g)))) same
        ∙ distinct_in_front (has_name flag given) (are_distinct given) (flag, codes "true") given (ap are_distinct (sym same) ∙ e)

module _ (flag : List ℕ) (names : List (List ℕ)) (known : is_among names flag ≡ true) (plain : has_equals_sign flag ≡ false) where
  abbrev word : List ℕ
  word = 45 ∷ 45 ∷ flag

  abbrev as_one : List ℕ
  as_one = 45 ∷ 45 ∷ (flag ++ 61 ∷ codes "true")

  itself : is_flag flag word ≡ true
  itself = rw (behind flag) ((bytes_eq-Decides flag flag).1 refl)

  no_value : gives_value flag word ≡ false
  no_value = rw (behind flag, no_cut flag plain) refl

  handed_on : as_option flag word ≡ as_one
  handed_on = rw itself refl

  joined_is : Some (flag, codes "true") ≡ joined names as_one
  joined_is = sym (joined_own names as_one (flag ++ 61 ∷ codes "true") (behind (flag ++ 61 ∷ codes "true")) flag (codes "true") (cut_there flag (codes "true") plain) known refl)

  abbrev options_in : List (List ℕ) → Option (List Named)
  options_in words = options_of names (map (as_option flag) words)

  in_front : (words : List (List ℕ)) → options_in (word ∷ words) ≡ with_option (Some (flag, codes "true")) (options_in words)
  in_front words =
      ap (λ w. options_of names (w ∷ map (as_option flag) words)) handed_on
      ∙ sym (joined_first names as_one (map (as_option flag) words) (Some (flag, codes "true")) (has_sign flag (codes "true")) joined_is)

  -- words that are a command line, with the flag before them
  pub flag_in_front : (words : List (List ℕ)) (given : List Named) → given_with flag names words ≡ Ok given → Answers flag given (given_with flag names (word ∷ words))
  unfolding given_with given_of
  flag_in_front words given h = go (gives_value flag word) (list_any (gives_value flag) words) no_value h
    where
      go : (a b : Bool) → a ≡ false → ((if b then Err Usage else Ok (map (as_option flag) words)) >>= given_of names) ≡ Ok given
          → Answers flag given ((if a || b then Err Usage else Ok (map (as_option flag) (word ∷ words))) >>= given_of names)
      go true b e h = absurd (cc e)
      go false true e h = absurd (cc h)
      go false false e h = rw (in_front words) (given_in_front flag (options_in words) given h)
