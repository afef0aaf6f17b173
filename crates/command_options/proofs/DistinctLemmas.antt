-- Options that are added one after the other are distinct.
use Rattle.std.proofs.Common.{◌≡◌, ℕ, ◌&&◌, ◌||◌, Bool, true, false, cond, not, List, [], ◌∷◌, ◌++◌, Option, Some, None, append-nil, append_assoc, refl, sym, ap, ap₂, ◌∙◌}
use Rattle.std.specs.Str.{bytes_eq}
use Rattle.std.specs.Prelude.{option_and_then, slice_get}
use Rattle.std.proofs.lemmas.Bool.Decides.{same_from_decides}
use Rattle.std.proofs.lemmas.Slice.Eq.{bytes_eq-Decides}
use Rattle.std.specs.List.{find}
use Rattle.clap.specs.Walk.{Row, first_of}
use Rattle.front_base.specs.Address.{◌>>=◌}
use Rattle.command_options.specs.Parser.{row_for}
use Rattle.command_options.specs.Spelling.{Named}
use Rattle.command_options.specs.Options.{are_distinct, has_name, if_distinct, value_of}
use Rattle.command_options.proofs.RuleLemmas.{rows_for, with_one}

abbrev pub adds : List Named → List Named → Option (List Named)
adds given [] = Some given
adds given (first ∷ others) = with_one given first >>= (λ now. adds now others)

abbrev pub with_all : List Named → Option (List Named) → Option (List Named)
with_all given None = None
with_all given (Some options) = adds given options

-- no option has a name of those that were given
abbrev none_in : List Named → List Named → Bool
none_in given [] = true
none_in given (option ∷ options) = not (has_name option.0 given) && none_in given options

same_eq : (a b : List ℕ) → bytes_eq a b ≡ bytes_eq b a
same_eq a b =
    let d = bytes_eq-Decides b a in
    same_from_decides (bytes_eq a b) (bytes_eq b a) (bytes_eq-Decides a b) ((λ e. sym (d.0 e)), (λ e. d.1 (sym e)))

or_assoc : (a b c : Bool) → (a || (b || c)) ≡ ((a || b) || c)
or_assoc true b c = refl
or_assoc false b c = refl

or_none : (a : Bool) → (a || false) ≡ a
or_none true = refl
or_none false = refl

name_pushed : (name : List ℕ) (given : List Named) (last : Named) → has_name name (given ++ last ∷ []) ≡ (has_name name given || bytes_eq last.0 name)
name_pushed name [] last = or_none (bytes_eq last.0 name)
name_pushed name (option ∷ given) last = ap (λ b. bytes_eq option.0 name || b) (name_pushed name given last) ∙ or_assoc (bytes_eq option.0 name) (has_name name given) (bytes_eq last.0 name)

either : (a e n h : Bool) → (not (a || e) && (n && not h)) ≡ ((not a && n) && not (e || h))
either true e n h = refl
either false true true h = refl
either false true false h = refl
either false false n h = refl

none_pushed : (given : List Named) (last : Named) (options : List Named) → none_in (given ++ last ∷ []) options ≡ (none_in given options && not (has_name last.0 options))
none_pushed given last [] = refl
none_pushed given last (option ∷ options) =
    ap₂ (λ a b. not a && b) (name_pushed option.0 given last) (none_pushed given last options)
    ∙ ap (λ e. not (has_name option.0 given || e) && (none_in given options && not (has_name last.0 options))) (same_eq last.0 option.0)
    ∙ either (has_name option.0 given) (bytes_eq option.0 last.0) (none_in given options) (has_name last.0 options)

never : (a n : Bool) → (a && (false && n)) ≡ false
never true n = refl
never false n = refl

turned : (d n h : Bool) → (d && (n && not h)) ≡ ((not h && d) && n)
turned true n true = both n
  where
    both : (n : Bool) → (n && false) ≡ false
    both true = refl
    both false = refl
turned true true false = refl
turned true false false = refl
turned false n true = refl
turned false n false = refl

added : (given options : List Named) → adds given options ≡ cond (are_distinct options && none_in given options) (Some (given ++ options)) None
added given [] = ap Some (sym (append-nil given))
added given (first ∷ others) = go (has_name first.0 given) (added (given ++ first ∷ []) others)
  where
    go : (b : Bool)
        → adds (given ++ first ∷ []) others ≡ cond (are_distinct others && none_in (given ++ first ∷ []) others) (Some ((given ++ first ∷ []) ++ others)) None
        → (cond b None (Some (given ++ first ∷ [])) >>= (λ now. adds now others))
        ≡ cond ((not (has_name first.0 others) && are_distinct others) && (not b && none_in given others)) (Some (given ++ first ∷ others)) None
    go true ih = ap (λ c. cond c (Some (given ++ first ∷ others)) None) (sym (never (not (has_name first.0 others) && are_distinct others) (none_in given others)))
    go false ih =
        let same : (are_distinct others && none_in (given ++ first ∷ []) others) ≡ ((not (has_name first.0 others) && are_distinct others) && none_in given others) =
        ap (λ n. are_distinct others && n) (none_pushed given first others) ∙ turned (are_distinct others) (none_in given others) (has_name first.0 others) in
        ih ∙ ap₂ (λ c all. cond c (Some all) None) same (append_assoc given (first ∷ []) others)

none_before : (options : List Named) → none_in [] options ≡ true
none_before [] = refl
none_before (option ∷ options) = none_before options

and_all : (a : Bool) → (a && true) ≡ a
and_all true = refl
and_all false = refl

-- added to none
pub added_is : (options : Option (List Named)) → with_all [] options ≡ if_distinct options
added_is None = refl
added_is (Some options) =
    added [] options ∙ ap (λ c. cond c (Some options) None) (ap (λ b. are_distinct options && b) (none_before options) ∙ and_all (are_distinct options))

-- ---- the value of an option

pub value_is : (name : List ℕ) (given : List Named) → first_of name (rows_for given) ≡ value_of name given
value_is name [] = refl
value_is name (option ∷ given) = go (bytes_eq option.0 name) (value_is name given)
  where
    go : (b : Bool) → first_of name (rows_for given) ≡ value_of name given
        → option_and_then (λ (r : Row). slice_get r.values 0) (cond b (Some (row_for option)) (find (λ r. bytes_eq r.id name) (rows_for given))) ≡ cond b (Some option.1) (value_of name given)
    go true ih = refl
    go false ih = ih
