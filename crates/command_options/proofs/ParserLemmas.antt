-- `clap` takes the words that the definition takes, and holds the options that it states.
use Rattle.std.proofs.Common.{◌≡◌, ℕ, ◌||◌, Bool, true, false, not, true≢false, List, [], ◌∷◌, Option, Some, None, IsUtf8, codes, option_map, refl, sym, ap, ap₂, subst, ◌∙◌}
use Rattle.std.specs.List.{list_any}
use Rattle.std.specs.Str.{bytes_eq}
use Rattle.std.specs.Option.{option_map_or}
use Rattle.clap.specs.Faults.{long_fault, option_fault, settle_fault, use_fault}
use Rattle.clap.specs.Kinds.{Kinds, or_else}
use Rattle.clap.specs.Lexer.{name_and_value}
use Rattle.clap.specs.Walk.{Held, Row, Rule, Text, Waiting, Walk, idle, option, settled, used, used_by_id}
use Rattle.clap.specs.declared.error.kind.ErrorKind.TheVariants.{InvalidValue}
use Rattle.front_base.specs.Address.{◌>>=◌}
use Rattle.front_base.specs.Cut.{cut_at}
use Rattle.command_options.specs.Parser.{has_empty_end, has_empty_value, is_doubtful}
use Rattle.command_options.specs.Spelling.{Named, begins_with_dash, has_equals_sign, is_among, is_some_text, options_of, with_option}
use Rattle.command_options.proofs.DistinctLemmas.{with_all}
use Rattle.command_options.proofs.OptionLemmas.{apart_first, apart_other, apart_own, joined_first, joined_other, joined_own, no_dashed_value, no_option, no_value, no_words}
use Rattle.command_options.proofs.RuleLemmas.{Agrees, found_by_id, found_by_long, read_rule, rows_for, use_agrees, with_one}
use Rattle.command_options.proofs.WalkLemmas.{AgreesAfter, Fails, after, agrees_next, fails_as, fails_first, fault, faults, held, joined_turn, long_fails_by, name_turn, no_more_faults, one_kind, refused, rules, short_fails, standing, step_of, stray_fails, turn, unknown_fails, value_turn}
use Rattle.command_options.proofs.WordLemmas.{IsLong, IsPlain, IsShort, Lexed, cut_at_sign, lexed, long, name_in, parts_at_sign, parts_without, plain, short, value_in}

-- an option whose value is read is held at the next one, or at the end
abbrev pub with_last : List Named → Option Named → Option (List Named)
with_last given None = Some given
with_last given (Some last) = with_one given last

none_follow : (given : Option (List Named)) → (given >>= (λ now. with_all now None)) ≡ None
none_follow None = refl
none_follow (Some given) = refl

as_it_is : (given : Option (List Named)) → (given >>= (λ now. with_all now (Some []))) ≡ given
as_it_is None = refl
as_it_is (Some given) = refl

one_more : (given : List Named) (first : Named) (others : Option (List Named))
    → with_all given (with_option (Some first) others) ≡ (with_one given first >>= (λ now. with_all now others))
one_more given first None = sym (none_follow (with_one given first))
one_more given first (Some others) = refl

-- ---- doubtful words

neither : (a b : Bool) → (a || b) ≡ false → (a ≡ false) × (b ≡ false)
neither true b e = absurd (true≢false e)
neither false b e = (refl, e)

not_false : (b : Bool) → not b ≡ false → b ≡ true
not_false true e = refl
not_false false e = absurd (true≢false e)

some_word : (word : List ℕ) → is_doubtful word ≡ false → is_some_text word ≡ true
unfolding is_doubtful
some_word word e = not_false (is_some_text word) (neither _ _ e).0

some_value : (word : List ℕ) → is_doubtful word ≡ false → has_empty_value word ≡ false
unfolding is_doubtful
some_value word e =
    let some = neither (not (is_some_text word)) (bytes_eq word (codes "-") || (bytes_eq word (codes "--") || has_empty_value word)) e in
    let more = neither (bytes_eq word (codes "-")) (bytes_eq word (codes "--") || has_empty_value word) some.1 in
    (neither (bytes_eq word (codes "--")) (has_empty_value word) more.1).1

abbrev pub AreTexts : List Text → Type 0
AreTexts [] = Unit {0}
AreTexts (word ∷ words) = IsUtf8 word × AreTexts words

module _ (names : List (List ℕ)) where
  -- after options, and maybe one whose value is read
  abbrev pub start : List Named → Option Named → Walk
  start given last = standing (held (rows_for given) (option_map (λ p. (p.0, p.1 ∷ [])) last)) idle

  -- an option waits for its value
  abbrev waits : List Named → Text → Walk
  waits given name = standing (held (rows_for given) (Some (name, []))) (option name)

  -- such an option is one of the command's
  abbrev pub IsOwn : Option Named → Type 0
  IsOwn None = Unit {0}
  IsOwn (Some last) = is_among names last.0 ≡ true

  -- wherever the walk stands, these words lead it to the options that the definition states
  abbrev pub Goes : List Text → Type 0
  Goes words = (given : List Named) (last : Option Named) → IsOwn last
      → AgreesAfter names (with_last given last >>= (λ now. with_all now (options_of names words))) (start given last) words

  -- the last option is held, or there was one of its name
  last_agrees : (given : List Named) (last : Option Named) → IsOwn last
      → Agrees (with_last given last) (settle_fault (rules names) false (start given last).held) (settled (rules names) (start given last).held).rows
  last_agrees given None own = (refl, refl)
  last_agrees given (Some last) own =
      subst (λ (o : Option Rule). Agrees (with_one given last) (option_map_or (λ a. use_fault false a (last.1 ∷ []) (rows_for given)) o []) (used_by_id o (last.1 ∷ []) (rows_for given)))
      (sym (found_by_id names last.0 own)) (use_agrees last.0 last.1 given)

  -- an option without its value is a fault
  waiting_fails : (rows : List Row) (name : Text) → is_among names name ≡ true → Fails (settle_fault (rules names) false (held rows (Some (name, []))))
  waiting_fails rows name own =
      fails_as _ (InvalidValue ∷ []) (ap (λ (o : Option Rule). option_map_or (λ a. use_fault false a [] rows) o []) (found_by_id names name own)) (one_kind InvalidValue)

  -- words that spell no options spell none behind others
  no_more : (given : List Named) (last : Option Named) (words : List Text) → options_of names words ≡ None
      → (with_last given last >>= (λ now. with_all now (options_of names words))) ≡ None
  no_more given last words e = ap (λ o. with_last given last >>= (λ now. with_all now o)) e ∙ none_follow (with_last given last)

  -- ---- words that are no option

  plain_goes : (word : Text) (words : List Text) → IsPlain word → Goes (word ∷ words)
  plain_goes word words p given last own =
      refused names _ (start given last) word words (no_more given last (word ∷ words) (no_option names word words p.behind)) (stray_fails names word (start given last).held p)

  short_goes : (word : Text) (c : ℕ) (flags : Text) (words : List Text) → IsShort word c flags → IsUtf8 word → Goes (word ∷ words)
  short_goes word c flags words s utf8 given last own =
      refused names _ (start given last) word words (no_more given last (word ∷ words) (no_option names word words s.behind))
      (short_fails names word c flags idle (rows_for given) (start given last).held.pending s utf8)

  unknown_goes : (word text : Text) (words : List Text) → IsLong word text → is_among names (name_and_value text).0 ≡ false → options_of names (word ∷ words) ≡ None → Goes (word ∷ words)
  unknown_goes word text words l e none given last own =
      refused names _ (start given last) word words (no_more given last (word ∷ words) none) (unknown_fails names word text idle (start given last).held l e)

  -- ---- an option in one word

  abbrev option_in : Text → Named
  option_in text = (name_in text, value_in text)

  -- its value isn't empty
  value_there : (word text : Text) → IsLong word text → has_equals_sign text ≡ true → is_doubtful word ≡ false → is_some_text (value_in text) ≡ true
  value_there word text l sign sure =
      let ends : has_empty_end (Some (option_in text)) ≡ has_empty_value word =
      sym (ap (λ (o : Option Text). has_empty_end (o >>= cut_at 61)) l.behind ∙ ap has_empty_end (cut_at_sign text sign)) in
      not_false (is_some_text (value_in text)) (ends ∙ some_value word sure)

  -- what the definition states of such a word
  joined_is : (word text : Text) (words : List Text) → IsLong word text → has_equals_sign text ≡ true → is_doubtful word ≡ false → is_among names (name_in text) ≡ true
      → with_option (Some (option_in text)) (options_of names words) ≡ options_of names (word ∷ words)
  joined_is word text words l sign sure own =
      joined_first names word words (Some (option_in text)) (l.sign ∙ sign)
      (sym (joined_own names word text l.behind (name_in text) (value_in text) (cut_at_sign text sign) own (value_there word text l sign sure)))

  joined_isnt : (word text : Text) (words : List Text) → IsLong word text → has_equals_sign text ≡ true → is_among names (name_in text) ≡ false → options_of names (word ∷ words) ≡ None
  joined_isnt word text words l sign other =
      sym (joined_first names word words None (l.sign ∙ sign) (sym (joined_other names word text l.behind (name_in text) (value_in text) (cut_at_sign text sign) other)))

  abbrev use_of : Text → List Row → Kinds
  use_of text rows = use_fault false (read_rule (name_in text)) (value_in text ∷ []) rows

  abbrev rows_with : Text → List Row → List Row
  rows_with text rows = used (read_rule (name_in text)) (value_in text ∷ []) rows

  -- the options before it are held
  own_follows : (word text : Text) (words : List Text) → IsLong word text → has_equals_sign text ≡ true → is_among names (name_in text) ≡ true → Goes words
      → (given : List Named) (last : Option Named) (now : List Named)
      → Agrees (Some now) (settle_fault (rules names) false (start given last).held) (settled (rules names) (start given last).held).rows
      → (found : Option (List Named)) → with_one now (option_in text) ≡ found → Agrees found (use_of text (rows_for now)) (rows_with text (rows_for now))
      → AgreesAfter names (with_all now (with_option (Some (option_in text)) (options_of names words))) (start given last) (word ∷ words)
  own_follows word text words l sign own rest given last now h found e a =
      let t = joined_turn names word text (name_in text) (value_in text) idle (start given last).held l (parts_at_sign text sign) own in
      let kinds : turn names idle word (start given last).held ≡ use_of text (rows_for now) = t.0 ∙ ap₂ (λ (k : Kinds) (r : List Row). or_else k (use_of text r)) h.0 h.1 in
      let stands = t.1 ∙ ap (λ (r : List Row). standing (held (rows_with text r) None) idle) h.1 in
      let all = one_more now (option_in text) (options_of names words) ∙ ap (λ (o : Option (List Named)). o >>= (λ all. with_all all (options_of names words))) e in
      subst (λ (o : Option (List Named)). AgreesAfter names o (start given last) (word ∷ words)) (sym all) (go found a kinds stands)
    where
      go : (found : Option (List Named)) → Agrees found (use_of text (rows_for now)) (rows_with text (rows_for now))
          → turn names idle word (start given last).held ≡ use_of text (rows_for now)
          → after names idle word (start given last).held ≡ standing (held (rows_with text (rows_for now)) None) idle
          → AgreesAfter names (found >>= (λ all. with_all all (options_of names words))) (start given last) (word ∷ words)
      go None fails kinds stands = refused names None (start given last) word words refl (fails_as (turn names idle word (start given last).held) (use_of text (rows_for now)) kinds fails)
      go (Some all) a kinds stands =
          agrees_next names (with_all all (options_of names words)) (start given last) (start all None) word words (kinds ∙ a.0)
          (stands ∙ ap (λ (r : List Row). standing (held r None) idle) a.1) (rest all None tt)

  -- the option is one of the command's
  own_goes : (word text : Text) (words : List Text) → IsLong word text → has_equals_sign text ≡ true → is_among names (name_in text) ≡ true → Goes words
      → (given : List Named) (last : Option Named) (found : Option (List Named))
      → Agrees found (settle_fault (rules names) false (start given last).held) (settled (rules names) (start given last).held).rows
      → AgreesAfter names (found >>= (λ now. with_all now (with_option (Some (option_in text)) (options_of names words)))) (start given last) (word ∷ words)
  own_goes word text words l sign own rest given last None fails =
      let t = joined_turn names word text (name_in text) (value_in text) idle (start given last).held l (parts_at_sign text sign) own in
      refused names None (start given last) word words refl
      (fails_as (turn names idle word (start given last).held) _ t.0 (fails_first (settle_fault (rules names) false (start given last).held) (use_of text (settled (rules names) (start given last).held).rows) fails))
  own_goes word text words l sign own rest given last (Some now) h =
      own_follows word text words l sign own rest given last now h (with_one now (option_in text)) refl (use_agrees (name_in text) (value_in text) now)

  joined_goes : (word text : Text) (words : List Text) → IsLong word text → has_equals_sign text ≡ true → is_doubtful word ≡ false → Goes words → Goes (word ∷ words)
  joined_goes word text words l sign sure rest = go (is_among names (name_in text)) refl
    where
      go : (b : Bool) → is_among names (name_in text) ≡ b → Goes (word ∷ words)
      go true own = λ given last is_own.
          let all = ap (λ (o : Option (List Named)). with_last given last >>= (λ now. with_all now o)) (joined_is word text words l sign sure own) in
          subst (λ (o : Option (List Named)). AgreesAfter names o (start given last) (word ∷ words)) all (own_goes word text words l sign own rest given last (with_last given last) (last_agrees given last is_own))
      go false other = unknown_goes word text words l (ap (λ (p : Text × Option Text). is_among names p.0) (parts_at_sign text sign) ∙ other) (joined_isnt word text words l sign other)

  -- ---- an option in two words

  apart_is : (word text value : Text) (words : List Text) → IsLong word text → has_equals_sign text ≡ false → is_among names text ≡ true → IsPlain value → is_doubtful value ≡ false
      → with_option (Some (text, value)) (options_of names words) ≡ options_of names (word ∷ value ∷ words)
  apart_is word text value words l sign own p sure =
      apart_first names word value words (Some (text, value)) (l.sign ∙ sign) (sym (apart_own names word text l.behind value own (some_word value sure) p.dash))

  apart_isnt : (word text value : Text) (words : List Text) → IsLong word text → has_equals_sign text ≡ false → is_among names text ≡ false → options_of names (word ∷ value ∷ words) ≡ None
  apart_isnt word text value words l sign other = sym (apart_first names word value words None (l.sign ∙ sign) (sym (apart_other names word text l.behind value other)))

  dash_isnt : (word text value : Text) (words : List Text) → IsLong word text → has_equals_sign text ≡ false → begins_with_dash value ≡ true → options_of names (word ∷ value ∷ words) ≡ None
  dash_isnt word text value words l sign dash = sym (apart_first names word value words None (l.sign ∙ sign) (sym (no_dashed_value names word value dash)))

  -- the options before it are held, and its value is awaited
  abbrev AwaitsAll : Text → Text → List Text → Type 0
  AwaitsAll word text words = (now : List Named) → AgreesAfter names (with_all now (options_of names (word ∷ words))) (waits now text) words

  -- the option is one of the command's
  name_goes : (word text : Text) (words : List Text) → IsLong word text → has_equals_sign text ≡ false → is_among names text ≡ true → AwaitsAll word text words
      → (given : List Named) (last : Option Named) (found : Option (List Named))
      → Agrees found (settle_fault (rules names) false (start given last).held) (settled (rules names) (start given last).held).rows
      → AgreesAfter names (found >>= (λ now. with_all now (options_of names (word ∷ words)))) (start given last) (word ∷ words)
  name_goes word text words l sign own rest given last None fails =
      let t = name_turn names word text idle (start given last).held l (parts_without text sign) own in
      refused names None (start given last) word words refl (fails_as (turn names idle word (start given last).held) (settle_fault (rules names) false (start given last).held) t.0 fails)
  name_goes word text words l sign own rest given last (Some now) h =
      let t = name_turn names word text idle (start given last).held l (parts_without text sign) own in
      let stands = t.1 ∙ ap (λ (r : List Row). standing (held r (Some (text, []))) (option text)) h.1 in
      agrees_next names (with_all now (options_of names (word ∷ words))) (start given last) (waits now text) word words (t.0 ∙ h.0) stands (rest now)

  apart_goes : (word text : Text) (words : List Text) → IsLong word text → has_equals_sign text ≡ false
      → (is_among names text ≡ false → options_of names (word ∷ words) ≡ None) → (is_among names text ≡ true → AwaitsAll word text words) → Goes (word ∷ words)
  apart_goes word text words l sign none rest = go (is_among names text) refl
    where
      go : (b : Bool) → is_among names text ≡ b → Goes (word ∷ words)
      go true own = λ given last is_own. name_goes word text words l sign own (rest own) given last (with_last given last) (last_agrees given last is_own)
      go false other = unknown_goes word text words l (ap (λ (p : Text × Option Text). is_among names p.0) (parts_without text sign) ∙ other) (none other)

  -- no word follows
  awaits_none : (word text : Text) → IsLong word text → has_equals_sign text ≡ false → is_among names text ≡ true → AwaitsAll word text []
  awaits_none word text l sign own now =
      rw (no_value names word (l.sign ∙ sign)) (fails_as (faults names (waits now text) []) _ (no_more_faults names (waits now text)) (waiting_fails (rows_for now) text own))

  -- an option follows, and no value
  option_fails : (rule : Rule) (value : Option Text) (h : Held) → Fails (settle_fault (rules names) false h) → Fails (option_fault (rules names) false rule value h)
  option_fails rule None h fails = fails
  option_fails rule (Some value) h fails =
      fails_first (settle_fault (rules names) false h) (use_fault false rule (value ∷ []) (settled (rules names) h).rows) fails

  long_fails : (word text : Text) (waiting : Waiting) (h : Held) → IsLong word text → Fails (settle_fault (rules names) false h) → Fails (turn names waiting word h)
  long_fails word text waiting h l fails = go (is_among names (name_and_value text).0) refl
    where
      go : (b : Bool) → is_among names (name_and_value text).0 ≡ b → Fails (turn names waiting word h)
      go false other = unknown_fails names word text waiting h l other
      go true own =
          let is = long_fails_by names word text waiting h l
          ∙ ap (λ (o : Option Rule). long_fault (rules names) false o (name_and_value text).1 h) (found_by_long names (name_and_value text).0 own) in
          fails_first (fault names waiting word h) (step_of names waiting word h)
          (fails_as (fault names waiting word h) (option_fault (rules names) false (read_rule (name_and_value text).0) (name_and_value text).1 h) is
          (option_fails (read_rule (name_and_value text).0) (name_and_value text).1 h fails))

  awaits : (word text value : Text) (words : List Text) → IsLong word text → has_equals_sign text ≡ false → is_among names text ≡ true
      → is_doubtful value ≡ false → IsUtf8 value → Lexed value → Goes words → AwaitsAll word text (value ∷ words)
  awaits word text value words l sign own sure utf8 (plain p) rest now =
      let t = value_turn names value text (rows_for now) p own in
      let all = sym (one_more now (text, value) (options_of names words)) ∙ ap (with_all now) (apart_is word text value words l sign own p sure) in
      agrees_next names _ (waits now text) (start now (Some (text, value))) value words t.0 t.1
      (subst (λ (o : Option (List Named)). AgreesAfter names o (start now (Some (text, value))) words) all (rest now (Some (text, value)) own))
  awaits word text value words l sign own sure utf8 (short c flags s) rest now =
      refused names _ (waits now text) value words (ap (with_all now) (dash_isnt word text value words l sign s.dash))
      (short_fails names value c flags (option text) (rows_for now) (Some (text, [])) s utf8)
  awaits word text value words l sign own sure utf8 (long other m) rest now =
      refused names _ (waits now text) value words (ap (with_all now) (dash_isnt word text value words l sign m.dash))
      (long_fails value other (option text) (waits now text).held m (waiting_fails (rows_for now) text own))

  -- ---- all words

  last_goes : (word : Text) → is_doubtful word ≡ false → IsUtf8 word → Lexed word → Goes [] → Goes (word ∷ [])
  last_goes word sure utf8 (plain p) rest = plain_goes word [] p
  last_goes word sure utf8 (short c flags s) rest = short_goes word c flags [] s utf8
  last_goes word sure utf8 (long text l) rest = go (has_equals_sign text) refl
    where
      go : (b : Bool) → has_equals_sign text ≡ b → Goes (word ∷ [])
      go true sign = joined_goes word text [] l sign sure rest
      go false sign = apart_goes word text [] l sign (λ _. no_value names word (l.sign ∙ sign)) (λ own. awaits_none word text l sign own)

  first_goes : (word next : Text) (words : List Text) → is_doubtful word ≡ false → IsUtf8 word → is_doubtful next ≡ false → IsUtf8 next → Lexed word → Goes (next ∷ words) → Goes words
      → Goes (word ∷ next ∷ words)
  first_goes word next words sure utf8 sure_too utf8_too (plain p) rest more = plain_goes word (next ∷ words) p
  first_goes word next words sure utf8 sure_too utf8_too (short c flags s) rest more = short_goes word c flags (next ∷ words) s utf8
  first_goes word next words sure utf8 sure_too utf8_too (long text l) rest more = go (has_equals_sign text) refl
    where
      go : (b : Bool) → has_equals_sign text ≡ b → Goes (word ∷ next ∷ words)
      go true sign = joined_goes word text (next ∷ words) l sign sure rest
      go false sign =
          apart_goes word text (next ∷ words) l sign (apart_isnt word text next words l sign)
          (λ own. awaits word text next words l sign own sure_too utf8_too (lexed next sure_too) more)

  no_word_goes : Goes []
  no_word_goes given last own =
      let all = ap (λ (o : Option (List Named)). with_last given last >>= (λ now. with_all now o)) (no_words names) ∙ as_it_is (with_last given last) in
      rw (all, no_more_faults names (start given last)) (last_agrees given last own)

  pub goes : (words : List Text) → list_any is_doubtful words ≡ false → AreTexts words → Goes words
  goes [] sure utf8 = no_word_goes
  goes (word ∷ []) sure utf8 =
      let here = neither (is_doubtful word) (list_any is_doubtful []) sure in
      last_goes word here.0 utf8.0 (lexed word here.0) no_word_goes
  goes (word ∷ next ∷ words) sure utf8 =
      let here = neither (is_doubtful word) (list_any is_doubtful (next ∷ words)) sure in
      let there = neither (is_doubtful next) (list_any is_doubtful words) here.1 in
      first_goes word next words here.0 utf8.0 there.0 utf8.1.0 (lexed word here.0) (goes (next ∷ words) here.1 utf8.1) (goes words there.1 utf8.1.1)
