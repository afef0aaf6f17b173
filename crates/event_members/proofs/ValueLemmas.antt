-- Numbers and names that were written are read again.
use Rattle.std.proofs.Common.{◌≡◌, ℕ, ◌<◌, ◌^◌, Bool, true, false, nat_lt, List, [], ◌∷◌, ◌++◌, length, Option, Some, None, refl, ap, ◌∙◌, append_assoc, arith}
use Rattle.std.specs.Prelude.{◌&&◌, codes, IfSome}
use Rattle.std.specs.Char.{is_ascii_digit}
use Rattle.std.specs.Fmt.{decimal}
use Rattle.std.specs.Str.{all_ascii_digits, is_utf8, IsAscii}
use Rattle.std.proofs.lemmas.Str.{IsUtf8-from_ascii, is_utf8-from_IsUtf8}
use Rattle.std.proofs.lemmas.Str.Ascii.{IsAscii-nil, IsAscii-cons}
use Rattle.std.specs.Str.Parse.{digits_value}
use Rattle.std.proofs.lemmas.Bool.Decides.{nat_tests}
use Rattle.std.proofs.lemmas.Fmt.{digits_decimal, decimal_is_IsNumeral}
use Rattle.std.proofs.lemmas.List.{take_at, drop_at}
use Rattle.std.proofs.lemmas.Str.Parse.{IsNumeralModel, numerals_by_value, tells_all_ascii_digits}
use Rattle.front_base.specs.Number.{number_of}
use Rattle.front_base.specs.Level.{level_name, level_of}
use Rattle.front_base.specs.Stage.{stage_name, stage_of}
use Rattle.front_base.specs.declared.level.Level.{Level}
use Rattle.front_base.specs.declared.level.Level.TheVariants as level
use Rattle.front_base.specs.declared.stage.Stage.{Stage}
use Rattle.front_base.specs.declared.stage.Stage.TheVariants as stage
use Rattle.event_text.specs.Members.{joined, after_commas, member, object, text}
use Rattle.event_text.specs.Line.{source_member, status_members}
use Rattle.event_members.specs.TextMembers.{after_word, skip_comma}
use Rattle.event_members.specs.Values.{digits_len, below_at, dotted_at, peer_at, status_at, code_if_at, level_at, stage_at}
use Rattle.event_members.proofs.MemberLemmas.{first_is, value_again, text_member_again, comma_skipped, object_end_again}

-- ---- numbers

own : IsNumeralModel (λ ds. all_ascii_digits ds ≡ true) (digits_value 10)
own = numerals_by_value _ tells_all_ascii_digits

lt_true : (m n : ℕ) → m < n → nat_lt m n ≡ true
lt_true m n h = grind (arith, nat_tests)

number_again : (n : ℕ) → n < 2 ^ 64 → number_of (decimal n) ≡ Some n
unfolding number_of
number_again n h =
    let a : all_ascii_digits (decimal n) ≡ true = digits_decimal own n h in
    let d = decimal_is_IsNumeral n h in
    let l : nat_lt 0 (length (decimal n)) ≡ true = lt_true 0 (length (decimal n)) d.0.0 in
    let v : digits_value 10 (decimal n) ≡ n = d.1 in
    let f : nat_lt n (2 ^ 64) ≡ true = lt_true n (2 ^ 64) h in
    rw (l, a, v, f) refl

both : (a b : Bool) → (a && b) ≡ true → (a ≡ true) × (b ≡ true)
both true b e = (refl, e)
both false b e = absurd (cc e)

-- what follows digits begins with none
abbrev pub Follows : List ℕ → Type 0
Follows [] = Unit {0}
Follows (c ∷ cs) = is_ascii_digit c ≡ false

run_of : (ds rest : List ℕ) → all_ascii_digits ds ≡ true → Follows rest → digits_len (ds ++ rest) ≡ length ds
run_of [] [] e f = refl
run_of [] (c ∷ cs) e f = let none : is_ascii_digit c ≡ false = f in rw none refl
run_of (d ∷ ds) rest e f =
    let h = both (is_ascii_digit d) (all_ascii_digits ds) e in
    let more : digits_len (ds ++ rest) ≡ length ds = run_of ds rest h.1 f in
    rw h.0 (omega (arith, more))

pub below_again : (limit n : ℕ) (rest : List ℕ) → n < limit → n < 2 ^ 64 → Follows rest → below_at limit (decimal n ++ rest) ≡ Some (n, rest)
unfolding below_at
below_again limit n rest h small follows =
    let run = run_of (decimal n) rest (digits_decimal own n small) follows in
    rw (run, take_at (decimal n) rest (length (decimal n)) refl, drop_at (decimal n) rest (length (decimal n)) refl, number_again n small, lt_true n limit h) refl

dotted_again : (n : ℕ) (rest : List ℕ) → n < 256 → dotted_at (decimal n ++ 46 ∷ rest) ≡ Some (n, rest)
unfolding dotted_at
dotted_again n rest h = rw (below_again 256 n (46 ∷ rest) h (omega arith) refl) refl

pub peer_again : (a b c d : ℕ) (ms : List (List ℕ)) (t : List ℕ) → skip_comma t ≡ t → a < 256 → b < 256 → c < 256 → d < 256 →
    peer_at (joined (source_member (a ∷ b ∷ c ∷ d ∷ []) ∷ ms) ++ t) ≡ Some (a ∷ b ∷ c ∷ d ∷ [], joined ms ++ t)
unfolding peer_at
peer_again a b c d ms t ends ha hb hc hd =
    let rest = after_commas ms ++ t in
    let whole : joined (source_member (a ∷ b ∷ c ∷ d ∷ []) ∷ ms) ++ t
    ≡ codes "\"sourceIPs\":[\"" ++ (decimal a ++ 46 ∷ (decimal b ++ 46 ∷ (decimal c ++ 46 ∷ (decimal d ++ 34 ∷ 93 ∷ rest)))) =
    first_is (codes "sourceIPs") _ ms t ∙ simp append_assoc in
    ap peer_at whole
    ∙ rw (
      dotted_again a (decimal b ++ 46 ∷ (decimal c ++ 46 ∷ (decimal d ++ 34 ∷ 93 ∷ rest))) ha,
      dotted_again b (decimal c ++ 46 ∷ (decimal d ++ 34 ∷ 93 ∷ rest)) hb,
      dotted_again c (decimal d ++ 34 ∷ 93 ∷ rest) hc,
      below_again 256 d (34 ∷ 93 ∷ rest) hd (omega arith) refl,
    )
    (ap (λ (l : List ℕ). Some (a ∷ b ∷ c ∷ d ∷ [], l)) (comma_skipped ms t ends))

status_again : (n : ℕ) (ms : List (List ℕ)) (t : List ℕ) → skip_comma t ≡ t → n < 65536 →
    status_at (object (member (codes "metadata") (object []) ∷ member (codes "code") (decimal n) ∷ []) ++ (after_commas ms ++ t)) ≡ Some (n, joined ms ++ t)
unfolding status_at
status_again n ms t ends h =
    let rest = after_commas ms ++ t in
    let whole : object (member (codes "metadata") (object []) ∷ member (codes "code") (decimal n) ∷ []) ++ rest
    ≡ codes "{\"metadata\":{},\"code\":" ++ (decimal n ++ 125 ∷ rest) = simp append_assoc in
    ap status_at whole ∙ rw (below_again 65536 n (125 ∷ rest) h (omega arith) refl, object_end_again ms t ends) refl

pub code_again : (o : Option ℕ) (ms : List (List ℕ)) (t : List ℕ) → skip_comma t ≡ t → IfSome o (λ n. n < 65536) →
    after_word (codes "\"responseStatus\":") (joined ms ++ t) ≡ None → code_if_at (joined (status_members o ++ ms) ++ t) ≡ Some (o, joined ms ++ t)
unfolding code_if_at
code_again None ms t ends small lacks = rw lacks refl
code_again (Some n) ms t ends small lacks =
    rw (value_again (codes "\"responseStatus\":") (codes "responseStatus") _ ms t (λ x. refl), status_again n ms t ends small) refl

-- ---- names

abbrev all_low : List ℕ → Bool
all_low [] = true
all_low (c ∷ cs) = nat_lt c 128 && all_low cs

below : (c : ℕ) → nat_lt c 128 ≡ true → c < 128
below c h = grind (arith, nat_tests, h)

low_ascii : (cs : List ℕ) → all_low cs ≡ true → IsAscii cs
low_ascii [] h = IsAscii-nil
low_ascii (c ∷ cs) h = let p = both (nat_lt c 128) (all_low cs) h in IsAscii-cons c cs (below c p.0) (low_ascii cs p.1)

-- a text of ASCII is UTF-8
low_valid : (cs : List ℕ) → all_low cs ≡ true → is_utf8 cs ≡ true
low_valid cs h = is_utf8-from_IsUtf8 cs (IsUtf8-from_ascii cs (low_ascii cs h))

level_again : (l : Level) → (level_of (level_name l) ≡ Some l) × (is_utf8 (level_name l) ≡ true)
unfolding level_of
level_again level.None = (refl, low_valid (level_name level.None) refl)
level_again level.Metadata = (refl, low_valid (level_name level.Metadata) refl)
level_again level.Request = (refl, low_valid (level_name level.Request) refl)
level_again level.RequestResponse = (refl, low_valid (level_name level.RequestResponse) refl)

stage_again : (s : Stage) → (stage_of (stage_name s) ≡ Some s) × (is_utf8 (stage_name s) ≡ true)
unfolding stage_of
stage_again stage.RequestReceived = (refl, low_valid (stage_name stage.RequestReceived) refl)
stage_again stage.ResponseStarted = (refl, low_valid (stage_name stage.ResponseStarted) refl)
stage_again stage.ResponseComplete = (refl, low_valid (stage_name stage.ResponseComplete) refl)
stage_again stage.Panic = (refl, low_valid (stage_name stage.Panic) refl)

pub level_member_again : (l : Level) (ms : List (List ℕ)) (t : List ℕ) → skip_comma t ≡ t →
    level_at (joined (text (codes "level") (level_name l) ∷ ms) ++ t) ≡ Some (l, joined ms ++ t)
unfolding level_at
level_member_again l ms t ends =
    let again = level_again l in
    rw (text_member_again (codes "\"level\":") (codes "level") (level_name l) ms t (λ x. refl) ends again.1, again.0) refl

pub stage_member_again : (s : Stage) (ms : List (List ℕ)) (t : List ℕ) → skip_comma t ≡ t →
    stage_at (joined (text (codes "stage") (stage_name s) ∷ ms) ++ t) ≡ Some (s, joined ms ++ t)
unfolding stage_at
stage_member_again s ms t ends =
    let again = stage_again s in
    rw (text_member_again (codes "\"stage\":") (codes "stage") (stage_name s) ms t (λ x. refl) ends again.1, again.0) refl
