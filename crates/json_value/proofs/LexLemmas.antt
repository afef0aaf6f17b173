-- A text has at most one token for each byte, and one more.
use Rattle.std.proofs.Common.{◌≡◌, ℕ, suc, ◌≤◌, List, [], ◌∷◌, length, Bool, true, false, arith}
use Rattle.json.specs.Lex.{Lexeme, token, comma, colon, Class, quote, backslash, operator, space, other, Mode, between, in_word, in_string, in_escape, class, operator_lexeme, lex_byte, lex, Place, fresh, after_value, after_comma, after_key, may_begin, may_close, begins_colon, if_allowed, place_token, punctuate, tokens}
use Rattle.json.specs.Token.{Token}

byte_within : (m : Mode) (c : Class) (x : ℕ) (xs : List ℕ) (n : ℕ) (k : Mode → List Lexeme) → ((next : Mode) → length (k next) ≤ n)
    → length (lex_byte m c x xs k) ≤ suc n
byte_within between quote x xs n k h = omega (arith, h in_string)
byte_within between backslash x xs n k h = omega (arith, h in_word)
byte_within between operator x xs n k h = omega (arith, h between)
byte_within between space x xs n k h = omega (arith, h between)
byte_within between other x xs n k h = omega (arith, h in_word)
byte_within in_word quote x xs n k h = omega (arith, h in_word)
byte_within in_word backslash x xs n k h = omega (arith, h in_word)
byte_within in_word operator x xs n k h = omega (arith, h between)
byte_within in_word space x xs n k h = omega (arith, h between)
byte_within in_word other x xs n k h = omega (arith, h in_word)
byte_within in_string quote x xs n k h = omega (arith, h between)
byte_within in_string backslash x xs n k h = omega (arith, h in_escape)
byte_within in_string operator x xs n k h = omega (arith, h in_string)
byte_within in_string space x xs n k h = omega (arith, h in_string)
byte_within in_string other x xs n k h = omega (arith, h in_string)
byte_within in_escape c x xs n k h = omega (arith, h in_string)

lex_within : (m : Mode) (xs : List ℕ) → length (lex m xs) ≤ length xs
unfolding lex
lex_within m [] = omega arith
lex_within m (x ∷ xs) = byte_within m (class x) x xs (length xs) (λ next. lex next xs) (λ next. lex_within next xs)

allowed_within : (b : Bool) (t : Token) (n : ℕ) (k : Place → List Token) (next : Place) → ((p : Place) → length (k p) ≤ suc n)
    → length (if_allowed b t k next) ≤ suc (suc n)
allowed_within true t n k next h = omega (arith, h next)
allowed_within false t n k next h = omega arith

place_within : (p : Place) (t : Token) (b : Bool) (n : ℕ) (k : Place → List Token) → ((q : Place) → length (k q) ≤ suc n)
    → length (place_token p t b k) ≤ suc (suc n)
place_within p Token.begin_object b n k h = allowed_within (may_begin p) Token.begin_object n k fresh h
place_within p Token.end_object b n k h = allowed_within (may_close p) Token.end_object n k after_value h
place_within p Token.begin_array b n k h = allowed_within (may_begin p) Token.begin_array n k fresh h
place_within p Token.end_array b n k h = allowed_within (may_close p) Token.end_array n k after_value h
place_within p (Token.key s) b n k h = omega arith
place_within p (Token.string s) true n k h = allowed_within (may_begin p) (Token.key s) n k after_key h
place_within p (Token.string s) false n k h = allowed_within (may_begin p) (Token.string s) n k after_value h
place_within p (Token.number s) b n k h = allowed_within (may_begin p) (Token.number s) n k after_value h
place_within p (Token.boolean c) b n k h = allowed_within (may_begin p) (Token.boolean c) n k after_value h
place_within p Token.null b n k h = allowed_within (may_begin p) Token.null n k after_value h
place_within p Token.bad b n k h = omega arith

punctuate_within : (p : Place) (ls : List Lexeme) → length (punctuate p ls) ≤ suc (length ls)
unfolding punctuate
punctuate_within fresh [] = omega arith
punctuate_within after_value [] = omega arith
punctuate_within after_comma [] = omega arith
punctuate_within after_key [] = omega arith
punctuate_within fresh (token t ∷ ls) = place_within fresh t (begins_colon ls) (length ls) (λ next. punctuate next ls) (λ q. punctuate_within q ls)
punctuate_within after_value (token t ∷ ls) = place_within after_value t (begins_colon ls) (length ls) (λ next. punctuate next ls) (λ q. punctuate_within q ls)
punctuate_within after_comma (token t ∷ ls) = place_within after_comma t (begins_colon ls) (length ls) (λ next. punctuate next ls) (λ q. punctuate_within q ls)
punctuate_within after_key (token t ∷ ls) = place_within after_key t (begins_colon ls) (length ls) (λ next. punctuate next ls) (λ q. punctuate_within q ls)
punctuate_within fresh (comma ∷ ls) = omega arith
punctuate_within after_value (comma ∷ ls) = omega (arith, punctuate_within after_comma ls)
punctuate_within after_comma (comma ∷ ls) = omega arith
punctuate_within after_key (comma ∷ ls) = omega arith
punctuate_within fresh (colon ∷ ls) = omega arith
punctuate_within after_value (colon ∷ ls) = omega arith
punctuate_within after_comma (colon ∷ ls) = omega arith
punctuate_within after_key (colon ∷ ls) = omega (arith, punctuate_within fresh ls)

pub tokens_within : (text : List ℕ) → length (tokens text) ≤ suc (length text)
tokens_within text = omega (arith, punctuate_within fresh (lex between text), lex_within between text)
