-- The parts of a head that is sent on are legal.
use Rattle.std.proofs.Common.{◌≡◌, ℕ, ◌<◌, zero, suc, Bool, true, false, cond, List, [], ◌∷◌, ◌++◌, length, map, reverse, Option, Some, None, refl, sym, ap, subst, ◌∙◌, arith, codes, decimal, All, IsTrue, IsUtf8}
use Rattle.std.specs.Prelude.{◌/◌, ◌%◌, ◌==◌, nat_lt}
use Rattle.std.specs.Fmt.{digit_glyph, digits, digits_onto}
use Rattle.std.specs.List.{list_all}
use Rattle.std.proofs.lemmas.Bool.{and_parts, cond_both}
use Rattle.std.proofs.lemmas.Bool.Decides.{nat_tests}
use Rattle.std.proofs.lemmas.List.{reverse-append, reverse-reverse, length-append}
use Rattle.std.proofs.lemmas.List.Elements.{All-head, All-tail, All-cons, All-append, All-nil, All-push, All-weaker, All-filter, All-map}
use Rattle.std.proofs.lemmas.List.Sums.{AllPass-from_list_all}
use Rattle.uuid.specs.Text.{by_index, digit_place, hex_digit, is_hyphen_place, lower, nibble}
use Rattle.httparse.specs.Grammar.{AllPass, Field, IsField, IsToken, is_ows, is_token_byte, is_uri_byte, is_value_byte, skip_ows, trim_ows}
use Rattle.httparse.specs.Spans.{name_and_value}
use Rattle.httparse.proofs.TrimLemmas.{AllPass-reverse, AllPass-trim_ows}
use Rattle.apiservice_rows.specs.Object.{are_name_bytes, is_group, is_name_byte, is_not_empty, is_service_name}
use Rattle.front_base.specs.AuditId.{AuditId, audit_id_text, id_bytes}
use Rattle.front_base.specs.declared.address.Address.{Address}
use Rattle.front_base.specs.declared.user.User.{User}
use Rattle.http_head.specs.Legal.{IsLegalHeader}
use Rattle.http_head.specs.Request.{IsHeadOf, header_view}
use Rattle.http_head.specs.Written.{named}
use Rattle.http_head.specs.declared.header.Header.{Header}
use Rattle.http_head.specs.declared.request.Head.{Head}
use Rattle.forward_link.specs.Forwarded.{address_text, host_of, length_header, number_of, own_headers, passes, passing}
use Rattle.forward_link.specs.Legal.{HasLegalParts, IsCarried, IsNamed}
use Rattle.forward_link.specs.declared.target.Target.{Target}
use Rattle.forward_link.specs.declared.target.Target.TheVariants.{Service, Delegate}

-- ---- blanks at the ends

no_blank : (b : ℕ) (rest : List ℕ) → is_ows b ≡ false → skip_ows (b ∷ rest) ≡ b ∷ rest
no_blank b rest other = rw other refl

-- skipping leaves the text behind some front
record Skipped (text : List ℕ) : Type 0 where
  front : List ℕ
  is : text ≡ front ++ skip_ows text

skipped : (text : List ℕ) → Skipped text
skipped [] = record { front = []; is = refl }
skipped (b ∷ bs) = by_test (skipped bs) (is_ows b) refl
  where
    by_test : Skipped bs → (t : Bool) → is_ows b ≡ t → Skipped (b ∷ bs)
    by_test later true blank = record { front = b ∷ later.front; is = rw blank (ap (λ l. b ∷ l) later.is) }
    by_test later false other = record { front = []; is = rw other refl }

-- nothing more is skipped
skip_again : (text : List ℕ) → skip_ows (skip_ows text) ≡ skip_ows text
skip_again [] = refl
skip_again (b ∷ bs) = by_test (skip_again bs) (is_ows b) refl
  where
    by_test : skip_ows (skip_ows bs) ≡ skip_ows bs → (t : Bool) → is_ows b ≡ t → skip_ows (skip_ows (b ∷ bs)) ≡ skip_ows (b ∷ bs)
    by_test later true blank = rw blank later
    by_test later false other = rw other (no_blank b bs other)

-- a text that stays as it is begins with no blank
begins_so : (b : ℕ) (bs : List ℕ) → skip_ows (b ∷ bs) ≡ b ∷ bs → is_ows b ≡ false
begins_so b bs stays = by_test (is_ows b) refl
  where
    by_test : (t : Bool) → is_ows b ≡ t → t ≡ false
    by_test false other = refl
    by_test true blank =
        let rest : skip_ows bs ≡ b ∷ bs = rw blank at stays in
        let split = skipped bs in
        absurd (omega (arith, ap length rest, ap length split.is, length-append split.front (skip_ows bs)))

-- a front of such a text stays too
front_stays : (front rest : List ℕ) → skip_ows (front ++ rest) ≡ front ++ rest → skip_ows front ≡ front
front_stays [] rest stays = refl
front_stays (b ∷ bs) rest stays = no_blank b bs (begins_so b (bs ++ rest) stays)

trimmed_begins : (raw : List ℕ) → skip_ows (trim_ows raw) ≡ trim_ows raw
unfolding trim_ows
trimmed_begins raw =
    let back = reverse (skip_ows raw) in
    let split = skipped back in
    let whole : skip_ows raw ≡ reverse (skip_ows back) ++ reverse split.front =
    sym (reverse-reverse (skip_ows raw)) ∙ ap reverse split.is ∙ reverse-append split.front (skip_ows back) in
    front_stays (reverse (skip_ows back)) (reverse split.front) (ap skip_ows (sym whole) ∙ skip_again raw ∙ whole)

trimmed_ends : (raw : List ℕ) → skip_ows (reverse (trim_ows raw)) ≡ reverse (trim_ows raw)
unfolding trim_ows
trimmed_ends raw =
    let kept = skip_ows (reverse (skip_ows raw)) in
    ap skip_ows (reverse-reverse kept) ∙ skip_again (reverse (skip_ows raw)) ∙ sym (reverse-reverse kept)

-- ---- what was read is legal

abbrev view_name : List ℕ × List ℕ → List ℕ
view_name v = v.0

abbrev view_value : List ℕ × List ℕ → List ℕ
view_value v = v.1

read_header : (h : Header) (f : Field) → header_view h ≡ name_and_value f → IsField f → IsLegalHeader h
read_header h f same field =
    let name : h.name ≡ f.name = ap view_name same in
    let value : h.value ≡ trim_ows f.raw = ap view_value same in
    record {
      name = subst IsToken (sym name) field.name;
      value = subst (AllPass is_value_byte) (sym value) (AllPass-trim_ows is_value_byte f.raw field.raw);
      begins = subst (λ v. skip_ows v ≡ v) (sym value) (trimmed_begins f.raw);
      ends = subst (λ v. skip_ows (reverse v) ≡ reverse v) (sym value) (trimmed_ends f.raw);
    }

abbrev first_view : List (List ℕ × List ℕ) → List ℕ × List ℕ
first_view [] = ([], [])
first_view (v ∷ vs) = v

abbrev other_views : List (List ℕ × List ℕ) → List (List ℕ × List ℕ)
other_views [] = []
other_views (v ∷ vs) = vs

read_headers : (hs : List Header) (fs : List Field) → map header_view hs ≡ map name_and_value fs → All IsField fs → All IsLegalHeader hs
read_headers [] fs same fields = All-nil IsLegalHeader
read_headers (h ∷ hs) [] same fields = absurd (cc same)
read_headers (h ∷ hs) (f ∷ fs) same fields =
    All-cons IsLegalHeader h hs (read_header h f (ap first_view same) (All-head IsField f fs fields))
    (read_headers hs fs (ap other_views same) (All-tail IsField f fs fields))

pub read_head : (block : List ℕ) (head : Head) → IsHeadOf block head → HasLegalParts head
read_head block head is =
    let read = is.0 in
    let tree = is.1.0 in
    let parts = is.2 in
    record {
      method = subst IsToken (sym parts.method) tree.method;
      target = subst (λ (t : List ℕ). (0 < length t) × AllPass is_uri_byte t) (sym parts.target) tree.target;
      text = subst IsUtf8 (sym parts.target) tree.target_text;
      headers = read_headers head.headers read.fields parts.headers tree.fields;
    }

-- ---- visible texts

abbrev IsVisible : List ℕ → Type 0
IsVisible text = AllPass is_uri_byte text

visible_value : (b : ℕ) → IsTrue (is_uri_byte b) → IsTrue (is_value_byte b)
visible_value b h = grind (arith, nat_tests)

visible_other : (b : ℕ) → IsTrue (is_uri_byte b) → is_ows b ≡ false
visible_other b h = grind (arith, nat_tests)

visible_stays : (text : List ℕ) → IsVisible text → skip_ows text ≡ text
visible_stays [] visible = refl
visible_stays (b ∷ bs) visible = no_blank b bs (visible_other b (All-head (λ x. IsTrue (is_uri_byte x)) b bs visible))

legal_line : (name text : List ℕ) → IsToken name → IsVisible text → IsLegalHeader (named name text)
legal_line name text token visible = record {
  name = token;
  value = All-weaker (λ x. IsTrue (is_uri_byte x)) (λ x. IsTrue (is_value_byte x)) visible_value text visible;
  begins = visible_stays text visible;
  ends = visible_stays (reverse text) (AllPass-reverse is_uri_byte text visible);
}

carried_line : (name text : List ℕ) → IsToken name → IsCarried text → IsLegalHeader (named name text)
carried_line name text token carried =
    carried (named name []) (legal_line name [] token (All-nil (λ x. IsTrue (is_uri_byte x))))

literal : (text : List ℕ) → list_all is_uri_byte text ≡ true → IsVisible text
literal text e = AllPass-from_list_all is_uri_byte text e

joined : (xs ys : List ℕ) → IsVisible xs → IsVisible ys → IsVisible (xs ++ ys)
joined xs ys = All-append (λ x. IsTrue (is_uri_byte x)) xs ys

-- ---- numbers

visible_digit : (d : ℕ) → d < 10 → IsTrue (is_uri_byte (digit_glyph false d))
visible_digit d low = grind (arith, nat_tests)

digits_visible : (k n : ℕ) (acc : List ℕ) → IsVisible acc → IsVisible (digits_onto k 10 false n acc)
digits_visible zero n acc visible = visible
digits_visible (suc k) n acc visible =
    let digit : n % 10 < 10 = omega arith in
    let more : IsVisible (digit_glyph false (n % 10) ∷ acc) = All-cons (λ x. IsTrue (is_uri_byte x)) (digit_glyph false (n % 10)) acc (visible_digit (n % 10) digit) visible in
    cond_both (n / 10 == 0) (digit_glyph false (n % 10) ∷ acc) (digits_onto k 10 false (n / 10) (digit_glyph false (n % 10) ∷ acc)) IsVisible (λ e. more)
    (λ e. digits_visible k (n / 10) (digit_glyph false (n % 10) ∷ acc) more)

decimal_visible : (n : ℕ) → IsVisible (decimal n)
unfolding digits
decimal_visible n = digits_visible 64 n [] (All-nil (λ x. IsTrue (is_uri_byte x)))

-- ---- an audit ID

visible_hex : (d : ℕ) → d < 16 → IsTrue (is_uri_byte (hex_digit lower d))
visible_hex d low = grind (arith, nat_tests)

small_nibble : (xs : List ℕ) (k : ℕ) → nibble xs k < 16
small_nibble xs k = cond_both (k % 2 == 0) _ _ (λ d. d < 16) (λ e. omega arith) (λ e. omega arith)

by_index_visible : (n : ℕ) (f : ℕ → ℕ) → ((k : ℕ) → IsTrue (is_uri_byte (f k))) → IsVisible (by_index n f)
unfolding by_index
by_index_visible zero f each = All-nil (λ x. IsTrue (is_uri_byte x))
by_index_visible (suc n) f each = All-push (λ x. IsTrue (is_uri_byte x)) (by_index n f) (f n) (by_index_visible n f each) (each n)

id_visible : (id : AuditId) → IsVisible (audit_id_text id)
unfolding audit_id_text
id_visible id =
    let xs = id_bytes id in
    by_index_visible 36 (λ k. cond (is_hyphen_place k) 45 (hex_digit lower (nibble xs (digit_place k)))) (λ k.
    cond_both (is_hyphen_place k) 45 (hex_digit lower (nibble xs (digit_place k))) (λ b. IsTrue (is_uri_byte b)) (λ e. refl)
    (λ e. visible_hex (nibble xs (digit_place k)) (small_nibble xs (digit_place k))))

-- ---- where it is sent

visible_name : (b : ℕ) → is_name_byte b ≡ true → IsTrue (is_uri_byte b)
visible_name b h = grind (arith, nat_tests)

names_visible : (text : List ℕ) → are_name_bytes text ≡ true → IsVisible text
names_visible [] h = All-nil (λ x. IsTrue (is_uri_byte x))
names_visible (b ∷ bs) h =
    let both = and_parts (is_name_byte b) (are_name_bytes bs) h in
    All-cons (λ x. IsTrue (is_uri_byte x)) b bs (visible_name b both.0) (names_visible bs both.1)

service_visible : (text : List ℕ) → is_service_name text ≡ true → IsVisible text
service_visible text h =
    names_visible text (and_parts (nat_lt (length text) 254) (are_name_bytes text) (and_parts (is_not_empty text) (is_group text) h).1).1

address_visible : (address : Address) → IsVisible (address_text address)
address_visible address =
    let dot = literal (codes ".") refl in
    joined (decimal (number_of address 0)) _ (decimal_visible (number_of address 0)) (joined (codes ".") _ dot
    (joined (decimal (number_of address 1)) _ (decimal_visible (number_of address 1)) (joined (codes ".") _ dot
    (joined (decimal (number_of address 2)) _ (decimal_visible (number_of address 2)) (joined (codes ".") _ dot
    (joined (decimal (number_of address 3)) _ (decimal_visible (number_of address 3)) (joined (codes ":") (decimal address.port) (literal (codes ":") refl)
    (decimal_visible address.port))))))))

host_visible : (target : Target) → IsNamed target → IsVisible (host_of target)
host_visible (Service to address) named =
    joined to.name _ (service_visible to.name named.1) (joined (codes ".") _ (literal (codes ".") refl)
    (joined to.namespace _ (service_visible to.namespace named.0) (joined (codes ".svc:") (decimal to.port) (literal (codes ".svc:") refl)
    (decimal_visible to.port))))
host_visible (Delegate address) named = address_visible address

-- ---- the headers

token : (name : List ℕ) → 0 < length name → list_all is_token_byte name ≡ true → IsToken name
token name some e = (some, AllPass-from_list_all is_token_byte name e)

host_name : IsToken (codes "Host")
unfolding is_token_byte
host_name = token (codes "Host") (omega arith) refl

user_name : IsToken (codes "X-Remote-User")
unfolding is_token_byte
user_name = token (codes "X-Remote-User") (omega arith) refl

group_name : IsToken (codes "X-Remote-Group")
unfolding is_token_byte
group_name = token (codes "X-Remote-Group") (omega arith) refl

audit_name : IsToken (codes "Audit-ID")
unfolding is_token_byte
audit_name = token (codes "Audit-ID") (omega arith) refl

length_name : IsToken (codes "Content-Length")
unfolding is_token_byte
length_name = token (codes "Content-Length") (omega arith) refl

connection_name : IsToken (codes "Connection")
unfolding is_token_byte
connection_name = token (codes "Connection") (omega arith) refl

length_legal : (size : Option ℕ) → All IsLegalHeader (length_header size)
length_legal None = All-nil IsLegalHeader
length_legal (Some n) =
    All-cons IsLegalHeader (named (codes "Content-Length") (decimal n)) [] (legal_line (codes "Content-Length") (decimal n) length_name (decimal_visible n))
    (All-nil IsLegalHeader)

groups_legal : (groups : List (List ℕ)) → All IsCarried groups → All IsLegalHeader (map (named (codes "X-Remote-Group")) groups)
groups_legal groups carried =
    All-map IsLegalHeader (named (codes "X-Remote-Group")) groups
    (All-weaker IsCarried (λ g. IsLegalHeader (named (codes "X-Remote-Group") g)) (λ g h. carried_line (codes "X-Remote-Group") g group_name h) groups carried)

own_legal : (user : User) (id : AuditId) (size : Option ℕ) → IsCarried user.name → All IsCarried user.groups
    → All IsLegalHeader (own_headers user id size)
own_legal user id size name groups =
    let close = named (codes "Connection") (codes "close") in
    let audit = named (codes "Audit-ID") (audit_id_text id) in
    let last = All-cons IsLegalHeader close [] (legal_line (codes "Connection") (codes "close") connection_name (literal (codes "close") refl)) (All-nil IsLegalHeader) in
    All-cons IsLegalHeader (named (codes "X-Remote-User") user.name) _ (carried_line (codes "X-Remote-User") user.name user_name name)
    (All-append IsLegalHeader (map (named (codes "X-Remote-Group")) user.groups) _ (groups_legal user.groups groups)
    (All-cons IsLegalHeader audit _ (legal_line (codes "Audit-ID") (audit_id_text id) audit_name (id_visible id))
    (All-append IsLegalHeader (length_header size) (close ∷ []) (length_legal size) last)))

pub forwarded_legal : (headers : List Header) (user : User) (target : Target) (id : AuditId) (size : Option ℕ) → All IsLegalHeader headers
    → IsCarried user.name → All IsCarried user.groups → IsNamed target
    → All IsLegalHeader (named (codes "Host") (host_of target) ∷ (passing headers ++ own_headers user id size))
forwarded_legal headers user target id size legal name groups target_is =
    All-cons IsLegalHeader (named (codes "Host") (host_of target)) _ (legal_line (codes "Host") (host_of target) host_name (host_visible target target_is))
    (All-append IsLegalHeader (passing headers) (own_headers user id size) (All-filter (passes headers) IsLegalHeader headers legal)
    (own_legal user id size name groups))
