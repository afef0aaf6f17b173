-- Members that a line has are read again, each with the comma after it, whatever members stand after them. The text
-- after the members begins with no comma.
use Rattle.std.specs.Prelude.{◌≡◌, ◌≢◌, ℕ, ◌<◌, true, List, [], ◌∷◌, ◌++◌, codes, Option, Some, None, IfSome}
use Rattle.event_text.specs.Line.{user_members, impersonated_members, object_ref_members, reference_members, source_member, status_members}
use Rattle.event_text.specs.Members.{member, joined, after_commas, object, text, text_if_any}
use Rattle.front_base.specs.Level.{level_name}
use Rattle.front_base.specs.Stage.{stage_name}
use Rattle.front_base.specs.declared.level.Level.{Level}
use Rattle.front_base.specs.declared.stage.Stage.{Stage}
use Rattle.front_base.specs.declared.user.User.{User}
use Rattle.json_span.specs.Member.{in_quotes}
use Rattle.json_span.specs.Quote.{quoted}
use Rattle.stage_event.specs.declared.event.ObjectRef.{ObjectRef}
use Rattle.event_members.specs.Ranges.{IsUtf8, IsUser, IsReference}
use Rattle.event_members.specs.TextMembers.{after_word, skip_comma, string_at, text_member_at, text_if_at, user_at, impersonated_at, object_ref_at}
use Rattle.event_members.specs.Values.{peer_at, code_if_at, level_at, stage_at}

-- a label is that of the name
abbrev pub Names : List ℕ → List ℕ → Type 0
Names label name = (x : List ℕ) → after_word label (in_quotes name ++ 58 ∷ x) ≡ Some x

-- and not that of this name
abbrev pub Misses : List ℕ → List ℕ → Type 0
Misses label name = (x : List ℕ) → after_word label (in_quotes name ++ 58 ∷ x) ≡ None

-- what stands between the members that follow is passed by
pub record PassesCommas : Type 0 where
  pub comma : (ms : List (List ℕ)) (t : List ℕ) → skip_comma t ≡ t → skip_comma (after_commas ms ++ t) ≡ joined ms ++ t
  pub value : (label name value : List ℕ) (ms : List (List ℕ)) (t : List ℕ) → Names label name
      → after_word label (joined (member name value ∷ ms) ++ t) ≡ Some (value ++ (after_commas ms ++ t))
  pub missed : (label name value : List ℕ) (ms : List (List ℕ)) (t : List ℕ) → Misses label name
      → after_word label (joined (member name value ∷ ms) ++ t) ≡ None

pub record ReadsTexts : Type 0 where
  pub string : (s rest : List ℕ) → string_at (quoted s ++ rest) ≡ Some (s, rest)
  pub member : (label name v : List ℕ) (ms : List (List ℕ)) (t : List ℕ) → Names label name → skip_comma t ≡ t → IsUtf8 v
      → text_member_at label (joined (text name v ∷ ms) ++ t) ≡ Some (v, joined ms ++ t)
  pub if_any : (label name v : List ℕ) (ms : List (List ℕ)) (t : List ℕ) → Names label name → skip_comma t ≡ t → IsUtf8 v
      → after_word label (joined ms ++ t) ≡ None
      → text_if_at label (joined (text_if_any name v ++ ms) ++ t) ≡ Some (v, joined ms ++ t)

pub record ReadsObjects : Type 0 where
  pub user : (u : User) (ms : List (List ℕ)) (t : List ℕ) → skip_comma t ≡ t → IsUser u
      → user_at (object (user_members u) ++ (after_commas ms ++ t)) ≡ Some (u, joined ms ++ t)
  pub impersonated : (o : Option User) (ms : List (List ℕ)) (t : List ℕ) → skip_comma t ≡ t
      → IfSome o (λ u. IsUser u × (user_members u ≢ [])) → after_word (codes "\"impersonatedUser\":") (joined ms ++ t) ≡ None
      → impersonated_at (joined (impersonated_members o ++ ms) ++ t) ≡ Some (o, joined ms ++ t)
  pub object_ref : (o : Option ObjectRef) (ms : List (List ℕ)) (t : List ℕ) → skip_comma t ≡ t
      → IfSome o (λ r. IsReference r × (reference_members r ≢ [])) → after_word (codes "\"objectRef\":") (joined ms ++ t) ≡ None
      → object_ref_at (joined (object_ref_members o ++ ms) ++ t) ≡ Some (o, joined ms ++ t)

pub record ReadsValues : Type 0 where
  pub peer : (a b c d : ℕ) (ms : List (List ℕ)) (t : List ℕ) → skip_comma t ≡ t → a < 256 → b < 256 → c < 256 → d < 256
      → peer_at (joined (source_member (a ∷ b ∷ c ∷ d ∷ []) ∷ ms) ++ t) ≡ Some (a ∷ b ∷ c ∷ d ∷ [], joined ms ++ t)
  pub code : (o : Option ℕ) (ms : List (List ℕ)) (t : List ℕ) → skip_comma t ≡ t → IfSome o (λ n. n < 65536)
      → after_word (codes "\"responseStatus\":") (joined ms ++ t) ≡ None
      → code_if_at (joined (status_members o ++ ms) ++ t) ≡ Some (o, joined ms ++ t)
  pub level : (l : Level) (ms : List (List ℕ)) (t : List ℕ) → skip_comma t ≡ t
      → level_at (joined (text (codes "level") (level_name l) ∷ ms) ++ t) ≡ Some (l, joined ms ++ t)
  pub stage : (s : Stage) (ms : List (List ℕ)) (t : List ℕ) → skip_comma t ≡ t
      → stage_at (joined (text (codes "stage") (stage_name s) ∷ ms) ++ t) ≡ Some (s, joined ms ++ t)
