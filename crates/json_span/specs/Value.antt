-- JSON texts (RFC 8259): what value a text stands for. A value keeps its tokens as they are spelled.
use Rattle.std.specs.Prelude.{◌≡◌, ◌⊎◌, ℕ, suc, max, ◌≤◌, List, [], ◌∷◌, ◌++◌, Bool, true, false, codes, if◌then◌else◌}
use Rattle.json_span.specs.Number.{IsNumber}
use Rattle.json_span.specs.Strings.{AreBlanks, IsString}

-- A literal, a number or a string is its token. An object is its members in order, each with its name's token.
mutual
  pub data Value : Type 0 where
    token : List ℕ → Value
    array : Items → Value
    object : Members → Value

  pub data Items : Type 0 where
    no_items : Items
    item : Value → Items → Items

  pub data Members : Type 0 where
    no_members : Members
    member : List ℕ → Value → Members → Members

-- ---- the tokens joined

-- a comma before all but the first
abbrev pub comma_if : Bool → List ℕ
comma_if later = if later then 44 ∷ [] else []

abbrev mutual
  pub flat : Value → List ℕ
  flat (token t) = t
  flat (array vs) = 91 ∷ flat_items false vs
  flat (object ms) = 123 ∷ flat_members false ms

  -- with the closing bracket
  pub flat_items : Bool → Items → List ℕ
  flat_items later no_items = 93 ∷ []
  flat_items later (item v vs) = comma_if later ++ (flat v ++ flat_items true vs)

  pub flat_members : Bool → Members → List ℕ
  flat_members later no_members = 125 ∷ []
  flat_members later (member n v ms) = comma_if later ++ (n ++ (58 ∷ (flat v ++ flat_members true ms)))

-- how many arrays and objects are open at the deepest place
abbrev mutual
  pub depth : Value → ℕ
  depth (token t) = 0
  depth (array vs) = suc (depth_items vs)
  depth (object ms) = suc (depth_members ms)

  pub depth_items : Items → ℕ
  depth_items no_items = 0
  depth_items (item v vs) = max (depth v) (depth_items vs)

  pub depth_members : Members → ℕ
  depth_members no_members = 0
  depth_members (member n v ms) = max (depth v) (depth_members ms)

-- ---- the grammar

abbrev pub IsLiteral : List ℕ → Type 0
IsLiteral t = (t ≡ codes "true") ⊎ (t ≡ codes "false") ⊎ (t ≡ codes "null")

abbrev pub IsToken : List ℕ → Type 0
IsToken t = IsLiteral t ⊎ IsNumber t ⊎ IsString t

-- the text has P, with blanks round it
abbrev pub Padded : (List ℕ → Type 0) → List ℕ → Type 0
Padded P text =
    (before body after : List ℕ) × AreBlanks before × P body × AreBlanks after × (text ≡ before ++ (body ++ after))

-- The value is spelled so. An array is values between `[` and `]`, an object is members between `{` and `}`, both with
-- commas between. A member is a string, a colon and a value. Blanks may stand round each value and each name.
abbrev mutual
  pub Spells : Value → List ℕ → Type 0
  Spells (token t) text = IsToken t × (text ≡ t)
  Spells (array vs) text = (inner : List ℕ) × SpellsItems false vs inner × (text ≡ 91 ∷ inner)
  Spells (object ms) text = (inner : List ℕ) × SpellsMembers false ms inner × (text ≡ 123 ∷ inner)

  -- with the closing bracket; `later` where a value stands before these
  pub SpellsItems : Bool → Items → List ℕ → Type 0
  SpellsItems false no_items text = (blanks : List ℕ) × AreBlanks blanks × (text ≡ blanks ++ 93 ∷ [])
  SpellsItems true no_items text = text ≡ 93 ∷ []
  SpellsItems later (item v vs) text =
      (first rest : List ℕ) × Padded (Spells v) first × SpellsItems true vs rest
      × (text ≡ comma_if later ++ (first ++ rest))

  pub SpellsMembers : Bool → Members → List ℕ → Type 0
  SpellsMembers false no_members text = (blanks : List ℕ) × AreBlanks blanks × (text ≡ blanks ++ 125 ∷ [])
  SpellsMembers true no_members text = text ≡ 125 ∷ []
  SpellsMembers later (member n v ms) text =
      (name first rest : List ℕ) × IsString n × Padded (λ t. t ≡ n) name × Padded (Spells v) first
      × SpellsMembers true ms rest × (text ≡ comma_if later ++ (name ++ (58 ∷ (first ++ rest))))

-- the most arrays and objects that may be open at once
abbrev pub max_depth : ℕ
max_depth = 128

-- the text is one JSON text, and stands for the value
abbrev pub StandsFor : List ℕ → Value → Type 0
StandsFor text v = Padded (Spells v) text × (depth v ≤ max_depth)

abbrev pub IsText : List ℕ → Type 0
IsText text = (v : Value) × StandsFor text v

-- the text is the body's tokens joined
abbrev pub Compacts : List ℕ → List ℕ → Type 0
Compacts text body = (v : Value) × StandsFor body v × (text ≡ flat v)
