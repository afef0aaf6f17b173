-- How far the machine passes a text, for private clauses.
use Rattle.std.specs.Prelude.{◌≡◌, ◌⊎◌, ℕ, suc, ◌≤◌, List, [], ◌∷◌, true, Option, Some, None}
use Rattle.std.specs.List.{list_all}
use Rattle.json_span.specs.Strings.{IsString}
use Rattle.json_span.specs.Value.{Value, Members, no_members, member, flat, depth, Spells, max_depth}
use Rattle.json_span.specs.Machine.{string_step, place_step}
use Rattle.json_span.specs.Machine as machine
use Rattle.json_span.specs.declared.string.Inside.{Inside}
use Rattle.json_span.specs.declared.place.Place.{Place}

abbrev pub start : Place
start = machine.start

abbrev pub one_more : {A : Type 0} → (A → ℕ) → Option A → ℕ
one_more more None = 0
one_more more (Some a) = suc (more a)

-- how many bytes are passed before one is refused
abbrev pub reach : {S : Type 0} → (S → ℕ → Option S) → S → List ℕ → ℕ
reach step s [] = 0
reach step s (b ∷ bs) = one_more (λ n. reach step n bs) (step s b)

abbrev pub string_reach : Inside → List ℕ → ℕ
string_reach = reach string_step

abbrev pub place_reach : Place → List ℕ → ℕ
place_reach = reach place_step

-- the bytes were passed: a run that leaves the place as it is, or one byte
abbrev pub Passed : Place → List ℕ → Place → Type 0
Passed old bytes new =
    ((list_all (machine.stays old.mode) bytes ≡ true) × (new ≡ old))
    ⊎ ((b : ℕ) × (bytes ≡ b ∷ []) × (place_step old b ≡ Some new))

-- a compact member's name and value
abbrev pub IsEntry : List ℕ → Value → Type 0
IsEntry n v = IsString n × Spells v (flat v) × (depth v ≤ max_depth)

abbrev pub AreEntries : Members → Type 0
AreEntries no_members = Unit {0}
AreEntries (member n v ms) = IsEntry n v × AreEntries ms

-- a comma or a closing bracket
abbrev pub EndsMember : List ℕ → Type 0
EndsMember [] = ⊥
EndsMember (b ∷ bs) = (b ≡ 44) ⊎ (b ≡ 125)
