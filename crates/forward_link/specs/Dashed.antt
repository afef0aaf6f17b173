-- Names as servers read them that take `_` for `-`, since both are `_` in a gateway's variables (RFC 3875, section 4.1.18).
use Rattle.std.specs.Prelude.{ℕ, ◌==◌, if◌then◌else◌, List, map}
use Rattle.http_head.specs.Written.{named}
use Rattle.http_head.specs.declared.header.Header.{Header}

-- `_` is `-`
abbrev pub dash : ℕ → ℕ
dash b = if b == 95 then 45 else b

-- a name with `-` for each `_`
abbrev pub dashed : List ℕ → List ℕ
dashed name = map dash name

-- headers as such a server reads them
abbrev pub dashed_names : List Header → List Header
dashed_names headers = map (λ (header : Header). named (dashed header.name) header.value) headers
