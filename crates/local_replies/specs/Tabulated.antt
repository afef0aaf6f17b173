-- What a look is answered that asks for a Table, by the rows in byte order of names (Kubernetes, "API concepts": receiving resources
-- as Tables).
use Rattle.std.specs.Prelude.{ℕ, List, [], ◌∷◌, Option, Some, None}
use Rattle.apiservice_rows.specs.Row.{Row}
use Rattle.apiservice_table.specs.Table.{row_named}
use Rattle.local_replies.specs.Looked.{looked}
use Rattle.local_replies.specs.Status.{json_reply, refusal}
use Rattle.local_replies.specs.declared.local.Local.{Local}
use Rattle.local_replies.specs.declared.local.Local.TheVariants.{Health, GroupList, OneGroup, ResourceList, AllServices, OneService, ServicesNamed, Unserved}
use Rattle.local_replies.specs.declared.reply.LocalReply.{LocalReply}
use Rattle.service_tables.specs.Tables.{table_text}
use Rattle.service_tables.specs.declared.include.IncludeObject.{IncludeObject}

abbrev pub rows_if : Option Row → List Row
rows_if None = []
rows_if (Some row) = row ∷ []

-- the Table of rows at that moment, which carry so much of their objects
abbrev pub table_reply : IncludeObject → ℕ → List Row → LocalReply
table_reply include moment rows = json_reply 200 (table_text include moment rows)

-- the Table of one row, or the refusal where there is none
abbrev pub one_table : IncludeObject → ℕ → Option Row → LocalReply
one_table include moment None = refusal 404
one_table include moment (Some row) = table_reply include moment (row ∷ [])

-- what a path is answered; only APIServices have a Table
abbrev pub tabulated : Local → IncludeObject → ℕ → List Row → LocalReply
tabulated Health include moment rows = looked Health rows
tabulated GroupList include moment rows = looked GroupList rows
tabulated (OneGroup name) include moment rows = looked (OneGroup name) rows
tabulated ResourceList include moment rows = looked ResourceList rows
tabulated AllServices include moment rows = table_reply include moment rows
tabulated (OneService name) include moment rows = one_table include moment (row_named name rows)
tabulated (ServicesNamed name) include moment rows = table_reply include moment (rows_if (row_named name rows))
tabulated Unserved include moment rows = looked Unserved rows
