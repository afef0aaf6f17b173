-- What a look at a local path is answered, by the rows in byte order of names (Kubernetes, "Kubernetes API health
-- endpoints", "API discovery" and "API conventions": lists).
use Rattle.std.specs.Prelude.{ℕ, List, [], ◌++◌, Option, Some, None, codes, unwrap_or}
use Rattle.apiservice_rows.specs.Row.{Row}
use Rattle.apiservice_table.specs.Services.{object_named, service_list_text}
use Rattle.discovery_merge.specs.Documents.{group_list_text, group_text}
use Rattle.local_replies.specs.Status.{json_reply, refusal}
use Rattle.local_replies.specs.declared.local.Local.{Local}
use Rattle.local_replies.specs.declared.local.Local.TheVariants.{Health, GroupList, OneGroup, ResourceList, AllServices, OneService, ServicesNamed, Unserved}
use Rattle.local_replies.specs.declared.reply.Content.TheVariants.{Plain}
use Rattle.local_replies.specs.declared.reply.LocalReply.{LocalReply}

-- the server is up
abbrev pub ok : LocalReply
ok = record { status = 200; content = Plain; body = codes "ok" }

-- a document, or the refusal where there is none
abbrev pub found : Option (List ℕ) → LocalReply
found None = refusal 404
found (Some text) = json_reply 200 text

-- the resources of the API of APIServices, and what may be done with them
unfoldable pub resource_list_text : List ℕ
resource_list_text =
    codes "{\"kind\":\"APIResourceList\",\"apiVersion\":\"v1\",\"groupVersion\":\"apiregistration.k8s.io/v1\",\"resources\":[{\"name\":\"apiservices\",\"singularName\":\"apiservice\",\"namespaced\":false,\"kind\":\"APIService\",\"verbs\":[\"create\",\"delete\",\"get\",\"list\",\"patch\",\"update\"]}]}"

-- the list of one object, or of none
unfoldable pub named_list_text : Option (List ℕ) → List ℕ
named_list_text object =
    codes "{\"kind\":\"APIServiceList\",\"apiVersion\":\"apiregistration.k8s.io/v1\",\"metadata\":{},\"items\":["
    ++ unwrap_or object [] ++ codes "]}"

-- what a path is answered by the rows
abbrev pub looked : Local → List Row → LocalReply
looked Health rows = ok
looked GroupList rows = json_reply 200 (group_list_text rows)
looked (OneGroup name) rows = found (group_text name rows)
looked ResourceList rows = json_reply 200 resource_list_text
looked AllServices rows = json_reply 200 (service_list_text rows)
looked (OneService name) rows = found (object_named name rows)
looked (ServicesNamed name) rows = json_reply 200 (named_list_text (object_named name rows))
looked Unserved rows = refusal 404
