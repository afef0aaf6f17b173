use Rattle.connection_laws.proofs.WishLemmas.{served_whole}
use Rattle.connection_laws.proofs.laws.a_content_connection_has_all_requests_served.Goals as goal

pub returns : goal.returns
returns c = served_whole
