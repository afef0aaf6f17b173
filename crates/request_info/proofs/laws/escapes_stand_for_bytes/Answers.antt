use Rattle.request_info.proofs.SpellingLemmas.{decoded_spells, spells_decoded}
use Rattle.request_info.proofs.laws.escapes_stand_for_bytes.Goals as goal

pub returns : goal.returns
returns c = record { spelled = decoded_spells; decoded = spells_decoded }
