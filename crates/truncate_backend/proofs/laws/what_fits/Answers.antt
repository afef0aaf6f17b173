use Rattle.truncate_backend.proofs.FitLemmas.{fit-whole, fit-stripped, fit-none}
use Rattle.truncate_backend.proofs.laws.what_fits.Goals as goal

pub returns : goal.returns
returns c = record { whole = fit-whole; stripped = fit-stripped; too_large = fit-none }
