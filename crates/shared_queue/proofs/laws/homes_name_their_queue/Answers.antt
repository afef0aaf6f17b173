use Rattle.shared_queue.proofs.Homes.{one_home}
use Rattle.shared_queue.proofs.laws.homes_name_their_queue.Goals as goal

pub returns : goal.returns
returns g c = record {
  lanes = λ l m e. (one_home _ _ _ _ _ _ e).1;
  outlet = λ l o e. (one_home _ _ _ _ _ _ e).1;
  outlets = λ o p e. (one_home _ _ _ _ _ _ e).1;
  ends = λ e f h. (one_home _ _ _ _ _ _ h).1.0;
}
