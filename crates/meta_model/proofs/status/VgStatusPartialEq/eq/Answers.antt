use Rattle.meta_model.proofs.StatusWords.{vg_same}
use Rattle.meta_model.proofs.status.VgStatusPartialEq.eq.Goals as goal

pub returns : goal.returns
returns c = search (vg_same)
