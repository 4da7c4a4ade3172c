use Rattle.meta_model.proofs.StatusWords.{lv_same}
use Rattle.meta_model.proofs.status.LvStatusPartialEq.eq.Goals as goal

pub returns : goal.returns
returns c = search (lv_same)
