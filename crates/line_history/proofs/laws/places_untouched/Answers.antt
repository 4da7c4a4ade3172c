use Rattle.line_history.proofs.Untouched.{places_untouched}
use Rattle.line_history.proofs.laws.places_untouched.Goals as goal

pub returns : goal.returns
returns c = λ base sizes found told scan shape is same. places_untouched base sizes found told scan shape is same
