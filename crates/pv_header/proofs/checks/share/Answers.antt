use Rattle.std.proofs.Common.{rules}
use Rattle.pv_header.specs.Areas.{shares_byte}
use Rattle.pv_header.proofs.checks.share.Goals as goal

pub returns : goal.returns
unfolding shares_byte
returns c = search rules
