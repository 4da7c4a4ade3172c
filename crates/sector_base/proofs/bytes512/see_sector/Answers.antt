use Rattle.std.proofs.Common.{◌<◌}
use Rattle.std.proofs.lemmas.List.Elements.{All-from_get_or}
use Rattle.sector_base.proofs.bytes512.see_sector.Goals as goal

pub returns : goal.returns
returns c = record { long = c.told-bytes; bytes = All-from_get_or (λ b. b < 256) c.args.bytes.now 0 (λ i h. c.fits-bytes i) }
