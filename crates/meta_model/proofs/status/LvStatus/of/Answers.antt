use Rattle.std.proofs.Common.{arith}
use Rattle.std.proofs.lemmas.Nat.{and_le_r}
use Rattle.bitflags.specs.Sets.{known_from}
use Rattle.meta_model.proofs.StatusWords.{lv_known}
use Rattle.meta_model.proofs.status.LvStatus.of.Goals as goal

pub invariant_of-result : goal.invariant_of-result
unfolding known_from
invariant_of-result c = rw (c.from_bits_truncate.ensures tt, c.bits.ensures tt) (omega (arith, and_le_r c.args.words.0 127))

pub returns : goal.returns
unfolding known_from
returns c = rw (c.from_bits_truncate.ensures tt, c.bits.ensures tt) (lv_known c.args.words.0)
