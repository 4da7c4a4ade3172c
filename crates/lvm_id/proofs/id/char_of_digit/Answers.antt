use Rattle.std.proofs.Common.{arith}
use Rattle.std.proofs.lemmas.Bool.Decides.{nat_tests}
use Rattle.lvm_id.specs.LvmId.{digit_char}
use Rattle.lvm_id.proofs.id.char_of_digit.Goals as goal

pub returns-in-0-to-9 : goal.returns-in-0-to-9
unfolding digit_char
returns-in-0-to-9 c = grind (arith, nat_tests)

pub returns-in-10-to-35 : goal.returns-in-10-to-35
unfolding digit_char
returns-in-10-to-35 c = grind (arith, nat_tests)

pub returns-in_default : goal.returns-in_default
unfolding digit_char
returns-in_default c = grind (arith, nat_tests)
