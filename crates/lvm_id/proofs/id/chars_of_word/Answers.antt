use Rattle.std.proofs.Common.{◌/◌, ◌%◌, ◌^◌, arith}
use Rattle.std.proofs.lemmas.Grind.{common_steps}
use Rattle.std.proofs.lemmas.List.FromFn.{fill_by_all}
use Rattle.lvm_id.specs.LvmId.{digit_char, word_chars}
use Rattle.lvm_id.proofs.Drawn.{digits_left}
use Rattle.lvm_id.proofs.id.chars_of_word.Goals as goal

pub loop-c-preserved : goal.loop-c-preserved
loop-c-preserved c = record {
  rest_is = digits_left _ _ _ c.loop-c.invariant.rest_is;
  written = grind (arith, common_steps);
}

pub returns : goal.returns
unfolding word_chars
returns c =
    fill_by_all (λ j. digit_char ((c.args.word / 62 ^ j) % 62)) c.loop-c.c-items 8 0 c.loop-c-test.array_long
    (λ k below. c.loop-c.invariant.written k (omega arith))
