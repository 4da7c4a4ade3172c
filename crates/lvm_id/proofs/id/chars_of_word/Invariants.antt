use Rattle.std.proofs.Common.{◌≡◌, ℕ, ◌/◌, ◌%◌, ◌^◌, ◌<◌, get_or}
use Rattle.lvm_id.specs.LvmId.{digit_char}
use Rattle.lvm_id.proofs.id.chars_of_word.Given as goal

-- the digits so far are written, and the rest of the number is what follows them
abbrev pub invariant-loop-c : goal.invariant-loop-c
invariant-loop-c l = record {
  rest_is : l.rest ≡ l.word / 62 ^ l.c-index;
  written : (k : ℕ) → k < l.c-index → get_or l.c-items k 0 ≡ digit_char ((l.word / 62 ^ k) % 62);
}
