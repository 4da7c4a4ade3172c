use Rattle.std.proofs.Common.{length, ap, arith}
use Rattle.std.proofs.lemmas.List.{nil_from_length}
use Rattle.vg_found.proofs.AllRead.{all_read}
use Rattle.vg_found.proofs.whole.why_not_whole.Goals as goal

pub returns-then-len-gt0 : goal.returns-then-len-gt0
returns-then-len-gt0 c = (
  all_read c.args.found.now c.first_of.result c.requires c.first_of.ensures c.in_default.not-Some,
  λ none. absurd (omega (arith, ap length none, c.len.ensures, c.if-len-gt0.true)),
)

pub returns : goal.returns
returns c = record {
  read = all_read c.args.found.now c.first_of.result c.requires c.first_of.ensures c.in_default.not-Some;
  there = nil_from_length c.args.found.now.missing (omega (arith, c.len.ensures, c.if-len-gt0.false));
}
