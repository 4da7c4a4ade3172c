use Rattle.lvm_id.proofs.Drawn.{four_put, IsId-four}
use Rattle.lvm_id.proofs.id.of_four.Goals as goal

pub new-requires : goal.new-requires
new-requires c =
    rw (
      c.put-4.ensures,
      c.chars_of_word-4.ensures,
      c.put-3.ensures,
      c.chars_of_word-3.ensures,
      c.put-2.ensures,
      c.chars_of_word-2.ensures,
      c.put.ensures,
      c.chars_of_word.ensures,
      four_put,
    ) (IsId-four c.args.first c.args.second c.args.third c.args.fourth).in_alphabet

pub returns-clause-value : goal.returns-clause-value
returns-clause-value c =
    rw (
      c.new.ensures,
      c.put-4.ensures,
      c.chars_of_word-4.ensures,
      c.put-3.ensures,
      c.chars_of_word-3.ensures,
      c.put-2.ensures,
      c.chars_of_word-2.ensures,
      c.put.ensures,
      c.chars_of_word.ensures,
    ) (four_put c.args.first c.args.second c.args.third c.args.fourth)

pub returns-clause-valid : goal.returns-clause-valid
returns-clause-valid c =
    rw (
      c.new.ensures,
      c.put-4.ensures,
      c.chars_of_word-4.ensures,
      c.put-3.ensures,
      c.chars_of_word-3.ensures,
      c.put-2.ensures,
      c.chars_of_word-2.ensures,
      c.put.ensures,
      c.chars_of_word.ensures,
      four_put,
    )
    (IsId-four c.args.first c.args.second c.args.third c.args.fourth)
