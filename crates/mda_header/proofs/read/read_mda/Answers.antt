-- The entries that are read are those of the relation, which has one reading.
use Rattle.std.proofs.Common.{ap, Ok, refl}
use Rattle.mda_header.specs.declared.header.MdaHeader.{MdaHeader}
use Rattle.mda_header.specs.Header.{IsCommitted, IsHeader}
use Rattle.mda_header.proofs.Fields.{inside_committed, inside_precommitted, none_committed, one_reading}
use Rattle.mda_header.proofs.read.read_mda.Goals as goal
use Rattle.mda_header.proofs.read.read_mda.Goals.{else-committed-ne0-via-then-committed-ne0+else-not-is_inside}
use Rattle.mda_header.proofs.read.read_mda.Goals.{else-committed-ne0-via-else-committed-ne0}

committed_is : (c : goal.After-has_ignored_bit) → IsCommitted c.args.sector.now c.args.size c.if_inside.result
committed_is c =
    elim c.else-committed-ne0.branch [
      | else-committed-ne0-via-then-committed-ne0+else-not-is_inside w ↦
          inside_committed c.args.sector.now c.args.size c.if_inside.result c.get_locn-committed.result c.get_locn-committed.ensures
          c.if_inside.ensures (w.is_inside.ensures.0 w.if-not-is_inside.false)
      | else-committed-ne0-via-else-committed-ne0 w ↦ none_committed c.args.sector.now c.args.size c.if_inside.result
          c.get_locn-committed.result c.get_locn-committed.ensures c.if_inside.ensures w.if-committed-ne0.false
    ]

header_of : goal.After-has_ignored_bit → MdaHeader
header_of c = record {
  start = c.args.start;
  size = c.args.size;
  committed = c.if_inside.result;
  precommitted = c.if_inside-2.result;
  ignored = c.has_ignored_bit.result;
}

header_is : (c : goal.After-has_ignored_bit) → IsHeader c.args.sector.now (header_of c)
unfolding header_of
header_is c = record {
  sound = c.in_default.ensures.sound;
  start = c.in_default.ensures.start_is;
  size = c.in_default.ensures.size_is;
  committed = committed_is c;
  precommitted =
      inside_precommitted c.args.sector.now c.args.size c.if_inside-2.result c.get_locn-precommitted.result c.get_locn-precommitted.ensures
      c.if_inside-2.ensures;
  ignored = c.has_ignored_bit.ensures;
}

pub returns-clause-read : goal.returns-clause-read
unfolding header_of
returns-clause-read c = (header_is c, refl, refl)

pub returns-clause-found : goal.returns-clause-found
unfolding header_of
returns-clause-found c = λ header is _ _. ap (λ (h : MdaHeader). Ok h) (one_reading c.args.sector.now (header_of c) header (header_is c) is)
