use Rattle.std.proofs.Common.{sym}
use Rattle.std.proofs.lemmas.List.Elements.{All-contains, All-from_recursion}
use Rattle.volume_view.proofs.OthersApart.{places_are}
use Rattle.volume_view.proofs.SideBySide.{places_later, way_same}
use Rattle.piece_split.specs.Laws.{IsInOneBlock}
use Rattle.piece_split.specs.Pieces.{pieces_of}
use Rattle.piece_split.proofs.InBlocks.{all_in_blocks}
use Rattle.piece_split.proofs.laws.pieces_lie_in_one_region.Goals as goal

pub returns : goal.returns
returns c = λ group lv volume first count k write piece p accepted within lt is.
    let pieces = pieces_of volume first count write in
    let block : IsInOneBlock piece =
    All-contains IsInOneBlock pieces piece (All-from_recursion IsInOneBlock pieces (all_in_blocks volume first count write)) within in
    let same = sym (block.1 k lt) in (
      places_later group lv piece.first k p accepted same is,
      way_same group lv piece.first k p.primary accepted same (places_are group lv piece.first p is).is_primary,
    )
