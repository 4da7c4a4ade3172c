use Rattle.std.proofs.lemmas.List.Elements.{All-from_recursion}
use Rattle.piece_split.proofs.InBlocks.{all_cover, all_in_blocks, all_of_request, later_begin}
use Rattle.piece_split.proofs.laws.pieces_cover_requests.Goals as goal

pub returns-clause-cover : goal.returns-clause-cover
returns-clause-cover c = all_cover

pub returns-clause-request : goal.returns-clause-request
returns-clause-request c = λ volume first count write. All-from_recursion _ _ (all_of_request volume first count write)

pub returns-clause-cut : goal.returns-clause-cut
returns-clause-cut c =
    λ volume first count write. (
      All-from_recursion _ _ (all_in_blocks volume first count write),
      All-from_recursion _ _ (later_begin volume first count write),
    )
