use Rattle.std.proofs.Common.{length, List, ℕ, ap, ◌∙◌}
use Rattle.std.proofs.Math.Seq.{map-set_same}
use Rattle.dev_shelf.proofs.mem_shelf.completion.write_to.Goals as goal

pub returns-clause-shape : goal.returns-clause-shape
returns-clause-shape c =
    map-set_same (λ (disk : List (List ℕ)). length disk) c.args.disks.now.items c.args.span.now.pv c.copy_in.new.self
    c.index_mut-disk.result.now (c.copy_in.ensures.len ∙ ap (λ (l : List (List ℕ)). length l) c.index_mut-disk.ensures.value)
