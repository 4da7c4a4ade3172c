-- The files so far and the rest are all of them, the rest is locked, and those so far have sizes that are allowed.
use Rattle.std.proofs.Common.{◌≡◌, ◌+◌, ◌++◌, length, map, All, vec_len}
use Rattle.file_shelf.specs.Sizes.{IsSize}
use Rattle.file_shelf.specs.declared.image.Access.{Access}
use Rattle.file_shelf.proofs.opening.measure_each.Given as goal

abbrev pub invariant-loop-number : goal.invariant-loop-number
invariant-loop-number g l = record {
  count : l.number-iterator.count + length l.number-iterator.iter.rest.items ≡ vec_len l.fn.files;
  locked : All (λ opened. (access : Access) × g.F.ImageFile.Holds opened.file access) l.number-iterator.iter.rest.items;
  files : map (λ image. image.file) l.images.items
      ++ map (λ opened. opened.file) l.number-iterator.iter.rest.items ≡ map (λ opened. opened.file) l.fn.files.items;
  nodes : map (λ image. image.node) l.images.items
      ++ map (λ opened. opened.node) l.number-iterator.iter.rest.items ≡ map (λ opened. opened.node) l.fn.files.items;
  sizes : All (λ image. IsSize image.sectors) l.images.items;
}
