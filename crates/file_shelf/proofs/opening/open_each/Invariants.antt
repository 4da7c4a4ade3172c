-- So many files are open, each another one whose number stands at its node, with a descriptor that is allowed.
use Rattle.std.proofs.Common.{◌≡◌, ◌≢◌, ◌<ℤ◌, pos, map, IfSome, All, AllPairs, vec_len}
use Rattle.file_shelf.specs.Nodes.{AreNumbered}
use Rattle.file_shelf.proofs.opening.open_each.Given as goal

abbrev pub invariant-loop-number : goal.invariant-loop-number
invariant-loop-number g l = record {
  count : vec_len l.files ≡ l.number;
  spared : All (λ opened. IfSome (g.R.File.AsRawFd.raw_fd opened.file) (λ fd. pos 2 <ℤ fd)) l.files.items;
  apart : AllPairs (λ node other. node ≢ other) (map (λ opened. opened.node) l.files.items);
  numbers : AreNumbered l.numbers (map (λ opened. opened.node) l.files.items);
}
