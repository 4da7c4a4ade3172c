-- The names so far stand before those of the words that are left.
use Rattle.std.proofs.Common.{◌≡◌, ◌≤◌, ◌-◌, length, drop}
use Rattle.std.specs.Prelude.{option_map}
use Rattle.command_table.specs.Options.{words_of}
use Rattle.lvm_words.specs.Disks.{front_of}
use Rattle.lvm_words.proofs.Fronts.{after_names}
use Rattle.lvm_words.proofs.disks.front.Given as goal

abbrev pub invariant-loop-at : goal.invariant-loop-at
invariant-loop-at l = record {
  within : l.at ≤ length l.words;
  front : front_of (words_of l.words) ≡ option_map (after_names (words_of l.names.items)) (front_of (words_of (drop l.at l.words)));
}

abbrev pub decreases-loop-at : goal.decreases-loop-at
decreases-loop-at l = length l.words - l.at
