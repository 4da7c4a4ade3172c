-- The name is none of those so far.
use Rattle.std.proofs.Common.{◌≡◌, ◌+◌, drop}
use Rattle.std.specs.Prelude.{option_map}
use Rattle.command_table.specs.Options.{number_named, words_of}
use Rattle.line_answers.proofs.disk_names.place_of.Given as goal

abbrev pub invariant-loop-place : goal.invariant-loop-place
invariant-loop-place l =
    number_named (words_of l.names) l.name ≡ option_map (λ n. n + l.place) (number_named (words_of (drop l.place l.names)) l.name)
