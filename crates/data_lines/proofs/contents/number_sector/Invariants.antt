use Rattle.std.proofs.Common.{◌≡◌, ◌<◌, ℕ, ◌+◌, ◌*◌, ◌%◌, length, get_or}
use Rattle.data_lines.proofs.contents.number_sector.Given as goal

abbrev pub invariant-loop-k : goal.invariant-loop-k
invariant-loop-k l = record { long : length l.bytes ≡ 512; each : (i : ℕ) → i < 8 * l.k → get_or l.bytes i 0 ≡ get_or l.word (i % 8) 0 }

abbrev pub invariant-loop-j : goal.invariant-loop-j
invariant-loop-j l = record { long : length l.bytes ≡ 512; each : (i : ℕ) → i < 8 * l.k + l.j → get_or l.bytes i 0 ≡ get_or l.word (i % 8) 0 }
