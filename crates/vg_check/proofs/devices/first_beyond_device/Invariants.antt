-- The volumes so far lie on their devices.
use Rattle.std.proofs.Common.{List, ℕ, All, take}
use Rattle.meta_model.specs.declared.pv.Pv.{Pv}
use Rattle.volume_rules.specs.Rules.{FitsDevice}
use Rattle.vg_check.proofs.devices.first_beyond_device.Given as goal

abbrev pub invariant-loop-number : goal.invariant-loop-number
invariant-loop-number l = All (λ (row : List ℕ × Pv). FitsDevice l.extent_size row.1) (take l.number l.pvs)
