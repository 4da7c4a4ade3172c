-- The sector that was copied, and those before it.
use Rattle.std.proofs.Common.{◌≤◌, ◌*◌, ℕ, length, ◌∙◌, below_more, arith}
use Rattle.std.proofs.lemmas.List.{length-take, length-drop}
use Rattle.file_shelf.proofs.Runs.{sector_of-earlier, sector_of-written}
use Rattle.file_shelf.proofs.copying.gather.Goals as goal

pub loop-k-preserved : goal.loop-k-preserved
loop-k-preserved c =
    let k = c.loop-k.k in
    let fits : 512 * k ≤ length c.loop-k.bytes = omega (arith, c.loop-k.auto.bytes, c.requires.fits) in
    below_more _ _
    (λ j lt. sector_of-earlier c.loop-k.bytes c.copy_from_slice.new.self j k _ lt fits ∙ c.loop-k.invariant j lt)
    (sector_of-written c.loop-k.bytes c.copy_from_slice.new.self k _ fits
    (omega (arith, c.copy_from_slice.ensures.len, length-take {A = ℕ}, length-drop {A = ℕ}, c.loop-k.auto.bytes))
    ∙ c.copy_from_slice.ensures.after ∙ c.as_bytes.ensures.value ∙ c.get-sector.ensures.value)
