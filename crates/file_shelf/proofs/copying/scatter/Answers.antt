-- The sector that was copied, and those before it.
use Rattle.std.proofs.Common.{◌≡◌, ◌+◌, ◌-◌, ◌*◌, ℕ, List, [], length, take, drop, slice_index_or, ◌∙◌, ap, arith}
use Rattle.std.proofs.lemmas.List.{length-set, length-take, length-drop, length-replicate}
use Rattle.file_shelf.specs.Bytes.{sector_of}
use Rattle.file_shelf.proofs.Runs.{set_more, with_bytes-whole}
use Rattle.file_shelf.proofs.copying.scatter.Goals as goal

pub loop-k-preserved : goal.loop-k-preserved
loop-k-preserved c =
    let k = c.loop-k.k in
    let bytes = c.args.bytes.now in
    let end : 512 * k + 512 - 512 * k ≡ 512 = omega arith in
    let cut : take (512 * k + 512 - 512 * k) (drop (512 * k) bytes) ≡ sector_of bytes k =
    ap (λ (n : ℕ). take n (drop (512 * k) bytes)) end in
    let whole : length (take (512 * k + 512 - 512 * k) (drop (512 * k) bytes)) ≡ 512 =
    omega (arith, length-take {A = ℕ}, length-drop {A = ℕ}, c.requires.has) in
    let zeros : length c.zeroed-sector.result ≡ 512 = ap length c.zeroed-sector.ensures ∙ length-replicate {A = ℕ} 512 0 in
    record {
      len = omega (arith, ap length c.set.ensures, length-set {A = List ℕ}, c.loop-k.invariant.len);
      each = λ s. rw c.set.ensures
          (set_more c.loop-k.into (λ n. slice_index_or c.args.into.now n []) (sector_of bytes) c.args.at k c.put.new.self
          (omega (arith, c.requires.fits, c.loop-k.invariant.len))
          (c.put.ensures ∙ with_bytes-whole _ _ zeros whole ∙ cut) c.loop-k.invariant.each s);
    }
