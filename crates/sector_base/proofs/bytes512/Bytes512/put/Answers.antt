-- The bytes before and behind are those of the sector.
use Rattle.std.proofs.Common.{◌≡◌, ◌+◌, ◌-◌, ◌<◌, ℕ, List, ◌++◌, length, take, drop, arith, subst, sym, ap, ◌∙◌, append_assoc}
use Rattle.std.specs.List.{All}
use Rattle.std.proofs.lemmas.List.{drop-drop}
use Rattle.std.proofs.lemmas.List.Elements.{All-from_get_or}
use Rattle.sector_base.specs.Fields.{with_bytes}
use Rattle.sector_base.specs.Sectors.{IsSector}
use Rattle.sector_base.proofs.SectorBytes.{IsSector-with_bytes}
use Rattle.sector_base.proofs.bytes512.Bytes512.put.Goals as goal
use borrow.Rule.Slice.PartMut.{put_mid}

put_mid-with_bytes : (sector : List ℕ) (at k : ℕ) (bytes : List ℕ) → k ≡ length bytes
    → with_bytes sector at bytes ≡ put_mid at k sector bytes
put_mid-with_bytes sector at k bytes e =
    append_assoc (take at sector) bytes (drop (at + length bytes) sector)
    ∙ ap (λ (l : List ℕ). take at sector ++ (bytes ++ l)) (ap (λ (n : ℕ). drop n sector) (omega arith) ∙ sym (drop-drop k at sector))

pub invariant_of-self : goal.invariant_of-self
invariant_of-self c =
    let old = c.self.inside.bytes in
    let are : All (λ b. b < 256) c.args.bytes.now =
    All-from_get_or (λ b. b < 256) c.args.bytes.now 0 (λ i h. omega (arith, c.type_inv.bytes i)) in
    subst (λ (s : List ℕ). IsSector (put_mid c.args.at (c.args.at + length c.args.bytes.now - c.args.at) old s))
    (sym c.copy_from_slice.ensures.after)
    (subst IsSector (put_mid-with_bytes old c.args.at (c.args.at + length c.args.bytes.now - c.args.at) c.args.bytes.now (omega arith))
    (IsSector-with_bytes old c.args.at c.args.bytes.now c.self.invariant c.requires are))
