use Rattle.std.proofs.Common.{ℕ, ◌+◌, ◌*◌, List, sym, ap, subst, ◌∙◌, slice_range}
use Rattle.std.proofs.lemmas.Result.{err_from_is_err_and}
use Rattle.lvm_id.specs.LvmId.{IsId}
use Rattle.pv_header.specs.declared.refusal.PvRefusal.{PvRefusal}
use Rattle.pv_header.specs.declared.refusal.PvRefusal.TheVariants.{NoMemory, BadId, ListUnended, AreaOutside, AreaShape, AreasOverlap}
use Rattle.pv_header.specs.declared.refusal.PvRefusal.TheVariants.{Bootloader}
use Rattle.pv_header.specs.Extents.{IsListAt, IsUnended}
use Rattle.pv_header.specs.PvHeader.{after_list}
use Rattle.pv_header.specs.PvRefusal.{RefusesList, RefusesFields, IsFirstUnended}
use Rattle.pv_header.specs.PvRefusal.IsFirstUnended.{data_list, metadata_list, bootloader_list}
use Rattle.pv_header.proofs.header_read.read_fields.Goals as goal

-- a refusal of a list refuses the fields
list_refused : (sector : List ℕ) (at number : ℕ) (refusal : PvRefusal) → RefusesList sector at number refusal
    → IsId (slice_range sector 32 64)
    → (IsUnended sector at → IsFirstUnended sector number) → RefusesFields sector refusal
list_refused sector at number NoMemory h id first = h
list_refused sector at number (ListUnended list) h id first = (id, subst (IsFirstUnended sector) (sym h.0) (first h.1))
list_refused sector at number (BadId place) h id first = absurd h
list_refused sector at number (AreaOutside a b d) h id first = absurd h
list_refused sector at number (AreaShape a b) h id first = absurd h
list_refused sector at number (AreasOverlap a b) h id first = absurd h
list_refused sector at number (Bootloader a) h id first = absurd h

pub returns-in_err-data_areas : goal.returns-in_err-data_areas
returns-in_err-data_areas c =
    let p = err_from_is_err_and c.from_residual-in_err-data_areas.result c.from_residual-in_err-data_areas.ensures.1 in
    let id = subst IsId c.in_ok-id.ensures.0 c.in_ok-id.ensures.1 in
    rw (p.1, p.2) (list_refused c.args.sector.now 72 1 c.in_err-data_areas.field-0.0 c.in_err-data_areas.ensures id data_list)

pub returns-in_err-areas : goal.returns-in_err-areas
returns-in_err-areas c =
    let p = err_from_is_err_and c.from_residual-in_err-areas.result c.from_residual-in_err-areas.ensures.1 in
    let id = subst IsId c.in_ok-id.ensures.0 c.in_ok-id.ensures.1 in
    let sector = c.args.sector.now in
    let data_areas = c.in_ok-data_areas.data_areas in
    let areas_at = ap (λ n. 72 + 16 * (n + 1)) c.len.ensures in
    rw (p.1, p.2) (list_refused sector (72 + 16 * (c.len.result + 1)) 2 c.in_err-areas.field-0.0 c.in_err-areas.ensures id
    (λ unended. metadata_list data_areas c.in_ok-data_areas.ensures (subst (IsUnended sector) areas_at unended)))

pub returns-in_err-bootloader : goal.returns-in_err-bootloader
returns-in_err-bootloader c =
    let p = err_from_is_err_and c.from_residual-in_err-bootloader.result c.from_residual-in_err-bootloader.ensures.1 in
    let id = subst IsId c.in_ok-id.ensures.0 c.in_ok-id.ensures.1 in
    let sector = c.args.sector.now in
    let data_areas = c.in_ok-data_areas.data_areas in
    let areas = c.in_ok-areas.areas in
    let areas_at = ap (λ n. 72 + 16 * (n + 1)) c.len.ensures in
    let bootloader_at =
    ap (λ n. n + 16 * (c.len-2.result + 1) + 8) areas_at ∙ ap (λ n. after_list 72 data_areas + 16 * (n + 1) + 8) c.len-2.ensures in
    rw (p.1, p.2) (list_refused sector (72 + 16 * (c.len.result + 1) + 16 * (c.len-2.result + 1) + 8) 3 c.in_err-bootloader.field-0.0
    c.in_err-bootloader.ensures id
    (λ unended. bootloader_list data_areas areas c.in_ok-data_areas.ensures
    (subst (λ at. IsListAt sector at areas) areas_at c.in_ok-areas.ensures) (subst (IsUnended sector) bootloader_at unended)))
