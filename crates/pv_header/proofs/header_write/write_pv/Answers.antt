use Rattle.std.proofs.Common.{rules, ◌≡◌, ◌+◌, ◌++◌, length, take, ℕ, ◌*◌, ap, subst, refl, ◌∙◌, arith}
use Rattle.std.proofs.lemmas.List.{length-take-le, length-append}
use Rattle.std.specs.List.{All}
use Rattle.byteorder.specs.Endian.{little_bytes}
use Rattle.byteorder.specs.Numbers.{length-bytes_low_first}
use Rattle.sector_base.specs.Fields.{with_bytes}
use Rattle.pv_header.specs.Extents.{list_bytes, Fits64}
use Rattle.pv_header.proofs.Placed.{length-list_bytes}
use Rattle.pv_header.proofs.Filled.{Fills-zeroed, Fills-put, Fills-skip}
use Rattle.pv_header.proofs.WrittenHeader.{Fills-fields, IsPvHeader-written}
use Rattle.pv_header.proofs.header_write.write_pv.Goals as goal

pub returns-clause-bytes : goal.returns-clause-bytes
returns-clause-bytes c =
    let h = c.args.header.now in
    let id = c.plain.ensures.valid.length_is in
    let size : length c.args.into.now ≡ 512 = search rules in
    let data_len : length c.as_slice.result.now ≡ length h.data_areas = ap length c.as_slice.ensures in
    let areas_len : length c.as_slice-2.result.now ≡ length h.areas = ap length c.as_slice-2.ensures in
    let zeroed = Fills-zeroed c.args.into.now c.put.new.self size c.put.ensures in
    let id_put =
    Fills-put _ _ 32 c.put-2.new.self h.id 64 zeroed (c.put-2.ensures ∙ ap (with_bytes c.put.new.self 32) c.plain.ensures.value)
    (omega (arith, id)) (omega arith) in
    let device_put =
    Fills-put _ _ 64 c.put_u64.new.s (little_bytes 8 h.device_bytes) 72 id_put c.put_u64.ensures
    (omega (arith, length-bytes_low_first 0 8 h.device_bytes)) (omega arith) in
    let data_put = Fills-put _ _ 72 c.put_list-data_end.new.into (list_bytes h.data_areas) c.put_list-data_end.result device_put
    (c.put_list-data_end.ensures.bytes ∙ ap (λ xs. with_bytes c.put_u64.new.s 72 (list_bytes xs)) c.as_slice.ensures)
    (omega (arith, length-list_bytes h.data_areas, c.put_list-data_end.ensures.end)) (omega (arith, c.put_list-data_end.ensures.end)) in
    let data_ended =
    Fills-skip _ _ c.put_list-data_end.result 16 (c.put_list-data_end.result + 16) data_put refl
    (omega (arith, c.put_list-data_end.ensures.end)) in
    let areas_put =
    Fills-put _ _ (c.put_list-data_end.result + 16) c.put_list-areas_end.new.into (list_bytes h.areas) c.put_list-areas_end.result
    data_ended
    (c.put_list-areas_end.ensures.bytes ∙ ap
    (λ xs. with_bytes c.put_list-data_end.new.into (c.put_list-data_end.result + 16) (list_bytes xs)) c.as_slice-2.ensures)
    (omega (arith, length-list_bytes h.areas, c.put_list-areas_end.ensures.end))
    (omega (arith, c.put_list-data_end.ensures.end, c.put_list-areas_end.ensures.end)) in
    let extension : ℕ = c.put_list-areas_end.result + 16 in
    let extension_is : extension ≡ 104 + 16 * length h.data_areas + 16 * length h.areas =
    omega (arith, c.put_list-data_end.ensures.end, c.put_list-areas_end.ensures.end) in
    let areas_ended = Fills-skip _ _ c.put_list-areas_end.result 16 extension areas_put refl (omega arith) in
    let extension_put =
    Fills-put _ _ extension c.put_extension.new.into (little_bytes 4 2 ++ little_bytes 4 h.flags) (extension + 8) areas_ended
    c.put_extension.ensures.bytes
    (omega (
      arith,
      length-append (little_bytes 4 2) (little_bytes 4 h.flags),
      length-bytes_low_first 0 4 2,
      length-bytes_low_first 0 4 h.flags,
    )) (omega arith) in
    Fills-fields (take 32 c.args.into.now) c.put_extension.new.into h (extension + 8) id (omega arith) (omega arith) extension_put

pub returns-clause-read_again : goal.returns-clause-read_again
returns-clause-read_again c = λ offsets.
    let h = c.args.header.now in
    let size : length c.args.into.now ≡ 512 = search rules in
    IsPvHeader-written c.put_extension.new.into (take 32 c.args.into.now) h (length-take-le 32 c.args.into.now (omega arith))
    (returns-clause-bytes c) c.plain.ensures.valid (search rules) c.put_extension.ensures.fits c.requires
    (subst (All Fits64) c.as_slice.ensures c.put_list-data_end.ensures.fits)
    (subst (All Fits64) c.as_slice-2.ensures c.put_list-areas_end.ensures.fits) offsets
