use Rattle.std.proofs.Common.{◌≡◌, ◌+◌, ℕ, ◌<◌, List, length, Option, Some, None, drop, find, get_or, sym, ap, ◌∙◌}
use Rattle.std.specs.Option.{option_map, option_or}
use Rattle.pv_header.specs.declared.extent_list.Extent.{Extent}
use Rattle.pv_header.specs.Areas.{shares_byte, first_overlap}
use Rattle.pv_header.proofs.Overlaps.{overlap_from, overlap_from-start, overlap_from-end, overlap_from-more}
use Rattle.pv_header.proofs.ReadLists.{no_extent}
use Rattle.pv_header.proofs.checks.find_overlap.Goals as goal

-- what the search from the area at a place on gives, by what the search for it gave
step : (areas : List Extent) (disk_bytes i : ℕ) (found : Option Extent) → i < length areas
    → first_overlap areas disk_bytes ≡ overlap_from areas disk_bytes i
    → found ≡ find (shares_byte areas disk_bytes (get_or areas i no_extent)) (drop (i + 1) areas)
    → first_overlap areas disk_bytes ≡ option_or (option_map (λ other. (get_or areas i no_extent, other)) found)
    (overlap_from areas disk_bytes (i + 1))
step areas disk_bytes i found h so_far e =
    so_far ∙ overlap_from-more areas disk_bytes i no_extent h
    ∙ ap (λ (o : Option Extent). option_or (option_map (λ other. (get_or areas i no_extent, other)) o)
    (overlap_from areas disk_bytes (i + 1))) (sym e)

pub loop-i-init : goal.loop-i-init
loop-i-init c = overlap_from-start c.args.areas.now c.args.disk_bytes

pub returns-in-Some : goal.returns-in-Some
returns-in-Some c =
    sym (step c.args.areas.now c.args.disk_bytes c.loop-i.i (Some c.in-Some.other) c.loop-i-test.true c.loop-i.invariant c.in-Some.ensures)

pub loop-i-preserved : goal.loop-i-preserved
loop-i-preserved c = step c.args.areas.now c.args.disk_bytes c.loop-i.i None c.loop-i-test.true c.loop-i.invariant c.in_default.ensures

pub returns : goal.returns
returns c = sym (c.loop-i.invariant ∙ overlap_from-end c.args.areas.now c.args.disk_bytes c.loop-i.i c.loop-i-test.false)
