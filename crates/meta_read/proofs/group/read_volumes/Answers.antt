use Rattle.std.proofs.Common.{◌≡◌, List, ℕ, subst, ap, ◌∙◌}
use Rattle.conf_text.specs.Entries.{ConfEntry}
use Rattle.conf_text.specs.Items.{items}
use Rattle.meta_model.specs.Standing.{sections_of}
use Rattle.meta_read.specs.Reading.{Gives, as_sections}
use Rattle.meta_read.specs.Rows.{volumes_of}
use Rattle.meta_read.proofs.group.read_volumes.Goals as goal

pub returns : goal.returns
returns c =
    let pvs : as_sections c.deref.result.now ≡ sections_of (items c.args.pv_section.now) =
    ap as_sections c.deref.ensures.value ∙ c.in_ok-pv_sections.ensures in
    let lvs : as_sections c.deref-2.result.now ≡ sections_of (items c.args.lv_section.now) =
    ap as_sections c.deref-2.ensures.value ∙ c.in_ok-lv_sections.ensures in
    subst (λ (found : List (List ℕ × List ConfEntry)). Gives (volumes_of found (sections_of (items c.args.lv_section.now)))
    c.all_volumes.result) pvs
    (subst (λ (found : List (List ℕ × List ConfEntry)). Gives (volumes_of (as_sections c.deref.result.now) found) c.all_volumes.result) lvs
    c.all_volumes.ensures)
