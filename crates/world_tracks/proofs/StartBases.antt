-- What was found at the start of a history gives its base.
use Rattle.std.proofs.Common.{◌≡◌, ℕ, List, Option, None, Some, IfSome, sym, ap, subst, ◌∙◌}
use Rattle.std.specs.Prelude.{option_map}
use Rattle.disk_model.specs.Steps.{Image}
use Rattle.meta_model.specs.declared.group.Group.{Group}
use Rattle.volume_rules.specs.Rules.{IsAccepted}
use Rattle.vg_found.specs.Disks.{disks_of}
use Rattle.vg_found.specs.Shape.{HasShape}
use Rattle.vg_found.specs.Whole.{IsWhole}
use Rattle.vg_found.specs.declared.found.Found.{Found}
use Rattle.vg_scan.specs.Scans.{IsScanOf}
use Rattle.vg_scan.specs.Versions.{Version, version_in}
use Rattle.volume_history.specs.Chronicles.{Origin}
use Rattle.volume_history.specs.Starting.{StartsWith}
use Rattle.world_tracks.specs.Moments.{HasBase}

-- its version is that of the start
version_found : (found : Found) → HasShape found → (version : Option Version)
    → found.group ≡ option_map (λ (v : Version). v.group) version → IfSome version (λ (v : Version). v.disk_of ≡ found.disk_of)
    → version_in found ≡ version
version_found found shape None group disks =
    ap (option_map (λ (g : Group). record { group = g; disk_of = disks_of g found.disks })) group
version_found found shape (Some version) group disks =
    let listed : found.disk_of ≡ disks_of version.group found.disks =
    subst (λ (o : Option Group). IfSome o (λ g. found.disk_of ≡ disks_of g found.disks)) group shape.disk_of in
    ap {B = Option Version} (option_map (λ (g : Group). record { group = g; disk_of = disks_of g found.disks })) group
    ∙ ap {B = Option Version} (λ (d : List ℕ). Some (record { group = version.group; disk_of = d })) (sym listed ∙ sym disks)

pub base_found : (o : Origin) (base : Image) (found : Found) → StartsWith o found → IsScanOf base o.sizes found → HasShape found
    → IsWhole found → IfSome found.group IsAccepted → HasBase o base
base_found o base found starts scan shape whole accepted = record {
  found = found;
  scan = scan;
  shape = shape;
  whole = whole;
  accepted = accepted;
  version = version_found found shape o.version starts.group starts.disks;
}
