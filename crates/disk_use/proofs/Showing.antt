-- What a disk shows, by what stands there.
use Rattle.std.proofs.Common.{◌≡◌, ℕ, Bool, true, false, if◌then◌else◌, List, slice_index_or, Option, Some, None, Result, refl, sym}
use Rattle.std.proofs.Common.{subst, ◌∙◌}
use Rattle.std.specs.Prelude.{MatchResult}
use Rattle.std.proofs.lemmas.Bool.{false≢true}
use Rattle.std.proofs.lemmas.Result.{MatchResult-weaker}
use Rattle.disk_model.specs.State.{State}
use Rattle.disk_model.specs.Steps.{Image, Record, now_after}
use Rattle.disk_model.specs.Faults.{HasSameFaults}
use Rattle.pv_header.specs.declared.header.PvHeader.{PvHeader}
use Rattle.disk_contents.specs.declared.contents.AreaFound.{AreaFound}
use Rattle.disk_contents.specs.declared.contents.PvFound.{PvFound}
use Rattle.disk_contents.specs.declared.contents.PvFound.TheVariants.{NoLabel, NoHeader, Whole}
use Rattle.disk_contents.specs.Contents.{IsFound}
use Rattle.disk_signature.specs.declared.kind.Kind.{Kind}
use Rattle.disk_signature.specs.Signatures.{first_kind}
use Rattle.vg_scan.specs.Scans.{HoldsNow}
use Rattle.disk_use.specs.declared.in_use.Shown.{Shown}
use Rattle.disk_use.specs.declared.in_use.Shown.TheVariants.{Free, Marked}
use Rattle.disk_use.specs.declared.use_refusal.UseRefusal.{UseRefusal}
use Rattle.disk_use.specs.Faults.{IsUseFault}
use Rattle.disk_use.specs.LookedAt.{IsShown, IsShownWith, is_wanted, shown_of}
use Rattle.disk_use.specs.Uses.{is_marked}
use Rattle.disk_use.proofs.Looking.{now_both}

by_mark : (new : Bool) (image : Image) (sizes : List ℕ) (pv label : ℕ) (header : PvHeader) (areas : List AreaFound) (b : Bool)
    → is_marked header ≡ b
    → IsFound (image pv) (slice_index_or sizes pv 0) (Whole label header areas) → IsShown new image sizes pv (if b then Marked else Free)
by_mark new image sizes pv label header areas true is found = record { contents = Whole label header areas; found = found; marked = is }
by_mark new image sizes pv label header areas false is found =
    record { contents = Whole label header areas; found = found; free = λ marked. absurd (false≢true (sym is ∙ marked)) }

shown_at : (new : Bool) (image : Image) (sizes : List ℕ) (pv : ℕ) (contents : PvFound) (kind : Option Kind)
    → (is_wanted new contents ≡ true → kind ≡ first_kind (image pv) (slice_index_or sizes pv 0))
    → IsShownWith new image sizes pv contents (shown_of new contents kind)
shown_at true image sizes pv (NoLabel refusal) None first found = record
    { contents = NoLabel refusal; found = found; free = λ new. sym (first refl) }
shown_at true image sizes pv (NoLabel refusal) (Some kind) first found = record
    { contents = NoLabel refusal; found = found; cause = (refl, sym (first refl)) }
shown_at false image sizes pv (NoLabel refusal) kind first found = record
    { contents = NoLabel refusal; found = found; free = λ new. absurd (false≢true new) }
shown_at true image sizes pv (NoHeader label refusal) kind first found = record
    { contents = NoHeader label refusal; found = found; cause = refl }
shown_at false image sizes pv (NoHeader label refusal) kind first found = record
    { contents = NoHeader label refusal; found = found; free = refl }
shown_at new image sizes pv (Whole label header areas) kind first found = by_mark new image sizes pv label header areas
    (is_marked header) refl found

-- what the disk shows is so
pub shown_so : (new wanted : Bool) (told : Option Record) (sizes : List ℕ) (pv : ℕ) (contents : PvFound) (kind : Option Kind)
    (shown : Shown) → wanted ≡ is_wanted new contents → shown ≡ shown_of new contents kind
    → (wanted ≡ true → HoldsNow told (λ image. kind ≡ first_kind (image pv) (slice_index_or sizes pv 0)))
    → HoldsNow told (λ image. IsShownWith new image sizes pv contents shown)
shown_so new wanted None sizes pv contents kind shown asked is first = tt
shown_so new wanted (Some t) sizes pv contents kind shown asked is first =
    let image : Image = now_after t.opened t.steps in
    subst (λ (s : Shown). IsShownWith new image sizes pv contents s) (sym is)
    (shown_at new image sizes pv contents kind (λ want. first (asked ∙ want)))

-- the contents are those of the disk
pub shown_there : (new : Bool) (s0 s1 : State) (pv : ℕ) (contents : PvFound) (r : Result Shown UseRefusal)
    → HoldsNow s0.told (λ image. IsFound (image pv) (slice_index_or s0.sizes pv 0) contents)
    → MatchResult r (λ shown. HasSameFaults s0 s1 × HoldsNow s0.told (λ image. IsShownWith new image s0.sizes pv contents shown))
    (IsUseFault s0 s1)
    → MatchResult r (λ shown. HasSameFaults s0 s1 × HoldsNow s0.told (λ image. IsShown new image s0.sizes pv shown)) (IsUseFault s0 s1)
shown_there new s0 s1 pv contents r found is =
    MatchResult-weaker r is
    (λ shown so. (
      so.0,
      now_both s0.told (λ image. IsFound (image pv) (slice_index_or s0.sizes pv 0) contents)
          (λ image. IsShownWith new image s0.sizes pv contents shown) (λ image. IsShown new image s0.sizes pv shown)
          (λ image there with. with there) found so.1,
    ))
    (λ refusal fault. fault)
