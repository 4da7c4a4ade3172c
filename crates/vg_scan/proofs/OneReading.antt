-- What stands on disks and how they read is one. That a text has one tree or one cause why it has none, and that what stands on
-- one disk is one, is given here.
use Rattle.std.proofs.Common.{◌≡◌, ◌≢◌, ℕ, ◌+◌, List, [], ◌∷◌, map, Option, None, Some, Result, Ok, Err, ◌⊎◌, inl, inr, refl}
use Rattle.std.proofs.Common.{sym, ap, subst, ◌∙◌}
use Rattle.std.specs.FinSet as set
use Rattle.std.specs.Ordering.{nat_cmp}
use Rattle.sector_base.specs.Checksum.{checksum, lvm_crc_start}
use Rattle.disk_model.specs.Steps.{Image}
use Rattle.mda_header.specs.declared.entry.HeaderEntry.{HeaderEntry}
use Rattle.mda_header.specs.declared.entry.HeaderEntry.TheVariants.{Ignored, Nothing, Text, Refused as RefusedFor}
use Rattle.mda_header.specs.declared.header.Locn.{Locn}
use Rattle.mda_ring.specs.declared.area.Area.{Area}
use Rattle.mda_ring.specs.Texts.{IsTextOf as IsTextOfEntry}
use Rattle.conf_text.specs.Entries.{Conf}
use Rattle.conf_text.specs.Grammar.{IsTextOf}
use Rattle.conf_text.specs.Refusals.{IsCause}
use Rattle.conf_text.specs.declared.refusal.ConfRefusal.{ConfRefusal}
use Rattle.conf_text.specs.declared.refusal.ConfRefusal.TheVariants.{NoMemory}
use Rattle.meta_model.specs.PassedOver.{passed_over}
use Rattle.meta_model.specs.Standing.{group_of}
use Rattle.meta_model.specs.declared.group.Group.{Group}
use Rattle.meta_model.specs.declared.refusal.GroupRefusal.{GroupRefusal}
use Rattle.volume_rules.specs.declared.rule.Rule.{Rule}
use Rattle.volume_rules.specs.Rules.{IsAccepted, IsFirstBroken}
use Rattle.volume_rules.proofs.FirstBroken.{one_first}
use Rattle.disk_contents.specs.declared.contents.AreaFound.{AreaFound}
use Rattle.disk_contents.specs.declared.contents.PvFound.{PvFound}
use Rattle.disk_contents.specs.declared.contents.PvFound.TheVariants.{NoLabel, NoHeader, Whole}
use Rattle.disk_contents.specs.Contents.{IsFound}
use Rattle.disk_contents.specs.Standing.{area_on}
use Rattle.scan_rules.specs.Decision.{Area as AreaOf, AreaReading, Copy, Found as PvOf, HoldsNone, Reading, Refused}
use Rattle.scan_rules.specs.declared.copy_refusal.CopyRefusal.TheVariants.{HeaderRefused, SumDiffers, TextRefused, GroupRefused, RuleBroken}
use Rattle.vg_found.specs.declared.disk.Disk.{Disk}
use Rattle.vg_found.specs.Shape.{IsUnread}
use Rattle.vg_scan.specs.Readings.{AreAreaReadings, AreDiskReadings, AreReadings, IsAreaReading, IsContents, IsDiskReading, IsGiven}
use Rattle.vg_scan.specs.Readings.{IsPvReading}
use Rattle.vg_scan.specs.Texts.{IsStored, stored_bytes}

-- ---- bytes that are stored

-- bytes with another checksum, or the text that bytes of this checksum are
abbrev Damaged : Locn → List ℕ → AreaReading → Type 0
Damaged locn bytes given =
    (locn.sum ≢ checksum lvm_crc_start bytes) × (given ≡ Refused (SumDiffers locn.sum (checksum lvm_crc_start bytes)))

-- what a text gives: why it has no tree, or what its tree stands for
abbrev Unread : List ℕ → AreaReading → Type 0
Unread text given = (refusal : ConfRefusal) × IsCause text refusal × (refusal ≢ NoMemory) × (given ≡ Refused (TextRefused refusal))

-- a tree that stands for no group, one that keeps the rules, or one that doesn't
abbrev Judged : List ℕ → Conf → Result Group GroupRefusal → AreaReading → Type 0
Judged text tree (Err refusal) given = given ≡ Refused (GroupRefused refusal)
Judged text tree (Ok group) given =
    (IsAccepted group × (given ≡ Copy group text (passed_over tree)))
    ⊎ ((rule : Rule) × IsFirstBroken group rule × (given ≡ Refused (RuleBroken rule)))

abbrev Read : List ℕ → AreaReading → Type 0
Read text given = (tree : Conf) × IsTextOf text tree × Judged text tree (group_of tree) given

abbrev Stored : Locn → List ℕ → AreaReading → Type 0
Stored locn bytes given =
    Damaged locn bytes given ⊎ ((text : List ℕ) × IsTextOfEntry locn bytes text × (Unread text given ⊎ Read text given))

stored_as : (locn : Locn) (bytes : List ℕ) (given : AreaReading) → IsStored locn bytes given → Stored locn bytes given
stored_as locn bytes HoldsNone is = absurd is
stored_as locn bytes (Copy group text passed) is =
    inr (
      text,
      is.0,
      inr (
        is.1.tree,
        is.1.is_text,
        subst (λ (r : Result Group GroupRefusal). Judged text is.1.tree r (Copy group text passed)) (sym is.1.stands)
            (inl (is.1.accepted, ap (Copy group text) is.1.passed_is)),
      ),
    )
stored_as locn bytes (Refused (HeaderRefused refusal)) is = absurd is
stored_as locn bytes (Refused (SumDiffers said found)) is =
    inl (λ same. is.2 (is.0 ∙ same ∙ sym is.1), λ i. Refused (SumDiffers (is.0 i) (is.1 i)))
stored_as locn bytes (Refused (TextRefused refusal)) is = inr (is.0, is.1, inl (refusal, is.2.0, is.2.1, refl))
stored_as locn bytes (Refused (GroupRefused refusal)) is =
    inr (
      is.0,
      is.1,
      inr (
        is.2.0,
        is.2.1,
        subst (λ (r : Result Group GroupRefusal). Judged is.0 is.2.0 r (Refused (GroupRefused refusal))) (sym is.2.2) refl,
      ),
    )
stored_as locn bytes (Refused (RuleBroken rule)) is =
    inr (
      is.0,
      is.1,
      inr (
        is.2.0,
        is.2.2,
        subst (λ (r : Result Group GroupRefusal). Judged is.0 is.2.0 r (Refused (RuleBroken rule))) (sym is.2.3) (inr (rule, is.2.4, refl)),
      ),
    )

one_judged : (text : List ℕ) (tree : Conf) (r : Result Group GroupRefusal) (a b : AreaReading) → Judged text tree r a → Judged text tree r b
    → a ≡ b
one_judged text tree (Err refusal) a b is is' = is ∙ sym is'
one_judged text tree (Ok group) a b (inl x) (inl y) = x.1 ∙ sym y.1
one_judged text tree (Ok group) a b (inl x) (inr y) = absurd (y.1.broken (x.0 y.0))
one_judged text tree (Ok group) a b (inr x) (inl y) = absurd (x.1.broken (y.0 x.0))
one_judged text tree (Ok group) a b (inr x) (inr y) =
    x.2 ∙ ap (λ (rule : Rule). Refused (RuleBroken rule)) (one_first group x.0 y.0 x.1 y.1) ∙ sym y.2

module _ (trees : (text : List ℕ) (a b : Conf) → IsTextOf text a → IsTextOf text b → a ≡ b)
    (refused : (text : List ℕ) (tree : Conf) (refusal : ConfRefusal) → refusal ≢ NoMemory → IsTextOf text tree → ¬ IsCause text refusal)
    (causes : (text : List ℕ) (a b : ConfRefusal) → a ≢ NoMemory → b ≢ NoMemory → IsCause text a → IsCause text b → a ≡ b)
    (findings : (sector_at : ℕ → List ℕ) (disk : ℕ) (a b : PvFound) → IsFound sector_at disk a → IsFound sector_at disk b → a ≡ b) where
  one_of_text : (text : List ℕ) (a b : AreaReading) → Unread text a ⊎ Read text a → Unread text b ⊎ Read text b → a ≡ b
  one_of_text text a b (inl x) (inl y) =
      x.3 ∙ ap (λ (r : ConfRefusal). Refused (TextRefused r)) (causes text x.0 y.0 x.2 y.2 x.1 y.1) ∙ sym y.3
  one_of_text text a b (inl x) (inr y) = absurd (refused text y.0 x.0 x.2 y.1 x.1)
  one_of_text text a b (inr x) (inl y) = absurd (refused text x.0 y.0 y.2 x.1 y.1)
  one_of_text text a b (inr x) (inr y) =
      one_judged text y.0 (group_of y.0) a b (subst (λ (tree : Conf). Judged text tree (group_of tree) a) (trees text x.0 y.0 x.1 y.1) x.2)
      y.2

  one_of_stored : (locn : Locn) (bytes : List ℕ) (a b : AreaReading) → Stored locn bytes a → Stored locn bytes b → a ≡ b
  one_of_stored locn bytes a b (inl x) (inl y) = x.1 ∙ sym y.1
  one_of_stored locn bytes a b (inl x) (inr y) = absurd (x.0 (sym y.1.agrees))
  one_of_stored locn bytes a b (inr x) (inl y) = absurd (y.0 (sym x.1.agrees))
  one_of_stored locn bytes a b (inr x) (inr y) =
      one_of_text y.0 a b (subst (λ (text : List ℕ). Unread text a ⊎ Read text a) (x.1.text_is ∙ sym y.1.text_is) x.2) y.2

  one_stored : (locn : Locn) (bytes : List ℕ) (a b : AreaReading) → IsStored locn bytes a → IsStored locn bytes b → a ≡ b
  one_stored locn bytes a b is is' = one_of_stored locn bytes a b (stored_as locn bytes a is) (stored_as locn bytes b is')

  -- ---- areas

  one_given : (sector_at : ℕ → List ℕ) (area : Area) (entry : HeaderEntry) (a b : Option AreaReading) → IsGiven sector_at area entry a
      → IsGiven sector_at area entry b → a ≡ b
  one_given sector_at area Ignored a b is is' = is ∙ sym is'
  one_given sector_at area Nothing a b is is' = is ∙ sym is'
  one_given sector_at area (Text locn) a b is is' =
      is.1 ∙ ap (λ (given : AreaReading). Some given) (one_stored locn (stored_bytes sector_at area locn) is.0 is'.0 is.2 is'.2) ∙ sym is'.1
  one_given sector_at area (RefusedFor refusal) a b is is' = is ∙ sym is'

  one_area : (pv : ℕ) (sector_at : ℕ → List ℕ) (found : AreaFound) (a b : AreaOf) → IsAreaReading pv sector_at found a
      → IsAreaReading pv sector_at found b → a ≡ b
  one_area pv sector_at found a b is is' = λ i. record {
    start = (is.start_is ∙ sym is'.start_is) i;
    sectors = (is.sectors_is ∙ sym is'.sectors_is) i;
    reading = one_given sector_at (area_on pv found.area) found.entry a.reading b.reading is.given is'.given i;
  }

  one_areas : (pv : ℕ) (sector_at : ℕ → List ℕ) (founds : List AreaFound) (xs ys : List AreaOf) → AreAreaReadings pv sector_at founds xs
      → AreAreaReadings pv sector_at founds ys → xs ≡ ys
  one_areas pv sector_at [] [] [] is is' = refl
  one_areas pv sector_at [] [] (y ∷ ys) is is' = absurd is'
  one_areas pv sector_at [] (x ∷ xs) ys is is' = absurd is
  one_areas pv sector_at (found ∷ founds) [] ys is is' = absurd is
  one_areas pv sector_at (found ∷ founds) (x ∷ xs) [] is is' = absurd is'
  one_areas pv sector_at (found ∷ founds) (x ∷ xs) (y ∷ ys) is is' =
      let head : x ≡ y = one_area pv sector_at found x y is.0 is'.0 in
      let tail : xs ≡ ys = one_areas pv sector_at founds xs ys is.1 is'.1 in
      λ i. head i ∷ tail i

  -- ---- disks

  one_pv : (pv : ℕ) (sector_at : ℕ → List ℕ) (contents : Option PvFound) (a b : Option PvOf) → IsPvReading pv sector_at contents a
      → IsPvReading pv sector_at contents b → a ≡ b
  one_pv pv sector_at None a b is is' = is ∙ sym is'
  one_pv pv sector_at (Some (NoLabel refusal)) a b is is' = is ∙ sym is'
  one_pv pv sector_at (Some (NoHeader label refusal)) a b is is' = is ∙ sym is'
  one_pv pv sector_at (Some (Whole label header areas)) None b is is' = absurd is
  one_pv pv sector_at (Some (Whole label header areas)) (Some a) None is is' = absurd is'
  one_pv pv sector_at (Some (Whole label header areas)) (Some a) (Some b) is is' =
      let id : a.id ≡ b.id = is.0 ∙ sym is'.0 in
      let list : a.areas ≡ b.areas = one_areas pv sector_at areas a.areas b.areas is.1 is'.1 in
      λ i. Some (record { id = id i; areas = list i })

  -- what stands on a disk that is unread in both or in neither
  one_contents : (sector_at : ℕ → List ℕ) (sectors : ℕ) (a b : Option PvFound) → (a ≡ None → b ≡ None) → (b ≡ None → a ≡ None)
      → IsContents sector_at sectors a → IsContents sector_at sectors b → a ≡ b
  one_contents sector_at sectors None b to from is is' = sym (to refl)
  one_contents sector_at sectors (Some a) None to from is is' = from refl
  one_contents sector_at sectors (Some a) (Some b) to from is is' =
      ap (λ (found : PvFound). Some found) (findings sector_at sectors a b is is')

  one_disk : (unread : set.FinSet nat_cmp) (pv : ℕ) (sector_at : ℕ → List ℕ) (d e : Disk) (x y : Reading) → d.sectors ≡ e.sectors
      → IsUnread unread pv d → IsUnread unread pv e
      → IsDiskReading pv sector_at d x → IsDiskReading pv sector_at e y → (d ≡ e) × (x ≡ y)
  one_disk unread pv sector_at d e x y sectors u v is is' =
      let contents : d.contents ≡ e.contents =
      one_contents sector_at e.sectors d.contents e.contents (λ none. v.1 (u.0 none)) (λ none. u.1 (v.0 none))
      (subst (λ (n : ℕ). IsContents sector_at n d.contents) sectors is.contents) is'.contents
      in
      let read : x.pv ≡ y.pv =
      one_pv pv sector_at e.contents x.pv y.pv (subst (λ (c : Option PvFound). IsPvReading pv sector_at c x.pv) contents is.pv_is)
      is'.pv_is in
      let same : x.sectors ≡ y.sectors = is.sectors_is ∙ sectors ∙ sym is'.sectors_is in
      (λ i. record { sectors = sectors i; contents = contents i }, λ i. record { sectors = same i; pv = read i })

  abbrev sectors_of : List Disk → List ℕ
  sectors_of disks = map (λ (disk : Disk). disk.sectors) disks

  one_list : (image : Image) (unread : set.FinSet nat_cmp) (pv : ℕ) (ds es : List Disk) (xs ys : List Reading)
      → sectors_of ds ≡ sectors_of es → AreDiskReadings image unread pv ds xs → AreDiskReadings image unread pv es ys
      → (ds ≡ es) × (xs ≡ ys)
  one_list image unread pv [] [] [] [] sizes are are' = (refl, refl)
  one_list image unread pv [] [] [] (y ∷ ys) sizes are are' = absurd are'
  one_list image unread pv [] [] (x ∷ xs) ys sizes are are' = absurd are
  one_list image unread pv [] (e ∷ es) xs ys sizes are are' = absurd cc
  one_list image unread pv (d ∷ ds) [] xs ys sizes are are' = absurd cc
  one_list image unread pv (d ∷ ds) (e ∷ es) [] ys sizes are are' = absurd are
  one_list image unread pv (d ∷ ds) (e ∷ es) (x ∷ xs) [] sizes are are' = absurd are'
  one_list image unread pv (d ∷ ds) (e ∷ es) (x ∷ xs) (y ∷ ys) sizes are are' =
      let head =
      one_disk unread pv (image pv) d e x y (first_size d.sectors e.sectors (sectors_of ds) (sectors_of es) sizes) are.0 are'.0 are.1
      are'.1 in
      let tail =
      one_list image unread (pv + 1) ds es xs ys (later_sizes d.sectors e.sectors (sectors_of ds) (sectors_of es) sizes) are.2 are'.2 in
      (λ i. head.0 i ∷ tail.0 i, λ i. head.1 i ∷ tail.1 i)
    where
      first_size : (a b : ℕ) (as' bs : List ℕ) → a ∷ as' ≡ b ∷ bs → a ≡ b
      first_size a b as' bs is = cc

      later_sizes : (a b : ℕ) (as' bs : List ℕ) → a ∷ as' ≡ b ∷ bs → as' ≡ bs
      later_sizes a b as' bs is = cc

  -- the disks of an image are read in one way
  pub one_reading : (image : Image) (sizes : List ℕ) (unread : set.FinSet nat_cmp) (ds es : List Disk) (xs ys : List Reading)
      → AreReadings image sizes unread ds xs → AreReadings image sizes unread es ys → (ds ≡ es) × (xs ≡ ys)
  one_reading image sizes unread ds es xs ys are are' =
      one_list image unread 0 ds es xs ys (are.sizes_is ∙ sym are'.sizes_is) are.each are'.each
