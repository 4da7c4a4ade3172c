-- What stands on a disk is one.
use Rattle.pv_label.specs.LabelSectors.{first_four}
use Rattle.std.proofs.Common.{◌≡◌, ◌≢◌, ℕ, ◌*◌, List, Result, Ok, Err, inl, inr, ap, subst}
use Rattle.pv_header.specs.declared.header.PvHeader.{PvHeader}
use Rattle.pv_header.specs.declared.refusal.PvRefusal.{PvRefusal}
use Rattle.pv_header.specs.declared.refusal.PvRefusal.TheVariants.{NoMemory}
use Rattle.pv_header.specs.PvRefusal.{Reads, Refuses}
use Rattle.pv_header.proofs.OneAnswer.{one_answer}
use Rattle.disk_contents.specs.declared.contents.PvFound.{PvFound}
use Rattle.disk_contents.specs.declared.contents.PvFound.TheVariants.{NoLabel, NoHeader, Whole}
use Rattle.disk_contents.specs.Contents.{AreAreasFound, IsFound}
use Rattle.disk_contents.proofs.OneArea.{one_areas}
use Rattle.disk_contents.proofs.OneLabel.{label_or_refusal, one_label, one_label_refusal}

abbrev read_as : PvHeader → Result PvHeader PvRefusal
read_as h = Ok h

abbrev refused_as : PvRefusal → Result PvHeader PvRefusal
refused_as a = Err a

ok_is : (g h : PvHeader) → read_as g ≡ read_as h → g ≡ h
ok_is g h e = cc

err_is : (a b : PvRefusal) → refused_as a ≡ refused_as b → a ≡ b
err_is a b e = cc

ok_no_err : (h : PvHeader) (a : PvRefusal) → read_as h ≡ refused_as a → ⊥
ok_no_err h a e = cc

err_no_ok : (h : PvHeader) (a : PvRefusal) → refused_as a ≡ read_as h → ⊥
err_no_ok h a e = cc

module _ (sector : List ℕ) (bytes : ℕ) where
  one_pv_header : (g h : PvHeader) → Reads sector bytes g → Reads sector bytes h → g ≡ h
  one_pv_header g h is is' =
      elim (one_answer sector bytes (Ok g) (Ok h) is is') [
        | inl same ↦ ok_is g h same
        | inr wanting ↦ elim wanting [ inl e ↦ absurd (ok_no_err g NoMemory e) | inr e ↦ absurd (ok_no_err h NoMemory e) ]
      ]

  one_pv_refusal : (a b : PvRefusal) → Refuses sector bytes a → a ≢ NoMemory → Refuses sector bytes b → b ≢ NoMemory → a ≡ b
  one_pv_refusal a b is some is' some' =
      elim (one_answer sector bytes (Err a) (Err b) is is') [
        | inl same ↦ err_is a b same
        | inr wanting ↦ elim wanting [ inl e ↦ absurd (some (err_is a NoMemory e)) | inr e ↦ absurd (some' (err_is b NoMemory e)) ]
      ]

  header_or_refusal : (h : PvHeader) (a : PvRefusal) → Reads sector bytes h → Refuses sector bytes a → a ≢ NoMemory → ⊥
  header_or_refusal h a is is' some =
      elim (one_answer sector bytes (Ok h) (Err a) is is') [
        | inl same ↦ ok_no_err h a same
        | inr wanting ↦ elim wanting [ inl e ↦ ok_no_err h NoMemory e | inr e ↦ some (err_is a NoMemory e) ]
      ]

-- what stands on a disk is one
pub one_finding : (sector_at : ℕ → List ℕ) (disk : ℕ) (a b : PvFound) → IsFound sector_at disk a → IsFound sector_at disk b → a ≡ b
one_finding sector_at disk (NoLabel r) (NoLabel q) is is' = ap (λ x. NoLabel x) (one_label_refusal (first_four sector_at) r q is is')
one_finding sector_at disk (NoLabel r) (NoHeader label refusal) is is' = absurd (label_or_refusal (first_four sector_at) label r is'.0 is)
one_finding sector_at disk (NoLabel r) (Whole label header areas) is is' = absurd (label_or_refusal (first_four sector_at) label r is'.0 is)
one_finding sector_at disk (NoHeader label refusal) (NoLabel q) is is' = absurd (label_or_refusal (first_four sector_at) label q is.0 is')
one_finding sector_at disk (Whole label header areas) (NoLabel q) is is' = absurd (label_or_refusal (first_four sector_at) label q is.0 is')
one_finding sector_at disk (NoHeader l r) (NoHeader m q) is is' =
    let label : l ≡ m = one_label (first_four sector_at) l m is.0 is'.0 in
    let here : Refuses (sector_at m) (disk * 512) r = subst (λ (n : ℕ). Refuses (sector_at n) (disk * 512) r) label is.1 in
    λ i. NoHeader (label i) (one_pv_refusal (sector_at m) (disk * 512) r q here is.2 is'.1 is'.2 i)
one_finding sector_at disk (NoHeader l r) (Whole m header areas) is is' =
    let label : l ≡ m = one_label (first_four sector_at) l m is.0 is'.0 in
    let here : Refuses (sector_at m) (disk * 512) r = subst (λ (n : ℕ). Refuses (sector_at n) (disk * 512) r) label is.1 in
    absurd (header_or_refusal (sector_at m) (disk * 512) header r is'.1 here is.2)
one_finding sector_at disk (Whole l header areas) (NoHeader m q) is is' =
    let label : m ≡ l = one_label (first_four sector_at) m l is'.0 is.0 in
    let here : Refuses (sector_at l) (disk * 512) q = subst (λ (n : ℕ). Refuses (sector_at n) (disk * 512) q) label is'.1 in
    absurd (header_or_refusal (sector_at l) (disk * 512) header q is.1 here is'.2)
one_finding sector_at disk (Whole l g xs) (Whole m h ys) is is' =
    let label : l ≡ m = one_label (first_four sector_at) l m is.0 is'.0 in
    let here : Reads (sector_at m) (disk * 512) g = subst (λ (n : ℕ). Reads (sector_at n) (disk * 512) g) label is.1 in
    let header : g ≡ h = one_pv_header (sector_at m) (disk * 512) g h here is'.1 in
    let areas : AreAreasFound sector_at h.areas xs = subst (λ (p : PvHeader). AreAreasFound sector_at p.areas xs) header is.2 in
    λ i. Whole (label i) (header i) (one_areas sector_at h.areas xs ys areas is'.2 i)
