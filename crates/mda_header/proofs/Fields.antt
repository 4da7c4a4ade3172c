-- A sector has one reading, and none where it is refused.
use Rattle.std.proofs.Common.{◌≡◌, ◌≢◌, ◌≤◌, ◌↔◌, IsTrue, ℕ, ◌%◌, Bool, true, false, List, Option, None, Some, MatchOption, refl, sym, ap}
use Rattle.std.proofs.Common.{◌∙◌, subst, arith}
use Rattle.sector_base.specs.Fields.{field}
use Rattle.mda_header.specs.declared.header.Locn.{Locn}
use Rattle.mda_header.specs.declared.header.MdaHeader.{MdaHeader}
use Rattle.mda_header.specs.declared.refusal.MdaRefusal.{MdaRefusal}
use Rattle.mda_header.specs.declared.refusal.MdaRefusal.TheVariants.{BadSum, BadMagic, BadVersion, WrongStart, SizeBad, LocnOutside}
use Rattle.mda_header.specs.Header.{IsCommitted, IsHeader, IsInside, IsPrecommitted, IsRefused, locn_at}

-- a committed entry that stands is inside of the area
committed_inside : (sector : List ℕ) (size : ℕ) (committed : Option Locn) → IsCommitted sector size committed
    → (locn_at sector 40).offset ≢ 0 → IsInside size (locn_at sector 40)
committed_inside sector size None is some = absurd (some is)
committed_inside sector size (Some locn) is some = subst (IsInside size) is.0 is.1

pub IsRefused-no_header : (sector : List ℕ) (header : MdaHeader) (refusal : MdaRefusal) → IsRefused sector header.start header.size refusal
    → ¬ IsHeader sector header
IsRefused-no_header sector header (BadSum said found) h is = h.2 (sym h.0 ∙ is.sound.checksum_is ∙ sym h.1)
IsRefused-no_header sector header BadMagic h is = h.1 is.sound.magic
IsRefused-no_header sector header (BadVersion said) h is = h.3 (sym h.2 ∙ is.sound.version)
IsRefused-no_header sector header (WrongStart said sought) h is = h.3 (sym h.1 ∙ is.start)
IsRefused-no_header sector header (SizeBad said sought) h is = h.4 (sym h.2 ∙ is.size)
IsRefused-no_header sector header (LocnOutside offset size) h is =
    h.4 (committed_inside sector header.size header.committed is.committed (λ none. h.3 (sym h.1 ∙ none)))

same_committed : (sector : List ℕ) (size : ℕ) (a b : Option Locn) → IsCommitted sector size a → IsCommitted sector size b → a ≡ b
same_committed sector size None None is is' = refl
same_committed sector size None (Some locn) none is =
    let behind : 512 ≤ (locn_at sector 40).offset = subst (λ (l : Locn). 512 ≤ l.offset) is.0 is.1.behind_header in
    absurd (omega arith)
same_committed sector size (Some locn) None is none =
    let behind : 512 ≤ (locn_at sector 40).offset = subst (λ (l : Locn). 512 ≤ l.offset) is.0 is.1.behind_header in
    absurd (omega arith)
same_committed sector size (Some locn) (Some locn') is is' = ap (λ (l : Locn). Some l) (is.0 ∙ sym is'.0)

same_precommitted : (sector : List ℕ) (size : ℕ) (a b : Option Locn) → IsPrecommitted sector size a → IsPrecommitted sector size b → a ≡ b
same_precommitted sector size None None is is' = refl
same_precommitted sector size None (Some locn) none is = absurd (none (subst (IsInside size) is.0 is.1))
same_precommitted sector size (Some locn) None is none = absurd (none (subst (IsInside size) is.0 is.1))
same_precommitted sector size (Some locn) (Some locn') is is' = ap (λ (l : Locn). Some l) (is.0 ∙ sym is'.0)

same_flag : (a b : Bool) (P : Type 0) → IsTrue a ↔ P → IsTrue b ↔ P → a ≡ b
same_flag true true P is is' = refl
same_flag true false P is is' = sym (is'.1 (is.0 refl))
same_flag false true P is is' = is.1 (is'.0 refl)
same_flag false false P is is' = refl

pub one_reading : (sector : List ℕ) (a b : MdaHeader) → IsHeader sector a → IsHeader sector b → a ≡ b
one_reading sector a b is is' =
    let size : a.size ≡ b.size = sym is.size ∙ is'.size in
    let committed : IsCommitted sector b.size a.committed = subst (λ (n : ℕ). IsCommitted sector n a.committed) size is.committed in
    let precommitted : IsPrecommitted sector b.size a.precommitted =
    subst (λ (n : ℕ). IsPrecommitted sector n a.precommitted) size is.precommitted in
    λ i. record {
      start = (sym is.start ∙ is'.start) i;
      size = size i;
      committed = same_committed sector b.size a.committed b.committed committed is'.committed i;
      precommitted = same_precommitted sector b.size a.precommitted b.precommitted precommitted is'.precommitted i;
      ignored = same_flag a.ignored b.ignored (field 4 sector 60 % 2 ≡ 1) is.ignored is'.ignored i;
    }

-- what stands inside of the area is read as entry 0, and an offset of 0 as none
pub inside_committed : (sector : List ℕ) (size : ℕ) (read : Option Locn) (locn : Locn) → locn ≡ locn_at sector 40
    → MatchOption read (¬ IsInside size locn) (λ text. (text ≡ locn) × IsInside size locn) → IsInside size locn
    → IsCommitted sector size read
inside_committed sector size None locn at is inside = absurd (is inside)
inside_committed sector size (Some text) locn at is inside = (is.0 ∙ at, subst (IsInside size) (sym is.0) inside)

pub none_committed : (sector : List ℕ) (size : ℕ) (read : Option Locn) (locn : Locn) → locn ≡ locn_at sector 40
    → MatchOption read (¬ IsInside size locn) (λ text. (text ≡ locn) × IsInside size locn) → locn.offset ≡ 0 → IsCommitted sector size read
none_committed sector size None locn at is none = ap (λ (l : Locn). l.offset) (sym at) ∙ none
none_committed sector size (Some text) locn at is none =
    let behind : 512 ≤ locn.offset = is.1.behind_header in
    absurd (omega arith)

pub inside_precommitted : (sector : List ℕ) (size : ℕ) (read : Option Locn) (locn : Locn) → locn ≡ locn_at sector 64
    → MatchOption read (¬ IsInside size locn) (λ text. (text ≡ locn) × IsInside size locn) → IsPrecommitted sector size read
inside_precommitted sector size None locn at is = λ inside. is (subst (IsInside size) (sym at) inside)
inside_precommitted sector size (Some text) locn at is = (is.0 ∙ at, subst (IsInside size) (sym is.0) is.1)
