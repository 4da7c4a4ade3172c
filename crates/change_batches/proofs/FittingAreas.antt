-- Areas that lie on a disk have numbers of 64 bits.
use Rattle.std.proofs.Common.{◌≡◌, ◌≤◌, ◌<◌, ℕ, ◌+◌, ◌^◌, Bool, true, false, cond, List, [], ◌∷◌, ◌++◌, Option, Some, None, refl, arith}
use Rattle.std.specs.Prelude.{All, find}
use Rattle.std.proofs.lemmas.Bool.{ltb-false}
use Rattle.std.proofs.lemmas.List.Elements.{All-cons, All-nil}
use Rattle.pv_header.specs.declared.extent_list.Extent.{Extent}
use Rattle.pv_header.specs.Areas.{is_outside}
use Rattle.pv_header.specs.Extents.{Fits64}

-- areas that lie on a disk of fewer than 2^64 bytes
module _ (bytes : ℕ) (few : bytes < 2 ^ 64) where
  fits_here : (area : Extent) (rest : Option Extent) (b : Bool) → is_outside bytes area ≡ b → cond b (Some area) rest ≡ None
      → Fits64 area × (rest ≡ None)
  fits_here area rest true is none = absurd cc
  fits_here area rest false is none =
      let inside : area.offset + area.size ≤ bytes = ltb-false bytes (area.offset + area.size) is in
      ((omega (arith, inside, few), omega (arith, inside, few)), none)

  fit : (xs : List Extent) → find (is_outside bytes) xs ≡ None → All Fits64 xs
  fit [] none = All-nil Fits64
  fit (area ∷ xs) none =
      let here = fits_here area (find (is_outside bytes) xs) (is_outside bytes area) refl none in
      All-cons Fits64 area xs here.0 (fit xs here.1)

  pub fit_both : (xs ys : List Extent) → find (is_outside bytes) (xs ++ ys) ≡ None → All Fits64 xs × All Fits64 ys
  fit_both [] ys none = (All-nil Fits64, fit ys none)
  fit_both (area ∷ xs) ys none =
      let here = fits_here area (find (is_outside bytes) (xs ++ ys)) (is_outside bytes area) refl none in
      let rest = fit_both xs ys here.1 in
      (All-cons Fits64 area xs here.0 rest.0, rest.1)
