-- Disks are free once a group is found of those that are marked.
use Rattle.std.proofs.Common.{ℕ, Bool, List, [], ◌∷◌, ◌++◌, Some, refl}
use Rattle.disk_model.specs.Steps.{Image}
use Rattle.disk_contents.specs.declared.contents.PvFound.{PvFound}
use Rattle.disk_contents.specs.declared.contents.PvFound.TheVariants.{NoLabel, NoHeader, Whole}
use Rattle.std.proofs.lemmas.List.Elements.{All-pop, All-push}
use Rattle.disk_use.specs.declared.in_use.Use.TheVariants.{Group}
use Rattle.disk_use.specs.LookedAt.{AreFreeBut, IsMarked, IsMarkedWith}
use Rattle.disk_use.specs.Uses.{IsFree, IsFreeWith, IsOfGroup, IsOfNone, IsUseOf, IsUsedBy}

-- a marked disk of a group is free
pub freed : (new : Bool) (image : Image) (sizes : List ℕ) (pv : ℕ) → IsMarked image sizes pv → IsOfGroup image sizes pv
    → IsFree new image sizes pv
freed new image sizes pv m of = record { contents = m.contents; found = m.found; free = at m.contents m.marked } where
  at : (contents : PvFound) → IsMarkedWith contents → IsFreeWith new image sizes pv contents
  at (NoLabel refusal) marked = absurd marked
  at (NoHeader label refusal) marked = absurd marked
  at (Whole label header areas) marked = λ _. of

-- a marked disk of none is in use
pub used : (new : Bool) (image : Image) (sizes : List ℕ) (pv : ℕ) → IsMarked image sizes pv → IsOfNone image sizes pv
    → IsUsedBy new image sizes pv Group
used new image sizes pv m of = record { contents = m.contents; found = m.found; cause = at m.contents m.marked } where
  at : (contents : PvFound) → IsMarkedWith contents → IsUseOf new image sizes pv contents Group
  at (NoLabel refusal) marked = absurd marked
  at (NoHeader label refusal) marked = absurd marked
  at (Whole label header areas) marked = (marked, of)

-- one free disk more
pub free_more : (new : Bool) (image : Image) (sizes marked taken : List ℕ) (pv : ℕ) → AreFreeBut new image sizes marked taken
    → IsFree new image sizes pv
    → AreFreeBut new image sizes marked (taken ++ pv ∷ [])
free_more new image sizes marked taken pv are free = (are.0, λ of. All-push (IsFree new image sizes) taken pv (are.1 of) free)

-- one marked disk more
pub marked_more : (new : Bool) (image : Image) (sizes marked taken : List ℕ) (pv : ℕ) → AreFreeBut new image sizes marked taken
    → IsMarked image sizes pv
    → AreFreeBut new image sizes (marked ++ pv ∷ []) (taken ++ pv ∷ [])
marked_more new image sizes marked taken pv are m = (
  All-push (IsMarked image sizes) marked pv are.0 m,
  λ of.
      let each = All-pop (IsOfGroup image sizes) (marked ++ pv ∷ []) marked (Some pv) refl of in
      All-push (IsFree new image sizes) taken pv (are.1 each.0) (freed new image sizes pv m each.1),
)
