-- What is known of volumes in memory, and which of their operations are to fail.
use Rattle.std.specs.Prelude.{List}
use Rattle.dev_shelf.specs.MemShelf.{plan_left, state_of_shelf}
use Rattle.dev_shelf.specs.declared.plan.Fail.{Fail}
use Rattle.cow_store.specs.declared.mem_vols.MemVols.{MemVols}
use Rattle.cow_store.specs.MemVols.{volumes_of}
use Rattle.cow_store.specs.VolStates.{VolState}

-- what is known of them
abbrev pub vols_of : MemVols → VolState
vols_of vols = volumes_of (state_of_shelf vols.shelf)

-- the operations that are to fail, by their numbers
abbrev pub fails_of : MemVols → List Fail
fails_of vols = (plan_left vols.shelf).fails
