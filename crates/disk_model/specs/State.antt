-- What is known of a shelf, and what holds of every shelf.
use Rattle.std.specs.Prelude.{◌≡◌, ◌≤◌, ◌<◌, ℕ, ◌+◌, ◌*◌, ◌^◌, List, length, map, slice_index_or, All, AllPairs, Contains, Option, IfSome}
use Rattle.sector_base.specs.Sectors.{IsSector}
use Rattle.disk_model.specs.Brought.{BringOnly}
use Rattle.disk_model.specs.Steps.{Record}
use Rattle.disk_model.specs.Record.{Operation, in_flight_after, IsRecord, IsNewTag}
use Rattle.disk_model.specs.Operations.{LiesWithin}

-- everything that is known of a shelf
pub record State : Type 0 where
  -- how many sectors each disk has
  pub sizes : List ℕ
  -- the operations in flight, the oldest first
  pub in_flight : List Operation
  -- the tags of those that are ready to complete
  pub ready : List ℕ
  -- how many operations and sectors of operations can still be submitted without taking memory
  pub spare_ops : ℕ
  pub spare_sectors : ℕ
  -- how many submissions and completions there were
  pub steps : ℕ
  -- how many operations of each disk failed
  pub faults : ℕ → ℕ
  -- every tag so far is below it
  pub next_tag : ℕ
  -- the images at opening and the record, where the shelf tells them
  pub told : Option Record

-- the tags of these operations
abbrev pub tags_of : List Operation → List ℕ
tags_of os = map (λ (o : Operation). o.tag) os

-- what holds of every shelf
pub record IsLawful (state : State) : Type 0 where
  -- a tag is new when it is given, so the operations in flight are in the order of their tags
  pub tags : All (λ o. o.tag < state.next_tag) state.in_flight
  pub order : AllPairs (λ o p. o.tag < p.tag) state.in_flight
  -- what is in flight lies in its disk
  pub within : All (λ o. LiesWithin state.sizes o.work) state.in_flight
  -- what is ready is in flight
  pub ready : All (Contains (tags_of state.in_flight)) state.ready
  -- each fault is a completion: the completions are half of the steps without the operations in flight
  pub faults : (pv : ℕ) → 2 * state.faults pv + length state.in_flight ≤ state.steps
  -- a shelf has room for 2^62 operations in its life, those in spare among them
  pub life : state.steps + length state.in_flight + 2 * state.spare_ops ≤ 2 ^ 63
  -- where the record is told: every tag of it is below the next one, and what is in flight, and the number of steps,
  -- are the record's
  pub follows : IfSome state.told (λ told. IsRecord told.steps)
  pub new_tags : IfSome state.told (λ told. IsNewTag state.next_tag told.steps)
  pub in_flight : IfSome state.told (λ told. state.in_flight ≡ in_flight_after told.steps)
  pub steps : IfSome state.told (λ told. state.steps ≡ length told.steps)
  -- and each sector that is told has 512 bytes: an opened one within its disk, and each that was written
  pub opened : IfSome state.told (λ told. (pv sector : ℕ) → sector < slice_index_or state.sizes pv 0 → IsSector (told.opened pv sector))
  pub written : IfSome state.told (λ told. BringOnly (λ pv sector value. IsSector value) told.steps)
