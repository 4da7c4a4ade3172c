-- A promise begins, once the origin has one value in each sector.
use Rattle.std.proofs.Common.{◌≡◌, ℕ, ◌-◌, false, List, length, take, drop, All, Contains, Ok, sym, subst, arith}
use Rattle.disk_model.specs.Durability.{EachOnlyLeaves, OnlyLeaves}
use Rattle.disk_model.specs.Moments.{EachImage}
use Rattle.disk_model.specs.Steps.{Record, now_after}
use Rattle.disk_model.proofs.EachMoment.{throughout_now}
use Rattle.disk_model.proofs.EveryMoment.{since_now}
use Rattle.cow_store.specs.Candidates.{HasCandidates, IsCandidate, now_at, steps_since}
use Rattle.cow_store.specs.Entries.{chunks_of}
use Rattle.cow_store.specs.Layout.{Lengths}
use Rattle.cow_store.specs.Opening.{opens}
use Rattle.cow_store.specs.Stands.{IsKept, IsPromised, IsRight, IsWhole, Past, Stands}
use Rattle.cow_store.specs.VolStates.{AreOneByOne, WritesWell}
use Rattle.cow_store.proofs.Images.{whole}

-- where nothing was done since, what a read gives is a candidate
candidate_now : (told : Record) (v sector : ℕ) (value : List ℕ) → value ≡ now_after told.opened told.steps v sector
    → IsCandidate (now_at (length told.steps) told) (steps_since (length told.steps) told) v sector value
candidate_now told v sector value is =
    let none : length told.steps - length told.steps ≡ 0 = omega arith in
    subst (λ (k : ℕ). IsCandidate (now_after told.opened (drop k told.steps)) (take k told.steps) v sector value) (sym none) is

module _ (lengths : Lengths) (was : ℕ → List ℕ) (chunks entries : List ℕ) (table : ℕ → List ℕ) (told : Record)
    (one : AreOneByOne told.steps) (wells : WritesWell told.steps) (listed : All (Contains chunks) (chunks_of entries))
    (found : opens lengths (λ v. table) ≡ Ok entries) (right : EachOnlyLeaves (IsRight lengths was entries table) told)
    (origin : (sector : ℕ) → OnlyLeaves told 0 sector (λ value. value ≡ now_after told.opened told.steps 0 sector)) where
  abbrev past : Past
  past = record { start = length told.steps; was = was; chunks = chunks }

  kept : IsKept lengths past entries told
  kept = record {
    one_by_one = one;
    well = wells;
    chunks = listed;
    table = table;
    found = found;
    right = right;
    candidates = λ sector lt.
        record { each = λ write value may. candidate_now told 0 sector value ((origin sector).each write value may) };
  }

  promised : IsPromised lengths past told
  promised = record {
    begun = omega arith;
    snapshots =
        since_now told (IsWhole lengths past)
        (λ image is.
        whole lengths past entries table listed found image
        (λ v sector. (right v sector).each (is v sector).0 (image v sector) (is v sector).1));
    candidates =
        throughout_now told (λ t. EachImage (HasCandidates (length told.steps) 0 lengths.origin t) t)
        (λ image is sector lt.
        candidate_now told 0 sector (image 0 sector) ((origin sector).each (is 0 sector).0 (image 0 sector) (is 0 sector).1));
  }

  -- so it stands
  pub begins : Stands lengths past entries false told
  begins = record { promise = promised; kept = λ going. kept }
