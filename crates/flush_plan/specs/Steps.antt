-- What each call does to a plan.
use Rattle.std.specs.Prelude.{ℕ, ◌+◌, ◌-◌, max, [], ◌∷◌, ◌++◌, replicate, remove, slice_set}
use Rattle.indexmap.specs.IndexMap.{insert_entry, swap_remove_entry}
use Rattle.flush_plan.specs.Plans.{Plan, same_write, no_marks, marks_of, flush_at, flush_of}

-- the plan over so many disks that holds nothing
abbrev pub new_plan : ℕ → Plan
new_plan disks = record { last = []; marks = replicate disks no_marks; flushes = []; held = 0; spare = 0; spare_flushes = 0 }

-- a write of this number on this disk completed well
abbrev pub after_wrote : Plan → ℕ → ℕ → Plan
after_wrote plan number pv = record plan {
  last = insert_entry same_write plan.last (record { number = number; pv = pv }) (plan.held + 1);
  marks = slice_set plan.marks pv (record (marks_of plan pv) { written = plan.held + 1 });
  held = plan.held + 1;
  spare = plan.spare - 1;
}

-- the writes of this number on this disk aren't held any more
abbrev pub after_forgot : Plan → ℕ → ℕ → Plan
after_forgot plan number pv = record plan { last = swap_remove_entry (same_write (record { number = number; pv = pv })) plan.last }

-- a flush of this disk was submitted
abbrev pub after_submitted : Plan → ℕ → ℕ → Plan
after_submitted plan pv tag = record plan {
  flushes = plan.flushes ++ record { tag = tag; pv = pv; after = plan.held } ∷ [];
  spare_flushes = plan.spare_flushes - 1;
}

-- the flush with this tag ended, and didn't complete well
abbrev pub after_lost : Plan → ℕ → Plan
after_lost plan tag =
    let f = flush_of plan tag in
    let m = marks_of plan f.pv in
    record plan {
      marks = slice_set plan.marks f.pv (record m { ended = max m.ended f.after });
      flushes = remove plan.flushes (flush_at plan tag);
      spare_flushes = plan.spare_flushes + 1;
    }

-- the flush with this tag completed well
abbrev pub after_flushed : Plan → ℕ → Plan
after_flushed plan tag =
    let f = flush_of plan tag in
    let m = marks_of plan f.pv in
    record plan {
      marks = slice_set plan.marks f.pv (record m { ended = max m.ended f.after; stable = max m.stable f.after });
      flushes = remove plan.flushes (flush_at plan tag);
      spare_flushes = plan.spare_flushes + 1;
    }
