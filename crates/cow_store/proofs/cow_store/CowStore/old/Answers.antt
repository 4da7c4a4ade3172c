use Rattle.std.proofs.Common.{◌≡◌, ◌≤◌, ◌<◌, ◌+◌, ◌/◌, ◌%◌, ℕ, List, Option, Some, length, ap, sym, ◌∙◌, arith}
use Rattle.disk_model.specs.Record.{IsRecord}
use Rattle.disk_model.specs.Steps.{now_after}
use Rattle.disk_model.proofs.WhereTold.{told_at}
use Rattle.cow_store.specs.Calls.{IsOld}
use Rattle.cow_store.specs.Entries.{slot_of}
use Rattle.cow_store.specs.Layout.{lengths_of, slot_start, slots_in, used_sectors}
use Rattle.cow_store.specs.Snapshot.{sector_by}
use Rattle.cow_store.specs.Views.{view_of}
use Rattle.cow_store.specs.VolStates.{VolState}
use Rattle.cow_store.proofs.OldSectors.{each_ok, is_old}
use Rattle.cow_store.proofs.Room.{slot_fits, used_fit}
use Rattle.cow_store.proofs.Saves.{slot_below}
use Rattle.cow_store.proofs.cow_store.CowStore.old.Goals as goal

pub slot_start_of-first-requires-clause-slots : goal.slot_start_of-first-requires-clause-slots
slot_start_of-first-requires-clause-slots g c =
    let store = (lengths_of (g.V.Vols.state c.args.self.now.vols).sizes).store in
    let some : 1 ≤ store = omega (arith, c.requires.large) in
    let many : c.len.result ≡ slots_in store =
    c.len.ensures ∙ ap (λ (l : List ℕ). length l) c.in_ok-prepare_read.ensures.1.entries ∙ c.requires.slots in
    omega (arith, ap used_sectors many, used_fit store some, c.requires.fits)

pub slot_start_of-first-requires-clause-slot : goal.slot_start_of-first-requires-clause-slot
slot_start_of-first-requires-clause-slot g c =
    omega (arith, c.len.ensures, slot_below c.prepare_read.new.self.table (c.args.at / 8) c.in-Some.slot (sym c.in-Some.ensures))

pub overflow_add-first : goal.overflow_add-first
overflow_add-first g c =
    let store = (lengths_of (g.V.Vols.state c.args.self.now.vols).sizes).store in
    let some : 1 ≤ store = omega (arith, c.requires.large) in
    let many : c.len.result ≡ slots_in store =
    c.len.ensures ∙ ap (λ (l : List ℕ). length l) c.in_ok-prepare_read.ensures.1.entries ∙ c.requires.slots in
    let lt : c.in-Some.slot < c.len.result =
    omega (arith, c.len.ensures, slot_below c.prepare_read.new.self.table (c.args.at / 8) c.in-Some.slot (sym c.in-Some.ensures)) in
    let inside = slot_fits c.len.result c.in-Some.slot (c.args.at % 8) lt (omega arith) in
    omega (arith, ap used_sectors many, used_fit store some, c.requires.fits, inside, c.slot_start_of-first.ensures)

pub read-requires-clause-sector : goal.read-requires-clause-sector
read-requires-clause-sector g c =
    let store = (lengths_of (g.V.Vols.state c.args.self.now.vols).sizes).store in
    let some : 1 ≤ store = omega (arith, c.requires.large) in
    let many : c.len.result ≡ slots_in store =
    c.len.ensures ∙ ap (λ (l : List ℕ). length l) c.in_ok-prepare_read.ensures.1.entries ∙ c.requires.slots in
    let lt : c.in-Some.slot < c.len.result =
    omega (arith, c.len.ensures, slot_below c.prepare_read.new.self.table (c.args.at / 8) c.in-Some.slot (sym c.in-Some.ensures)) in
    let inside = slot_fits c.len.result c.in-Some.slot (c.args.at % 8) lt (omega arith) in
    let sizes = ap (λ (v : VolState). (lengths_of v.sizes).store) c.in_ok-prepare_read.ensures.1.vols in
    omega (arith, ap used_sectors many, used_fit store some, inside, c.slot_start_of-first.ensures, sizes)

pub returns-in-Some-clause-value : goal.returns-in-Some-clause-value
returns-in-Some-clause-value g c =
    let old = view_of g.V.Vols.state c.args.self.now in
    let mid = view_of g.V.Vols.state c.prepare_read.new.self in
    let same = c.in_ok-prepare_read.ensures.1 in
    let slots : c.len.result ≡ length old.entries = c.len.ensures ∙ ap (λ (l : List ℕ). length l) same.entries in
    let has : slot_of old.entries (c.args.at / 8) ≡ Some c.in-Some.slot =
    ap (λ (l : List ℕ). slot_of l (c.args.at / 8)) (sym same.entries) ∙ sym c.in-Some.ensures in
    let place : c.slot_start_of-first.result ≡ slot_start (length old.entries) c.in-Some.slot =
    c.slot_start_of-first.ensures ∙ ap (λ (n : ℕ). slot_start n c.in-Some.slot) slots in
    each_ok c.read.result mid.vols.told old.vols.told
    (λ sector t. sector ≡ now_after t.opened t.steps 1 (c.slot_start_of-first.result + c.args.at % 8))
    (λ sector t. IsOld old c.args.at sector t)
    (ap (λ (v : VolState). v.told) same.vols)
    (λ sector t e value.
    is_old old c.args.at sector t c.requires
    (told_at (λ r. IsRecord r.steps) old.vols.told t (g.met.V.Vols.lawful c.args.self.now.vols).follows e) c.in_ok-prepare_read.ensures.0
    (value
    ∙ ap (λ (n : ℕ). now_after t.opened t.steps 1 (n + c.args.at % 8)) place
    ∙ sym (ap (λ (o : Option ℕ). sector_by (length old.entries) o (now_after t.opened t.steps) c.args.at) has)))
    c.read.ensures.value

pub returns-in-None-clause-value : goal.returns-in-None-clause-value
returns-in-None-clause-value g c =
    let old = view_of g.V.Vols.state c.args.self.now in
    let mid = view_of g.V.Vols.state c.prepare_read.new.self in
    let same = c.in_ok-prepare_read.ensures.1 in
    let none = ap (λ (l : List ℕ). slot_of l (c.args.at / 8)) (sym same.entries) ∙ sym c.in-None.ensures in
    each_ok c.read-in-None.result mid.vols.told old.vols.told (λ sector t. sector ≡ now_after t.opened t.steps 0 c.args.at)
    (λ sector t. IsOld old c.args.at sector t) (ap (λ (v : VolState). v.told) same.vols)
    (λ sector t e value.
    is_old old c.args.at sector t c.requires
    (told_at (λ r. IsRecord r.steps) old.vols.told t (g.met.V.Vols.lawful c.args.self.now.vols).follows e) c.in_ok-prepare_read.ensures.0
    (value ∙ sym (ap (λ (o : Option ℕ). sector_by (length old.entries) o (now_after t.opened t.steps) c.args.at) none)))
    c.read-in-None.ensures.value
