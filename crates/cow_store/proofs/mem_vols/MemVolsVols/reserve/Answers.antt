use Rattle.std.proofs.Common.{◌≡◌, Result, Ok, Err, OnErr, ap}
use Rattle.disk_model.specs.Calls.{Reserves as ReservesShelf}
use Rattle.dev_shelf.specs.MemShelf.{state_of_shelf}
use Rattle.cow_store.specs.MemVols.{volumes_of}
use Rattle.cow_store.specs.VolStates.{Reserves}
use Rattle.cow_store.proofs.Setting.{on_ok}
use Rattle.cow_store.proofs.ShelfCalls.{reserved}
use Rattle.cow_store.proofs.mem_vols.MemVolsVols.reserve.Goals as goal

on_err : {T E : Type 0} (r : Result T E) (P Q : Type 0) → (P → Q) → OnErr r P → OnErr r Q
on_err (Ok x) P Q make h = tt
on_err (Err e) P Q make h = make h

pub returns-clause-ok : goal.returns-clause-ok
returns-clause-ok c =
    let s0 = state_of_shelf c.args.self.now.shelf in
    let s1 = state_of_shelf c.reserve.new.self in
    on_ok c.reserve.result (ReservesShelf s0 c.args.ops c.args.ops s1) (Reserves (volumes_of s0) c.args.ops (volumes_of s1))
    (reserved s0 s1 c.args.ops) c.reserve.ensures.ok

pub returns-clause-err : goal.returns-clause-err
returns-clause-err c =
    let s0 = state_of_shelf c.args.self.now.shelf in
    let s1 = state_of_shelf c.reserve.new.self in
    on_err c.reserve.result (s1 ≡ s0) (volumes_of s1 ≡ volumes_of s0) (ap volumes_of) c.reserve.ensures.err
