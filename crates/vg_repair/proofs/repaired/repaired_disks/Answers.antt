-- The last disk is taken off and repaired.
use Rattle.std.proofs.Common.{◌≡◌, ℕ, ◌∷◌, ◌++◌, [], length, ap, subst, ◌∙◌, arith}
use Rattle.vg_found.specs.Disks.{areas_on}
use Rattle.vg_found.specs.declared.disk.Disk.{Disk}
use Rattle.vg_repair.specs.Putting.{HasRoom, text_put}
use Rattle.vg_repair.specs.Repaired.{repaired_disk, repaired_disks}
use Rattle.vg_repair.proofs.TakenOff.{front_left, one_taken, stood}
use Rattle.vg_repair.proofs.repaired.repaired_disks.Goals as goal

pub repaired_disk-requires-clause-room : goal.repaired_disk-requires-clause-room
repaired_disk-requires-clause-room c =
    let number : length c.pop.new.self.items ≡ c.len-in-Some.result = omega (arith, c.pop.new.self.ok.0, c.len-in-Some.ensures) in
    subst (λ (n : ℕ). HasRoom c.args.repair.now n (areas_on c.in-Some.disk.contents)) number
    (c.requires.each (length c.pop.new.self.items) c.in-Some.disk
    (stood c.loop-disk.rest.items c.pop.new.self.items c.loop-disk.invariant.front.0 c.args.disks.items c.in-Some.disk
    c.in-Some.ensures.items c.loop-disk.invariant.front.1)).1

pub loop-disk-preserved : goal.loop-disk-preserved
loop-disk-preserved c =
    let stale = c.args.repair.now.stale in
    let strays = c.args.repair.now.strays in
    let old = c.args.repair.now.old in
    let text = text_put c.args.repair.now in
    let number : c.len-in-Some.result ≡ length c.pop.new.self.items = omega (arith, c.pop.new.self.ok.0, c.len-in-Some.ensures) in
    record {
      front = (
        c.in-Some.disk ∷ c.loop-disk.invariant.front.0,
        front_left c.loop-disk.rest.items c.pop.new.self.items c.loop-disk.invariant.front.0 c.args.disks.items c.in-Some.disk
            c.in-Some.ensures.items c.loop-disk.invariant.front.1,
      );
      done =
          one_taken (repaired_disk stale strays old text) c.loop-disk.rest.items c.pop.new.self.items c.in-Some.disk c.loop-disk.done.items
          c.push.new.self.items (repaired_disks stale strays old text c.args.disks.items) c.in-Some.ensures.items
          (c.in_ok-push.ensures.items ∙ ap (λ (d : Disk). c.loop-disk.done.items ++ d ∷ [])
          (c.in_ok-repaired_disk.ensures ∙ ap (λ (n : ℕ). repaired_disk stale strays old text (n, c.in-Some.disk)) number))
          c.loop-disk.invariant.done;
    }
