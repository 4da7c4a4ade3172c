-- The disks so far are of the group, and so is one more.
use Rattle.std.proofs.Common.{ℕ, List, All, take, get_or, sym, subst, arith}
use Rattle.std.proofs.lemmas.List.{take_all, take_more}
use Rattle.std.proofs.lemmas.List.Elements.{All-push}
use Rattle.disk_use.specs.Uses.{IsAmong}
use Rattle.disk_use.proofs.marked.first_apart.Goals as goal

pub loop-disk-preserved : goal.loop-disk-preserved
loop-disk-preserved c =
    let found = c.args.found.now in
    let marked = c.args.marked.now in
    let i = c.loop-disk.disk-index in
    subst (λ (l : List ℕ). All (IsAmong found) l) (sym (take_more marked i 0 (c.loop-disk-test.true)))
    (All-push (IsAmong found) (take i marked) (get_or marked i 0) c.loop-disk.invariant (c.is_among.ensures.0 (c.if-not-is_among.false)))

pub returns : goal.returns
returns c =
    let found = c.args.found.now in
    let marked = c.args.marked.now in
    subst (λ (l : List ℕ). All (IsAmong found) l) (take_all c.loop-disk.disk-index marked (omega (arith, c.loop-disk-test.false)))
    c.loop-disk.invariant
