use Rattle.std.proofs.Common.{refl}
use Rattle.dev_shelf.specs.declared.mem_shelf.disk_row.DiskRow.{DiskRow}
use Rattle.dev_shelf.proofs.RowSubmits.{submits_new, good_new}
use Rattle.dev_shelf.proofs.mem_shelf.disk_row.DiskRow.submit.Goals as goal

pub returns-clause-good : goal.returns-clause-good
returns-clause-good c =
    good_new c.args.self.now _ c.args.op c.submit-tag.result c.recorded-work.result c.recorded-work.ensures.kept.0 c.requires.good
    c.requires.lies c.recorded-work.ensures.kept.1 c.push_reserved.ensures.items c.push_reserved-2.ensures.items
    c.recorded-work.ensures.work c.recorded-work.ensures.is_kept refl c.submit-tag.ensures.submits
    c.submit-tag.ensures.good refl c.recorded-work.ensures.kept.3 c.recorded-work.ensures.len c.recorded-work.ensures.capacity
    c.push_reserved-2.ensures.len c.push_reserved-2.ensures.capacity c.push_reserved.ensures.len c.push_reserved.ensures.capacity

pub returns-clause-submits : goal.returns-clause-submits
returns-clause-submits c =
    let old = c.args.self.now in
    let new : DiskRow =
    record old {
      queue = c.submit-tag.new.self;
      in_flight = c.push_reserved-2.new.self;
      steps = c.push_reserved.new.self;
      written = c.recorded-work.new.written;
    } in
    submits_new old new c.args.op c.submit-tag.result c.recorded-work.result c.recorded-work.ensures.kept.0 c.requires.good c.requires.lies
    c.recorded-work.ensures.kept.1 c.push_reserved.ensures.items c.push_reserved-2.ensures.items
    c.recorded-work.ensures.work c.recorded-work.ensures.is_kept refl c.submit-tag.ensures.submits
