use Rattle.std.proofs.Common.{◌+◌, length, refl}
use Rattle.vg_commit.proofs.Planning.{adds_area}
use Rattle.vg_commit.proofs.plan.add_area.Goals as goal

pub returns : goal.returns
returns c =
    adds_area c.args.text.now c.args.area.now c.args.committed c.in_ok-place.place (length c.as_bytes.result.now + 1) c.args.sum
    c.args.plan.now
    (record {
      text = c.args.plan.now.text;
      texts = c.put_text.new.list;
      headers = c.put_header.new.list;
      publish = c.put_header-2.new.list;
      areas = c.push.new.self;
    })
    c.as_bytes.result.now c.as_bytes.ensures refl c.in_ok-place.ensures.placed c.requires.sum refl c.in_ok-put_text.ensures
    c.in_ok-put_header.ensures.put c.in_ok-put_header-2.ensures.put c.in_ok-push.ensures.items
    c.in_ok-put_header.ensures.read c.in_ok-put_header-2.ensures.read c.requires.area c.requires.committed
