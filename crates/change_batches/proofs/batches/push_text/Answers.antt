use Rattle.change_batches.proofs.Adding.{text_added}
use Rattle.change_batches.proofs.batches.push_text.Goals as goal

pub returns : goal.returns
returns c =
    text_added c.args.text.now c.args.areas.now c.args.flush c.in_ok-prepared.field-0 c.in_ok-prepared.ensures
    c.into_batches-texts.result.0 c.into_batches-texts.result.1 c.into_batches-texts.result.2
    c.args.batches.now.items c.push.new.self.items c.push-2.new.self.items c.push-3.new.self.items
    c.into_batches-texts.ensures c.in_ok-push.ensures.items c.in_ok-push-2.ensures.items c.in_ok-push-3.ensures.items
