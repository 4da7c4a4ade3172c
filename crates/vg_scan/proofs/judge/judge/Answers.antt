-- The text of the bytes is judged.
use Rattle.std.proofs.lemmas.Result.{MatchResult-weaker}
use Rattle.vg_scan.proofs.Judging.{bytes_refused, stored_copy}
use Rattle.vg_scan.proofs.judge.judge.Goals as goal

pub returns-in-Ok : goal.returns-in-Ok
returns-in-Ok c =
    let bytes = c.args.bytes.items in
    let text = c.in-Ok.text in
    MatchResult-weaker c.judge_text.result c.judge_text.ensures
    (λ judged is. MatchResult-weaker judged is (λ copy it. stored_copy c.args.locn bytes text copy c.in-Ok.ensures.text it)
    (λ refusal it. bytes_refused c.args.locn bytes text refusal c.in-Ok.ensures.text it))
    (λ refusal is. is)
