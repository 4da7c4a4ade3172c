use Rattle.std.proofs.Common.{◌∙◌, ◌==◌, ℕ, Option, ap, length, unwrap_or}
use Rattle.session_run.proofs.Cuts.{position_or_all}
use Rattle.session_run.proofs.script.place_of.Goals as goal

pub returns : goal.returns
returns c =
    let bytes = c.args.bytes.now in
    c.unwrap_or.ensures ∙ ap (λ (o : Option ℕ). unwrap_or o (length bytes)) c.first_of.ensures
    ∙ position_or_all (λ (byte : ℕ). byte == c.args.wanted) bytes
