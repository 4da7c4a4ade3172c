use Rattle.std.proofs.Common.{◌≡◌, inl, inr, Result, Ok, Err, ◌*◌}
use Rattle.pv_header.specs.declared.header.PvHeader.{PvHeader}
use Rattle.pv_header.specs.declared.refusal.PvRefusal.{PvRefusal}
use Rattle.pv_header.specs.declared.refusal.PvRefusal.TheVariants.{NoMemory}
use Rattle.pv_header.proofs.OneAnswer.{one_answer}
use Rattle.pv_header.proofs.header_read.read_pv.Goals as goal

same_refusal : (refusal : PvRefusal) → ◌≡◌ {A = Result PvHeader PvRefusal} (Err refusal) (Err NoMemory) → refusal ≡ NoMemory
same_refusal refusal e = cc

pub returns-clause-accepted : goal.returns-clause-accepted
returns-clause-accepted c = λ header reads.
    elim (one_answer c.args.sector.now (c.args.disk * 512) c.read_checked.result (Ok header) c.read_checked.ensures reads) [
      | inl same ↦ inl same
      | inr (inl e) ↦ inr e
      | inr (inr e) ↦ absurd cc
    ]

pub returns-clause-refused : goal.returns-clause-refused
returns-clause-refused c = λ refusal refuses.
    elim (one_answer c.args.sector.now (c.args.disk * 512) c.read_checked.result (Err refusal) c.read_checked.ensures refuses) [
      | inl same ↦ inl same
      | inr (inl e) ↦ inr (inl e)
      | inr (inr e) ↦ inr (inr (same_refusal refusal e))
    ]
