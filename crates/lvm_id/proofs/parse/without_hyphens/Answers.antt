use Rattle.lvm_id.proofs.Groups.{hyphen_form-joined, IsId-joined}
use Rattle.lvm_id.proofs.parse.without_hyphens.Goals as goal

pub returns-clause-printed : goal.returns-clause-printed
returns-clause-printed c =
    rw (c.put-7.ensures, c.put-6.ensures, c.put-5.ensures, c.put-4.ensures, c.put-3.ensures, c.put-2.ensures, c.put.ensures)
    (hyphen_form-joined c.args.text.now c.requires.long c.requires.fits)

pub returns-clause-valid : goal.returns-clause-valid
returns-clause-valid c =
    rw (c.put-7.ensures, c.put-6.ensures, c.put-5.ensures, c.put-4.ensures, c.put-3.ensures, c.put-2.ensures, c.put.ensures)
    (IsId-joined c.args.text.now c.requires.long c.requires.fits)
