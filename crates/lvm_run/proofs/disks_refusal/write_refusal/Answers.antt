use Rattle.std.proofs.Common.{ℕ, List, [], ◌∷◌, ap, ap₂, codes, is_ok, subst}
use Rattle.sector_base.specs.Shown.{Value, shown_text}
use Rattle.byte_streams.specs.Streams.{WritesText}
use Rattle.lvm_run.proofs.disks_refusal.write_refusal.Goals as goal

pub returns-in-DuplicatePv : goal.returns-in-DuplicatePv
returns-in-DuplicatePv g c =
    let named = ap₂ (λ (a b : Value). shown_text (codes "DuplicatePv", a ∷ b ∷ [])) c.name_of.ensures c.name_of-in-DuplicatePv.ensures in
    rw c.in-DuplicatePv.is
    (subst (λ (t : List ℕ). WritesText (g.W.Sink.written c.args.out.now) (g.W.Sink.fault_count c.args.out.now) t (is_ok c.write_kind.result)
    (g.W.Sink.written c.write_kind.new.out) (g.W.Sink.fault_count c.write_kind.new.out))
    named c.write_kind.ensures)

pub returns-in-Unsupported : goal.returns-in-Unsupported
returns-in-Unsupported g c =
    let named = ap (λ (a : Value). shown_text (codes "Unsupported", a ∷ [])) c.name_of-in-Unsupported.ensures in
    let written = c.write_kind-in-Unsupported in
    rw c.in-Unsupported.is
    (subst (λ (t : List ℕ). WritesText (g.W.Sink.written c.args.out.now) (g.W.Sink.fault_count c.args.out.now) t (is_ok written.result)
    (g.W.Sink.written written.new.out) (g.W.Sink.fault_count written.new.out))
    named written.ensures)
