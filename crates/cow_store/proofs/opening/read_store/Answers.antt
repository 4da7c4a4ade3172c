use Rattle.std.proofs.Common.{◌≡◌, ℕ, List, [], ◌∷◌, length, ap, ◌∙◌, arith}
use Rattle.std.proofs.lemmas.List.{length-replicate}
use Rattle.std.proofs.lemmas.Result.{MatchResult-weaker, err_from_is_err_and}
use Rattle.disk_model.specs.Since.{KeepsSectorsTold}
use Rattle.disk_model.proofs.KeptSectors.{keeps_told_both, keeps_told_unflushed}
use Rattle.cow_store.specs.Layout.{lengths_of, slots_in}
use Rattle.cow_store.proofs.ReadStore.{head_good, head_refused, table_good, table_refused}
use Rattle.cow_store.proofs.opening.read_store.Goals as goal

pub returns-in_err-check_head-clause-keeps : goal.returns-in_err-check_head-clause-keeps
returns-in_err-check_head-clause-keeps g c =
    let s0 = g.V.Vols.state c.args.vols.now in
    let s1 = g.V.Vols.state c.flush_both.new.vols in
    let s2 = g.V.Vols.state c.check_head.new.vols in
    let p = err_from_is_err_and c.from_residual-in_err-check_head.result c.from_residual-in_err-check_head.ensures.1 in
    rw p.1
    (keeps_told_unflushed (0 ∷ 1 ∷ []) s0.told s2.told
    (keeps_told_both (0 ∷ 1 ∷ []) [] s0.told s1.told s2.told c.in_ok-flush_both.ensures.told c.in_err-check_head.ensures.keeps))

pub returns-in_err-check_head-clause-opens : goal.returns-in_err-check_head-clause-opens
returns-in_err-check_head-clause-opens g c =
    let s0 = g.V.Vols.state c.args.vols.now in
    let s1 = g.V.Vols.state c.flush_both.new.vols in
    let s2 = g.V.Vols.state c.check_head.new.vols in
    let spends = c.in_ok-flush_both.ensures.spends in
    let p = err_from_is_err_and c.from_residual-in_err-check_head.result c.from_residual-in_err-check_head.ensures.1 in
    rw (p.1, p.2)
    (head_refused s0 c.requires.large s1 s2 c.in_err-check_head.field-0.0 c.in_ok-flush_both.ensures.told spends.faults spends.sizes
    c.in_err-check_head.ensures.head)

pub returns-clause-keeps : goal.returns-clause-keeps
returns-clause-keeps g c =
    let s0 = g.V.Vols.state c.args.vols.now in
    let s1 = g.V.Vols.state c.flush_both.new.vols in
    let s2 = g.V.Vols.state c.check_head.new.vols in
    let s3 = g.V.Vols.state c.read_table.new.vols in
    let all : KeepsSectorsTold s0.told (0 ∷ 1 ∷ []) s3.told =
    keeps_told_both (0 ∷ 1 ∷ []) [] s0.told s1.told s3.told c.in_ok-flush_both.ensures.told
    (keeps_told_both [] [] s1.told s2.told s3.told c.in_ok-check_head.ensures.keeps c.read_table.ensures.keeps) in
    MatchResult-weaker c.read_table.result c.read_table.ensures.entries (λ x h. all)
    (λ why h. keeps_told_unflushed (0 ∷ 1 ∷ []) s0.told s3.told all)

pub returns-clause-opens : goal.returns-clause-opens
returns-clause-opens g c =
    let s0 = g.V.Vols.state c.args.vols.now in
    let s1 = g.V.Vols.state c.flush_both.new.vols in
    let s2 = g.V.Vols.state c.check_head.new.vols in
    let s3 = g.V.Vols.state c.read_table.new.vols in
    let flushed = c.in_ok-flush_both.ensures in
    let head = c.in_ok-check_head.ensures in
    let before : KeepsSectorsTold s0.told (0 ∷ 1 ∷ []) s2.told =
    keeps_told_both (0 ∷ 1 ∷ []) [] s0.told s1.told s2.told flushed.told head.keeps in
    let sizes : s2.sizes ≡ s0.sizes = head.spends.sizes ∙ flushed.spends.sizes in
    let many : length c.args.table.now ≡ slots_in (lengths_of s0.sizes).store =
    ap (λ (l : List ℕ). length l) c.requires.empty ∙ length-replicate {A = ℕ} (slots_in (lengths_of s0.sizes).store) 0 in
    let good = head_good s0 c.requires.large s1 flushed.told flushed.spends.sizes head.head in
    MatchResult-weaker c.read_table.result c.read_table.ensures.entries
    (λ x table.
    table_good s0 c.requires.large s2 (length c.args.table.now) before sizes many good s1 s3 c.read_table.new.table flushed.flushes
    (keeps_told_both [] [] s1.told s2.told s3.told head.keeps c.read_table.ensures.keeps)
    (g.met.V.Vols.lawful c.args.vols.now).one_by_one (g.met.V.Vols.lawful c.read_table.new.vols).one_by_one table)
    (λ why ends.
    table_refused s0 c.requires.large s2 (length c.args.table.now) before sizes many good s3 why
    (λ v. omega (arith, flushed.spends.faults v, head.spends.faults v)) ends)
