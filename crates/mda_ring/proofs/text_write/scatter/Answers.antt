use Rattle.std.proofs.Common.{◌≡◌, List, ℕ, ap, arith, subst, sym, ◌∙◌}
use Rattle.mda_ring.specs.Texts.{AreRead, text_sectors}
use Rattle.mda_ring.proofs.TextBytes.{scattered_more, text_at-text_sectors}
use Rattle.mda_ring.proofs.text_write.scatter.Goals as goal

pub loop-k-preserved : goal.loop-k-preserved
loop-k-preserved c =
    rw (c.in_ok-push.ensures.items, c.sector_of.ensures, c.loop-k.invariant) (sym (scattered_more c.as_bytes-bytes.result.now c.loop-k.k))

pub returns-clause-stands : goal.returns-clause-stands
returns-clause-stands c = λ area sector_at good ring sectors read.
    let all : c.loop-k.k ≡ c.args.place.sectors = omega arith in
    let put : c.from_vec.result ≡ text_sectors c.args.text.now c.args.place.sectors =
    c.from_vec.ensures ∙ c.loop-k.invariant ∙ ap (λ (n : ℕ). text_sectors c.as_bytes-bytes.result.now n) all
    ∙ ap (λ (l : List ℕ). text_sectors l c.args.place.sectors) c.as_bytes-bytes.ensures
    in
    text_at-text_sectors sector_at area.size c.args.place.offset c.args.place.sectors c.args.text.now good.size_is_whole good.has_ring
    ring.behind_header ring.before_end ring.is_whole ring.fits sectors
    (subst (λ (l : List (List ℕ)). AreRead sector_at area.size c.args.place.offset l) put read)
