use Rattle.std.proofs.Common.{length, arith, refl, ap, sym, subst, ◌∙◌}
use Rattle.std.proofs.lemmas.List.{length_push}
use Rattle.pv_header.proofs.ReadLists.{BeginsList, BeginsList-none, BeginsList-more, IsUnended-past, IsUnended-cut}
use Rattle.pv_header.proofs.list_read.read_list.Goals as goal

pub loop-place-init : goal.loop-place-init
loop-place-init c = record {
  place = omega (arith, ap length c.new-list.ensures.items);
  bound = omega arith;
  begins = subst (BeginsList c.args.sector.now c.args.at) (sym c.new-list.ensures.items) (BeginsList-none c.args.sector.now c.args.at);
}

pub returns-then-place-gt512 : goal.returns-then-place-gt512
returns-then-place-gt512 c = (
  refl,
  IsUnended-cut c.args.sector.now c.args.at c.loop-place.place c.loop-place.list.items c.loop-place.invariant.begins
      c.loop-place.invariant.place c.if-place-gt512.true
      (λ e. c.if-offset-eq0.false (c.get_u64-offset.ensures ∙ e)),
)

pub loop-place-preserved : goal.loop-place-preserved
loop-place-preserved c =
    let more =
    BeginsList-more c.args.sector.now c.args.at c.loop-place.place c.get_u64-offset.result c.get_u64-size.result c.loop-place.list.items
    c.loop-place.invariant.begins c.loop-place.invariant.place c.get_u64-offset.ensures c.get_u64-size.ensures c.if-offset-eq0.false in
    record {
      place =
          omega (
            arith,
            ap length c.in_ok-push.ensures.items,
            length_push c.loop-place.list.items (record { offset = c.get_u64-offset.result; size = c.get_u64-size.result }),
          );
      bound = omega arith;
      begins = subst (BeginsList c.args.sector.now c.args.at) (sym c.in_ok-push.ensures.items) more;
    }

pub returns : goal.returns
returns c = (
  refl,
  IsUnended-past c.args.sector.now c.args.at c.loop-place.place c.loop-place.list.items c.loop-place.invariant.begins
      c.loop-place.invariant.place c.loop-place-test.false,
)
