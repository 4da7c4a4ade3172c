use Rattle.std.proofs.Common.{◌<◌, ◌+◌, ◌^◌, length, ap, ◌∙◌, arith}
use Rattle.group_edits.proofs.FreeNames.{free, free_here, free_past, names_length}
use Rattle.group_edits.specs.JoinedGroup.{names_in, pv_name}
use Rattle.group_edits.proofs.naming.free_name.Goals as goal

pub returns-then-is_free-clause-name : goal.returns-then-is_free-clause-name
returns-then-is_free-clause-name c =
    c.in_ok-name.ensures
    ∙ ap pv_name (free_here (names_in c.args.pvs.now c.args.lvs.now) c.loop-number.number c.in_ok-name.name c.is_free.result
    c.loop-number.invariant c.in_ok-name.ensures c.is_free.ensures c.if-is_free.true)

pub returns-then-is_free-clause-number : goal.returns-then-is_free-clause-number
returns-then-is_free-clause-number c =
    free_here (names_in c.args.pvs.now c.args.lvs.now) c.loop-number.number c.in_ok-name.name c.is_free.result c.loop-number.invariant
    c.in_ok-name.ensures c.is_free.ensures c.if-is_free.true

pub loop-number-preserved : goal.loop-number-preserved
loop-number-preserved c =
    let small : length (names_in c.args.pvs.now c.args.lvs.now) + 1 < 2 ^ 64 =
    omega (arith, c.requires.few, names_length c.args.pvs.now c.args.lvs.now) in
    free_past (names_in c.args.pvs.now c.args.lvs.now) c.loop-number.number c.in_ok-name.name c.is_free.result small c.loop-number.invariant
    c.in_ok-name.ensures c.is_free.ensures c.if-is_free.false

pub unreachable-requires : goal.unreachable-requires
unreachable-requires c =
    let many = names_length c.args.pvs.now c.args.lvs.now in
    let small : length (names_in c.args.pvs.now c.args.lvs.now) + 1 < 2 ^ 64 = omega (arith, c.requires.few, many) in
    omega (
      arith,
      c.loop-number-test.false,
      c.loop-number.invariant,
      (free (names_in c.args.pvs.now c.args.lvs.now) small).0,
      many,
      c.len.ensures.count,
      c.len-2.ensures.count,
    )
