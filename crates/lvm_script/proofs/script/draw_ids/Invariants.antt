use Rattle.std.proofs.Common.{◌≡◌, drop, map, take}
use Rattle.lvm_script.specs.Script.{AreLines, numbered}
use Rattle.lvm_script.proofs.script.draw_ids.Given as goal

-- the lines up to here have drawn, the others are as they were
abbrev pub invariant-loop-line : goal.invariant-loop-line
invariant-loop-line g l = record {
  drawn : AreLines (g.N.Words64.upcoming l.initial.ids) (map numbered (take l.line-index l.fn.lines)) (take l.line-index l.lines)
      (g.N.Words64.upcoming l.ids);
  rest : drop l.line-index l.lines ≡ drop l.line-index l.fn.lines;
}
