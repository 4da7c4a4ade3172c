use Rattle.std.proofs.Common.{arith}
use Rattle.table_lock.proofs.Keeps.{splits}
use Rattle.table_lock.proofs.lock.TableLock.split.Goals as goal

pub split_seat-requires : goal.split_seat-requires
split_seat-requires g c = let seat = c.args.seat.now.seat in (
  c.requires.of.table,
  omega (arith, c.args.self.now.sized.0),
  splits g.T.Grows.origin g.T.Grows.story seat.id seat.me.0 c.requires.two c.requires.idle,
)
