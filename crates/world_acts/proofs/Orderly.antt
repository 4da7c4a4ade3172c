-- Each act keeps what holds in every state, and so do all that follow one another.
use Rattle.std.proofs.Common.{Bool, sym, subst}
use Rattle.world_acts.specs.Acts.{Act, Allowed, Answers, Asks, AsksFlush, Awaits, Begins, Does, Ends, EndsFlush, Enters, Fails, Grows}
use Rattle.world_acts.specs.Acts.{Holds, LineFails, Marks, Passes, Reaches, Readies, Reads, Releases, Starts, Wakes, World, Writes, after}
use Rattle.world_acts.specs.Orderly.{IsOrderly}
use Rattle.world_acts.proofs.Answered.{after_answered, after_hold, after_pass}
use Rattle.world_acts.proofs.Awaiting.{after_await}
use Rattle.world_acts.proofs.Begun.{after_begin}
use Rattle.world_acts.proofs.Ending.{after_end}
use Rattle.world_acts.proofs.Entering.{after_enter}
use Rattle.world_acts.proofs.Flushing.{after_ask_flush, after_end_flush}
use Rattle.world_acts.proofs.Growing.{after_grow}
use Rattle.world_acts.proofs.Reaching.{reaches_keep}
use Rattle.world_acts.proofs.Releasing.{after_release}
use Rattle.world_acts.proofs.Settling.{after_fail, after_read}
use Rattle.world_acts.proofs.ShortActs.{after_line_failure, after_mark, after_ready, after_wake}
use Rattle.world_acts.proofs.Starting.{after_ask, after_start}
use Rattle.world_acts.proofs.Writing.{after_write}

pub orderly_after : (w : World) (a : Act) → IsOrderly w → Allowed w a → IsOrderly (after w a)
orderly_after w (Begins line opened) o may = after_begin w line opened o may
orderly_after w (Enters line piece sectors ticket entry) o may = after_enter w line piece sectors ticket entry o may
orderly_after w (Awaits line pv) o may = after_await w line pv o may
orderly_after w (LineFails line why) o may = after_line_failure w line why o may
orderly_after w (Answers line) o may = after_answered w line o may
orderly_after w (Holds line) o may = after_hold w line o may
orderly_after w (Passes line) o may = after_pass w line o may
orderly_after w Wakes o may = after_wake w o
orderly_after w (Starts number) o may = after_start w number o may
orderly_after w (Asks number op tag now) o may = after_ask w number op tag now o may
orderly_after w (Ends done now) o may = after_end w done now o may
orderly_after w (Marks pv) o may = after_mark w pv o
orderly_after w (Fails number why) o may = after_fail w number why o may
orderly_after w (Writes number pv) o may = after_write w number pv o may
orderly_after w (Reads number sectors) o may = after_read w number sectors o may
orderly_after w (AsksFlush pv tag now) o may = after_ask_flush w pv tag now o may
orderly_after w (EndsFlush done now) o may = after_end_flush w done now o may
orderly_after w (Releases pv) o may = after_release w pv o may
orderly_after w (Readies now) o may = after_ready w now o may
orderly_after w (Grows v) o may = after_grow w v o may

-- one act, and some
pub orderly_does : {a : Act} {w v : World} → Does a w v → IsOrderly w → IsOrderly v
orderly_does {a} {w} {v} does o = subst IsOrderly (sym does.becomes) (orderly_after w a o does.allowed)

pub orderly_reaches : {may : Act → Bool} {w v : World} → Reaches may w v → IsOrderly w → IsOrderly v
orderly_reaches {may} {w} {v} goes o = reaches_keep may IsOrderly (λ x a is allowed p. orderly_after x a p allowed) w v goes o
