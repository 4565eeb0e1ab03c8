use Rattle.std.proofs.Common.{rules}
use Rattle.book_lock.specs.inner.Log.{desk_seat}
use Rattle.book_lock.proofs.HandedIn.{in_log_none}
use Rattle.book_lock.proofs.desks.+compare_desks.Goals as goal

pub returns-in_default-clause-held : goal.returns-in_default-clause-held
returns-in_default-clause-held g t c =
    in_log_none desk_seat c.pop.new.self.items c.args.desks.now.items _ c.args.roll.now.0 c.args.roll.now.2
    c.in_default.ensures.items c.pop.ensures.rest (search rules) c.compare.ensures.agreed c.compare.ensures.apart
