use Rattle.std.proofs.Common.{rules}
use Rattle.conn_core.proofs.Answering.{booked_in}
use Rattle.conn_core.proofs.block_outcome.answer_judged.Goals as goal

pub returns-in-Some-header-clause-kind : goal.returns-in-Some-header-clause-kind
returns-in-Some-header-clause-kind g c = search rules

pub returns-clause-kind : goal.returns-clause-kind
returns-clause-kind g c = search rules

pub returns-clause-booked : goal.returns-clause-booked
returns-clause-booked g c =
    let does = c.book_judged.ensures.does in
    booked_in (g.B.Booking.books c.args.book.now c.book_judged.new.book) c.book_judged.result.outcome does.booked does.unbooked

pub returns-clause-told : goal.returns-clause-told
returns-clause-told g c = search rules

pub returns-clause-replies : goal.returns-clause-replies
returns-clause-replies g c = search rules

pub returns-clause-few : goal.returns-clause-few
returns-clause-few g c = c.book_judged.ensures.few
