use Rattle.std.proofs.Common.{subst}
use Rattle.book_lock.specs.Rises.{SharedBook}
use Rattle.book_lock.specs.Log.{IsLogged}
use Rattle.book_lock.proofs.MakingRoom.{seen_back, seen_results}
use Rattle.book_lock.proofs.shared.Shared.arrive_tidy_judged.Goals as goal

pub returns-clause-arrives : goal.returns-clause-arrives
returns-clause-arrives g c =
    seen_results g.A.Sharing.opening c.args.keep c.args.conn c.args.judged.now _ _ c.args.desk.now c.arrive_tidy_judged-tidied.new.desk c.arrive_tidy_judged-tidied.result c.arrive_tidy_judged-tidied.ensures.arrives

pub returns-clause-crowded : goal.returns-clause-crowded
returns-clause-crowded g c =
    seen_back g.A.Sharing.opening c.args.keep c.args.judged.now _ _ c.arrive_tidy_judged-tidied.result c.arrive_tidy_judged-tidied.ensures.crowded
    (subst (λ (x : SharedBook). IsLogged g.A.Sharing.opening x.book) c.deref.ensures c.book_is_logged.ensures)
